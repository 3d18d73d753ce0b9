use Rattle.std.proofs.Common.{ℕ, List, not, map, ◌∙◌, ap}
use Rattle.setl_names.specs.Names.{has, with_name}
use Rattle.setl_names.proofs.NameLists.{items_of, has_key, with_key}
use Rattle.setl_names.proofs.names.Names.put.Goals as goal

pub returns-clause-new : goal.returns-clause-new
returns-clause-new c =
    let keys = c.self.inside.names.keys in
    c.in_ok-insert.ensures.added
    ∙ ap not (has_key c.in_ok-key.key.items keys
    ∙ ap (λ (n : List ℕ). has (map items_of keys) n) c.in_ok-key.ensures.items
    ∙ ap (λ (ns : List (List ℕ)). has ns c.args.name.now) c.self.view_is)

pub returns-clause-names : goal.returns-clause-names
returns-clause-names c =
    let keys = c.self.inside.names.keys in
    ap (map items_of) c.in_ok-insert.ensures.keys
    ∙ with_key keys c.in_ok-key.key
    ∙ ap (λ (n : List ℕ). with_name (map items_of keys) n) c.in_ok-key.ensures.items
    ∙ ap (λ (ns : List (List ℕ)). with_name ns c.args.name.now) c.self.view_is
