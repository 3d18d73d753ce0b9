use Rattle.std.proofs.Common.{ℕ, List, ◌∙◌, ap}
use Rattle.setl_names.specs.Names.{has}
use Rattle.setl_names.proofs.NameLists.{has_key}
use Rattle.setl_names.proofs.names.Names.has.Goals as goal

pub returns : goal.returns
returns c = c.contains.ensures ∙ has_key c.args.name.now c.self.inside.names.keys ∙ ap (λ (ns : List (List ℕ)). has ns c.args.name.now) c.self.view_is
