use Rattle.std.proofs.Common.{◌≡◌, ◌∙◌, sym, ap, ◌++◌, take, drop, append_assoc}
use Rattle.std.proofs.lemmas.List.{map-id}
use Rattle.std.proofs.lemmas.Iterator.{items_from_drains}
use Rattle.std.proofs.lemmas.Iterator.Adapters.{YieldsList-from_vec}
use Rattle.setl_value_pages.proofs.shared.replace_between.Goals as goal

pub returns-clause-replaced : goal.returns-clause-replaced
returns-clause-replaced g c =
    let k = c.in_ok-_gone.ensures.items in
    let e : k.1 ≡ c.args.by.items = sym (map-id k.1) ∙ items_from_drains k.1 (k.3.1.0, k.3.1.1, λ _. (k.3.0, k.3.1.2)) (YieldsList-from_vec {s = k.0} c.args.by.items k.2.0 (k.2.1 ∙ c.args.by.ok.0)) in
    let old = c.args.list.now.items in
    k.4 ∙ ap (λ l. take c.args.from old ++ (l ++ drop c.args.to old)) e ∙ sym (append_assoc (take c.args.from old) c.args.by.items (drop c.args.to old))
