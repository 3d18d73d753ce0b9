use Rattle.std.proofs.Common.{ap, sym, ◌∙◌, ◌∷◌, ◌-◌, suc, rules, FitsSigned}
use Rattle.std.specs.Int.{w128, int_wrapping_add}
use Rattle.std.proofs.lemmas.Int.{to_z-of_z, wrapping_add_is}
use Rattle.setl_value.specs.Datum.{int}
use Rattle.setl_store_iterator.specs.Integers.{counted}
use Rattle.setl_store_iterator.proofs.IntegerSteps.{following_are}
use Rattle.setl_store_iterator.proofs.integers.following.Goals as goal

pub returns : goal.returns
returns c =
    let z = c.args.now.next in
    let s = c.args.now.step in
    let n = c.args.now.more in
    let f : FitsSigned w128 z = search rules in
    let g : FitsSigned w128 s = search rules in
    let next = int_wrapping_add w128 z s in
    ap (λ l. int z ∷ l) (following_are z s next n c.if-now-eq0.false (wrapping_add_is w128 z s f g) ∙ ap (λ t. counted next t (suc (n - 1))) (sym (to_z-of_z w128 s g)))
