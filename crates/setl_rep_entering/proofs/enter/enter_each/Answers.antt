use Rattle.std.proofs.Common.{◌≡◌, ◌∷◌, sym, subst}
use Rattle.setl_rep_entering.proofs.Undoing.{IsEntering, enters}
use Rattle.setl_rep_entering.proofs.enter.enter_each.Goals as goal

pub loop-p-preserved : goal.loop-p-preserved
loop-p-preserved c =
    let rest = c.next.new.self.rest.items in
    let all = c.args.places.items in
    let next : c.loop-p.p-iterator.rest.items ≡ c.in-Some.p ∷ rest = c.in-Some.ensures.steps.0 in
    subst (λ now. IsEntering c.args.bases.now now rest all) (sym c.in_ok-enter.ensures.entered)
    (enters c.instances_are_read.ensures.put c.instances_are_read.ensures.names c.args.bases.now c.loop-p.bases c.in-Some.p rest all (subst (λ l. IsEntering c.args.bases.now c.loop-p.bases l all) next c.loop-p.invariant))
