use Rattle.std.proofs.Common.{◌≡◌, ◌∙◌, ◌<◌, ◌≤◌, ◌-◌, inl, inr, ℕ, List, subst, sym, arith}
use Rattle.std.proofs.lemmas.Bool.{cases_eq}
use Rattle.setl_live_reads.specs.Masks.{ClosedAt, Outside, room_left}
use Rattle.setl_live_reads.proofs.sweep.sweep.Goals as goal

pub window-preserved : goal.window-preserved
window-preserved c = record {
  place = (omega (arith, c.window.invariant.place), omega (arith, c.window.invariant.place));
  sizes = c.grow.ensures.sizes ∙ c.window.invariant.sizes;
  justified = λ before. c.grow.ensures.justified c.args.low c.args.high (omega (arith, c.window.invariant.place, c.window-test.true)) (omega (arith, c.window.invariant.place, c.window-test.true)) (c.window.invariant.justified before);
  outside = λ b far. c.grow.ensures.others b (λ here. outside_apart b far here) ∙ c.window.invariant.outside b far;
  room = subst (λ (m : List ℕ). room_left m ≤ room_left c.args.masks.now) (sym (c.grow.ensures.same c.if-grow.false)) c.window.invariant.room;
  less = λ changed. subst (λ (m : List ℕ). room_left m < room_left c.args.masks.now) (sym (c.grow.ensures.same c.if-grow.false)) (c.window.invariant.less changed);
  closed = λ unchanged b low small. elim (cases_eq b (c.window.block - 1)) [
    | inl here ↦ subst (λ (a : ℕ). ClosedAt c.args.lasts.now c.args.gens.now c.args.passes.now c.grow.new.masks a) (sym here) (c.grow.ensures.closed c.if-grow.false)
    | inr above ↦ (let more : c.window.block ≤ b = omega arith in subst (λ (m : List ℕ). ClosedAt c.args.lasts.now c.args.gens.now c.args.passes.now m b) (sym (c.grow.ensures.same c.if-grow.false)) (c.window.invariant.closed unchanged b more small))
  ];
}
  where
    outside_apart : (b : ℕ) → Outside c.args.low c.args.high b → b ≡ c.window.block - 1 → ⊥
    outside_apart b (inl less) here = omega (arith, c.window.invariant.place, c.window-test.true)
    outside_apart b (inr more) here = omega (arith, c.window.invariant.place, c.window-test.true)
