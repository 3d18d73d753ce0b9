use Rattle.std.proofs.Common.{◌≡◌, ap, sym, ◌∙◌, drop, arith, is_eq, true, false}
use Rattle.std.specs.List.{prefix_len}
use Rattle.setl_value.specs.code.Body.{Members}
use Rattle.setl_value.specs.code.DatumOf.{datum}
use Rattle.setl_value.specs.Order.{datum_cmp}
use Rattle.setl_map.specs.code.Points.{is_at}
use Rattle.setl_store_iterator.proofs.PointSteps.{run_more, run_ends}
use Rattle.setl_store_iterator.proofs.points.end_of.Goals as goal

pub returns-then-not-is_eq-clause-end : goal.returns-then-not-is_eq-clause-end
returns-then-not-is_eq-clause-end c =
    let x = datum c.args.x.now in
    let a = datum c.parts.result.0.now in
    let no : is_eq (datum_cmp x a) ≡ false = ap is_eq (sym c.compare.ensures) ∙ sym c.is_eq.ensures ∙ c.if-not-is_eq.true in
    omega (arith, run_ends (Members c.args.f.now) c.loop-end.end.index x a (datum c.parts.result.1.now) c.parts.ensures no, c.loop-end.invariant.0)

pub loop-end-preserved : goal.loop-end-preserved
loop-end-preserved c =
    let x = datum c.args.x.now in
    let a = datum c.parts.result.0.now in
    let yes : is_eq (datum_cmp x a) ≡ true = ap is_eq (sym c.compare.ensures) ∙ sym c.is_eq.ensures ∙ c.if-not-is_eq.false in
    let next = c.after-end.ensures.index in
    (omega (arith, run_more (Members c.args.f.now) c.loop-end.end.index x a (datum c.parts.result.1.now) c.parts.ensures yes, c.loop-end.invariant.0, next, ap (λ i. prefix_len (is_at x) (drop i (Members c.args.f.now))) next), c.after-end.ensures.stands)
