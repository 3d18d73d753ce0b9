use Rattle.std.proofs.Common.{arith, ◌-◌}
use Rattle.setl_value.specs.code.DatumOf.{datum, part}
use Rattle.setl_operators.proofs.Charges.{within_left}
use Rattle.setl_operators.proofs.folds.combined.Goals as goal

pub overflow_add-result : goal.overflow_add-result
overflow_add-result c =
    let few = within_left c.args.by (c.args.turns - c.args.before.charged) (datum c.in-Some.v) (datum c.in-Some-next.w.now) (part c.in_ok-both.both.value) c.in_ok-both.both.charged c.in_ok-both.ensures in
    omega (arith, few, c.requires, c.ranges.turns.fits)

pub returns-clause-within : goal.returns-clause-within
returns-clause-within c =
    let few = within_left c.args.by (c.args.turns - c.args.before.charged) (datum c.in-Some.v) (datum c.in-Some-next.w.now) (part c.in_ok-both.both.value) c.in_ok-both.both.charged c.in_ok-both.ensures in
    omega (arith, few, c.requires)
