use Rattle.std.proofs.Common.{ap, arith, ◌-◌}
use Rattle.setl_value.proofs.Fronts.{deep_of, remove_less}
use Rattle.setl_value.proofs.tuples.cut_behind.Goals as goal

pub returns-clause-shallow : goal.returns-clause-shallow
returns-clause-shallow c =
    let xs = c.args.list.now.items in
    omega (arith, c.trim_end.ensures.shallow, ap deep_of c.remove-last.ensures.items, remove_less (c.len-end.result - 1) xs)
