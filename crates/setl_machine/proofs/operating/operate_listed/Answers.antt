use Rattle.std.proofs.Common.{◌≡◌, [], map, length, subst, arith}
use Rattle.std.proofs.lemmas.List.{length-map}
use Rattle.setl_value.specs.code.DatumOf.{part}
use Rattle.setl_operators_table.specs.Operators.{TakesOperands}
use Rattle.setl_code.specs.CodeCore.{popped, Pops}
use Rattle.setl_machine.proofs.Entering.{popped_count}
use Rattle.setl_machine.proofs.operating.operate_listed.Goals as goal

pub op-requires : goal.op-requires
op-requires c =
    let values = c.in-Some.values.items in
    let off : popped c.args.count [] c.args.store.now.core.now.operands ≡ Pops (map part values) c.pop_values.new.self.core.now.operands = rw c.in-Some.is at c.in_ok-values.ensures.values in
    let many : c.args.count ≡ length values = omega (arith, length-map values part, popped_count c.args.count [] (map part values) c.args.store.now.core.now.operands c.pop_values.new.self.core.now.operands off) in
    subst (TakesOperands c.args.what) many c.requires.fits
