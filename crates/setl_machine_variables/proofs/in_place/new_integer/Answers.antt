use Rattle.std.proofs.Common.{◌∙◌, ap, refl, Some, arith}
use Rattle.setl_value.specs.code.DatumOf.{datum}
use Rattle.setl_modes.specs.Fits.{is_taken}
use Rattle.setl_code.specs.Plain.{plain_slot, plain_alteration}
use Rattle.setl_store.specs.Standing.{variables}
use Rattle.setl_machine_control.specs.Declaring.{modes_of}
use Rattle.setl_machine_variables.proofs.Freely.{altering}
use Rattle.setl_machine_variables.proofs.Parts.{mode_is}
use Rattle.setl_machine_variables.proofs.in_place.new_integer.Goals as goal

pub returns-then-not-enters-clause-freely : goal.returns-then-not-enters-clause-freely
returns-then-not-enters-clause-freely c =
    let k = c.args.store.now.core in
    let modes = modes_of c.args.declarations.now in
    let x = plain_slot (variables k) c.args.slot in
    let new = datum c.in-Some-freely.new in
    let takes = c.if-surely_takes.ensures refl in
    altering modes (plain_alteration c.args.what) x c.args.brackets.now k c.in-Combine.by c.in-Value.whole c.in-Some.value new
    (ap (λ m. is_taken m (Some new)) (mode_is modes x c.of_slot-declared.result c.of_slot-declared.ensures) ∙ takes) (omega (arith, c.if-count-gt0.false)) (ap plain_alteration c.in-Combine.is) c.in-Value.ensures c.in-Some.ensures c.in-Some-freely.ensures
