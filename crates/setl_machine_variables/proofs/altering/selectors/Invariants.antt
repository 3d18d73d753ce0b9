use Rattle.std.proofs.Common.{◌≡◌, ◌++◌, map}
use Rattle.setl_value.specs.code.DatumOf.{part}
use Rattle.setl_code.specs.Machine.{selected_by}
use Rattle.setl_code.specs.Plain.{plain_bracket}
use Rattle.setl_machine_updates.specs.Selectors.{selected}
use Rattle.setl_machine_variables.proofs.altering.selectors.Given as goal

abbrev pub invariant-loop-bracket : goal.invariant-loop-bracket
invariant-loop-bracket l =
    selected_by (map plain_bracket l.fn.brackets) (map part l.fn.values.items) ≡ map selected l.at.items ++ selected_by (map plain_bracket l.bracket-iterator.a.rest.now) (map part l.bracket-iterator.b.rest.items)
