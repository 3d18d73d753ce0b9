use Rattle.std.proofs.Common.{◌≡◌, ◌++◌, drop}
use Rattle.setl_modes.specs.Modes.{mode_of}
use Rattle.setl_modes.specs.Declarations.{all_with}
use Rattle.setl_modes_declarations.specs.Declares.{named_modes}
use Rattle.setl_modes_declarations.proofs.copies.put_modes.Given as goal

abbrev pub invariant-loop-name : goal.invariant-loop-name
invariant-loop-name l = named_modes l.all ++ all_with (mode_of l.mode) (drop l.name-index l.names) ≡ named_modes l.initial.all ++ all_with (mode_of l.mode) l.names
