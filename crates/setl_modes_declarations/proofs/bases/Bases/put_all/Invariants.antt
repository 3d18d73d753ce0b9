use Rattle.std.proofs.Common.{◌≡◌, ◌++◌, drop}
use Rattle.setl_modes.specs.Modes.{mode_of}
use Rattle.setl_modes.specs.Declarations.{all_with}
use Rattle.setl_modes_declarations.specs.Declares.{named_modes}
use Rattle.setl_modes_declarations.specs.code.Elements.{Finds}
use Rattle.setl_modes_declarations.proofs.bases.Bases.put_all.Given as goal

abbrev pub invariant-loop-name : goal.invariant-loop-name
invariant-loop-name l = record {
  modes : named_modes l.self.modes ++ all_with (mode_of l.mode) (drop l.name-index l.names) ≡ named_modes l.initial.self.modes ++ all_with (mode_of l.mode) l.names;
  finds : Finds l.self.numbers (named_modes l.self.modes);
}
