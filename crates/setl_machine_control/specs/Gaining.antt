-- What instructions make of the bases that a store tells.
use Rattle.std.specs.Prelude.{◌≡◌, List, Option, Some, None}
use Rattle.setl_value.specs.Datum.{Datum}
use Rattle.setl_modes.specs.Modes.{Mode}
use Rattle.setl_model.specs.Entered.{Base}
use Rattle.setl_store.specs.Gained.{with_part}
use Rattle.setl_machine_control.specs.declared.end.End.{End}
use Rattle.setl_machine_control.specs.declared.end.End.TheVariants as end

-- a variable of this mode, if it is declared, has this value, or `om`, now
abbrev pub gained_by : Option Mode → Option Datum → List Base → List Base
gained_by None v bs = bs
gained_by (Some m) v bs = with_part m v bs

-- the bases are these where the code goes on, and else as before
abbrev pub BasesAre : (to old new : List Base) → End → Type 0
BasesAre to old new end.Paused = new ≡ to
BasesAre to old new e = new ≡ old
