-- What stands in the place of operands.
use Rattle.std.specs.Prelude.{◌≡◌, suc, List, ◌∷◌, drop, Option}
use Rattle.setl_value.specs.Datum.{Datum}
use Rattle.setl_code.specs.CodeCore.{Operand, Result as Holds}
use Rattle.setl_store.specs.Standing.{Standing, over, at_place}
use Rattle.setl_machine_control.specs.declared.end.End.{End}
use Rattle.setl_machine_control.specs.declared.end.End.TheVariants as end

-- two results that are no collections are on top
abbrev pub AreTwo : List Operand → Type 0
AreTwo (Holds v ∷ Holds u ∷ xs) = Unit {0}
AreTwo xs = ⊥

-- this stands in the place of the two on top, and the code is at the next step
abbrev pub PutsForTwo : Standing → Option Datum → Standing → End → Type 0
PutsForTwo old v new e = (e ≡ end.Paused) × (new ≡ record old { core = at_place (suc old.core.now.at) (over (Holds v ∷ drop 2 old.core.now.operands) old.core) })

-- the same in the place of the one on top
abbrev pub PutsForOne : Standing → Option Datum → Standing → End → Type 0
PutsForOne old v new e = (e ≡ end.Paused) × (new ≡ record old { core = at_place (suc old.core.now.at) (over (Holds v ∷ drop 1 old.core.now.operands) old.core) })
