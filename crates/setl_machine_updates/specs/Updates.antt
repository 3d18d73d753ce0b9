-- What an update in place tells of its outcome.
use Rattle.std.specs.Prelude.{◌≡◌, ℕ, ◌-◌, Result, Ok, Err, Option}
use Rattle.setl_value.specs.Datum.{Datum}
use Rattle.setl_operators_table.specs.declared.OpFault.{OpFault}
use Rattle.setl_operators_table.specs.code.Answers.{Tells}
use Rattle.setl_operators_table.specs.Outcome.{Outcome, Gives, Fails, Overspends}

-- the outcome gives this value, and this many of the turns are left
abbrev pub Leaves : Outcome → ℕ → Option Datum → ℕ → Type 0
Leaves (Gives v charged) turns new left = (v ≡ new) × (left ≡ turns - charged)
Leaves (Fails f) turns new left = ⊥
Leaves Overspends turns new left = ⊥

-- `new` is what the outcome gives, and the turns that are left are told; or the outcome's fault is told, and want of
-- memory tells nothing
abbrev pub Updates : Outcome → ℕ → Option Datum → Result ℕ OpFault → Type 0
Updates o turns new (Ok left) = Leaves o turns new left
Updates o turns new (Err e) = Tells (Err e) o
