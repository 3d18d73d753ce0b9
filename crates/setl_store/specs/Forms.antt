-- What the calls on values in forms tell.
use Rattle.std.specs.Prelude.{◌≡◌, ℕ, Bool, true, false, [], ◌∷◌, drop, Option}
use Rattle.setl_value.specs.Datum.{Datum}
use Rattle.setl_value.specs.WellFormed.{PartIsWellFormed}
use Rattle.setl_operators_table.specs.declared.Operator.{Operator}
use Rattle.setl_operators_table.specs.Operators.{op_of}
use Rattle.setl_operators_table.specs.Outcome.{Outcome, Gives}
use Rattle.setl_model_runs.specs.Variable.{Variable}
use Rattle.setl_code.specs.CodeCore.{There, Result as Holds, held, write}
use Rattle.setl_modes.specs.Modes.{Mode}
use Rattle.setl_store.specs.Gained.{with_part}
use Rattle.setl_store.specs.Standing.{Standing, over}

-- a variable has what is given of the well-formed value that it held, without a charge, whatever turns are left, and the values at
-- its places of this mode are entered; or all is as before
abbrev pub UpdatesFreely : (gives : Option Datum → ℕ → Outcome) → Mode → Variable → Standing → Standing → Bool → Type 0
UpdatesFreely gives m x old new true =
    (before after : Option Datum) × (held x old.core ≡ There before) × PartIsWellFormed before × ((left : ℕ) → gives before left ≡ Gives after 0)
    × (new ≡ record old { core = write x (There after) old.core; bases = with_part m after old.bases })
UpdatesFreely gives m x old new false = new ≡ old

-- what an operator gives of the two results on top stands in their place, without a charge, whatever turns are left; or all is as
-- before
abbrev pub SelectsFreely : Operator → Standing → Standing → Bool → Type 0
SelectsFreely o old new true =
    (a b v : Option Datum) × (old.core.now.operands ≡ Holds b ∷ Holds a ∷ drop 2 old.core.now.operands) × ((left : ℕ) → op_of o (a ∷ b ∷ []) left ≡ Gives v 0)
    × (new ≡ record old { core = over (Holds v ∷ drop 2 old.core.now.operands) old.core })
SelectsFreely o old new false = new ≡ old
