-- What updates of a variable in place did.
use Rattle.std.specs.Prelude.{◌≡◌, ℕ, Bool, true, false, cond, List, Option, Some, None}
use Rattle.setl_value.specs.Datum.{Datum}
use Rattle.setl_value.specs.code.DatumOf.{part}
use Rattle.setl_value.specs.declared.Value.{Value}
use Rattle.setl_model_runs.specs.Run.{settle}
use Rattle.setl_model_runs.specs.Variable.{Variable}
use Rattle.setl_model.specs.Core.{Selected}
use Rattle.setl_model.specs.Places.{part_at_all}
use Rattle.setl_code.specs.Code.{Alteration, Putting, Combining, TakingOut}
use Rattle.setl_code.specs.Plain.{plain_code}
use Rattle.setl_code.specs.CodeCore.{There, Gone, Operand, held, write}
use Rattle.setl_code.specs.Machine.{machine, on_held, alter}
use Rattle.setl_code_events.specs.Told.{none_taken}
use Rattle.setl_store.specs.Standing.{Standing, over}
use Rattle.setl_machine_control.specs.Control.{ControlState, stood_for}
use Rattle.setl_machine_control.specs.Declaring.{Modes, tested}
use Rattle.setl_machine_control.specs.Answers.{start, Quiet}
use Rattle.setl_machine_control.specs.declared.end.End.{End}

-- the rest of an `Alter` whose selectors were popped, where these declarations count: whatever the operands were before,
-- and whatever is still to come from the input
abbrev pub Alters : Modes → Standing → ControlState → ℕ → Alteration → Variable → List Selected → Standing → ControlState → End → Type 0
Alters modes old from line what x at new to e =
    (new.code ≡ old.code)
    × ((before : List Operand) (rest : List ℕ) →
    let k = stood_for (over before old.core) from rest in
    Quiet modes (settle (machine (plain_code old.code)) (tested modes) (start k) (on_held (held x k) (λ whole. alter what line x whole at old.core.now.operands k))) (stood_for new.core to rest) e)

-- whether an update stores a new whole: not where it takes something out of an empty part
abbrev pub stores_new : Alteration → (whole : Option Datum) → List Selected → (turns : ℕ) → Bool
stores_new Putting whole at turns = true
stores_new (Combining o) whole at turns = true
stores_new (TakingOut t) whole at turns = cond (none_taken t (part_at_all at whole turns)) false true

-- what the variable holds was taken out of its slot, and stored again it leaves all as before; or it was taken before
abbrev pub TakesHeld : Variable → Standing → Option (Option Value) → Standing → Type 0
TakesHeld x old None new = (held x old.core ≡ Gone) × (new ≡ old)
TakesHeld x old (Some v) new =
    (held x old.core ≡ There (part v)) × (write x (There (part v)) old.core ≡ old.core) × (new ≡ record old { core = write x Gone old.core })
