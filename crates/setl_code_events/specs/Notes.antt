-- What watchers are told of calls, returns and stores, by the code as it is kept.
use Rattle.std.specs.Prelude.{ℕ, zero, suc, List, [], ◌∷◌, map, slice_get, Option, Some, None}
use Rattle.setl_value.specs.Datum.{Datum}
use Rattle.setl_tree.specs.declared.tree.Param.{Param}
use Rattle.setl_model_runs.specs.Variable.{Variable, Global, Own, Bound}
use Rattle.setl_code.specs.declared.code.OwnName.{OwnName}
use Rattle.setl_code.specs.declared.code.OwnName.TheVariants as name
use Rattle.setl_code.specs.declared.code.Slot.{Slot}
use Rattle.setl_code.specs.declared.code.Slot.TheVariants as slot
use Rattle.setl_code.specs.Code.{Body, Code}
use Rattle.setl_code.specs.CodeCore.{variables_of}
use Rattle.setl_code.specs.Plain.{variable_at}
use Rattle.setl_watch.specs.Notices.{Notice, Stored as StoreNotice, noticed}
use Rattle.setl_code_events.specs.Told.{called}

-- the name by which stores of a variable are told; those of a former's own name are not
abbrev pub told_name : Variable → Option (List ℕ)
told_name (Global name) = Some name
told_name (Own body name) = Some name
told_name (Bound former name) = None

-- the variables of a body
abbrev pub own_slots : ℕ → Option Body → List Variable
own_slots n None = []
own_slots n (Some b) = variables_of n b

-- the variable of a slot of the body of this number
abbrev pub variable_of : Code → ℕ → Slot → Variable
variable_of c n (slot.Global k) = variable_at c.vars k
variable_of c n (slot.Own k) = variable_at (own_slots n (slice_get c.bodies n)) k

-- of an own name that is no parameter
abbrev pub own_told : Option OwnName → Option (List ℕ)
own_told None = None
own_told (Some (name.Body x)) = Some x
own_told (Some (name.Former former x)) = None

-- of a slot of a body: its parameters, and behind them its names
abbrev pub slot_told : List Param → List OwnName → ℕ → Option (List ℕ)
slot_told [] names k = own_told (slice_get names k)
slot_told (p ∷ ps) names zero = Some p.name
slot_told (p ∷ ps) names (suc k) = slot_told ps names k

-- what is told of a store
abbrev pub store_notices : ℕ → Option (List ℕ) → Option Datum → List Notice
store_notices line None v = []
store_notices line (Some name) v = StoreNotice line name v ∷ []

-- what is told of a call with these values
abbrev pub call_notices : ℕ → Option Body → ℕ → List (Option Datum) → List Notice
call_notices n None line vs = []
call_notices n (Some b) line vs = map noticed (called n b line vs)
