-- What a return hands back, by slots. No public clause cites this module.
use Rattle.std.specs.Prelude.{ℕ, List, [], ◌∷◌, drop, length, Option, Some, None, slice_get}
use Rattle.setl_value.specs.Datum.{Datum}
use Rattle.setl_value.specs.declared.Value.{Value}
use Rattle.setl_tree.specs.declared.tree.Param.{Param}
use Rattle.setl_code.specs.declared.code.Body.{Body}
use Rattle.setl_code.specs.CodeCore as core
use Rattle.setl_code.specs.CodeCore.{Held}
use Rattle.setl_code.specs.Machine.{hand}
use Rattle.setl_store.specs.declared.cells.Frame.{Frame}
use Rattle.setl_store_slots.specs.declared.cells.Held.{Held as Slot}
use Rattle.setl_store_slots.specs.declared.cells.Held.TheVariants as slot

-- what a slot holds that holds this value
abbrev pub held_by : Option Value → Slot
held_by None = slot.Om
held_by (Some v) = slot.Value v

-- these values pushed, the last one on top
abbrev pub pushed_on : List (Option Datum) → List core.Operand → List core.Operand
pushed_on [] xs = xs
pushed_on (v ∷ vs) xs = pushed_on vs (core.Result v ∷ xs)

-- what the `wr` and `rw` parameters hold in these slots, the first on top of these operands
abbrev pub handed : List Param → List Held → List core.Operand → Option (List core.Operand)
handed [] hs xs = Some xs
handed (p ∷ ps) [] xs = None
handed (p ∷ ps) (h ∷ hs) xs = hand p.passing h (handed ps hs xs)

abbrev pub handed_by : Option Body → List Held → List core.Operand → Option (List core.Operand)
handed_by None hs xs = None
handed_by (Some b) hs xs = handed b.parameters hs xs

-- the same of the innermost activation of these; the outermost one hands nothing back
abbrev pub handed_in : List Body → List Frame → List Held → List core.Operand → Option (List core.Operand)
handed_in bs [] hs xs = None
handed_in bs (f ∷ []) hs xs = None
handed_in bs (f ∷ g ∷ fs) hs xs = handed_by (slice_get bs f.body) (drop f.slots hs) xs

-- how many parameters and how many names a body has that may not exist
abbrev pub parameter_count_of : Option Body → ℕ
parameter_count_of None = 0
parameter_count_of (Some b) = length b.parameters

abbrev pub name_count_of : Option Body → ℕ
name_count_of None = 0
name_count_of (Some b) = length b.names
