-- What a step tells: its events, by its instruction and the cores before and after it.
use Rattle.std.specs.Prelude.{◌≡◌, ℕ, Bool, true, false, List, [], ◌∷◌, ◌++◌, map, cond, length, slice_get, Option, Some, None}
use Rattle.setl_value.specs.Datum.{Datum}
use Rattle.setl_operators_table.specs.Outcome.{Outcome, Gives, Fails, Overspends}
use Rattle.setl_text.specs.Texts.{print_line}
use Rattle.setl_model_runs.specs.Variable.{Variable, Global, Own, Bound}
use Rattle.setl_model_runs.specs.Events.{Event, End, Called, Returned, Stored, Printed, Kept, Back, Forgot}
use Rattle.setl_model_runs.specs.Run.{Store, State, Goes, Ends, Test, settle}
use Rattle.setl_program.specs.declared.kinds.Taking.{Taking}
use Rattle.setl_model.specs.Core.{Selected}
use Rattle.setl_model.specs.Calls.{bindings}
use Rattle.setl_model.specs.Places.{Taken, TakesOut, IsEmpty, CannotTake, part_at_all, take_out}
use Rattle.setl_code.specs.Code.{Alteration, Putting, Combining, TakingOut, Body, Code, Instr, StoreIn, Alter, CallBody, ReturnTop, KeepAll, GoBack, ForgetKept, PrintTop}
use Rattle.setl_code.specs.CodeCore.{Held, There, Gone, held, Popped, Pops, Lacks, popped, CodeCore}
use Rattle.setl_code.specs.Machine.{machine, do_instr, selected_by}

-- the value of a slot that isn't taken
abbrev pub value_held : Held → Option Datum
value_held (There v) = v
value_held Gone = None

-- the event of a store, by what the variable holds after it; a former's own name tells none
abbrev pub store_told : ℕ → Variable → CodeCore → List Event
store_told line (Global name) k = Stored line (Global name) (value_held (held (Global name) k)) ∷ []
store_told line (Own body name) k = Stored line (Own body name) (value_held (held (Own body name) k)) ∷ []
store_told line (Bound former name) k = []

-- the events of some stores at a line
abbrev pub stores_told : ℕ → List Store → List Event
stores_told line xs = map (λ x. Stored line x.0 x.1) xs

-- the values that were popped
abbrev pub popped_values : Popped → List (Option Datum)
popped_values (Pops vs xs) = vs
popped_values Lacks = []

-- whether nothing is taken out, since there is nothing
abbrev pub takes_none : Taken → Bool
takes_none (TakesOut small v) = false
takes_none IsEmpty = true
takes_none (CannotTake fault) = false

abbrev pub none_taken : Taking → Outcome → Bool
none_taken t (Gives part charged) = takes_none (take_out t part)
none_taken t (Fails fault) = false
none_taken t Overspends = false

-- an update stores a new whole, unless it takes something out of an empty part
abbrev pub alter_told : Alteration → ℕ → Variable → (whole : Option Datum) → List Selected → (before after : CodeCore) → List Event
alter_told Putting line x whole at k d = store_told line x d
alter_told (Combining o) line x whole at k d = store_told line x d
alter_told (TakingOut t) line x whole at k d = cond (none_taken t (part_at_all at whole k.world.left)) [] (store_told line x d)

-- a call, and then the stores of its parameters
abbrev pub called : ℕ → Body → ℕ → List (Option Datum) → List Event
called n b line vs = Called line b.name ∷ stores_told line (bindings n b.parameters vs)

abbrev pub call_told : ℕ → Option Body → ℕ → CodeCore → List Event
call_told n None line k = []
call_told n (Some b) line k = called n b line (popped_values (popped (length b.parameters) [] k.now.operands))

abbrev pub return_told : Option Body → List Event
return_told None = []
return_told (Some b) = Returned b.name ∷ []

-- the events of an instruction of a line, by the cores before and after it
abbrev pub events_of : Code → ℕ → Instr → (before after : CodeCore) → List Event
events_of c line (StoreIn x) k d = store_told line x d
events_of c line (Alter a x bs) k d = alter_told a line x (value_held (held x k)) (selected_by bs (popped_values (popped (length bs) [] k.now.operands))) k d
events_of c line (CallBody n) k d = call_told n (slice_get c.bodies n) line k
events_of c line ReturnTop k d = return_told (slice_get c.bodies k.now.body)
events_of c line KeepAll k d = Kept ∷ []
events_of c line GoBack k d = Back ∷ []
events_of c line ForgetKept k d = Forgot ∷ []
events_of c line (PrintTop n) k d = Printed (print_line (popped_values (popped n [] k.now.operands))) ∷ []
events_of c line i k d = []

-- a step that goes on tells these events
abbrev pub EventsAre : Type 0
EventsAre = (c : Code) (test : Test) (line : ℕ) (i : Instr) (a s : State CodeCore) → settle (machine c) test a (do_instr c line i a.core) ≡ Goes s → s.events ≡ a.events ++ events_of c line i a.core s.core

-- every value fits
abbrev pub AllFit : Test → List Store → Type 0
AllFit test [] = Unit {0}
AllFit test (x ∷ xs) = (test x.0 x.1 ≡ true) × AllFit test xs

-- a call's parameters take every value
abbrev pub BindingsFit : Code → Test → Instr → Type 0
BindingsFit c test (CallBody n) = (b : Body) → slice_get c.bodies n ≡ Some b → (vs : List (Option Datum)) → AllFit test (bindings n b.parameters vs)
BindingsFit c test i = Unit {0}

-- where they do, a step that ends a run tells nothing
abbrev pub EndsTellNothing : Type 0
EndsTellNothing = (c : Code) (test : Test) (line : ℕ) (i : Instr) (a : State CodeCore) (e : End) (s : State CodeCore) → BindingsFit c test i → settle (machine c) test a (do_instr c line i a.core) ≡ Ends e s → s.events ≡ a.events
