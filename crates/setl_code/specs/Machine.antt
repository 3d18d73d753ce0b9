-- What each instruction does.
use Rattle.std.specs.Prelude.{ℕ, zero, suc, ◌+◌, true, false, List, [], ◌∷◌, length, slice_get, Option, Some, None}
use Rattle.setl_value.specs.Datum.{Datum, bool, atom, tuple, part_list}
use Rattle.setl_operators_table.specs.Outcome.{Fault, OmFault, KindFault, Outcome}
use Rattle.setl_operators_table.specs.Operators.{op_of}
use Rattle.setl_text.specs.Texts.{print_line}
use Rattle.setl_text.specs.Reading.{Reading, Denotes, AtEnd, NotForm, TooWide, TooDeep, read_denotation}
use Rattle.setl_model_runs.specs.Variable.{Variable, Bound}
use Rattle.setl_model_runs.specs.Events.{Called, Returned, Printed, Kept, Back, Forgot, Form, Wide, Deep, Nothing, Done, Stopped, Stuck}
use Rattle.setl_model_runs.specs.Run.{Move, Moves, Halts, Machine}
use Rattle.setl_program.specs.declared.kinds.Connective.{Connective}
use Rattle.setl_program.specs.declared.kinds.Connective.TheVariants.{And, Or, Implies}
use Rattle.setl_tree.specs.declared.tree.Passing.{Passing}
use Rattle.setl_tree.specs.declared.tree.Passing.TheVariants.{Rd, Wr, Rw}
use Rattle.setl_program.specs.Program.{Begin, Members, Points, Parameter}
use Rattle.setl_model.specs.Core.{Item, One, Two, Selected, Round, Brace}
use Rattle.setl_model.specs.World.{stop, branch}
use Rattle.setl_model.specs.World as world
use Rattle.setl_model.specs.Collections.{refusal}
use Rattle.setl_model.specs.Iterations.{Started, Starts, Refuses, items_of}
use Rattle.setl_model.specs.Calls.{parameter, bindings}
use Rattle.setl_model.specs.Places.{with_part_at_all, part_at_all, combined, Taken, TakesOut, IsEmpty, CannotTake, take_out}
use Rattle.setl_code.specs.Code.{Bracket, InRound, InBrace, Alteration, Putting, Combining, TakingOut, Instr, Push, PushAtom, PushEof, Load, Take, StoreIn, Operate, Alter, Decides, TestBool, Unless, Jump, DropTop, DupTop, PartsOf, BeginOver, NextOr, BeginOf, AddBelow, LeaveAll, PayRound, CallBody, ReturnTop, KeepAll, GoBack, ForgetKept, PrintTop, ReadOne, StopRun, Step, Body, Code}
use Rattle.setl_code.specs.CodeCore.{Held, There, Gone, Cells, held_in, cleared, variables_of, Operand, Result, Iterator, PairIterator, Collecting, value_of, Popped, Pops, Lacks, popped, without_iterators, Activation, Copy, CodeCore, holding, held, write}

-- ---- going on

-- at a step with these operands
abbrev pub at_step : ℕ → List Operand → CodeCore → CodeCore
at_step at xs k = record k { now = record k.now { at = at; operands = xs } }

abbrev pub go_to : ℕ → List Operand → CodeCore → Move CodeCore
go_to at xs k = Moves [] [] (at_step at xs k) 0 []

-- at the next step with these operands
abbrev pub next : List Operand → CodeCore → Move CodeCore
next xs k = go_to (suc k.now.at) xs k

-- goes on where a result is on top
abbrev pub on_value : Option (Option Datum) → (Option Datum → Move CodeCore) → Move CodeCore
on_value None f = Halts Stuck
on_value (Some v) f = f v

abbrev pub on_top : List Operand → (Option Datum → List Operand → Move CodeCore) → Move CodeCore
on_top [] f = Halts Stuck
on_top (o ∷ xs) f = on_value (value_of o) (λ v. f v xs)

abbrev pub on_popped : Popped → (List (Option Datum) → List Operand → Move CodeCore) → Move CodeCore
on_popped Lacks f = Halts Stuck
on_popped (Pops vs xs) f = f vs xs

-- goes on where a slot isn't taken
abbrev pub on_held : Held → (Option Datum → Move CodeCore) → Move CodeCore
on_held Gone f = Halts Stuck
on_held (There v) f = f v

abbrev pub on_rest : Option (List Operand) → (List Operand → Move CodeCore) → Move CodeCore
on_rest None f = Halts Stuck
on_rest (Some xs) f = f xs

abbrev pub turn : CodeCore → (CodeCore → Move CodeCore) → Move CodeCore
turn k f = world.turn holding k f

abbrev pub with_outcome : Outcome → ℕ → CodeCore → (Option Datum → CodeCore → Move CodeCore) → Move CodeCore
with_outcome o line k f = world.with_outcome holding o line k f

-- ---- stores

-- a former's own name is bound without a test and an event
abbrev pub store_in : Variable → ℕ → Option Datum → List Operand → CodeCore → Move CodeCore
store_in (Bound former name) line v xs k = next xs (write (Bound former name) (There v) k)
store_in x line v xs k = Moves [] [] (at_step (suc k.now.at) xs k) line ((x, v) ∷ [])

-- ---- updates

-- selectors with their operands
abbrev pub selected_by : List Bracket → List (Option Datum) → List Selected
selected_by [] vs = []
selected_by (b ∷ bs) [] = []
selected_by (InRound ∷ bs) (v ∷ vs) = Round v ∷ selected_by bs vs
selected_by (InBrace ∷ bs) (v ∷ vs) = Brace v ∷ selected_by bs vs

-- the new whole is stored, and these operands are left
abbrev pub store_whole : Outcome → ℕ → Variable → List Operand → CodeCore → Move CodeCore
store_whole o line x xs k =
    with_outcome o line k (λ new d. store_in x line new xs d)

-- what was taken out is pushed; of an empty source `om` is pushed and nothing is stored
abbrev pub take_from : Taken → ℕ → Variable → Option Datum → List Selected → List Operand → CodeCore → Move CodeCore
take_from (TakesOut small v) line x whole at xs k = store_whole (with_part_at_all at whole (Some small) k.world.left) line x (Result v ∷ xs) k
take_from IsEmpty line x whole at xs k = next (Result None ∷ xs) k
take_from (CannotTake fault) line x whole at xs k = stop fault line

-- once the selectors are popped
abbrev pub alter : Alteration → ℕ → Variable → Option Datum → List Selected → List Operand → CodeCore → Move CodeCore
alter Putting line x whole at xs k = on_top xs (λ v rest. store_whole (with_part_at_all at whole v k.world.left) line x rest k)
alter (Combining o) line x whole at xs k =
    on_top xs (λ v rest. store_whole (combined at whole (λ part now. op_of o (part ∷ v ∷ []) now) k.world.left) line x rest k)
alter (TakingOut t) line x whole at xs k =
    with_outcome (part_at_all at whole k.world.left) line k (λ part d. take_from (take_out t part) line x whole at xs d)

-- ---- iterators and collections

abbrev pub iterator : Begin → List Item → Operand
iterator Points items = PairIterator items
iterator (Members k) items = Iterator items

abbrev pub begin_over : Started → Begin → ℕ → List Operand → CodeCore → Move CodeCore
begin_over (Starts items) b line xs k = next (iterator b items ∷ xs) k
begin_over (Refuses fault) b line xs k = stop fault line

-- one turn and the next item, or the end
abbrev pub next_or : ℕ → List Operand → CodeCore → Move CodeCore
next_or to (Iterator [] ∷ xs) k = go_to to xs k
next_or to (Iterator (One v ∷ items) ∷ xs) k = turn k (λ d. next (Result v ∷ Iterator items ∷ xs) d)
next_or to (PairIterator [] ∷ xs) k = go_to to xs k
next_or to (PairIterator (Two argument image ∷ items) ∷ xs) k =
    turn k (λ d. next (Result argument ∷ Result image ∷ PairIterator items ∷ xs) d)
next_or to xs k = Halts Stuck

-- Operands with a value added to a collection, or why it isn't added, or there is no collection.
pub data Added : Type 0 where
  Adds : List Operand → Added
  Refused : Fault → Added
  Nowhere : Added

abbrev pub add_by : Option Fault → Operand → List Operand → Added
add_by None o xs = Adds (o ∷ xs)
add_by (Some fault) o xs = Refused fault

abbrev pub below : Operand → Added → Added
below o (Adds xs) = Adds (o ∷ xs)
below o (Refused fault) = Refused fault
below o Nowhere = Nowhere

-- a value goes to the collection below so many iterators
abbrev pub added : ℕ → Option Datum → List Operand → Added
added zero v (Collecting k got ∷ xs) = add_by (refusal k v) (Collecting k (v ∷ got)) xs
added (suc n) v (Iterator items ∷ xs) = below (Iterator items) (added n v xs)
added (suc n) v (PairIterator items ∷ xs) = below (PairIterator items) (added n v xs)
added n v xs = Nowhere

abbrev pub go_added : Added → ℕ → CodeCore → Move CodeCore
go_added (Adds xs) line k = next xs k
go_added (Refused fault) line k = stop fault line
go_added Nowhere line k = Halts Stuck

-- ---- tuples

-- the first parts, of which the first is on top
abbrev pub first_parts : ℕ → List (Option Datum) → List Operand → List Operand
first_parts zero ps xs = xs
first_parts (suc n) [] xs = Result None ∷ first_parts n [] xs
first_parts (suc n) (p ∷ ps) xs = Result p ∷ first_parts n ps xs

abbrev pub take_apart : ℕ → Option Datum → ℕ → List Operand → CodeCore → Move CodeCore
take_apart n (Some (tuple ps)) line xs k = next (first_parts n (part_list ps) xs) k
take_apart n None line xs k = stop OmFault line
take_apart n (Some d) line xs k = stop KindFault line

-- ---- calls

-- one turn; the call is told, the results are stored in the parameters, and all other own variables are `om`
abbrev pub call_body : ℕ → Option Body → ℕ → CodeCore → Move CodeCore
call_body n None line k = Halts Stuck
call_body n (Some b) line k =
    on_popped (popped (length b.parameters) [] k.now.operands) (λ vs rest.
    turn k (λ d. Moves [] (Called line b.name ∷ [])
    (record d {
      now = record { body = n; at = 0; own = cleared (variables_of n b); operands = [] };
      callers = record d.now { at = suc d.now.at; operands = rest } ∷ d.callers;
    })
    line (bindings n b.parameters vs)))

abbrev pub push_held : Held → Option (List Operand) → Option (List Operand)
push_held Gone xs = None
push_held (There v) None = None
push_held (There v) (Some xs) = Some (Result v ∷ xs)

abbrev pub hand : Passing → Held → Option (List Operand) → Option (List Operand)
hand Rd h xs = xs
hand Wr h xs = push_held h xs
hand Rw h xs = push_held h xs

-- what the `wr` and `rw` parameters hold, the first on top of these operands
abbrev pub handed_back : ℕ → List Parameter → Cells → List Operand → Option (List Operand)
handed_back n [] own xs = Some xs
handed_back n (p ∷ ps) own xs = hand p.passing (held_in own (parameter n p)) (handed_back n ps own xs)

abbrev pub return_to : Option Body → Option Datum → CodeCore → List Activation → Move CodeCore
return_to None v k cs = Halts Stuck
return_to (Some b) v k [] = Halts Stuck
return_to (Some b) v k (c ∷ cs) =
    on_rest (handed_back k.now.body b.parameters k.now.own (Result v ∷ c.operands)) (λ xs.
    Moves [] (Returned b.name ∷ []) (record k { now = record c { operands = xs }; callers = cs }) 0 [])

-- ---- backtracking

abbrev pub keep_all : CodeCore → Move CodeCore
keep_all k =
    Moves [] (Kept ∷ [])
    (record k {
      now = record k.now { at = suc k.now.at; operands = Result (Some (bool true)) ∷ k.now.operands };
      kept = record { globals = k.globals; now = record k.now { at = suc k.now.at }; callers = k.callers } ∷ k.kept;
    })
    0 []

abbrev pub go_back : ℕ → List Copy → CodeCore → Move CodeCore
go_back line [] k = Halts (Stopped Nothing line)
go_back line (c ∷ older) k =
    turn k (λ d. Moves [] (Back ∷ [])
    (record d {
      globals = c.globals;
      now = record c.now { operands = Result (Some (bool false)) ∷ c.now.operands };
      callers = c.callers;
      kept = older;
    })
    0 [])

-- the latest copy leaves what is kept, and all changes stay
abbrev pub forget_kept : ℕ → List Copy → CodeCore → Move CodeCore
forget_kept line [] k = Halts (Stopped Nothing line)
forget_kept line (c ∷ older) k = Moves [] (Forgot ∷ []) (record k { now = record k.now { at = suc k.now.at }; kept = older }) 0 []

-- ---- reading and writing

abbrev pub push_read : Reading → ℕ → CodeCore → Move CodeCore
push_read (Denotes v rest) line k = next (Result v ∷ k.now.operands) (record k { world = record k.world { input = rest } })
push_read AtEnd line k = next (Result None ∷ k.now.operands) (record k { world = record k.world { input = []; eof = true } })
push_read NotForm line k = Halts (Stopped Form line)
push_read TooWide line k = Halts (Stopped Wide line)
push_read TooDeep line k = Halts (Stopped Deep line)

abbrev pub print_values : List (Option Datum) → List Operand → CodeCore → Move CodeCore
print_values vs xs k = let said = print_line vs in Moves said (Printed said ∷ []) (at_step (suc k.now.at) xs k) 0 []

-- ---- steps

-- the boolean on top decides: its answer is left, and the code goes on behind
abbrev pub decides : Connective → ℕ → Option Datum → ℕ → List Operand → CodeCore → Move CodeCore
decides And to v line xs k = branch v line (next xs k) (go_to to (Result (Some (bool false)) ∷ xs) k)
decides Or to v line xs k = branch v line (go_to to (Result (Some (bool true)) ∷ xs) k) (next xs k)
decides Implies to v line xs k = branch v line (next xs k) (go_to to (Result (Some (bool true)) ∷ xs) k)

abbrev pub do_instr : Code → ℕ → Instr → CodeCore → Move CodeCore
do_instr c line (Push v) k = next (Result v ∷ k.now.operands) k
do_instr c line PushAtom k =
    turn k (λ d. next (Result (Some (atom d.world.atom)) ∷ d.now.operands) (record d { world = record d.world { atom = d.world.atom + 1 } }))
do_instr c line PushEof k = next (Result (Some (bool k.world.eof)) ∷ k.now.operands) k
do_instr c line (Load x) k = on_held (held x k) (λ v. next (Result v ∷ k.now.operands) k)
do_instr c line (Take x) k = on_held (held x k) (λ v. next (Result v ∷ k.now.operands) (write x Gone k))
do_instr c line (StoreIn x) k = on_top k.now.operands (λ v xs. store_in x line v xs k)
do_instr c line (Operate o n) k =
    on_popped (popped n [] k.now.operands) (λ vs xs. with_outcome (op_of o vs k.world.left) line k (λ v d. next (Result v ∷ xs) d))
do_instr c line (Alter a x bs) k =
    on_popped (popped (length bs) [] k.now.operands) (λ vs xs. on_held (held x k) (λ whole. alter a line x whole (selected_by bs vs) xs k))
do_instr c line (Decides o to) k = on_top k.now.operands (λ v xs. decides o to v line xs k)
do_instr c line TestBool k = on_top k.now.operands (λ v xs. branch v line (next (Result v ∷ xs) k) (next (Result v ∷ xs) k))
do_instr c line (Unless to) k = on_top k.now.operands (λ v xs. branch v line (next xs k) (go_to to xs k))
do_instr c line (Jump to) k = go_to to k.now.operands k
do_instr c line DropTop k = on_top k.now.operands (λ v xs. next xs k)
do_instr c line DupTop k = on_top k.now.operands (λ v xs. next (Result v ∷ Result v ∷ xs) k)
do_instr c line (PartsOf n) k = on_top k.now.operands (λ v xs. take_apart n v line xs k)
do_instr c line (BeginOver b n) k = on_popped (popped n [] k.now.operands) (λ vs xs. begin_over (items_of b vs) b line xs k)
do_instr c line (NextOr to) k = next_or to k.now.operands k
do_instr c line (BeginOf o) k = next (Collecting o [] ∷ k.now.operands) k
do_instr c line (AddBelow n) k = on_top k.now.operands (λ v xs. go_added (added n v xs) line k)
do_instr c line (LeaveAll n) k = on_rest (without_iterators n k.now.operands) (λ xs. next xs k)
do_instr c line PayRound k = turn k (λ d. next d.now.operands d)
do_instr c line (CallBody n) k = call_body n (slice_get c.bodies n) line k
do_instr c line ReturnTop k = on_top k.now.operands (λ v xs. return_to (slice_get c.bodies k.now.body) v k k.callers)
do_instr c line KeepAll k = keep_all k
do_instr c line GoBack k = go_back line k.kept k
do_instr c line ForgetKept k = forget_kept line k.kept k
do_instr c line (PrintTop n) k = on_popped (popped n [] k.now.operands) (λ vs xs. print_values vs xs k)
do_instr c line ReadOne k = push_read (read_denotation k.world.input) line k
do_instr c line StopRun k = Halts Done

abbrev pub do_step : Code → Option Step → CodeCore → Move CodeCore
do_step c None k = Halts Stuck
do_step c (Some s) k = do_instr c s.0 s.1 k

-- the steps of a body that may not exist
abbrev pub body_steps : Option Body → List Step
body_steps None = []
body_steps (Some b) = b.steps

abbrev pub fetch : Code → ℕ → ℕ → Option Step
fetch c body at = slice_get (body_steps (slice_get c.bodies body)) at

-- the machine that runs a code
abbrev pub machine : Code → Machine CodeCore
machine c = record {
  move = λ k. do_step c (fetch c k.now.body k.now.at) k;
  write = λ x v k. write x (There v) k;
}
