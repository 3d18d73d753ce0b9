-- A step says and prints nothing unless it is a `print`.
use Rattle.std.proofs.Common.{◌≡◌, ◌⊎◌, inl, inr, ◌∙◌, ℕ, Bool, true, false, List, [], ◌∷◌, length, Option, None, Some, refl, ap}
use Rattle.std.specs.Prelude.{slice_get}
use Rattle.setl_value.specs.Datum.{Datum, bool, int, text, atom, tuple, set}
use Rattle.setl_operators_table.specs.Outcome.{Outcome}
use Rattle.setl_operators_table.specs.Operators.{op_of}
use Rattle.setl_program.specs.declared.kinds.Connective.{Connective}
use Rattle.setl_program.specs.declared.kinds.Connective.TheVariants.{And, Or, Implies}
use Rattle.setl_program.specs.Program.{Begin}
use Rattle.setl_text.specs.Reading.{Reading, Denotes, AtEnd, NotForm, TooWide, TooDeep, read_denotation}
use Rattle.setl_model_runs.specs.Events.{End}
use Rattle.setl_model_runs.specs.Run.{Store, State, Next, Move, Moves, Halts, if_fits, store_all, stored, settle, step}
use Rattle.setl_model_runs.specs.Variable.{Variable, Global, Own, Bound}
use Rattle.setl_model.specs.Core.{One, Two, Selected}
use Rattle.setl_model.specs.Iterations.{Started, Starts, Refuses, items_of}
use Rattle.setl_model.specs.Places.{Taken, TakesOut, IsEmpty, CannotTake, part_at_all, take_out}
use Rattle.setl_code.specs.Code.{Alteration, Putting, Combining, TakingOut, Body, Code, Step, Instr, Push, PushAtom, PushEof, Load, Take, StoreIn, Operate, Alter, Decides, TestBool, Unless, Jump, DropTop, DupTop, PartsOf, BeginOver, NextOr, BeginOf, AddBelow, LeaveAll, PayRound, CallBody, ReturnTop, KeepAll, GoBack, ForgetKept, PrintTop, ReadOne, StopRun}
use Rattle.setl_code.specs.CodeCore.{Operand, Result, Iterator, PairIterator, Collecting, popped, without_iterators, Activation, Copy, CodeCore, held}
use Rattle.setl_code.specs.Machine.{store_in, store_whole, take_from, selected_by, alter, begin_over, next_or, Added, Adds, Refused, Nowhere, added, go_added, take_apart, call_body, handed_back, return_to, go_back, forget_kept, push_read, decides, do_instr, do_step, fetch, machine}
use Rattle.setl_machine_control.specs.Declaring.{Modes, tested}
use Rattle.setl_machine_control.specs.Answers.{start, said}
use Rattle.setl_machine.specs.Hearing.{events_told}
use Rattle.setl_machine.specs.Outcome.{AtPrint}
use Rattle.setl_machine.specs.Writing.{prints}
use Rattle.setl_machine.proofs.Cases.{by_top, by_popped, by_held, by_rest, by_turn, by_outcome, by_branch}
use Rattle.setl_machine.proofs.Prints.{store_prints}

-- the bytes that a move says, and how many lines it prints
abbrev put_out : Move CodeCore → List ℕ × ℕ
put_out (Moves said told to line xs) = (said, prints told)
put_out (Halts e) = ([], 0)

-- those that were written and printed
abbrev written : Next CodeCore → List ℕ × ℕ
written x = (said x, prints (events_told x))

written_if : (t : Bool) (x : Next CodeCore) (e : End) (s : State CodeCore) → written x ≡ (s.out, prints s.events) → written (if_fits t x e s) ≡ (s.out, prints s.events)
written_if true x e s h = h
written_if false x e s h = refl

written_stored : (modes : Modes) (c : Code) (line : ℕ) (xs : List Store) (s : State CodeCore) → written (store_all (machine c) (tested modes) line xs s) ≡ (s.out, prints s.events)
written_stored modes c line [] s = refl
written_stored modes c line (x ∷ xs) s =
    let f : ℕ → List ℕ × ℕ = λ n. (s.out, n) in
    written_if (tested modes x.0 x.1) _ _ s (written_stored modes c line xs (stored (machine c) line x s) ∙ ap f (store_prints s.events line x.0 x.1))

written_settled : (modes : Modes) (c : Code) (k : CodeCore) (m : Move CodeCore) → written (settle (machine c) (tested modes) (start k) m) ≡ put_out m
written_settled modes c k (Moves said told to line xs) = written_stored modes c line xs (record { core = to; out = said; events = told })
written_settled modes c k (Halts e) = refl

-- it says and prints nothing
abbrev Mute : Move CodeCore → Type 0
Mute m = put_out m ≡ ([], 0)

silent : (e : End) → Mute (Halts e)
silent e = refl

-- ---- what the instructions do

store_mute : (x : Variable) (line : ℕ) (v : Option Datum) (xs : List Operand) (k : CodeCore) → Mute (store_in x line v xs k)
store_mute (Global name) line v xs k = refl
store_mute (Own body name) line v xs k = refl
store_mute (Bound former name) line v xs k = refl

whole_mute : (o : Outcome) (line : ℕ) (x : Variable) (xs : List Operand) (k : CodeCore) → Mute (store_whole o line x xs k)
whole_mute o line x xs k = by_outcome Mute silent o line k (λ v d. store_in x line v xs d) (λ v n. store_mute x line v xs _)

taken_mute : (t : Taken) (line : ℕ) (x : Variable) (whole : Option Datum) (at : List Selected) (xs : List Operand) (k : CodeCore) → Mute (take_from t line x whole at xs k)
taken_mute (TakesOut small v) line x whole at xs k = whole_mute _ line x (Result v ∷ xs) k
taken_mute IsEmpty line x whole at xs k = refl
taken_mute (CannotTake fault) line x whole at xs k = refl

alter_mute : (a : Alteration) (line : ℕ) (x : Variable) (whole : Option Datum) (at : List Selected) (xs : List Operand) (k : CodeCore) → Mute (alter a line x whole at xs k)
alter_mute Putting line x whole at xs k = by_top Mute silent xs _ (λ v rest. whole_mute _ line x rest k)
alter_mute (Combining o) line x whole at xs k = by_top Mute silent xs _ (λ v rest. whole_mute _ line x rest k)
alter_mute (TakingOut t) line x whole at xs k =
    by_outcome Mute silent (part_at_all at whole k.world.left) line k (λ part d. take_from (take_out t part) line x whole at xs d) (λ part n. taken_mute (take_out t part) line x whole at xs _)

begin_mute : (s : Started) (b : Begin) (line : ℕ) (xs : List Operand) (k : CodeCore) → Mute (begin_over s b line xs k)
begin_mute (Starts items) b line xs k = refl
begin_mute (Refuses fault) b line xs k = refl

next_mute : (to : ℕ) (xs : List Operand) (k : CodeCore) → Mute (next_or to xs k)
next_mute to [] k = refl
next_mute to (Result v ∷ xs) k = refl
next_mute to (Collecting o got ∷ xs) k = refl
next_mute to (Iterator [] ∷ xs) k = refl
next_mute to (Iterator (One v ∷ items) ∷ xs) k = by_turn Mute silent k _ (λ d. refl)
next_mute to (Iterator (Two v w ∷ items) ∷ xs) k = refl
next_mute to (PairIterator [] ∷ xs) k = refl
next_mute to (PairIterator (One v ∷ items) ∷ xs) k = refl
next_mute to (PairIterator (Two v w ∷ items) ∷ xs) k = by_turn Mute silent k _ (λ d. refl)

added_mute : (a : Added) (line : ℕ) (k : CodeCore) → Mute (go_added a line k)
added_mute (Adds xs) line k = refl
added_mute (Refused fault) line k = refl
added_mute Nowhere line k = refl

apart_mute : (n : ℕ) (v : Option Datum) (line : ℕ) (xs : List Operand) (k : CodeCore) → Mute (take_apart n v line xs k)
apart_mute n None line xs k = refl
apart_mute n (Some (bool b)) line xs k = refl
apart_mute n (Some (int z)) line xs k = refl
apart_mute n (Some (text t)) line xs k = refl
apart_mute n (Some (atom a)) line xs k = refl
apart_mute n (Some (tuple ps)) line xs k = refl
apart_mute n (Some (set ms)) line xs k = refl

call_mute : (n : ℕ) (b : Option Body) (line : ℕ) (k : CodeCore) → Mute (call_body n b line k)
call_mute n None line k = refl
call_mute n (Some b) line k = by_popped Mute silent (popped (length b.parameters) [] k.now.operands) _ (λ vs rest. by_turn Mute silent k _ (λ d. refl))

return_mute : (b : Option Body) (v : Option Datum) (k : CodeCore) (cs : List Activation) → Mute (return_to b v k cs)
return_mute None v k cs = refl
return_mute (Some b) v k [] = refl
return_mute (Some b) v k (c ∷ cs) = by_rest Mute silent (handed_back k.now.body b.parameters k.now.own (Result v ∷ c.operands)) _ (λ xs. refl)

back_mute : (line : ℕ) (cs : List Copy) (k : CodeCore) → Mute (go_back line cs k)
back_mute line [] k = refl
back_mute line (c ∷ older) k = by_turn Mute silent k _ (λ d. refl)

forget_mute : (line : ℕ) (cs : List Copy) (k : CodeCore) → Mute (forget_kept line cs k)
forget_mute line [] k = refl
forget_mute line (c ∷ older) k = refl

read_mute : (r : Reading) (line : ℕ) (k : CodeCore) → Mute (push_read r line k)
read_mute (Denotes v rest) line k = refl
read_mute AtEnd line k = refl
read_mute NotForm line k = refl
read_mute TooWide line k = refl
read_mute TooDeep line k = refl

decides_mute : (o : Connective) (to : ℕ) (v : Option Datum) (line : ℕ) (xs : List Operand) (k : CodeCore) → Mute (decides o to v line xs k)
decides_mute And to v line xs k = by_branch Mute silent v line _ _ refl refl
decides_mute Or to v line xs k = by_branch Mute silent v line _ _ refl refl
decides_mute Implies to v line xs k = by_branch Mute silent v line _ _ refl refl

-- it prints
abbrev IsPrint : Instr → Type 0
IsPrint i = (n : ℕ) × (i ≡ PrintTop n)

abbrev Quiet : Code → ℕ → Instr → CodeCore → Type 0
Quiet c line i k = Mute (do_instr c line i k)

-- each instruction but `print` does neither
instr_mute : (c : Code) (line : ℕ) (i : Instr) (k : CodeCore) → Quiet c line i k ⊎ IsPrint i
instr_mute c line (Push v) k = inl refl
instr_mute c line PushAtom k = inl (by_turn Mute silent k _ (λ d. refl))
instr_mute c line PushEof k = inl refl
instr_mute c line (Load x) k = inl (by_held Mute silent (held x k) _ (λ v. refl))
instr_mute c line (Take x) k = inl (by_held Mute silent (held x k) _ (λ v. refl))
instr_mute c line (StoreIn x) k = inl (by_top Mute silent k.now.operands _ (λ v xs. store_mute x line v xs k))
instr_mute c line (Operate o n) k = inl (by_popped Mute silent (popped n [] k.now.operands) _ (λ vs xs. by_outcome Mute silent (op_of o vs k.world.left) line k _ (λ v d. refl)))
instr_mute c line (Alter a x bs) k = inl (by_popped Mute silent (popped (length bs) [] k.now.operands) _ (λ vs xs. by_held Mute silent (held x k) _ (λ whole. alter_mute a line x whole (selected_by bs vs) xs k)))
instr_mute c line (Decides o to) k = inl (by_top Mute silent k.now.operands _ (λ v xs. decides_mute o to v line xs k))
instr_mute c line TestBool k = inl (by_top Mute silent k.now.operands _ (λ v xs. by_branch Mute silent v line _ _ refl refl))
instr_mute c line (Unless to) k = inl (by_top Mute silent k.now.operands _ (λ v xs. by_branch Mute silent v line _ _ refl refl))
instr_mute c line (Jump to) k = inl refl
instr_mute c line DropTop k = inl (by_top Mute silent k.now.operands _ (λ v xs. refl))
instr_mute c line DupTop k = inl (by_top Mute silent k.now.operands _ (λ v xs. refl))
instr_mute c line (PartsOf n) k = inl (by_top Mute silent k.now.operands _ (λ v xs. apart_mute n v line xs k))
instr_mute c line (BeginOver b n) k = inl (by_popped Mute silent (popped n [] k.now.operands) _ (λ vs xs. begin_mute (items_of b vs) b line xs k))
instr_mute c line (NextOr to) k = inl (next_mute to k.now.operands k)
instr_mute c line (BeginOf o) k = inl refl
instr_mute c line (AddBelow n) k = inl (by_top Mute silent k.now.operands _ (λ v xs. added_mute (added n v xs) line k))
instr_mute c line (LeaveAll n) k = inl (by_rest Mute silent (without_iterators n k.now.operands) _ (λ xs. refl))
instr_mute c line PayRound k = inl (by_turn Mute silent k _ (λ d. refl))
instr_mute c line (CallBody n) k = inl (call_mute n (slice_get c.bodies n) line k)
instr_mute c line ReturnTop k = inl (by_top Mute silent k.now.operands _ (λ v xs. return_mute (slice_get c.bodies k.now.body) v k k.callers))
instr_mute c line KeepAll k = inl refl
instr_mute c line GoBack k = inl (back_mute line k.kept k)
instr_mute c line ForgetKept k = inl (forget_mute line k.kept k)
instr_mute c line (PrintTop n) k = inr (n, refl)
instr_mute c line ReadOne k = inl (read_mute (read_denotation k.world.input) line k)
instr_mute c line StopRun k = inl refl

-- so does each step, unless a `print` is in hand
step_mute : (c : Code) (k : CodeCore) (s : Option Step) → fetch c k.now.body k.now.at ≡ s → Mute (do_step c s k) ⊎ AtPrint c k
step_mute c k None e = inl refl
step_mute c k (Some (line, i)) e = go (instr_mute c line i k)
  where
    go : Quiet c line i k ⊎ IsPrint i → Quiet c line i k ⊎ AtPrint c k
    go (inl h) = inl h
    go (inr h) = inr (line, h.0, e ∙ ap (λ j. Some (line, j)) h.1)

module _ (modes : Modes) (c : Code) (k : CodeCore) where
  abbrev next : Next CodeCore
  next = step (machine c) (tested modes) (start k)

  writes_nothing : (written next ≡ ([], 0)) ⊎ AtPrint c k
  writes_nothing = go (step_mute c k (fetch c k.now.body k.now.at) refl)
    where
      go : Mute (do_step c (fetch c k.now.body k.now.at) k) ⊎ AtPrint c k → (written next ≡ ([], 0)) ⊎ AtPrint c k
      go (inl h) = inl (written_settled modes c k (do_step c (fetch c k.now.body k.now.at) k) ∙ h)
      go (inr h) = inr h

  pub says_nothing : (length (said next) ≡ 0) ⊎ AtPrint c k
  says_nothing = go writes_nothing
    where
      go : (written next ≡ ([], 0)) ⊎ AtPrint c k → (length (said next) ≡ 0) ⊎ AtPrint c k
      go (inl h) = inl (ap (λ (w : List ℕ × ℕ). length w.0) h)
      go (inr h) = inr h

  pub prints_nothing : (prints (events_told next) ≡ 0) ⊎ AtPrint c k
  prints_nothing = go writes_nothing
    where
      go : (written next ≡ ([], 0)) ⊎ AtPrint c k → (prints (events_told next) ≡ 0) ⊎ AtPrint c k
      go (inl h) = inl (ap (λ (w : List ℕ × ℕ). w.1) h)
      go (inr h) = inr h
