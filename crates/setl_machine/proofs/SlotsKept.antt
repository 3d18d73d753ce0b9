-- A step that ends a run leaves every slot as it was.
use Rattle.std.proofs.Common.{◌≡◌, ℕ, Bool, true, false, List, [], ◌∷◌, ◌++◌, length, Option, None, Some, refl, subst}
use Rattle.std.specs.Prelude.{slice_get}
use Rattle.setl_value.specs.Datum.{Datum, bool, int, text, atom, tuple, set}
use Rattle.setl_operators_table.specs.Outcome.{Outcome}
use Rattle.setl_operators_table.specs.Operators.{op_of}
use Rattle.setl_program.specs.declared.kinds.Connective.{Connective}
use Rattle.setl_program.specs.declared.kinds.Connective.TheVariants.{And, Or, Implies}
use Rattle.setl_program.specs.Program.{Begin}
use Rattle.setl_text.specs.Reading.{Reading, Denotes, AtEnd, NotForm, TooWide, TooDeep, read_denotation}
use Rattle.setl_model_runs.specs.Events.{End, Event, Stopped, Unfit}
use Rattle.setl_model_runs.specs.Run.{Store, State, Next, Goes, Ends, Move, Moves, Halts, if_fits, store_all, stored, settle, step}
use Rattle.setl_model_runs.specs.Variable.{Variable, Global, Own, Bound}
use Rattle.setl_model.specs.Calls.{bindings}
use Rattle.setl_model.specs.Core.{One, Two, Selected}
use Rattle.setl_model.specs.Iterations.{Started, Starts, Refuses, items_of}
use Rattle.setl_model.specs.Places.{Taken, TakesOut, IsEmpty, CannotTake, part_at_all, take_out}
use Rattle.setl_code.specs.Code.{Alteration, Putting, Combining, TakingOut, Body, Code, Step, Instr, Push, PushAtom, PushEof, Load, Take, StoreIn, Operate, Alter, Decides, TestBool, Unless, Jump, DropTop, DupTop, PartsOf, BeginOver, NextOr, BeginOf, AddBelow, LeaveAll, PayRound, CallBody, ReturnTop, KeepAll, GoBack, ForgetKept, PrintTop, ReadOne, StopRun}
use Rattle.setl_code.specs.CodeCore.{Operand, Result, Iterator, PairIterator, Collecting, popped, without_iterators, Activation, Copy, CodeCore, held}
use Rattle.setl_code.specs.Machine.{store_in, store_whole, take_from, selected_by, alter, begin_over, next_or, Added, Adds, Refused, Nowhere, added, go_added, take_apart, call_body, handed_back, return_to, go_back, forget_kept, push_read, decides, do_instr, do_step, fetch, machine}
use Rattle.setl_code_events.specs.Told.{AllFit, BindingsFit}
use Rattle.setl_machine_control.specs.Declaring.{Modes, AreOfMain, IsBare, tested}
use Rattle.setl_machine.specs.Outcome.{HasSameSlots}
use Rattle.setl_machine.proofs.Cases.{by_top, by_popped, by_held, by_rest, by_turn, by_outcome, by_branch}
use Rattle.setl_machine.proofs.Hearing.{bindings_fit}

module _ (c : Code) (modes : Modes) (a : State CodeCore) where
  -- where it ends the run, the slots are as they were
  abbrev Keeps : Move CodeCore → Type 0
  Keeps m = (e : End) (s : State CodeCore) → settle (machine c) (tested modes) a m ≡ Ends e s → HasSameSlots a.core s.core

  as_is : HasSameSlots a.core a.core
  as_is = record { globals = refl; own = refl; body = refl }

  silent : (e : End) → Keeps (Halts e)
  silent f e s h = let same : a ≡ s = cc in subst (λ (z : State CodeCore). HasSameSlots a.core z.core) same as_is

  -- one store
  one_store : (t : Bool) (x : Store) (line : ℕ) (y : Next CodeCore) (d s : State CodeCore) (e : End) → ((f : End) (z : State CodeCore) → y ≡ Ends f z → ⊥) → HasSameSlots a.core d.core → if_fits t y (Stopped (Unfit x.0) line) d ≡ Ends e s → HasSameSlots a.core s.core
  one_store true x line y d s e goes same h = absurd (goes e s h)
  one_store false x line y d s e goes same h = let at : d ≡ s = cc in subst (λ (z : State CodeCore). HasSameSlots a.core z.core) at same

  keeps_one : (said : List ℕ) (told : List Event) (to : CodeCore) (line : ℕ) (x : Store) → HasSameSlots a.core to → Keeps (Moves said told to line (x ∷ []))
  keeps_one said told to line x same e s h =
      let d : State CodeCore = record { core = to; out = a.out ++ said; events = a.events ++ told } in
      one_store (tested modes x.0 x.1) x line (Goes (stored (machine c) line x d)) d s e (λ f z g. cc) same h

  -- stores that all fit
  fits_go : (line : ℕ) (xs : List Store) (d s : State CodeCore) (e : End) → AllFit (tested modes) xs → store_all (machine c) (tested modes) line xs d ≡ Ends e s → ⊥
  fits_go line [] d s e all h = cc
  fits_go line (x ∷ xs) d s e all h =
      fits_go line xs (stored (machine c) line x d) s e all.1
      (subst (λ t. if_fits t (store_all (machine c) (tested modes) line xs (stored (machine c) line x d)) (Stopped (Unfit x.0) line) d ≡ Ends e s) all.0 h)

  -- ---- what the instructions do

  store_keeps : (x : Variable) (line : ℕ) (v : Option Datum) (xs : List Operand) (k : CodeCore) → HasSameSlots a.core k → Keeps (store_in x line v xs k)
  store_keeps (Global name) line v xs k same = keeps_one [] [] _ line (Global name, v) (record { globals = same.globals; own = same.own; body = same.body })
  store_keeps (Own body name) line v xs k same = keeps_one [] [] _ line (Own body name, v) (record { globals = same.globals; own = same.own; body = same.body })
  store_keeps (Bound former name) line v xs k same = λ e s h. absurd (cc)

  whole_keeps : (o : Outcome) (line : ℕ) (x : Variable) (xs : List Operand) (k : CodeCore) → HasSameSlots a.core k → Keeps (store_whole o line x xs k)
  whole_keeps o line x xs k same = by_outcome Keeps silent o line k (λ v d. store_in x line v xs d) (λ v n. store_keeps x line v xs _ (record { globals = same.globals; own = same.own; body = same.body }))

  taken_keeps : (t : Taken) (line : ℕ) (x : Variable) (whole : Option Datum) (at : List Selected) (xs : List Operand) (k : CodeCore) → HasSameSlots a.core k → Keeps (take_from t line x whole at xs k)
  taken_keeps (TakesOut small v) line x whole at xs k same = whole_keeps _ line x (Result v ∷ xs) k same
  taken_keeps IsEmpty line x whole at xs k same = λ e s h. absurd (cc)
  taken_keeps (CannotTake fault) line x whole at xs k same = silent _

  alter_keeps : (i : Alteration) (line : ℕ) (x : Variable) (whole : Option Datum) (at : List Selected) (xs : List Operand) (k : CodeCore) → HasSameSlots a.core k → Keeps (alter i line x whole at xs k)
  alter_keeps Putting line x whole at xs k same = by_top Keeps silent xs _ (λ v rest. whole_keeps _ line x rest k same)
  alter_keeps (Combining o) line x whole at xs k same = by_top Keeps silent xs _ (λ v rest. whole_keeps _ line x rest k same)
  alter_keeps (TakingOut t) line x whole at xs k same =
      by_outcome Keeps silent (part_at_all at whole k.world.left) line k (λ part d. take_from (take_out t part) line x whole at xs d) (λ part n. taken_keeps (take_out t part) line x whole at xs _ (record { globals = same.globals; own = same.own; body = same.body }))

  begin_keeps : (s : Started) (b : Begin) (line : ℕ) (xs : List Operand) (k : CodeCore) → Keeps (begin_over s b line xs k)
  begin_keeps (Starts items) b line xs k = (λ e s h. absurd (cc))
  begin_keeps (Refuses fault) b line xs k = silent _

  next_keeps : (to : ℕ) (xs : List Operand) (k : CodeCore) → Keeps (next_or to xs k)
  next_keeps to [] k = silent _
  next_keeps to (Result v ∷ xs) k = silent _
  next_keeps to (Collecting o got ∷ xs) k = silent _
  next_keeps to (Iterator [] ∷ xs) k = (λ e s h. absurd (cc))
  next_keeps to (Iterator (One v ∷ items) ∷ xs) k = by_turn Keeps silent k _ (λ d. (λ e s h. absurd (cc)))
  next_keeps to (Iterator (Two v w ∷ items) ∷ xs) k = silent _
  next_keeps to (PairIterator [] ∷ xs) k = (λ e s h. absurd (cc))
  next_keeps to (PairIterator (One v ∷ items) ∷ xs) k = silent _
  next_keeps to (PairIterator (Two v w ∷ items) ∷ xs) k = by_turn Keeps silent k _ (λ d. (λ e s h. absurd (cc)))

  added_keeps : (a : Added) (line : ℕ) (k : CodeCore) → Keeps (go_added a line k)
  added_keeps (Adds xs) line k = (λ e s h. absurd (cc))
  added_keeps (Refused fault) line k = silent _
  added_keeps Nowhere line k = silent _

  apart_keeps : (n : ℕ) (v : Option Datum) (line : ℕ) (xs : List Operand) (k : CodeCore) → Keeps (take_apart n v line xs k)
  apart_keeps n None line xs k = silent _
  apart_keeps n (Some (bool b)) line xs k = silent _
  apart_keeps n (Some (int z)) line xs k = silent _
  apart_keeps n (Some (text t)) line xs k = silent _
  apart_keeps n (Some (atom b)) line xs k = silent _
  apart_keeps n (Some (tuple ps)) line xs k = (λ e s h. absurd (cc))
  apart_keeps n (Some (set ms)) line xs k = silent _

  call_keeps : (n : ℕ) (b : Option Body) → slice_get c.bodies n ≡ b → (line : ℕ) (k : CodeCore) → BindingsFit c (tested modes) (CallBody n) → Keeps (call_body n b line k)
  call_keeps n None there line k fit = silent _
  call_keeps n (Some b) there line k fit = by_popped Keeps silent (popped (length b.parameters) [] k.now.operands) _ (λ vs rest. by_turn Keeps silent k _ (λ d e s h. absurd (fits_go line (bindings n b.parameters vs) _ s e (fit b there vs) h)))

  return_keeps : (b : Option Body) (v : Option Datum) (k : CodeCore) (cs : List Activation) → Keeps (return_to b v k cs)
  return_keeps None v k cs = silent _
  return_keeps (Some b) v k [] = silent _
  return_keeps (Some b) v k (c ∷ cs) = by_rest Keeps silent (handed_back k.now.body b.parameters k.now.own (Result v ∷ c.operands)) _ (λ xs. (λ e s h. absurd (cc)))

  back_keeps : (line : ℕ) (cs : List Copy) (k : CodeCore) → Keeps (go_back line cs k)
  back_keeps line [] k = silent _
  back_keeps line (c ∷ older) k = by_turn Keeps silent k _ (λ d. (λ e s h. absurd (cc)))

  forget_keeps : (line : ℕ) (cs : List Copy) (k : CodeCore) → Keeps (forget_kept line cs k)
  forget_keeps line [] k = silent _
  forget_keeps line (c ∷ older) k = (λ e s h. absurd (cc))

  read_keeps : (r : Reading) (line : ℕ) (k : CodeCore) → Keeps (push_read r line k)
  read_keeps (Denotes v rest) line k = (λ e s h. absurd (cc))
  read_keeps AtEnd line k = (λ e s h. absurd (cc))
  read_keeps NotForm line k = silent _
  read_keeps TooWide line k = silent _
  read_keeps TooDeep line k = silent _

  decides_keeps : (o : Connective) (to : ℕ) (v : Option Datum) (line : ℕ) (xs : List Operand) (k : CodeCore) → Keeps (decides o to v line xs k)
  decides_keeps And to v line xs k = by_branch Keeps silent v line _ _ (λ e s h. absurd (cc)) (λ e s h. absurd (cc))
  decides_keeps Or to v line xs k = by_branch Keeps silent v line _ _ (λ e s h. absurd (cc)) (λ e s h. absurd (cc))
  decides_keeps Implies to v line xs k = by_branch Keeps silent v line _ _ (λ e s h. absurd (cc)) (λ e s h. absurd (cc))

  instr_keeps : ((j : Instr) → BindingsFit c (tested modes) j) → (line : ℕ) (i : Instr) → Keeps (do_instr c line i a.core)
  instr_keeps fits line (Push v) = (λ e s h. absurd (cc))
  instr_keeps fits line PushAtom = by_turn Keeps silent a.core _ (λ d. (λ e s h. absurd (cc)))
  instr_keeps fits line PushEof = (λ e s h. absurd (cc))
  instr_keeps fits line (Load x) = by_held Keeps silent (held x a.core) _ (λ v. (λ e s h. absurd (cc)))
  instr_keeps fits line (Take x) = by_held Keeps silent (held x a.core) _ (λ v. (λ e s h. absurd (cc)))
  instr_keeps fits line (StoreIn x) = by_top Keeps silent a.core.now.operands _ (λ v xs. store_keeps x line v xs a.core as_is)
  instr_keeps fits line (Operate o n) = by_popped Keeps silent (popped n [] a.core.now.operands) _ (λ vs xs. by_outcome Keeps silent (op_of o vs a.core.world.left) line a.core _ (λ v d. (λ e s h. absurd (cc))))
  instr_keeps fits line (Alter i x bs) = by_popped Keeps silent (popped (length bs) [] a.core.now.operands) _ (λ vs xs. by_held Keeps silent (held x a.core) _ (λ whole. alter_keeps i line x whole (selected_by bs vs) xs a.core as_is))
  instr_keeps fits line (Decides o to) = by_top Keeps silent a.core.now.operands _ (λ v xs. decides_keeps o to v line xs a.core)
  instr_keeps fits line TestBool = by_top Keeps silent a.core.now.operands _ (λ v xs. by_branch Keeps silent v line _ _ (λ e s h. absurd (cc)) (λ e s h. absurd (cc)))
  instr_keeps fits line (Unless to) = by_top Keeps silent a.core.now.operands _ (λ v xs. by_branch Keeps silent v line _ _ (λ e s h. absurd (cc)) (λ e s h. absurd (cc)))
  instr_keeps fits line (Jump to) = (λ e s h. absurd (cc))
  instr_keeps fits line DropTop = by_top Keeps silent a.core.now.operands _ (λ v xs. (λ e s h. absurd (cc)))
  instr_keeps fits line DupTop = by_top Keeps silent a.core.now.operands _ (λ v xs. (λ e s h. absurd (cc)))
  instr_keeps fits line (PartsOf n) = by_top Keeps silent a.core.now.operands _ (λ v xs. apart_keeps n v line xs a.core)
  instr_keeps fits line (BeginOver b n) = by_popped Keeps silent (popped n [] a.core.now.operands) _ (λ vs xs. begin_keeps (items_of b vs) b line xs a.core)
  instr_keeps fits line (NextOr to) = next_keeps to a.core.now.operands a.core
  instr_keeps fits line (BeginOf o) = (λ e s h. absurd (cc))
  instr_keeps fits line (AddBelow n) = by_top Keeps silent a.core.now.operands _ (λ v xs. added_keeps (added n v xs) line a.core)
  instr_keeps fits line (LeaveAll n) = by_rest Keeps silent (without_iterators n a.core.now.operands) _ (λ xs. (λ e s h. absurd (cc)))
  instr_keeps fits line PayRound = by_turn Keeps silent a.core _ (λ d. (λ e s h. absurd (cc)))
  instr_keeps fits line (CallBody n) = call_keeps n (slice_get c.bodies n) refl line a.core (fits (CallBody n))
  instr_keeps fits line ReturnTop = by_top Keeps silent a.core.now.operands _ (λ v xs. return_keeps (slice_get c.bodies a.core.now.body) v a.core a.core.callers)
  instr_keeps fits line KeepAll = (λ e s h. absurd (cc))
  instr_keeps fits line GoBack = back_keeps line a.core.kept a.core
  instr_keeps fits line ForgetKept = forget_keeps line a.core.kept a.core
  instr_keeps fits line (PrintTop n) = by_popped Keeps silent (popped n [] a.core.now.operands) _ (λ vs xs. (λ e s h. absurd (cc)))
  instr_keeps fits line ReadOne = read_keeps (read_denotation a.core.world.input) line a.core
  instr_keeps fits line StopRun = silent _

  step_keeps : ((j : Instr) → BindingsFit c (tested modes) j) → (f : Option Step) → Keeps (do_step c f a.core)
  step_keeps fits None = silent _
  step_keeps fits (Some (line, i)) = instr_keeps fits line i

  pub same_slots : (e : End) (s : State CodeCore) → AreOfMain modes → IsBare c → step (machine c) (tested modes) a ≡ Ends e s → HasSameSlots a.core s.core
  same_slots e s main bare h = step_keeps (bindings_fit modes c main bare) (fetch c a.core.now.body a.core.now.at) e s h
