-- A step that ends a run tells nothing.
use Rattle.std.proofs.Common.{◌≡◌, ◌∙◌, ◌⊎◌, inl, inr, ℕ, Bool, true, false, List, [], ◌∷◌, ◌++◌, length, Option, None, Some, refl, sym, ap, subst}
use Rattle.std.proofs.lemmas.List.{append-nil}
use Rattle.std.specs.Prelude.{slice_get}
use Rattle.setl_value.specs.Datum.{Datum, bool, int, text, atom, tuple, set}
use Rattle.setl_operators_table.specs.Outcome.{Outcome}
use Rattle.setl_operators_table.specs.Operators.{op_of}
use Rattle.setl_program.specs.declared.kinds.Connective.{Connective}
use Rattle.setl_program.specs.declared.kinds.Connective.TheVariants.{And, Or, Implies}
use Rattle.setl_program.specs.Program.{Begin}
use Rattle.setl_text.specs.Reading.{Reading, Denotes, AtEnd, NotForm, TooWide, TooDeep, read_denotation}
use Rattle.setl_model_runs.specs.Events.{End, Stopped, Unfit}
use Rattle.setl_model_runs.specs.Run.{Store, State, Goes, Ends, Test, Move, Moves, Halts, if_fits, store_all, stored, settle}
use Rattle.setl_model_runs.specs.Variable.{Variable, Global, Own, Bound}
use Rattle.setl_model.specs.Calls.{bindings}
use Rattle.setl_model.specs.Core.{One, Two, Selected}
use Rattle.setl_model.specs.Iterations.{Started, Starts, Refuses, items_of}
use Rattle.setl_model.specs.Places.{Taken, TakesOut, IsEmpty, CannotTake, part_at_all, take_out}
use Rattle.setl_code.specs.Code.{Alteration, Putting, Combining, TakingOut, Body, Code, Instr, Push, PushAtom, PushEof, Load, Take, StoreIn, Operate, Alter, Decides, TestBool, Unless, Jump, DropTop, DupTop, PartsOf, BeginOver, NextOr, BeginOf, AddBelow, LeaveAll, PayRound, CallBody, ReturnTop, KeepAll, GoBack, ForgetKept, PrintTop, ReadOne, StopRun}
use Rattle.setl_code.specs.CodeCore.{Operand, Result, Iterator, PairIterator, Collecting, popped, without_iterators, Activation, Copy, CodeCore, held}
use Rattle.setl_code.specs.Machine.{store_in, store_whole, take_from, selected_by, alter, begin_over, next_or, Added, Adds, Refused, Nowhere, added, go_added, take_apart, call_body, handed_back, return_to, go_back, forget_kept, push_read, decides, do_instr, machine}
use Rattle.setl_code_events.specs.Told.{AllFit, BindingsFit, EndsTellNothing}
use Rattle.setl_code_events.proofs.Cases.{by_top, by_popped, by_held, by_rest, by_turn, by_outcome, by_branch}

-- a move makes no store, or tells nothing and makes one, or makes stores that all fit
abbrev Steady : Test → Move CodeCore → Type 0
Steady test (Moves said told to line xs) = (xs ≡ []) ⊎ (((told ≡ []) × (x : Store) × (xs ≡ x ∷ [])) ⊎ AllFit test xs)
Steady test (Halts e) = Unit {0}

all_fit_go : (c : Code) (test : Test) (line : ℕ) (xs : List Store) (a : State CodeCore) (e : End) (s : State CodeCore) → AllFit test xs → store_all (machine c) test line xs a ≡ Ends e s → ⊥
all_fit_go c test line [] a e s f h = cc
all_fit_go c test line (x ∷ xs) a e s f h = all_fit_go c test line xs (stored (machine c) line x a) e s f.1 (subst (λ b. if_fits b (store_all (machine c) test line xs (stored (machine c) line x a)) (Stopped (Unfit x.0) line) a ≡ Ends e s) f.0 h)

one_ends : (c : Code) (test : Test) (line : ℕ) (x : Store) (a : State CodeCore) (e : End) (s : State CodeCore) → store_all (machine c) test line (x ∷ []) a ≡ Ends e s → s.events ≡ a.events
one_ends c test line x a e s h = go (test x.0 x.1) h
  where
    go : (b : Bool) → if_fits b (Goes (stored (machine c) line x a)) (Stopped (Unfit x.0) line) a ≡ Ends e s → s.events ≡ a.events
    go true h = absurd (cc)
    go false h = let same : a ≡ s = cc in sym (ap (λ (s : State CodeCore). s.events) same)

steady_ends : (c : Code) (test : Test) (m : Move CodeCore) (a : State CodeCore) (e : End) (s : State CodeCore) → Steady test m → settle (machine c) test a m ≡ Ends e s → s.events ≡ a.events
steady_ends c test (Halts d) a e s t h = let same : a ≡ s = cc in sym (ap (λ (s : State CodeCore). s.events) same)
steady_ends c test (Moves said told to line xs) a e s (inl t) h = absurd (all_fit_go c test line [] _ e s tt (subst (λ ys. store_all (machine c) test line ys (record { core = to; out = a.out ++ said; events = a.events ++ told }) ≡ Ends e s) t h))
steady_ends c test (Moves said told to line xs) a e s (inr (inl t)) h =
    one_ends c test line t.1 _ e s (subst (λ ys. store_all (machine c) test line ys (record { core = to; out = a.out ++ said; events = a.events ++ told }) ≡ Ends e s) t.2 h) ∙ ap (λ es. a.events ++ es) t.0 ∙ append-nil a.events
steady_ends c test (Moves said told to line xs) a e s (inr (inr t)) h = absurd (all_fit_go c test line xs _ e s t h)

module _ (test : Test) where
  abbrev Calm : Move CodeCore → Type 0
  Calm m = Steady test m

  store_calm : (x : Variable) (line : ℕ) (v : Option Datum) (xs : List Operand) (k : CodeCore) → Calm (store_in x line v xs k)
  store_calm (Global name) line v xs k = inr (inl (refl, (Global name, v), refl))
  store_calm (Own body name) line v xs k = inr (inl (refl, (Own body name, v), refl))
  store_calm (Bound former name) line v xs k = inl refl

  whole_calm : (o : Outcome) (line : ℕ) (x : Variable) (xs : List Operand) (k : CodeCore) → Calm (store_whole o line x xs k)
  whole_calm o line x xs k = by_outcome Calm (λ e. tt) o line k (λ v d. store_in x line v xs d) (λ v n e. store_calm x line v xs _)

  taken_calm : (t : Taken) (line : ℕ) (x : Variable) (whole : Option Datum) (at : List Selected) (xs : List Operand) (k : CodeCore) → Calm (take_from t line x whole at xs k)
  taken_calm (TakesOut small v) line x whole at xs k = whole_calm _ line x (Result v ∷ xs) k
  taken_calm IsEmpty line x whole at xs k = inl refl
  taken_calm (CannotTake fault) line x whole at xs k = tt

  alter_calm : (a : Alteration) (line : ℕ) (x : Variable) (whole : Option Datum) (at : List Selected) (xs : List Operand) (k : CodeCore) → Calm (alter a line x whole at xs k)
  alter_calm Putting line x whole at xs k = by_top Calm (λ e. tt) xs _ (λ v rest. whole_calm _ line x rest k)
  alter_calm (Combining o) line x whole at xs k = by_top Calm (λ e. tt) xs _ (λ v rest. whole_calm _ line x rest k)
  alter_calm (TakingOut t) line x whole at xs k = by_outcome Calm (λ e. tt) (part_at_all at whole k.world.left) line k (λ part d. take_from (take_out t part) line x whole at xs d) (λ part n e. taken_calm (take_out t part) line x whole at xs _)

  begin_calm : (s : Started) (b : Begin) (line : ℕ) (xs : List Operand) (k : CodeCore) → Calm (begin_over s b line xs k)
  begin_calm (Starts items) b line xs k = inl refl
  begin_calm (Refuses fault) b line xs k = tt

  next_calm : (to : ℕ) (xs : List Operand) (k : CodeCore) → Calm (next_or to xs k)
  next_calm to [] k = tt
  next_calm to (Result v ∷ xs) k = tt
  next_calm to (Collecting o got ∷ xs) k = tt
  next_calm to (Iterator [] ∷ xs) k = inl refl
  next_calm to (Iterator (One v ∷ items) ∷ xs) k = by_turn Calm (λ e. tt) k _ (λ n. inl refl)
  next_calm to (Iterator (Two v w ∷ items) ∷ xs) k = tt
  next_calm to (PairIterator [] ∷ xs) k = inl refl
  next_calm to (PairIterator (One v ∷ items) ∷ xs) k = tt
  next_calm to (PairIterator (Two v w ∷ items) ∷ xs) k = by_turn Calm (λ e. tt) k _ (λ n. inl refl)

  added_calm : (a : Added) (line : ℕ) (k : CodeCore) → Calm (go_added a line k)
  added_calm (Adds xs) line k = inl refl
  added_calm (Refused fault) line k = tt
  added_calm Nowhere line k = tt

  apart_calm : (n : ℕ) (v : Option Datum) (line : ℕ) (xs : List Operand) (k : CodeCore) → Calm (take_apart n v line xs k)
  apart_calm n None line xs k = tt
  apart_calm n (Some (bool b)) line xs k = tt
  apart_calm n (Some (int z)) line xs k = tt
  apart_calm n (Some (text t)) line xs k = tt
  apart_calm n (Some (atom a)) line xs k = tt
  apart_calm n (Some (tuple ps)) line xs k = inl refl
  apart_calm n (Some (set ms)) line xs k = tt

  read_calm : (r : Reading) (line : ℕ) (k : CodeCore) → Calm (push_read r line k)
  read_calm (Denotes v rest) line k = inl refl
  read_calm AtEnd line k = inl refl
  read_calm NotForm line k = tt
  read_calm TooWide line k = tt
  read_calm TooDeep line k = tt

  decides_calm : (o : Connective) (to : ℕ) (v : Option Datum) (line : ℕ) (xs : List Operand) (k : CodeCore) → Calm (decides o to v line xs k)
  decides_calm And to v line xs k = by_branch Calm (λ e. tt) v line _ _ (inl refl) (inl refl)
  decides_calm Or to v line xs k = by_branch Calm (λ e. tt) v line _ _ (inl refl) (inl refl)
  decides_calm Implies to v line xs k = by_branch Calm (λ e. tt) v line _ _ (inl refl) (inl refl)

  call_calm : (n : ℕ) (b : Option Body) (line : ℕ) (k : CodeCore) → ((d : Body) → b ≡ Some d → (vs : List (Option Datum)) → AllFit test (bindings n d.parameters vs)) → Calm (call_body n b line k)
  call_calm n None line k f = tt
  call_calm n (Some b) line k f = by_popped Calm (λ e. tt) (popped (length b.parameters) [] k.now.operands) _ (λ vs rest e. by_turn Calm (λ e. tt) k _ (λ m. inr (inr (f b refl vs))))

  return_calm : (b : Option Body) (v : Option Datum) (k : CodeCore) (cs : List Activation) → Calm (return_to b v k cs)
  return_calm None v k cs = tt
  return_calm (Some b) v k [] = tt
  return_calm (Some b) v k (c ∷ cs) = by_rest Calm (λ e. tt) (handed_back k.now.body b.parameters k.now.own (Result v ∷ c.operands)) _ (λ xs. inl refl)

  back_calm : (line : ℕ) (cs : List Copy) (k : CodeCore) → Calm (go_back line cs k)
  back_calm line [] k = tt
  back_calm line (c ∷ older) k = by_turn Calm (λ e. tt) k _ (λ n. inl refl)

  forget_calm : (line : ℕ) (cs : List Copy) (k : CodeCore) → Calm (forget_kept line cs k)
  forget_calm line [] k = tt
  forget_calm line (c ∷ older) k = inl refl

  instr_calm : (c : Code) (line : ℕ) (i : Instr) (k : CodeCore) → BindingsFit c test i → Calm (do_instr c line i k)
  instr_calm c line (Push v) k f = inl refl
  instr_calm c line PushAtom k f = by_turn Calm (λ e. tt) k _ (λ n. inl refl)
  instr_calm c line PushEof k f = inl refl
  instr_calm c line (Load x) k f = by_held Calm (λ e. tt) (held x k) _ (λ v e. inl refl)
  instr_calm c line (Take x) k f = by_held Calm (λ e. tt) (held x k) _ (λ v e. inl refl)
  instr_calm c line (StoreIn x) k f = by_top Calm (λ e. tt) k.now.operands _ (λ v xs. store_calm x line v xs k)
  instr_calm c line (Operate o n) k f = by_popped Calm (λ e. tt) (popped n [] k.now.operands) _ (λ vs xs e. by_outcome Calm (λ e. tt) (op_of o vs k.world.left) line k _ (λ v m e. inl refl))
  instr_calm c line (Alter a x bs) k f = by_popped Calm (λ e. tt) (popped (length bs) [] k.now.operands) _ (λ vs xs e. by_held Calm (λ e. tt) (held x k) _ (λ whole i. alter_calm a line x whole (selected_by bs vs) xs k))
  instr_calm c line (Decides o to) k f = by_top Calm (λ e. tt) k.now.operands _ (λ v xs. decides_calm o to v line xs k)
  instr_calm c line TestBool k f = by_top Calm (λ e. tt) k.now.operands _ (λ v xs. by_branch Calm (λ e. tt) v line _ _ (inl refl) (inl refl))
  instr_calm c line (Unless to) k f = by_top Calm (λ e. tt) k.now.operands _ (λ v xs. by_branch Calm (λ e. tt) v line _ _ (inl refl) (inl refl))
  instr_calm c line (Jump to) k f = inl refl
  instr_calm c line DropTop k f = by_top Calm (λ e. tt) k.now.operands _ (λ v xs. inl refl)
  instr_calm c line DupTop k f = by_top Calm (λ e. tt) k.now.operands _ (λ v xs. inl refl)
  instr_calm c line (PartsOf n) k f = by_top Calm (λ e. tt) k.now.operands _ (λ v xs. apart_calm n v line xs k)
  instr_calm c line (BeginOver b n) k f = by_popped Calm (λ e. tt) (popped n [] k.now.operands) _ (λ vs xs e. begin_calm (items_of b vs) b line xs k)
  instr_calm c line (NextOr to) k f = next_calm to k.now.operands k
  instr_calm c line (BeginOf o) k f = inl refl
  instr_calm c line (AddBelow n) k f = by_top Calm (λ e. tt) k.now.operands _ (λ v xs. added_calm (added n v xs) line k)
  instr_calm c line (LeaveAll n) k f = by_rest Calm (λ e. tt) (without_iterators n k.now.operands) _ (λ xs. inl refl)
  instr_calm c line PayRound k f = by_turn Calm (λ e. tt) k _ (λ n. inl refl)
  instr_calm c line (CallBody n) k f = call_calm n (slice_get c.bodies n) line k f
  instr_calm c line ReturnTop k f = by_top Calm (λ e. tt) k.now.operands _ (λ v xs. return_calm (slice_get c.bodies k.now.body) v k k.callers)
  instr_calm c line KeepAll k f = inl refl
  instr_calm c line GoBack k f = back_calm line k.kept k
  instr_calm c line ForgetKept k f = forget_calm line k.kept k
  instr_calm c line (PrintTop n) k f = by_popped Calm (λ e. tt) (popped n [] k.now.operands) _ (λ vs xs e. inl refl)
  instr_calm c line ReadOne k f = read_calm (read_denotation k.world.input) line k
  instr_calm c line StopRun k f = tt

pub ends_tell_nothing : EndsTellNothing
ends_tell_nothing c test line i a e s f h = steady_ends c test (do_instr c line i a.core) a e s (instr_calm test c line i a.core f) h
