-- The events of a step.
use Rattle.std.proofs.Common.{◌≡◌, ◌∙◌, ℕ, ◌-◌, Bool, true, false, List, [], ◌∷◌, ◌++◌, length, Option, None, Some, refl, sym, ap, subst, append_assoc}
use Rattle.std.proofs.lemmas.List.{append-nil}
use Rattle.std.specs.Prelude.{slice_get, cond}
use Rattle.setl_value.specs.Datum.{Datum, bool, int, text, atom, tuple, set}
use Rattle.setl_operators_table.specs.Outcome.{Outcome}
use Rattle.setl_operators_table.specs.Operators.{op_of}
use Rattle.setl_program.specs.declared.kinds.Connective.{Connective}
use Rattle.setl_program.specs.declared.kinds.Connective.TheVariants.{And, Or, Implies}
use Rattle.setl_program.specs.Program.{Begin}
use Rattle.setl_text.specs.Texts.{print_line}
use Rattle.setl_text.specs.Reading.{Reading, Denotes, AtEnd, NotForm, TooWide, TooDeep, read_denotation}
use Rattle.setl_model_runs.specs.Events.{Event, Called, Printed, Back, Forgot, Stored, Stopped, Unfit}
use Rattle.setl_model_runs.specs.Run.{Store, State, Goes, Test, Move, Moves, Halts, if_fits, store_all, stored, settle}
use Rattle.setl_model_runs.specs.Variable.{Variable, Global, Own, Bound, is_variable}
use Rattle.setl_model_runs.specs.VariableLaws.{variable_itself}
use Rattle.setl_model.specs.Calls.{bindings}
use Rattle.setl_model.specs.Core.{One, Two, Selected}
use Rattle.setl_model.specs.Iterations.{Started, Starts, Refuses, items_of}
use Rattle.setl_model.specs.Places.{Taken, TakesOut, IsEmpty, CannotTake, part_at_all, take_out}
use Rattle.setl_code.specs.Code.{Bracket, Alteration, Putting, Combining, TakingOut, Body, Code, Instr, Push, PushAtom, PushEof, Load, Take, StoreIn, Operate, Alter, Decides, TestBool, Unless, Jump, DropTop, DupTop, PartsOf, BeginOver, NextOr, BeginOf, AddBelow, LeaveAll, PayRound, CallBody, ReturnTop, KeepAll, GoBack, ForgetKept, PrintTop, ReadOne, StopRun}
use Rattle.setl_code.specs.CodeCore.{Held, There, Cells, held_in, with_held, write, Operand, Result, Iterator, PairIterator, Collecting, popped, without_iterators, Activation, Copy, CodeCore, held}
use Rattle.setl_code.specs.Machine.{on_popped, on_held, store_in, store_whole, take_from, selected_by, alter, begin_over, next_or, Added, Adds, Refused, Nowhere, added, go_added, take_apart, call_body, handed_back, return_to, go_back, forget_kept, push_read, decides, do_instr, machine}
use Rattle.setl_code_events.specs.Told.{value_held, store_told, stores_told, popped_values, takes_none, none_taken, alter_told, call_told, return_told, events_of, EventsAre}
use Rattle.setl_code_events.proofs.Cases.{by_top, by_popped, by_held, by_rest, by_turn, by_outcome, by_branch}

-- ---- moves

-- with these values stored, from left to right
abbrev with_stores : List Store → CodeCore → CodeCore
with_stores [] k = k
with_stores (x ∷ xs) k = with_stores xs (write x.0 (There x.1) k)

-- the events of a move that goes on are these, by the core after it
abbrev TellsBy : (CodeCore → List Event) → Move CodeCore → Type 0
TellsBy f (Moves said told to line xs) = told ++ stores_told line xs ≡ f (with_stores xs to)
TellsBy f (Halts e) = Unit {0}

-- the state after stores that all fit
stores_tell : (c : Code) (test : Test) (line : ℕ) (xs : List Store) (a s : State CodeCore) → store_all (machine c) test line xs a ≡ Goes s → (s.events ≡ a.events ++ stores_told line xs) × (s.core ≡ with_stores xs a.core)
stores_tell c test line [] a s h = let same : a ≡ s = cc in (sym (ap (λ (s : State CodeCore). s.events) same) ∙ sym (append-nil a.events), sym (ap (λ (s : State CodeCore). s.core) same))
stores_tell c test line (x ∷ xs) a s h = go (test x.0 x.1) (stores_tell c test line xs (stored (machine c) line x a) s) h
  where
    go : (b : Bool) → (store_all (machine c) test line xs (stored (machine c) line x a) ≡ Goes s → (s.events ≡ (stored (machine c) line x a).events ++ stores_told line xs) × (s.core ≡ with_stores xs (stored (machine c) line x a).core)) → if_fits b (store_all (machine c) test line xs (stored (machine c) line x a)) (Stopped (Unfit x.0) line) a ≡ Goes s → (s.events ≡ a.events ++ stores_told line (x ∷ xs)) × (s.core ≡ with_stores (x ∷ xs) a.core)
    go true ih h = let more = ih h in (more.0 ∙ append_assoc a.events (Stored line x.0 x.1 ∷ []) (stores_told line xs), more.1)
    go false ih h = absurd (cc)

settled_tells : (c : Code) (test : Test) (f : CodeCore → List Event) (m : Move CodeCore) (a s : State CodeCore) → TellsBy f m → settle (machine c) test a m ≡ Goes s → s.events ≡ a.events ++ f s.core
settled_tells c test f (Moves said told to line xs) a s t h =
    let more = stores_tell c test line xs (record { core = to; out = a.out ++ said; events = a.events ++ told }) s h in more.0 ∙ append_assoc a.events told (stores_told line xs) ∙ ap (λ es. a.events ++ es) (t ∙ ap f (sym more.1))
settled_tells c test f (Halts e) a s t h = absurd (cc)

-- ---- stores

held_written : (g : Cells) (x : Variable) (h : Held) → held_in (with_held g x h) x ≡ h
held_written [] x h = rw (variable_itself x) refl
held_written (b ∷ bs) x h = go (is_variable b.0 x) refl (held_written bs x h)
  where
    go : (t : Bool) → is_variable b.0 x ≡ t → held_in (with_held bs x h) x ≡ h → held_in (cond t ((x, h) ∷ bs) (b ∷ with_held bs x h)) x ≡ h
    go true p ih = rw (variable_itself x) refl
    go false p ih = rw p ih

store_tells : (x : Variable) (line : ℕ) (v : Option Datum) (xs : List Operand) (k : CodeCore) → TellsBy (store_told line x) (store_in x line v xs k)
store_tells (Global name) line v xs k = ap (λ h. Stored line (Global name) (value_held h) ∷ []) (sym (held_written k.globals (Global name) (There v)))
store_tells (Own body name) line v xs k = ap (λ h. Stored line (Own body name) (value_held h) ∷ []) (sym (held_written k.now.own (Own body name) (There v)))
store_tells (Bound former name) line v xs k = refl

whole_tells : (o : Outcome) (line : ℕ) (x : Variable) (xs : List Operand) (k : CodeCore) → TellsBy (store_told line x) (store_whole o line x xs k)
whole_tells o line x xs k = by_outcome (TellsBy (store_told line x)) (λ e. tt) o line k (λ v d. store_in x line v xs d) (λ v n e. store_tells x line v xs _)

taken_tells : (t : Taken) (line : ℕ) (x : Variable) (whole : Option Datum) (at : List Selected) (xs : List Operand) (k : CodeCore) → TellsBy (λ d. cond (takes_none t) [] (store_told line x d)) (take_from t line x whole at xs k)
taken_tells (TakesOut small v) line x whole at xs k = whole_tells _ line x (Result v ∷ xs) k
taken_tells IsEmpty line x whole at xs k = refl
taken_tells (CannotTake fault) line x whole at xs k = tt

alter_tells : (a : Alteration) (line : ℕ) (x : Variable) (whole : Option Datum) (at : List Selected) (xs : List Operand) (k : CodeCore) → TellsBy (alter_told a line x whole at k) (alter a line x whole at xs k)
alter_tells Putting line x whole at xs k = by_top (TellsBy (store_told line x)) (λ e. tt) xs _ (λ v rest. whole_tells _ line x rest k)
alter_tells (Combining o) line x whole at xs k = by_top (TellsBy (store_told line x)) (λ e. tt) xs _ (λ v rest. whole_tells _ line x rest k)
alter_tells (TakingOut t) line x whole at xs k =
    by_outcome (TellsBy (alter_told (TakingOut t) line x whole at k)) (λ e. tt) (part_at_all at whole k.world.left) line k (λ part d. take_from (take_out t part) line x whole at xs d)
    (λ part n e. subst (λ o. TellsBy (λ d. cond (none_taken t o) [] (store_told line x d)) (take_from (take_out t part) line x whole at xs (record k { world = record k.world { left = k.world.left - n } }))) (sym e) (taken_tells (take_out t part) line x whole at xs _))

-- ---- the other instructions

-- it tells nothing
abbrev Untold : Move CodeCore → Type 0
Untold m = TellsBy (λ d. []) m

begin_untold : (s : Started) (b : Begin) (line : ℕ) (xs : List Operand) (k : CodeCore) → Untold (begin_over s b line xs k)
begin_untold (Starts items) b line xs k = refl
begin_untold (Refuses fault) b line xs k = tt

next_untold : (to : ℕ) (xs : List Operand) (k : CodeCore) → Untold (next_or to xs k)
next_untold to [] k = tt
next_untold to (Result v ∷ xs) k = tt
next_untold to (Collecting o got ∷ xs) k = tt
next_untold to (Iterator [] ∷ xs) k = refl
next_untold to (Iterator (One v ∷ items) ∷ xs) k = by_turn Untold (λ e. tt) k _ (λ n. refl)
next_untold to (Iterator (Two v w ∷ items) ∷ xs) k = tt
next_untold to (PairIterator [] ∷ xs) k = refl
next_untold to (PairIterator (One v ∷ items) ∷ xs) k = tt
next_untold to (PairIterator (Two v w ∷ items) ∷ xs) k = by_turn Untold (λ e. tt) k _ (λ n. refl)

added_untold : (a : Added) (line : ℕ) (k : CodeCore) → Untold (go_added a line k)
added_untold (Adds xs) line k = refl
added_untold (Refused fault) line k = tt
added_untold Nowhere line k = tt

apart_untold : (n : ℕ) (v : Option Datum) (line : ℕ) (xs : List Operand) (k : CodeCore) → Untold (take_apart n v line xs k)
apart_untold n None line xs k = tt
apart_untold n (Some (bool b)) line xs k = tt
apart_untold n (Some (int z)) line xs k = tt
apart_untold n (Some (text t)) line xs k = tt
apart_untold n (Some (atom a)) line xs k = tt
apart_untold n (Some (tuple ps)) line xs k = refl
apart_untold n (Some (set ms)) line xs k = tt

read_untold : (r : Reading) (line : ℕ) (k : CodeCore) → Untold (push_read r line k)
read_untold (Denotes v rest) line k = refl
read_untold AtEnd line k = refl
read_untold NotForm line k = tt
read_untold TooWide line k = tt
read_untold TooDeep line k = tt

decides_untold : (o : Connective) (to : ℕ) (v : Option Datum) (line : ℕ) (xs : List Operand) (k : CodeCore) → Untold (decides o to v line xs k)
decides_untold And to v line xs k = by_branch Untold (λ e. tt) v line _ _ refl refl
decides_untold Or to v line xs k = by_branch Untold (λ e. tt) v line _ _ refl refl
decides_untold Implies to v line xs k = by_branch Untold (λ e. tt) v line _ _ refl refl

call_tells : (n : ℕ) (b : Option Body) (line : ℕ) (k : CodeCore) → TellsBy (λ d. call_told n b line k) (call_body n b line k)
call_tells n None line k = tt
call_tells n (Some b) line k =
    by_popped (TellsBy (λ d. call_told n (Some b) line k)) (λ e. tt) (popped (length b.parameters) [] k.now.operands) _
    (λ vs rest e. by_turn (TellsBy (λ d. call_told n (Some b) line k)) (λ e. tt) k _ (λ m. ap (λ p. Called line b.name ∷ stores_told line (bindings n b.parameters (popped_values p))) (sym e)))

return_tells : (b : Option Body) (v : Option Datum) (k : CodeCore) (cs : List Activation) → TellsBy (λ d. return_told b) (return_to b v k cs)
return_tells None v k cs = tt
return_tells (Some b) v k [] = tt
return_tells (Some b) v k (c ∷ cs) = by_rest (TellsBy (λ d. return_told (Some b))) (λ e. tt) (handed_back k.now.body b.parameters k.now.own (Result v ∷ c.operands)) _ (λ xs. refl)

back_tells : (line : ℕ) (cs : List Copy) (k : CodeCore) → TellsBy (λ d. Back ∷ []) (go_back line cs k)
back_tells line [] k = tt
back_tells line (c ∷ older) k = by_turn (TellsBy (λ d. Back ∷ [])) (λ e. tt) k _ (λ n. refl)

forget_tells : (line : ℕ) (cs : List Copy) (k : CodeCore) → TellsBy (λ d. Forgot ∷ []) (forget_kept line cs k)
forget_tells line [] k = tt
forget_tells line (c ∷ older) k = refl

alter_in : (a : Alteration) (line : ℕ) (x : Variable) (bs : List Bracket) (k : CodeCore) → TellsBy (alter_told a line x (value_held (held x k)) (selected_by bs (popped_values (popped (length bs) [] k.now.operands))) k) (on_popped (popped (length bs) [] k.now.operands) (λ vs xs. on_held (held x k) (λ whole. alter a line x whole (selected_by bs vs) xs k)))
alter_in a line x bs k =
    let f : List (Option Datum) → Option Datum → CodeCore → List Event = λ vs whole d. alter_told a line x whole (selected_by bs vs) k d in
    by_popped (TellsBy (f (popped_values (popped (length bs) [] k.now.operands)) (value_held (held x k)))) (λ e. tt) (popped (length bs) [] k.now.operands) _
    (λ vs xs e. by_held (TellsBy (f (popped_values (popped (length bs) [] k.now.operands)) (value_held (held x k)))) (λ e. tt) (held x k) _
    (λ whole i. subst (λ p. TellsBy (f (popped_values p) (value_held (held x k))) (alter a line x whole (selected_by bs vs) xs k)) (sym e)
    (subst (λ h. TellsBy (f vs (value_held h)) (alter a line x whole (selected_by bs vs) xs k)) (sym i) (alter_tells a line x whole (selected_by bs vs) xs k))))

instr_tells : (c : Code) (line : ℕ) (i : Instr) (k : CodeCore) → TellsBy (events_of c line i k) (do_instr c line i k)
instr_tells c line (Push v) k = refl
instr_tells c line PushAtom k = by_turn Untold (λ e. tt) k _ (λ n. refl)
instr_tells c line PushEof k = refl
instr_tells c line (Load x) k = by_held Untold (λ e. tt) (held x k) _ (λ v e. refl)
instr_tells c line (Take x) k = by_held Untold (λ e. tt) (held x k) _ (λ v e. refl)
instr_tells c line (StoreIn x) k = by_top (TellsBy (store_told line x)) (λ e. tt) k.now.operands _ (λ v xs. store_tells x line v xs k)
instr_tells c line (Operate o n) k = by_popped Untold (λ e. tt) (popped n [] k.now.operands) _ (λ vs xs e. by_outcome Untold (λ e. tt) (op_of o vs k.world.left) line k _ (λ v m e. refl))
instr_tells c line (Alter a x bs) k = alter_in a line x bs k
instr_tells c line (Decides o to) k = by_top Untold (λ e. tt) k.now.operands _ (λ v xs. decides_untold o to v line xs k)
instr_tells c line TestBool k = by_top Untold (λ e. tt) k.now.operands _ (λ v xs. by_branch Untold (λ e. tt) v line _ _ refl refl)
instr_tells c line (Unless to) k = by_top Untold (λ e. tt) k.now.operands _ (λ v xs. by_branch Untold (λ e. tt) v line _ _ refl refl)
instr_tells c line (Jump to) k = refl
instr_tells c line DropTop k = by_top Untold (λ e. tt) k.now.operands _ (λ v xs. refl)
instr_tells c line DupTop k = by_top Untold (λ e. tt) k.now.operands _ (λ v xs. refl)
instr_tells c line (PartsOf n) k = by_top Untold (λ e. tt) k.now.operands _ (λ v xs. apart_untold n v line xs k)
instr_tells c line (BeginOver b n) k = by_popped Untold (λ e. tt) (popped n [] k.now.operands) _ (λ vs xs e. begin_untold (items_of b vs) b line xs k)
instr_tells c line (NextOr to) k = next_untold to k.now.operands k
instr_tells c line (BeginOf o) k = refl
instr_tells c line (AddBelow n) k = by_top Untold (λ e. tt) k.now.operands _ (λ v xs. added_untold (added n v xs) line k)
instr_tells c line (LeaveAll n) k = by_rest Untold (λ e. tt) (without_iterators n k.now.operands) _ (λ xs. refl)
instr_tells c line PayRound k = by_turn Untold (λ e. tt) k _ (λ n. refl)
instr_tells c line (CallBody n) k = call_tells n (slice_get c.bodies n) line k
instr_tells c line ReturnTop k = by_top (TellsBy (λ d. return_told (slice_get c.bodies k.now.body))) (λ e. tt) k.now.operands _ (λ v xs. return_tells (slice_get c.bodies k.now.body) v k k.callers)
instr_tells c line KeepAll k = refl
instr_tells c line GoBack k = back_tells line k.kept k
instr_tells c line ForgetKept k = forget_tells line k.kept k
instr_tells c line (PrintTop n) k = by_popped (TellsBy (λ d. Printed (print_line (popped_values (popped n [] k.now.operands))) ∷ [])) (λ e. tt) (popped n [] k.now.operands) _ (λ vs xs e. ap (λ p. Printed (print_line (popped_values p)) ∷ []) (sym e))
instr_tells c line ReadOne k = read_untold (read_denotation k.world.input) line k
instr_tells c line StopRun k = tt

pub events_are : EventsAre
events_are c test line i a s h = settled_tells c test (events_of c line i a.core) (do_instr c line i a.core) a s (instr_tells c line i a.core) h
