-- Instructions with fewer and with more turns left.
use Rattle.std.proofs.Common.{arith, ◌≡◌, refl, ℕ, suc, false, List, [], ◌∷◌, Option, Some, None}
use Rattle.std.specs.Prelude.{◌≤◌, ◌<◌, ◌+◌, length, slice_get}
use Rattle.setl_value.specs.Datum.{Datum, bool, int, text, atom, tuple, set}
use Rattle.setl_operators_table.specs.Operators.{op_of}
use Rattle.setl_operators_table.specs.Outcome.{Outcome}
use Rattle.setl_operators_turns.specs.Operators.{op_keeps}
use Rattle.setl_operators_turns.specs.Outcomes.{Keeps}
use Rattle.setl_text.specs.Reading.{Reading, Denotes, AtEnd, NotForm, TooWide, TooDeep, read_denotation}
use Rattle.setl_model_runs.specs.Variable.{Variable, Global, Own, Bound}
use Rattle.setl_model_runs.specs.Events.{Called, Back}
use Rattle.setl_model_runs.specs.Run.{Move, Moves}
use Rattle.setl_program.specs.Program.{Begin}
use Rattle.setl_program.specs.declared.kinds.Connective.{Connective}
use Rattle.setl_program.specs.declared.kinds.Connective.TheVariants.{And, Or, Implies}
use Rattle.setl_model.specs.Calls.{bindings}
use Rattle.setl_model.specs.Core.{One, Two, Selected}
use Rattle.setl_model.specs.Iterations.{Started, Starts, Refuses, items_of}
use Rattle.setl_model.specs.Places.{Taken, TakesOut, IsEmpty, CannotTake, take_out, part_at_all}
use Rattle.setl_model_turns.specs.PlaceLaws.{parts_keep, wholes_keep, combined_keep}
use Rattle.setl_code.specs.Code.{Alteration, Putting, Combining, TakingOut, Instr, Push, PushAtom, PushEof, Load, Take, StoreIn, Operate, Alter, Decides, TestBool, Unless, Jump, DropTop, DupTop, PartsOf, BeginOver, NextOr, BeginOf, AddBelow, LeaveAll, PayRound, CallBody, ReturnTop, KeepAll, GoBack, ForgetKept, PrintTop, ReadOne, StopRun, Step, Body, Code}
use Rattle.setl_code.specs.CodeCore.{Gone, Operand, Result, Iterator, PairIterator, Collecting, popped, without_iterators, Activation, Copy, CodeCore, held, write, cleared, variables_of}
use Rattle.setl_code.specs.Machine.{go_to, next, store_in, selected_by, store_whole, take_from, alter, begin_over, next_or, Added, Adds, Refused, Nowhere, added, go_added, take_apart, call_body, handed_back, return_to, keep_all, go_back, forget_kept, push_read, print_values, decides, do_instr, do_step}
use Rattle.setl_code_turns.specs.Laws.{with_more}
use Rattle.setl_code_turns.proofs.Moves.{Follows, GoesOn, after_a_turn, after_outcome, deciding, on_the_top, on_those_popped, on_what_is_held, on_the_rest}

-- what a variable holds doesn't rest on the turns
same_held : (x : Variable) (d : ℕ) (k : CodeCore) → held x (with_more d k) ≡ held x k
same_held (Global name) d k = refl
same_held (Own body name) d k = refl
same_held (Bound former name) d k = refl

module _ (d : ℕ) (some : 0 < d) where
  going : (at : ℕ) (xs : List Operand) → GoesOn d (go_to at xs)
  going at xs k = (refl, omega arith)

  nexting : (xs : List Operand) → GoesOn d (next xs)
  nexting xs k = (refl, omega arith)

  storing : (x : Variable) (line : ℕ) (v : Option Datum) (xs : List Operand) → GoesOn d (store_in x line v xs)
  storing (Global name) line v xs k = (refl, omega arith)
  storing (Own body name) line v xs k = (refl, omega arith)
  storing (Bound former name) line v xs k = (refl, omega arith)

  -- the slot is read, and nothing is left there
  taking : (x : Variable) (v : Option Datum) → GoesOn d (λ k. next (Result v ∷ k.now.operands) (write x Gone k))
  taking (Global name) v k = (refl, omega arith)
  taking (Own body name) v k = (refl, omega arith)
  taking (Bound former name) v k = (refl, omega arith)

  reading_held : (x : Variable) (f : Option Datum → CodeCore → Move CodeCore) → ((v : Option Datum) → GoesOn d (f v)) → (k : CodeCore) → Follows k.world.left d (Rattle.setl_code.specs.Machine.on_held (held x k) (λ v. f v k)) (Rattle.setl_code.specs.Machine.on_held (held x (with_more d k)) (λ v. f v (with_more d k)))
  reading_held x f on k = rw (same_held x d k) (on_what_is_held k.world.left d (held x k) (λ v. f v k) (λ v. f v (with_more d k)) (λ v. on v k))

  -- ---- updates

  storing_whole : (o o' : Outcome) (line : ℕ) (x : Variable) (xs : List Operand) (k : CodeCore) → Keeps k.world.left o o' → Follows k.world.left d (store_whole o line x xs k) (store_whole o' line x xs (with_more d k))
  storing_whole o o' line x xs k h = after_outcome d some o o' line (λ new d. store_in x line new xs d) (λ v. storing x line v xs) k h

  more : (k : CodeCore) → k.world.left ≤ k.world.left + d
  more k = omega arith

  taking_from : (t : Taken) (line : ℕ) (x : Variable) (whole : Option Datum) (at : List Selected) (xs : List Operand) → GoesOn d (take_from t line x whole at xs)
  taking_from (TakesOut small v) line x whole at xs k = storing_whole _ _ line x (Result v ∷ xs) k (wholes_keep at whole (Some small) k.world.left (k.world.left + d) (more k))
  taking_from IsEmpty line x whole at xs k = (refl, omega arith)
  taking_from (CannotTake fault) line x whole at xs k = refl

  altering : (a : Alteration) (line : ℕ) (x : Variable) (whole : Option Datum) (at : List Selected) (xs : List Operand) → GoesOn d (alter a line x whole at xs)
  altering Putting line x whole at xs k = on_the_top k.world.left d xs _ _ (λ v rest. storing_whole _ _ line x rest k (wholes_keep at whole v k.world.left (k.world.left + d) (more k)))
  altering (Combining o) line x whole at xs k = on_the_top k.world.left d xs _ _ (λ v rest. storing_whole _ _ line x rest k (combined_keep o v at whole k.world.left (k.world.left + d) (more k)))
  altering (TakingOut t) line x whole at xs k =
      after_outcome d some (part_at_all at whole k.world.left) (part_at_all at whole (k.world.left + d)) line (λ part d. take_from (take_out t part) line x whole at xs d) (λ part. taking_from (take_out t part) line x whole at xs) k (parts_keep at whole k.world.left (k.world.left + d) (more k))

  -- ---- iterators, collections and tuples

  beginning : (s : Started) (b : Begin) (line : ℕ) (xs : List Operand) → GoesOn d (begin_over s b line xs)
  beginning (Starts items) b line xs k = (refl, omega arith)
  beginning (Refuses fault) b line xs k = refl

  iterating : (to : ℕ) (xs : List Operand) → GoesOn d (next_or to xs)
  iterating to [] k = refl
  iterating to (Iterator [] ∷ xs) k = (refl, omega arith)
  iterating to (Iterator (One v ∷ items) ∷ xs) k = after_a_turn d some (λ e. next (Result v ∷ Iterator items ∷ xs) e) (nexting (Result v ∷ Iterator items ∷ xs)) k
  iterating to (Iterator (Two a v ∷ items) ∷ xs) k = refl
  iterating to (PairIterator [] ∷ xs) k = (refl, omega arith)
  iterating to (PairIterator (Two a v ∷ items) ∷ xs) k = after_a_turn d some (λ e. next (Result a ∷ Result v ∷ PairIterator items ∷ xs) e) (nexting (Result a ∷ Result v ∷ PairIterator items ∷ xs)) k
  iterating to (PairIterator (One v ∷ items) ∷ xs) k = refl
  iterating to (Result v ∷ xs) k = refl
  iterating to (Collecting o got ∷ xs) k = refl

  adding : (a : Added) (line : ℕ) → GoesOn d (go_added a line)
  adding (Adds xs) line k = (refl, omega arith)
  adding (Refused fault) line k = refl
  adding Nowhere line k = refl

  parting : (n : ℕ) (v : Option Datum) (line : ℕ) (xs : List Operand) → GoesOn d (take_apart n v line xs)
  parting n (Some (tuple ps)) line xs k = (refl, omega arith)
  parting n None line xs k = refl
  parting n (Some (bool z)) line xs k = refl
  parting n (Some (int z)) line xs k = refl
  parting n (Some (text z)) line xs k = refl
  parting n (Some (atom z)) line xs k = refl
  parting n (Some (set z)) line xs k = refl

  -- ---- calls and backtracking

  calling : (n : ℕ) (b : Option Body) (line : ℕ) → GoesOn d (call_body n b line)
  calling n None line k = refl
  calling n (Some b) line k =
      on_those_popped k.world.left d (popped (length b.parameters) [] k.now.operands) _ _
      (λ vs rest. after_a_turn d some
      (λ e. Moves [] (Called line b.name ∷ [])
      (record e {
        now = record { body = n; at = 0; own = cleared (variables_of n b); operands = [] };
        callers = record e.now { at = suc e.now.at; operands = rest } ∷ e.callers;
      })
      line (bindings n b.parameters vs))
      (λ e. (refl, omega arith)) k)

  returning : (b : Option Body) (v : Option Datum) (cs : List Activation) (k : CodeCore) → Follows k.world.left d (return_to b v k cs) (return_to b v (with_more d k) cs)
  returning None v cs k = refl
  returning (Some b) v [] k = refl
  returning (Some b) v (c ∷ cs) k = on_the_rest k.world.left d (handed_back k.now.body b.parameters k.now.own (Result v ∷ c.operands)) _ _ (λ xs. (refl, omega arith))

  going_back : (line : ℕ) (cs : List Copy) → GoesOn d (go_back line cs)
  going_back line [] k = refl
  going_back line (c ∷ older) k =
      after_a_turn d some
      (λ e. Moves [] (Back ∷ [])
      (record e {
        globals = c.globals;
        now = record c.now { operands = Result (Some (bool false)) ∷ c.now.operands };
        callers = c.callers;
        kept = older;
      })
      0 [])
      (λ e. (refl, omega arith)) k

  forgetting : (line : ℕ) (cs : List Copy) → GoesOn d (forget_kept line cs)
  forgetting line [] k = refl
  forgetting line (c ∷ older) k = (refl, omega arith)

  -- ---- reading

  reading : (r : Reading) (line : ℕ) → GoesOn d (push_read r line)
  reading (Denotes v rest) line k = (refl, omega arith)
  reading AtEnd line k = (refl, omega arith)
  reading NotForm line k = refl
  reading TooWide line k = refl
  reading TooDeep line k = refl

  -- ---- all of them

  connecting : (o : Connective) (to : ℕ) (v : Option Datum) (line : ℕ) (xs : List Operand) → GoesOn d (decides o to v line xs)
  connecting And to v line xs k = deciding k.world.left d v line _ _ _ _ (refl, omega arith) (refl, omega arith)
  connecting Or to v line xs k = deciding k.world.left d v line _ _ _ _ (refl, omega arith) (refl, omega arith)
  connecting Implies to v line xs k = deciding k.world.left d v line _ _ _ _ (refl, omega arith) (refl, omega arith)

  doing : (c : Code) (line : ℕ) (i : Instr) → GoesOn d (do_instr c line i)
  doing c line (Push v) k = (refl, omega arith)
  doing c line PushAtom k = after_a_turn d some (λ e. next (Result (Some (atom e.world.atom)) ∷ e.now.operands) (record e { world = record e.world { atom = e.world.atom + 1 } })) (λ e. (refl, omega arith)) k
  doing c line PushEof k = (refl, omega arith)
  doing c line (Load x) k = reading_held x (λ v e. next (Result v ∷ e.now.operands) e) (λ v e. (refl, omega arith)) k
  doing c line (Take x) k = reading_held x (λ v e. next (Result v ∷ e.now.operands) (write x Gone e)) (λ v. taking x v) k
  doing c line (StoreIn x) k = on_the_top k.world.left d k.now.operands _ _ (λ v xs. storing x line v xs k)
  doing c line (Operate o n) k =
      on_those_popped k.world.left d (popped n [] k.now.operands) _ _
      (λ vs xs. after_outcome d some (op_of o vs k.world.left) (op_of o vs (k.world.left + d)) line (λ v e. next (Result v ∷ xs) e) (λ v. nexting (Result v ∷ xs)) k (op_keeps o vs k.world.left (k.world.left + d) (more k)))
  doing c line (Alter a x bs) k =
      on_those_popped k.world.left d (popped (length bs) [] k.now.operands) _ _
      (λ vs xs. reading_held x (λ whole e. alter a line x whole (selected_by bs vs) xs e) (λ whole. altering a line x whole (selected_by bs vs) xs) k)
  doing c line (Decides o to) k = on_the_top k.world.left d k.now.operands _ _ (λ v xs. connecting o to v line xs k)
  doing c line TestBool k = on_the_top k.world.left d k.now.operands _ _ (λ v xs. deciding k.world.left d v line _ _ _ _ (refl, omega arith) (refl, omega arith))
  doing c line (Unless to) k = on_the_top k.world.left d k.now.operands _ _ (λ v xs. deciding k.world.left d v line _ _ _ _ (refl, omega arith) (refl, omega arith))
  doing c line (Jump to) k = (refl, omega arith)
  doing c line DropTop k = on_the_top k.world.left d k.now.operands _ _ (λ v xs. (refl, omega arith))
  doing c line DupTop k = on_the_top k.world.left d k.now.operands _ _ (λ v xs. (refl, omega arith))
  doing c line (PartsOf n) k = on_the_top k.world.left d k.now.operands _ _ (λ v xs. parting n v line xs k)
  doing c line (BeginOver b n) k = on_those_popped k.world.left d (popped n [] k.now.operands) _ _ (λ vs xs. beginning (items_of b vs) b line xs k)
  doing c line (NextOr to) k = iterating to k.now.operands k
  doing c line (BeginOf o) k = (refl, omega arith)
  doing c line (AddBelow n) k = on_the_top k.world.left d k.now.operands _ _ (λ v xs. adding (added n v xs) line k)
  doing c line (LeaveAll n) k = on_the_rest k.world.left d (without_iterators n k.now.operands) _ _ (λ xs. (refl, omega arith))
  doing c line PayRound k = after_a_turn d some (λ e. next e.now.operands e) (λ e. (refl, omega arith)) k
  doing c line (CallBody n) k = calling n (slice_get c.bodies n) line k
  doing c line ReturnTop k = on_the_top k.world.left d k.now.operands _ _ (λ v xs. returning (slice_get c.bodies k.now.body) v k.callers k)
  doing c line KeepAll k = (refl, omega arith)
  doing c line GoBack k = going_back line k.kept k
  doing c line ForgetKept k = forgetting line k.kept k
  doing c line (PrintTop n) k = on_those_popped k.world.left d (popped n [] k.now.operands) _ _ (λ vs xs. (refl, omega arith))
  doing c line ReadOne k = reading (read_denotation k.world.input) line k
  doing c line StopRun k = refl

  pub stepping : (c : Code) (s : Option Step) → GoesOn d (do_step c s)
  stepping c None k = refl
  stepping c (Some s) k = doing c s.0 s.1 k
