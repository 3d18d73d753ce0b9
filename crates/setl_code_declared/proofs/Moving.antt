-- Moves between cores that fit.
use Rattle.std.specs.Prelude.{◌≡◌, ℕ, zero, suc, ◌+◌, ◌-◌, Bool, true, false, List, [], ◌∷◌, ◌++◌, length, slice_get, Option, Some, None, refl}
use Rattle.std.specs.List.{AllByRecursion}
use Rattle.std.proofs.Common.{ap, sym, ◌∙◌, subst}
use Rattle.setl_value.specs.Datum.{Datum, bool, int, text, atom, tuple, set, part_list}
use Rattle.setl_operators_table.specs.Operators.{op_of}
use Rattle.setl_operators_table.specs.Outcome.{Outcome, Gives, Fails, Overspends}
use Rattle.setl_text.specs.Reading.{Reading, Denotes, AtEnd, NotForm, TooWide, TooDeep, read_denotation}
use Rattle.setl_modes.specs.Fits.{is_taken}
use Rattle.setl_model_runs.specs.Run.{Store, Move, Moves, Halts, State, Next, Goes, Ends, stored, if_fits, store_all, settle, step, and_then, run}
use Rattle.setl_model_runs.specs.Events.{Event, Called, Returned, Back, End, Stopped, Unfit}
use Rattle.setl_model_runs.specs.Turns.{left_after}
use Rattle.setl_model_runs.specs.Variable.{Variable, Global, Own, Bound}
use Rattle.setl_program.specs.Program.{Begin, Parameter}
use Rattle.setl_program.specs.declared.kinds.Connective.{Connective}
use Rattle.setl_program.specs.declared.kinds.Connective.TheVariants.{And, Or, Implies}
use Rattle.setl_model.specs.Core.{Item, One, Two, Selected}
use Rattle.setl_model.specs.World.{branch, go_with}
use Rattle.setl_model.specs.Step.{test_of, declared_mode}
use Rattle.setl_model.specs.Calls.{bindings}
use Rattle.setl_model.specs.Iterations.{Started, Starts, Refuses, items_of}
use Rattle.setl_model.specs.Places.{with_part_at_all, part_at_all, combined, Taken, TakesOut, IsEmpty, CannotTake, take_out}
use Rattle.setl_code.specs.Code.{Bracket, Alteration, Putting, Combining, TakingOut, Instr, Push, PushAtom, PushEof, Load, Take, StoreIn, Operate, Alter, Decides, TestBool, Unless, Jump, DropTop, DupTop, PartsOf, BeginOver, NextOr, BeginOf, AddBelow, LeaveAll, PayRound, CallBody, ReturnTop, KeepAll, GoBack, ForgetKept, PrintTop, ReadOne, StopRun, Step, Body, Code}
use Rattle.setl_code.specs.CodeCore.{Held, There, Gone, Operand, Result, Iterator, PairIterator, Collecting, value_of, Popped, Pops, Lacks, popped, without_iterators, cleared, variables_of, Activation, Copy, CodeCore, holding, held, write}
use Rattle.setl_code.specs.Machine.{next, go_to, on_value, on_top, on_popped, on_held, on_rest, turn, with_outcome, store_in, selected_by, store_whole, take_from, alter, iterator, begin_over, next_or, Added, Adds, Refused, Nowhere, added, go_added, first_parts, take_apart, call_body, handed_back, return_to, keep_all, go_back, forget_kept, push_read, print_values, decides, do_instr, do_step, fetch, machine}
use Rattle.setl_code_declared.specs.Fitting.{Modes, IsFitting, CellsFit, ActivationsFit, CopyFits, Fitting, NoFormers}
use Rattle.setl_code_declared.specs.Laws.{RunsFit}
use Rattle.setl_code_declared.proofs.Cells.{cleared_fit, write_fits}

-- a move leads to a core that fits; its stores are tested behind it
abbrev pub MoveFits : Modes → Move CodeCore → Type 0
MoveFits modes (Moves said told to line xs) = Fitting modes to
MoveFits modes (Halts e) = Unit {0}

abbrev last_core : Next CodeCore → CodeCore
last_core (Goes s) = s.core
last_core (Ends e s) = s.core

no_state : (e : End) (s t : State CodeCore) → Ends e s ≡ Goes t → ⊥
no_state e s t h = cc

-- ---- stores

store_all_fit : (modes : Modes) (c : Code) (line : ℕ) (xs : List Store) (s t : State CodeCore) → Fitting modes s.core → store_all (machine c) (test_of modes true) line xs s ≡ Goes t → Fitting modes t.core
store_all_fit modes c line [] s t f e = subst (Fitting modes) (ap last_core e) f
store_all_fit modes c line (x ∷ xs) s t f e = go (is_taken (declared_mode modes x.0) x.1) refl (store_all_fit modes c line xs (stored (machine c) line x s) t) e
  where
    go : (b : Bool) → is_taken (declared_mode modes x.0) x.1 ≡ b
        → (Fitting modes (write x.0 (There x.1) s.core) → store_all (machine c) (test_of modes true) line xs (stored (machine c) line x s) ≡ Goes t → Fitting modes t.core)
        → if_fits b (store_all (machine c) (test_of modes true) line xs (stored (machine c) line x s)) (Stopped (Unfit x.0) line) s ≡ Goes t → Fitting modes t.core
    go true h rest g = rest (write_fits modes x.0 (There x.1) s.core f h) g
    go false h rest g = absurd (no_state (Stopped (Unfit x.0) line) s t g)

settle_fits : (modes : Modes) (c : Code) (s t : State CodeCore) (m : Move CodeCore) → MoveFits modes m → settle (machine c) (test_of modes true) s m ≡ Goes t → Fitting modes t.core
settle_fits modes c s t (Moves said told to line xs) f e = store_all_fit modes c line xs (record { core = to; out = s.out ++ said; events = s.events ++ told }) t f e
settle_fits modes c s t (Halts h) f e = absurd (no_state h s t e)

-- ---- going on

value_fits : (modes : Modes) (o : Option (Option Datum)) (f : Option Datum → Move CodeCore) → ((v : Option Datum) → MoveFits modes (f v)) → MoveFits modes (on_value o f)
value_fits modes None f h = tt
value_fits modes (Some v) f h = h v

top_fits : (modes : Modes) (xs : List Operand) (f : Option Datum → List Operand → Move CodeCore) → ((v : Option Datum) (ys : List Operand) → MoveFits modes (f v ys)) → MoveFits modes (on_top xs f)
top_fits modes [] f h = tt
top_fits modes (o ∷ xs) f h = value_fits modes (value_of o) (λ v. f v xs) (λ v. h v xs)

popped_fits : (modes : Modes) (p : Popped) (f : List (Option Datum) → List Operand → Move CodeCore) → ((vs : List (Option Datum)) (ys : List Operand) → MoveFits modes (f vs ys)) → MoveFits modes (on_popped p f)
popped_fits modes Lacks f h = tt
popped_fits modes (Pops vs xs) f h = h vs xs

held_goes : (modes : Modes) (p : Held) (f : Option Datum → Move CodeCore) → ((v : Option Datum) → MoveFits modes (f v)) → MoveFits modes (on_held p f)
held_goes modes Gone f h = tt
held_goes modes (There v) f h = h v

rest_fits : (modes : Modes) (o : Option (List Operand)) (f : List Operand → Move CodeCore) → ((xs : List Operand) → MoveFits modes (f xs)) → MoveFits modes (on_rest o f)
rest_fits modes None f h = tt
rest_fits modes (Some xs) f h = h xs

-- what holds of each number of turns left
turn_fits : (modes : Modes) (k : CodeCore) (f : CodeCore → Move CodeCore) → ((n : ℕ) → MoveFits modes (f (record k { world = record k.world { left = n } }))) → MoveFits modes (turn k f)
turn_fits modes k f h = go (left_after 1 k.world.left)
  where
    go : (o : Option ℕ) → MoveFits modes (go_with holding o k f)
    go None = tt
    go (Some n) = h n

outcome_fits : (modes : Modes) (o : Outcome) (line : ℕ) (k : CodeCore) (f : Option Datum → CodeCore → Move CodeCore) → ((v : Option Datum) (n : ℕ) → MoveFits modes (f v (record k { world = record k.world { left = n } }))) → MoveFits modes (with_outcome o line k f)
outcome_fits modes (Gives v n) line k f h = h v (k.world.left - n)
outcome_fits modes (Fails fault) line k f h = tt
outcome_fits modes Overspends line k f h = tt

branch_fits : (modes : Modes) (v : Option Datum) (line : ℕ) (m n : Move CodeCore) → MoveFits modes m → MoveFits modes n → MoveFits modes (branch v line m n)
branch_fits modes (Some (bool true)) line m n f g = f
branch_fits modes (Some (bool false)) line m n f g = g
branch_fits modes None line m n f g = tt
branch_fits modes (Some (int z)) line m n f g = tt
branch_fits modes (Some (text t)) line m n f g = tt
branch_fits modes (Some (atom a)) line m n f g = tt
branch_fits modes (Some (tuple ps)) line m n f g = tt
branch_fits modes (Some (set ms)) line m n f g = tt

-- ---- instructions

store_in_fits : (modes : Modes) → NoFormers modes → (x : Variable) (line : ℕ) (v : Option Datum) (xs : List Operand) (k : CodeCore) → Fitting modes k → MoveFits modes (store_in x line v xs k)
store_in_fits modes none (Bound former name) line v xs k f =
    write_fits modes (Bound former name) (There v) k f (ap (λ m. is_taken m v) (none former name))
store_in_fits modes none (Global name) line v xs k f = f
store_in_fits modes none (Own body name) line v xs k f = f

whole_fits : (modes : Modes) → NoFormers modes → (o : Outcome) (line : ℕ) (x : Variable) (xs : List Operand) (k : CodeCore) → Fitting modes k → MoveFits modes (store_whole o line x xs k)
whole_fits modes none o line x xs k f = outcome_fits modes o line k (λ new d. store_in x line new xs d) (λ v n. store_in_fits modes none x line v xs (record k { world = record k.world { left = n } }) f)

take_from_fits : (modes : Modes) → NoFormers modes → (t : Taken) (line : ℕ) (x : Variable) (whole : Option Datum) (at : List Selected) (xs : List Operand) (k : CodeCore) → Fitting modes k → MoveFits modes (take_from t line x whole at xs k)
take_from_fits modes none (TakesOut small v) line x whole at xs k f = whole_fits modes none (with_part_at_all at whole (Some small) k.world.left) line x (Result v ∷ xs) k f
take_from_fits modes none IsEmpty line x whole at xs k f = f
take_from_fits modes none (CannotTake fault) line x whole at xs k f = tt

alter_fits : (modes : Modes) → NoFormers modes → (a : Alteration) (line : ℕ) (x : Variable) (whole : Option Datum) (at : List Selected) (xs : List Operand) (k : CodeCore) → Fitting modes k → MoveFits modes (alter a line x whole at xs k)
alter_fits modes none Putting line x whole at xs k f =
    top_fits modes xs (λ v rest. store_whole (with_part_at_all at whole v k.world.left) line x rest k) (λ v ys. whole_fits modes none (with_part_at_all at whole v k.world.left) line x ys k f)
alter_fits modes none (Combining o) line x whole at xs k f =
    top_fits modes xs (λ v rest. store_whole (combined at whole (λ part now. op_of o (part ∷ v ∷ []) now) k.world.left) line x rest k)
    (λ v ys. whole_fits modes none (combined at whole (λ part now. op_of o (part ∷ v ∷ []) now) k.world.left) line x ys k f)
alter_fits modes none (TakingOut t) line x whole at xs k f =
    outcome_fits modes (part_at_all at whole k.world.left) line k (λ part d. take_from (take_out t part) line x whole at xs d)
    (λ v n. take_from_fits modes none (take_out t v) line x whole at xs (record k { world = record k.world { left = n } }) f)

begin_fits : (modes : Modes) (s : Started) (b : Begin) (line : ℕ) (xs : List Operand) (k : CodeCore) → Fitting modes k → MoveFits modes (begin_over s b line xs k)
begin_fits modes (Starts items) b line xs k f = f
begin_fits modes (Refuses fault) b line xs k f = tt

next_fits : (modes : Modes) (to : ℕ) (xs : List Operand) (k : CodeCore) → Fitting modes k → MoveFits modes (next_or to xs k)
next_fits modes to [] k f = tt
next_fits modes to (Result v ∷ xs) k f = tt
next_fits modes to (Collecting what got ∷ xs) k f = tt
next_fits modes to (Iterator [] ∷ xs) k f = f
next_fits modes to (Iterator (One v ∷ items) ∷ xs) k f = turn_fits modes k (λ d. next (Result v ∷ Iterator items ∷ xs) d) (λ n. f)
next_fits modes to (Iterator (Two a i ∷ items) ∷ xs) k f = tt
next_fits modes to (PairIterator [] ∷ xs) k f = f
next_fits modes to (PairIterator (One v ∷ items) ∷ xs) k f = tt
next_fits modes to (PairIterator (Two a i ∷ items) ∷ xs) k f = turn_fits modes k (λ d. next (Result a ∷ Result i ∷ PairIterator items ∷ xs) d) (λ n. f)

added_fits : (modes : Modes) (a : Added) (line : ℕ) (k : CodeCore) → Fitting modes k → MoveFits modes (go_added a line k)
added_fits modes (Adds xs) line k f = f
added_fits modes (Refused fault) line k f = tt
added_fits modes Nowhere line k f = tt

apart_fits : (modes : Modes) (n : ℕ) (v : Option Datum) (line : ℕ) (xs : List Operand) (k : CodeCore) → Fitting modes k → MoveFits modes (take_apart n v line xs k)
apart_fits modes n None line xs k f = tt
apart_fits modes n (Some (tuple ps)) line xs k f = f
apart_fits modes n (Some (bool b)) line xs k f = tt
apart_fits modes n (Some (int z)) line xs k f = tt
apart_fits modes n (Some (text t)) line xs k f = tt
apart_fits modes n (Some (atom a)) line xs k f = tt
apart_fits modes n (Some (set ms)) line xs k f = tt

abbrev called : ℕ → Body → ℕ → List (Option Datum) → List Operand → CodeCore → Move CodeCore
called n b line vs rest d = Moves [] (Called line b.name ∷ [])
    (record d {
      now = record { body = n; at = 0; own = cleared (variables_of n b); operands = [] };
      callers = record d.now { at = suc d.now.at; operands = rest } ∷ d.callers;
    })
    line (bindings n b.parameters vs)

call_fits : (modes : Modes) (n : ℕ) (b : Option Body) (line : ℕ) (k : CodeCore) → Fitting modes k → MoveFits modes (call_body n b line k)
call_fits modes n None line k f = tt
call_fits modes n (Some b) line k f =
    popped_fits modes (popped (length b.parameters) [] k.now.operands) (λ vs rest. turn k (called n b line vs rest)) (λ vs rest. turn_fits modes k (called n b line vs rest) (λ left. (f.0, cleared_fit modes (variables_of n b), (f.1, f.2), f.3)))

return_fits : (modes : Modes) (b : Option Body) (v : Option Datum) (k : CodeCore) (cs : List Activation) → Fitting modes k → ActivationsFit modes cs → MoveFits modes (return_to b v k cs)
return_fits modes None v k cs f g = tt
return_fits modes (Some b) v k [] f g = tt
return_fits modes (Some b) v k (c ∷ cs) f g =
    rest_fits modes (handed_back k.now.body b.parameters k.now.own (Result v ∷ c.operands)) (λ xs. Moves [] (Returned b.name ∷ []) (record k { now = record c { operands = xs }; callers = cs }) 0 [])
    (λ xs. (f.0, g.0, g.1, f.3))

back_fits : (modes : Modes) (line : ℕ) (copies : List Copy) (k : CodeCore) → Fitting modes k → AllByRecursion (CopyFits modes) copies → MoveFits modes (go_back line copies k)
back_fits modes line [] k f g = tt
back_fits modes line (c ∷ older) k f g =
    turn_fits modes k (λ d. Moves [] (Back ∷ [])
    (record d {
      globals = c.globals;
      now = record c.now { operands = Result (Some (bool false)) ∷ c.now.operands };
      callers = c.callers;
      kept = older;
    })
    0 [])
    (λ n. (g.0.0, g.0.1, g.0.2, g.1))

forget_fits : (modes : Modes) (line : ℕ) (copies : List Copy) (k : CodeCore) → Fitting modes k → AllByRecursion (CopyFits modes) copies → MoveFits modes (forget_kept line copies k)
forget_fits modes line [] k f g = tt
forget_fits modes line (c ∷ older) k f g = (f.0, f.1, f.2, g.1)

read_fits : (modes : Modes) (r : Reading) (line : ℕ) (k : CodeCore) → Fitting modes k → MoveFits modes (push_read r line k)
read_fits modes (Denotes v rest) line k f = f
read_fits modes AtEnd line k f = f
read_fits modes NotForm line k f = tt
read_fits modes TooWide line k f = tt
read_fits modes TooDeep line k f = tt

decides_fits : (modes : Modes) (o : Connective) (to : ℕ) (v : Option Datum) (line : ℕ) (xs : List Operand) (k : CodeCore) → Fitting modes k → MoveFits modes (decides o to v line xs k)
decides_fits modes And to v line xs k f = branch_fits modes v line (next xs k) (go_to to (Result (Some (bool false)) ∷ xs) k) f f
decides_fits modes Or to v line xs k f = branch_fits modes v line (go_to to (Result (Some (bool true)) ∷ xs) k) (next xs k) f f
decides_fits modes Implies to v line xs k f = branch_fits modes v line (next xs k) (go_to to (Result (Some (bool true)) ∷ xs) k) f f

instr_fits : (modes : Modes) → NoFormers modes → (c : Code) (line : ℕ) (i : Instr) (k : CodeCore) → Fitting modes k → MoveFits modes (do_instr c line i k)
instr_fits modes none c line (Push v) k f = f
instr_fits modes none c line PushAtom k f =
    turn_fits modes k (λ d. next (Result (Some (atom d.world.atom)) ∷ d.now.operands) (record d { world = record d.world { atom = d.world.atom + 1 } })) (λ n. f)
instr_fits modes none c line PushEof k f = f
instr_fits modes none c line (Load x) k f = held_goes modes (held x k) (λ v. next (Result v ∷ k.now.operands) k) (λ v. f)
instr_fits modes none c line (Take x) k f = held_goes modes (held x k) (λ v. next (Result v ∷ k.now.operands) (write x Gone k)) (λ v. write_fits modes x Gone k f tt)
instr_fits modes none c line (StoreIn x) k f = top_fits modes k.now.operands (λ v xs. store_in x line v xs k) (λ v xs. store_in_fits modes none x line v xs k f)
instr_fits modes none c line (Operate o n) k f =
    popped_fits modes (popped n [] k.now.operands) (λ vs xs. with_outcome (op_of o vs k.world.left) line k (λ v d. next (Result v ∷ xs) d))
    (λ vs xs. outcome_fits modes (op_of o vs k.world.left) line k (λ v d. next (Result v ∷ xs) d) (λ v left. f))
instr_fits modes none c line (Alter a x bs) k f =
    popped_fits modes (popped (length bs) [] k.now.operands) (λ vs xs. on_held (held x k) (λ whole. alter a line x whole (selected_by bs vs) xs k))
    (λ vs xs. held_goes modes (held x k) (λ whole. alter a line x whole (selected_by bs vs) xs k) (λ whole. alter_fits modes none a line x whole (selected_by bs vs) xs k f))
instr_fits modes none c line (Decides o to) k f = top_fits modes k.now.operands (λ v xs. decides o to v line xs k) (λ v xs. decides_fits modes o to v line xs k f)
instr_fits modes none c line TestBool k f =
    top_fits modes k.now.operands (λ v xs. branch v line (next (Result v ∷ xs) k) (next (Result v ∷ xs) k)) (λ v xs. branch_fits modes v line (next (Result v ∷ xs) k) (next (Result v ∷ xs) k) f f)
instr_fits modes none c line (Unless to) k f =
    top_fits modes k.now.operands (λ v xs. branch v line (next xs k) (go_to to xs k)) (λ v xs. branch_fits modes v line (next xs k) (go_to to xs k) f f)
instr_fits modes none c line (Jump to) k f = f
instr_fits modes none c line DropTop k f = top_fits modes k.now.operands (λ v xs. next xs k) (λ v xs. f)
instr_fits modes none c line DupTop k f = top_fits modes k.now.operands (λ v xs. next (Result v ∷ Result v ∷ xs) k) (λ v xs. f)
instr_fits modes none c line (PartsOf n) k f = top_fits modes k.now.operands (λ v xs. take_apart n v line xs k) (λ v xs. apart_fits modes n v line xs k f)
instr_fits modes none c line (BeginOver b n) k f =
    popped_fits modes (popped n [] k.now.operands) (λ vs xs. begin_over (items_of b vs) b line xs k) (λ vs xs. begin_fits modes (items_of b vs) b line xs k f)
instr_fits modes none c line (NextOr to) k f = next_fits modes to k.now.operands k f
instr_fits modes none c line (BeginOf o) k f = f
instr_fits modes none c line (AddBelow n) k f = top_fits modes k.now.operands (λ v xs. go_added (added n v xs) line k) (λ v xs. added_fits modes (added n v xs) line k f)
instr_fits modes none c line (LeaveAll n) k f = rest_fits modes (without_iterators n k.now.operands) (λ xs. next xs k) (λ xs. f)
instr_fits modes none c line PayRound k f = turn_fits modes k (λ d. next d.now.operands d) (λ n. f)
instr_fits modes none c line (CallBody n) k f = call_fits modes n (slice_get c.bodies n) line k f
instr_fits modes none c line ReturnTop k f =
    top_fits modes k.now.operands (λ v xs. return_to (slice_get c.bodies k.now.body) v k k.callers) (λ v xs. return_fits modes (slice_get c.bodies k.now.body) v k k.callers f f.2)
instr_fits modes none c line KeepAll k f = (f.0, f.1, f.2, ((f.0, f.1, f.2), f.3))
instr_fits modes none c line GoBack k f = back_fits modes line k.kept k f f.3
instr_fits modes none c line ForgetKept k f = forget_fits modes line k.kept k f f.3
instr_fits modes none c line (PrintTop n) k f = popped_fits modes (popped n [] k.now.operands) (λ vs xs. print_values vs xs k) (λ vs xs. f)
instr_fits modes none c line ReadOne k f = read_fits modes (read_denotation k.world.input) line k f
instr_fits modes none c line StopRun k f = tt

step_fits : (modes : Modes) → NoFormers modes → (c : Code) (s : Option Step) (k : CodeCore) → Fitting modes k → MoveFits modes (do_step c s k)
step_fits modes none c None k f = tt
step_fits modes none c (Some s) k f = instr_fits modes none c s.0 s.1 k f

-- ---- runs

pub runs_fit : RunsFit
runs_fit modes c zero s t none f e = subst (Fitting modes) (ap last_core e) f
runs_fit modes c (suc n) s t none f e = go (step (machine c) (test_of modes true) s) refl (λ u. runs_fit modes c n u t none) e
  where
    go : (x : Next CodeCore) → step (machine c) (test_of modes true) s ≡ x
        → ((u : State CodeCore) → Fitting modes u.core → run (machine c) (test_of modes true) n u ≡ Goes t → Fitting modes t.core)
        → and_then x (run (machine c) (test_of modes true) n) ≡ Goes t → Fitting modes t.core
    go (Goes u) h later g = later u (settle_fits modes c s u (do_step c (fetch c s.core.now.body s.core.now.at) s.core) (step_fits modes none c (fetch c s.core.now.body s.core.now.at) s.core f) h) g
    go (Ends end u) h later g = absurd (no_state end u t g)
