-- Moves between cores in which every value is a value.
use Rattle.std.specs.Prelude.{◌≡◌, ℕ, zero, suc, ◌+◌, ◌-◌, ◌≤◌, Bool, true, false, nat_le, List, [], ◌∷◌, ◌++◌, length, slice_get, Option, Some, None, refl}
use Rattle.std.specs.List.{AllByRecursion}
use Rattle.std.proofs.Common.{ap, ◌∙◌, subst, arith}
use Rattle.std.proofs.lemmas.Bool.{leb-true}
use Rattle.setl_value.specs.Datum.{Datum, bool, int, text, atom, tuple, set, part_list}
use Rattle.setl_operators_table.specs.Operators.{op_of}
use Rattle.setl_operators_table.specs.Outcome.{Fault, Outcome, Gives, Fails, Overspends}
use Rattle.setl_operators_laws.specs.Lists.{OfSome, all_append, all_get}
use Rattle.setl_operators_laws.specs.TupleValues.{PartStands, components, part_is_value}
use Rattle.setl_operators_laws.specs.ValueLaws.{IsValueOrOm, CountFits, OperatorsGiveValues}
use Rattle.setl_text.specs.Reading.{Reading, Denotes, AtEnd, NotForm, TooWide, TooDeep, read_denotation}
use Rattle.setl_tree.specs.declared.tree.Passing.{Passing}
use Rattle.setl_tree.specs.declared.tree.Passing.TheVariants.{Rd, Wr, Rw}
use Rattle.setl_model_runs.specs.Run.{Store, Move, Moves, Halts, State, Next, Goes, Ends, Test, stored, if_fits, store_all, settle, step, and_then, run}
use Rattle.setl_model_runs.specs.Events.{Called, Returned, Stored, Back, End, Stopped, Unfit}
use Rattle.setl_model_runs.specs.Variable.{Variable, Global, Own, Bound}
use Rattle.setl_program.specs.Program.{Begin, Members, Points, Parameter}
use Rattle.setl_program.specs.declared.kinds.Connective.{Connective}
use Rattle.setl_program.specs.declared.kinds.Connective.TheVariants.{And, Or, Implies}
use Rattle.setl_model.specs.Calls.{parameter, bindings}
use Rattle.setl_model.specs.Collections.{refusal}
use Rattle.setl_model.specs.Core.{Item, One, Two, Selected}
use Rattle.setl_model.specs.Iterations.{Started, Starts, Refuses, items_of}
use Rattle.setl_model.specs.Places.{with_part_at_all, part_at_all, combined, Taken, TakesOut, IsEmpty, CannotTake, take_out}
use Rattle.setl_model.specs.World.{branch, go_with}
use Rattle.setl_model_values.specs.ModelValues.{AreBytes, SelectorsAreValues, ItemIsValue, PlacesFit, ReadingsGiveValues, PartsGiveValues, WholesGiveValues, CombinationsGiveValues, TakingsGiveValues, ItemsAreValues, AreAdmitted, CollectionsAreValues}
use Rattle.setl_code.specs.Code.{Bracket, InRound, InBrace, Alteration, Putting, Combining, TakingOut, Instr, Push, PushAtom, PushEof, Load, Take, StoreIn, Operate, Alter, Decides, TestBool, Unless, Jump, DropTop, DupTop, PartsOf, BeginOver, NextOr, BeginOf, AddBelow, LeaveAll, PayRound, CallBody, ReturnTop, KeepAll, GoBack, ForgetKept, PrintTop, ReadOne, StopRun, Step, Body, Code}
use Rattle.setl_code.specs.CodeCore.{Held, There, Gone, Cells, held_in, Operand, Result, Iterator, PairIterator, Collecting, value_of, Popped, Pops, Lacks, popped, without_iterators, cleared, variables_of, Activation, Copy, CodeCore, holding, held, write}
use Rattle.setl_code.specs.Machine.{next, go_to, on_value, on_top, on_popped, on_held, on_rest, turn, with_outcome, store_in, selected_by, store_whole, take_from, alter, iterator, begin_over, next_or, Added, Adds, Refused, Nowhere, add_by, below, added, go_added, first_parts, take_apart, call_body, push_held, hand, handed_back, return_to, go_back, forget_kept, push_read, print_values, decides, do_instr, do_step, body_steps, fetch, machine}
use Rattle.setl_code_values.specs.Laws.{RunCounts, last_state, RunsStand}
use Rattle.setl_code_values.specs.Standing.{HeldStands, CellsStand, OperandStands, OperandsStand, ActivationStands, CopyStands, CoreStands, EventStands, StateStands, InstrStands, BodyStands, CodeStands, PoppedFit, InstrCounts, StepCounts}
use Rattle.setl_code_values.proofs.Cells.{cleared_stand, write_stands, held_in_stands, held_stands, operand_value, PoppedStands, popped_stands, line_bytes}

-- the laws of what a step makes
pub record Known : Type 0 where
  pub operators : OperatorsGiveValues
  pub readings : ReadingsGiveValues
  pub parts : PartsGiveValues
  pub wholes : WholesGiveValues
  pub combinations : CombinationsGiveValues
  pub takings : TakingsGiveValues
  pub items : ItemsAreValues
  pub admitted : AreAdmitted
  pub collected : CollectionsAreValues

abbrev StoresStand : List Store → Type 0
StoresStand xs = AllByRecursion (λ x. IsValueOrOm x.1) xs

-- a move that writes bytes, tells values, leads to a core that stands and stores values
abbrev MoveStands : Move CodeCore → Type 0
MoveStands (Moves said told to line xs) = AreBytes said × AllByRecursion EventStands told × CoreStands to × StoresStand xs
MoveStands (Halts e) = Unit {0}

-- ---- stores

store_all_stand : (c : Code) (test : Test) (line : ℕ) (xs : List Store) (s : State CodeCore) → StateStands s → StoresStand xs → StateStands (last_state (store_all (machine c) test line xs s))
store_all_stand c test line [] s f a = f
store_all_stand c test line (x ∷ xs) s f a = go (test x.0 x.1) (store_all_stand c test line xs (stored (machine c) line x s))
  where
    go : (b : Bool) → (StateStands (stored (machine c) line x s) → StoresStand xs → StateStands (last_state (store_all (machine c) test line xs (stored (machine c) line x s))))
        → StateStands (last_state (if_fits b (store_all (machine c) test line xs (stored (machine c) line x s)) (Stopped (Unfit x.0) line) s))
    go true rest = rest (write_stands x.0 (There x.1) s.core f.0 a.0, f.1, all_append EventStands s.events (Stored line x.0 x.1 ∷ []) f.2 (a.0, tt)) a.1
    go false rest = f

settle_stands : (c : Code) (test : Test) (s : State CodeCore) (m : Move CodeCore) → StateStands s → MoveStands m → StateStands (last_state (settle (machine c) test s m))
settle_stands c test s (Moves said told to line xs) f m =
    store_all_stand c test line xs (record { core = to; out = s.out ++ said; events = s.events ++ told }) (m.2, all_append _ s.out said f.1 m.0, all_append EventStands s.events told f.2 m.1) m.3
settle_stands c test s (Halts h) f m = f

-- ---- going on

goes : (at : ℕ) (xs : List Operand) (k : CodeCore) → CoreStands k → OperandsStand xs → MoveStands (go_to at xs k)
goes at xs k f a = (tt, tt, (f.0, (f.1.0, a), f.2, f.3, f.4), tt)

nexts : (xs : List Operand) (k : CodeCore) → CoreStands k → OperandsStand xs → MoveStands (next xs k)
nexts xs k f a = goes (suc k.now.at) xs k f a

value_goes : (o : Option (Option Datum)) (f : Option Datum → Move CodeCore) → OfSome IsValueOrOm o → ((v : Option Datum) → IsValueOrOm v → MoveStands (f v)) → MoveStands (on_value o f)
value_goes None f h s = tt
value_goes (Some v) f h s = s v h

top_goes : Known → (xs : List Operand) (f : Option Datum → List Operand → Move CodeCore) → OperandsStand xs → ((v : Option Datum) (ys : List Operand) → IsValueOrOm v → OperandsStand ys → MoveStands (f v ys)) → MoveStands (on_top xs f)
top_goes l [] f a s = tt
top_goes l (o ∷ xs) f a s = value_goes (value_of o) (λ v. f v xs) (operand_value l.collected o a.0) (λ v h. s v xs h a.1)

popped_goes : (p : Popped) (f : List (Option Datum) → List Operand → Move CodeCore) (fit : List (Option Datum) → Type 0) → PoppedStands p → PoppedFit fit p
    → ((vs : List (Option Datum)) (ys : List Operand) → AllByRecursion IsValueOrOm vs → OperandsStand ys → fit vs → MoveStands (f vs ys)) → MoveStands (on_popped p f)
popped_goes Lacks f fit h c s = tt
popped_goes (Pops vs xs) f fit h c s = s vs xs h.0 h.1 c

-- operands of which nothing is asked
any_popped : (p : Popped) (f : List (Option Datum) → List Operand → Move CodeCore) → PoppedStands p
    → ((vs : List (Option Datum)) (ys : List Operand) → AllByRecursion IsValueOrOm vs → OperandsStand ys → MoveStands (f vs ys)) → MoveStands (on_popped p f)
any_popped Lacks f h s = tt
any_popped (Pops vs xs) f h s = s vs xs h.0 h.1

held_goes : (p : Held) (f : Option Datum → Move CodeCore) → HeldStands p → ((v : Option Datum) → IsValueOrOm v → MoveStands (f v)) → MoveStands (on_held p f)
held_goes Gone f h s = tt
held_goes (There v) f h s = s v h

rest_goes : (o : Option (List Operand)) (f : List Operand → Move CodeCore) → OfSome OperandsStand o → ((xs : List Operand) → OperandsStand xs → MoveStands (f xs)) → MoveStands (on_rest o f)
rest_goes None f h s = tt
rest_goes (Some xs) f h s = s xs h

abbrev left_by : Bool → ℕ → Option ℕ
left_by true n = Some n
left_by false n = None

turn_goes : (k : CodeCore) (f : CodeCore → Move CodeCore) → ((n : ℕ) → n + 1 ≤ k.world.left → MoveStands (f (record k { world = record k.world { left = n } }))) → MoveStands (turn k f)
turn_goes k f h = go (nat_le 1 k.world.left) refl
  where
    go : (b : Bool) → nat_le 1 k.world.left ≡ b → MoveStands (go_with holding (left_by b (k.world.left - 1)) k f)
    go true e = let p = leb-true 1 k.world.left e in h (k.world.left - 1) (omega (arith, p))
    go false e = tt

outcome_goes : (o : Outcome) (line : ℕ) (k : CodeCore) (f : Option Datum → CodeCore → Move CodeCore) → ((v : Option Datum) (n : ℕ) → o ≡ Gives v n → MoveStands (f v (record k { world = record k.world { left = k.world.left - n } }))) → MoveStands (with_outcome o line k f)
outcome_goes (Gives v n) line k f h = h v n refl
outcome_goes (Fails fault) line k f h = tt
outcome_goes Overspends line k f h = tt

branch_goes : (v : Option Datum) (line : ℕ) (m n : Move CodeCore) → MoveStands m → MoveStands n → MoveStands (branch v line m n)
branch_goes (Some (bool true)) line m n f g = f
branch_goes (Some (bool false)) line m n f g = g
branch_goes None line m n f g = tt
branch_goes (Some (int z)) line m n f g = tt
branch_goes (Some (text t)) line m n f g = tt
branch_goes (Some (atom a)) line m n f g = tt
branch_goes (Some (tuple ps)) line m n f g = tt
branch_goes (Some (set ms)) line m n f g = tt

a_boolean : (b : Bool) → OperandStands (Result (Some (bool b)))
a_boolean b = (tt, omega arith)

-- the core with fewer turns
fewer : (k : CodeCore) (n : ℕ) → n ≤ k.world.left → CoreStands k → CoreStands (record k { world = record k.world { left = n } })
fewer k n p f = (f.0, f.1, f.2, f.3, (f.4.0, omega (arith, p, f.4.1)))

-- ---- instructions

store_in_goes : (x : Variable) (line : ℕ) (v : Option Datum) (xs : List Operand) (k : CodeCore) → CoreStands k → IsValueOrOm v → OperandsStand xs → MoveStands (store_in x line v xs k)
store_in_goes (Bound former name) line v xs k f h a = nexts xs (write (Bound former name) (There v) k) (write_stands (Bound former name) (There v) k f h) a
store_in_goes (Global name) line v xs k f h a = (tt, tt, (f.0, (f.1.0, a), f.2, f.3, f.4), (h, tt))
store_in_goes (Own body name) line v xs k f h a = (tt, tt, (f.0, (f.1.0, a), f.2, f.3, f.4), (h, tt))

whole_goes : (o : Outcome) (line : ℕ) (x : Variable) (xs : List Operand) (k : CodeCore) → CoreStands k → OperandsStand xs → ((v : Option Datum) (n : ℕ) → o ≡ Gives v n → IsValueOrOm v) → MoveStands (store_whole o line x xs k)
whole_goes o line x xs k f a h =
    outcome_goes o line k (λ new d. store_in x line new xs d) (λ v n e. store_in_goes x line v xs (record k { world = record k.world { left = k.world.left - n } }) (fewer k (k.world.left - n) (omega arith) f) (h v n e) a)

take_from_goes : Known → (t : Taken) (line : ℕ) (x : Variable) (whole : Option Datum) (at : List Selected) (xs : List Operand) (k : CodeCore) → CoreStands k → OperandsStand xs → IsValueOrOm whole → SelectorsAreValues at
    → ((small : Datum) (taken : Option Datum) → t ≡ TakesOut small taken → IsValueOrOm (Some small) × IsValueOrOm taken) → MoveStands (take_from t line x whole at xs k)
take_from_goes l (TakesOut small v) line x whole at xs k f a w s h =
    let r = h small v refl in
    whole_goes (with_part_at_all at whole (Some small) k.world.left) line x (Result v ∷ xs) k f (r.1, a) (λ u n e. l.wholes at whole (Some small) u k.world.left n s w r.0 e)
take_from_goes l IsEmpty line x whole at xs k f a w s h = nexts (Result None ∷ xs) k f (tt, a)
take_from_goes l (CannotTake fault) line x whole at xs k f a w s h = tt

alter_goes : Known → (a : Alteration) (line : ℕ) (x : Variable) (whole : Option Datum) (at : List Selected) (xs : List Operand) (k : CodeCore) → CoreStands k → OperandsStand xs → IsValueOrOm whole → SelectorsAreValues at → MoveStands (alter a line x whole at xs k)
alter_goes l Putting line x whole at xs k f a w s =
    top_goes l xs (λ v rest. store_whole (with_part_at_all at whole v k.world.left) line x rest k) a
    (λ v ys h b. whole_goes (with_part_at_all at whole v k.world.left) line x ys k f b (λ u n e. l.wholes at whole v u k.world.left n s w h e))
alter_goes l (Combining o) line x whole at xs k f a w s =
    top_goes l xs (λ v rest. store_whole (combined at whole (λ part now. op_of o (part ∷ v ∷ []) now) k.world.left) line x rest k) a
    (λ v ys h b. whole_goes (combined at whole (λ part now. op_of o (part ∷ v ∷ []) now) k.world.left) line x ys k f b (λ u n e. l.combinations o at whole v u k.world.left n s w h e))
alter_goes l (TakingOut t) line x whole at xs k f a w s =
    outcome_goes (part_at_all at whole k.world.left) line k (λ part d. take_from (take_out t part) line x whole at xs d)
    (λ v n e. take_from_goes l (take_out t v) line x whole at xs (record k { world = record k.world { left = k.world.left - n } }) (fewer k (k.world.left - n) (omega arith) f) a w s
    (λ small taken g. l.takings t v small taken (l.parts at whole v k.world.left n s w e) g))

selected_stand : (bs : List Bracket) (vs : List (Option Datum)) → AllByRecursion IsValueOrOm vs → SelectorsAreValues (selected_by bs vs)
selected_stand [] vs a = tt
selected_stand (InRound ∷ bs) [] a = tt
selected_stand (InBrace ∷ bs) [] a = tt
selected_stand (InRound ∷ bs) (v ∷ vs) a = (a.0, selected_stand bs vs a.1)
selected_stand (InBrace ∷ bs) (v ∷ vs) a = (a.0, selected_stand bs vs a.1)

iterator_stands : (b : Begin) (items : List Item) → AllByRecursion ItemIsValue items → OperandStands (iterator b items)
iterator_stands Points items a = a
iterator_stands (Members k) items a = a

begin_goes : (s : Started) (b : Begin) (line : ℕ) (xs : List Operand) (k : CodeCore) → CoreStands k → OperandsStand xs → ((items : List Item) → s ≡ Starts items → AllByRecursion ItemIsValue items) → MoveStands (begin_over s b line xs k)
begin_goes (Starts items) b line xs k f a h = nexts (iterator b items ∷ xs) k f (iterator_stands b items (h items refl), a)
begin_goes (Refuses fault) b line xs k f a h = tt

next_goes : (to : ℕ) (xs : List Operand) (k : CodeCore) → CoreStands k → OperandsStand xs → MoveStands (next_or to xs k)
next_goes to [] k f a = tt
next_goes to (Result v ∷ xs) k f a = tt
next_goes to (Collecting what got ∷ xs) k f a = tt
next_goes to (Iterator [] ∷ xs) k f a = goes to xs k f a.1
next_goes to (Iterator (One v ∷ items) ∷ xs) k f a = turn_goes k (λ d. next (Result v ∷ Iterator items ∷ xs) d) (λ n p. nexts (Result v ∷ Iterator items ∷ xs) (record k { world = record k.world { left = n } }) (fewer k n (omega (arith, p)) f) (a.0.0, (a.0.1, a.1)))
next_goes to (Iterator (Two x i ∷ items) ∷ xs) k f a = tt
next_goes to (PairIterator [] ∷ xs) k f a = goes to xs k f a.1
next_goes to (PairIterator (One v ∷ items) ∷ xs) k f a = tt
next_goes to (PairIterator (Two x i ∷ items) ∷ xs) k f a =
    turn_goes k (λ d. next (Result x ∷ Result i ∷ PairIterator items ∷ xs) d) (λ n p. nexts (Result x ∷ Result i ∷ PairIterator items ∷ xs) (record k { world = record k.world { left = n } }) (fewer k n (omega (arith, p)) f) (a.0.0.0, (a.0.0.1, (a.0.1, a.1))))

abbrev AddedStands : Added → Type 0
AddedStands (Adds xs) = OperandsStand xs
AddedStands (Refused fault) = Unit {0}
AddedStands Nowhere = Unit {0}

below_stands : (o : Operand) (a : Added) → OperandStands o → AddedStands a → AddedStands (below o a)
below_stands o (Adds xs) h s = (h, s)
below_stands o (Refused fault) h s = tt
below_stands o Nowhere h s = tt

add_stands : (r : Option Fault) (o : Operand) (xs : List Operand) → (r ≡ None → OperandStands o) → OperandsStand xs → AddedStands (add_by r o xs)
add_stands None o xs h a = (h refl, a)
add_stands (Some fault) o xs h a = tt

added_stands : Known → (n : ℕ) (v : Option Datum) (xs : List Operand) → IsValueOrOm v → OperandsStand xs → AddedStands (added n v xs)
added_stands l zero v (Collecting k got ∷ xs) h a = add_stands (refusal k v) (Collecting k (v ∷ got)) xs (λ e. (l.admitted k v h e, a.0)) a.1
added_stands l (suc n) v (Iterator items ∷ xs) h a = below_stands (Iterator items) (added n v xs) a.0 (added_stands l n v xs h a.1)
added_stands l (suc n) v (PairIterator items ∷ xs) h a = below_stands (PairIterator items) (added n v xs) a.0 (added_stands l n v xs h a.1)
added_stands l n v xs h a = tt

added_goes : (a : Added) (line : ℕ) (k : CodeCore) → CoreStands k → AddedStands a → MoveStands (go_added a line k)
added_goes (Adds xs) line k f a = nexts xs k f a
added_goes (Refused fault) line k f a = tt
added_goes Nowhere line k f a = tt

first_stand : (n : ℕ) (ps : List (Option Datum)) (xs : List Operand) → AllByRecursion (PartStands 499) ps → OperandsStand xs → OperandsStand (first_parts n ps xs)
first_stand zero ps xs a b = b
first_stand (suc n) [] xs a b = (tt, first_stand n [] xs tt b)
first_stand (suc n) (p ∷ ps) xs a b = (part_is_value p a.0, first_stand n ps xs a.1 b)

apart_goes : (n : ℕ) (v : Option Datum) (line : ℕ) (xs : List Operand) (k : CodeCore) → CoreStands k → IsValueOrOm v → OperandsStand xs → MoveStands (take_apart n v line xs k)
apart_goes n None line xs k f h a = tt
apart_goes n (Some (tuple ps)) line xs k f h a = nexts (first_parts n (part_list ps) xs) k f (first_stand n (part_list ps) xs (components ps h) a)
apart_goes n (Some (bool b)) line xs k f h a = tt
apart_goes n (Some (int z)) line xs k f h a = tt
apart_goes n (Some (text t)) line xs k f h a = tt
apart_goes n (Some (atom x)) line xs k f h a = tt
apart_goes n (Some (set ms)) line xs k f h a = tt

bindings_stand : (n : ℕ) (ps : List Parameter) (vs : List (Option Datum)) → AllByRecursion IsValueOrOm vs → StoresStand (bindings n ps vs)
bindings_stand n [] vs a = tt
bindings_stand n (p ∷ ps) [] a = (tt, bindings_stand n ps [] tt)
bindings_stand n (p ∷ ps) (v ∷ vs) a = (a.0, bindings_stand n ps vs a.1)

abbrev called : ℕ → Body → ℕ → List (Option Datum) → List Operand → CodeCore → Move CodeCore
called n b line vs rest d = Moves [] (Called line b.name ∷ [])
    (record d {
      now = record { body = n; at = 0; own = cleared (variables_of n b); operands = [] };
      callers = record d.now { at = suc d.now.at; operands = rest } ∷ d.callers;
    })
    line (bindings n b.parameters vs)

call_goes : Known → (n : ℕ) (b : Option Body) (line : ℕ) (k : CodeCore) → CoreStands k → MoveStands (call_body n b line k)
call_goes l n None line k f = tt
call_goes l n (Some b) line k f =
    any_popped (popped (length b.parameters) [] k.now.operands) (λ vs rest. turn k (called n b line vs rest)) (popped_stands l.collected (length b.parameters) [] k.now.operands tt f.1.1)
    (λ vs rest h a. turn_goes k (called n b line vs rest) (λ left p. (tt, (tt, tt), (f.0, (cleared_stand (variables_of n b), tt), ((f.1.0, a), f.2), f.3, (f.4.0, omega (arith, p, f.4.1))), bindings_stand n b.parameters vs h)))

push_held_stands : (h : Held) (o : Option (List Operand)) → HeldStands h → OfSome OperandsStand o → OfSome OperandsStand (push_held h o)
push_held_stands Gone o h a = tt
push_held_stands (There v) None h a = tt
push_held_stands (There v) (Some xs) h a = (h, a)

hand_stands : (p : Passing) (h : Held) (o : Option (List Operand)) → HeldStands h → OfSome OperandsStand o → OfSome OperandsStand (hand p h o)
hand_stands Rd h o s a = a
hand_stands Wr h o s a = push_held_stands h o s a
hand_stands Rw h o s a = push_held_stands h o s a

back_stand : (n : ℕ) (ps : List Parameter) (own : Cells) (xs : List Operand) → CellsStand own → OperandsStand xs → OfSome OperandsStand (handed_back n ps own xs)
back_stand n [] own xs c a = a
back_stand n (p ∷ ps) own xs c a = hand_stands p.passing (held_in own (parameter n p)) (handed_back n ps own xs) (held_in_stands own (parameter n p) c) (back_stand n ps own xs c a)

return_goes : (b : Option Body) (v : Option Datum) (k : CodeCore) (cs : List Activation) → CoreStands k → IsValueOrOm v → AllByRecursion ActivationStands cs → MoveStands (return_to b v k cs)
return_goes None v k cs f h g = tt
return_goes (Some b) v k [] f h g = tt
return_goes (Some b) v k (c ∷ cs) f h g =
    rest_goes (handed_back k.now.body b.parameters k.now.own (Result v ∷ c.operands)) (λ xs. Moves [] (Returned b.name ∷ []) (record k { now = record c { operands = xs }; callers = cs }) 0 [])
    (back_stand k.now.body b.parameters k.now.own (Result v ∷ c.operands) f.1.0 (h, g.0.1))
    (λ xs a. (tt, (tt, tt), (f.0, (g.0.0, a), g.1, f.3, f.4), tt))

go_back_goes : (line : ℕ) (copies : List Copy) (k : CodeCore) → CoreStands k → AllByRecursion CopyStands copies → MoveStands (go_back line copies k)
go_back_goes line [] k f g = tt
go_back_goes line (c ∷ older) k f g =
    turn_goes k (λ d. Moves [] (Back ∷ [])
    (record d {
      globals = c.globals;
      now = record c.now { operands = Result (Some (bool false)) ∷ c.now.operands };
      callers = c.callers;
      kept = older;
    })
    0 [])
    (λ n p. (tt, (tt, tt), (g.0.0, (g.0.1.0, (a_boolean false, g.0.1.1)), g.0.2, g.1, (f.4.0, omega (arith, p, f.4.1))), tt))

forget_goes : (line : ℕ) (copies : List Copy) (k : CodeCore) → CoreStands k → AllByRecursion CopyStands copies → MoveStands (forget_kept line copies k)
forget_goes line [] k f g = tt
forget_goes line (c ∷ older) k f g = (tt, (tt, tt), (f.0, f.1, f.2, g.1, f.4), tt)

read_goes : (r : Reading) (line : ℕ) (k : CodeCore) → CoreStands k → ((v : Option Datum) (rest : List ℕ) → r ≡ Denotes v rest → IsValueOrOm v × AreBytes rest) → MoveStands (push_read r line k)
read_goes (Denotes v rest) line k f h = let r = h v rest refl in (tt, tt, (f.0, (f.1.0, (r.0, f.1.1)), f.2, f.3, (r.1, f.4.1)), tt)
read_goes AtEnd line k f h = (tt, tt, (f.0, (f.1.0, (tt, f.1.1)), f.2, f.3, (tt, f.4.1)), tt)
read_goes NotForm line k f h = tt
read_goes TooWide line k f h = tt
read_goes TooDeep line k f h = tt

decides_goes : (o : Connective) (to : ℕ) (v : Option Datum) (line : ℕ) (xs : List Operand) (k : CodeCore) → CoreStands k → OperandsStand xs → MoveStands (decides o to v line xs k)
decides_goes And to v line xs k f a = branch_goes v line (next xs k) (go_to to (Result (Some (bool false)) ∷ xs) k) (nexts xs k f a) (goes to (Result (Some (bool false)) ∷ xs) k f (a_boolean false, a))
decides_goes Or to v line xs k f a = branch_goes v line (go_to to (Result (Some (bool true)) ∷ xs) k) (next xs k) (goes to (Result (Some (bool true)) ∷ xs) k f (a_boolean true, a)) (nexts xs k f a)
decides_goes Implies to v line xs k f a = branch_goes v line (next xs k) (go_to to (Result (Some (bool true)) ∷ xs) k) (nexts xs k f a) (goes to (Result (Some (bool true)) ∷ xs) k f (a_boolean true, a))

without_stand : (n : ℕ) (xs : List Operand) → OperandsStand xs → OfSome OperandsStand (without_iterators n xs)
without_stand zero xs a = a
without_stand (suc n) (Iterator items ∷ xs) a = without_stand n xs a.1
without_stand (suc n) (PairIterator items ∷ xs) a = without_stand n xs a.1
without_stand (suc n) xs a = tt

instr_goes : Known → (c : Code) (line : ℕ) (i : Instr) (k : CodeCore) → InstrStands i → InstrCounts i k → CoreStands k → MoveStands (do_instr c line i k)
instr_goes l c line (Push v) k s p f = nexts (Result v ∷ k.now.operands) k f (s, f.1.1)
instr_goes l c line PushAtom k s p f =
    turn_goes k (λ d. next (Result (Some (atom d.world.atom)) ∷ d.now.operands) (record d { world = record d.world { atom = d.world.atom + 1 } }))
    (λ n q. (tt, tt, (f.0, (f.1.0, ((omega (arith, q, f.4.1), omega arith), f.1.1)), f.2, f.3, (f.4.0, omega (arith, q, f.4.1))), tt))
instr_goes l c line PushEof k s p f = nexts (Result (Some (bool k.world.eof)) ∷ k.now.operands) k f (a_boolean k.world.eof, f.1.1)
instr_goes l c line (Load x) k s p f = held_goes (held x k) (λ v. next (Result v ∷ k.now.operands) k) (held_stands x k f) (λ v h. nexts (Result v ∷ k.now.operands) k f (h, f.1.1))
instr_goes l c line (Take x) k s p f =
    held_goes (held x k) (λ v. next (Result v ∷ k.now.operands) (write x Gone k)) (held_stands x k f) (λ v h. nexts (Result v ∷ k.now.operands) (write x Gone k) (write_stands x Gone k f tt) (h, f.1.1))
instr_goes l c line (StoreIn x) k s p f = top_goes l k.now.operands (λ v xs. store_in x line v xs k) f.1.1 (λ v xs h a. store_in_goes x line v xs k f h a)
instr_goes l c line (Operate o n) k s p f =
    popped_goes (popped n [] k.now.operands) (λ vs xs. with_outcome (op_of o vs k.world.left) line k (λ v d. next (Result v ∷ xs) d)) (CountFits o) (popped_stands l.collected n [] k.now.operands tt f.1.1) p
    (λ vs xs h a q. outcome_goes (op_of o vs k.world.left) line k (λ v d. next (Result v ∷ xs) d)
    (λ v m e. nexts (Result v ∷ xs) (record k { world = record k.world { left = k.world.left - m } }) (fewer k (k.world.left - m) (omega arith) f) (l.operators o vs k.world.left m v h q e, a)))
instr_goes l c line (Alter a x bs) k s p f =
    any_popped (popped (length bs) [] k.now.operands) (λ vs xs. on_held (held x k) (λ whole. alter a line x whole (selected_by bs vs) xs k)) (popped_stands l.collected (length bs) [] k.now.operands tt f.1.1)
    (λ vs xs h b. held_goes (held x k) (λ whole. alter a line x whole (selected_by bs vs) xs k) (held_stands x k f) (λ whole w. alter_goes l a line x whole (selected_by bs vs) xs k f b w (selected_stand bs vs h)))
instr_goes l c line (Decides o to) k s p f = top_goes l k.now.operands (λ v xs. decides o to v line xs k) f.1.1 (λ v xs h a. decides_goes o to v line xs k f a)
instr_goes l c line TestBool k s p f =
    top_goes l k.now.operands (λ v xs. branch v line (next (Result v ∷ xs) k) (next (Result v ∷ xs) k)) f.1.1 (λ v xs h a. branch_goes v line (next (Result v ∷ xs) k) (next (Result v ∷ xs) k) (nexts (Result v ∷ xs) k f (h, a)) (nexts (Result v ∷ xs) k f (h, a)))
instr_goes l c line (Unless to) k s p f =
    top_goes l k.now.operands (λ v xs. branch v line (next xs k) (go_to to xs k)) f.1.1 (λ v xs h a. branch_goes v line (next xs k) (go_to to xs k) (nexts xs k f a) (goes to xs k f a))
instr_goes l c line (Jump to) k s p f = goes to k.now.operands k f f.1.1
instr_goes l c line DropTop k s p f = top_goes l k.now.operands (λ v xs. next xs k) f.1.1 (λ v xs h a. nexts xs k f a)
instr_goes l c line DupTop k s p f = top_goes l k.now.operands (λ v xs. next (Result v ∷ Result v ∷ xs) k) f.1.1 (λ v xs h a. nexts (Result v ∷ Result v ∷ xs) k f (h, (h, a)))
instr_goes l c line (PartsOf n) k s p f = top_goes l k.now.operands (λ v xs. take_apart n v line xs k) f.1.1 (λ v xs h a. apart_goes n v line xs k f h a)
instr_goes l c line (BeginOver b n) k s p f =
    popped_goes (popped n [] k.now.operands) (λ vs xs. begin_over (items_of b vs) b line xs k) (PlacesFit b) (popped_stands l.collected n [] k.now.operands tt f.1.1) p
    (λ vs xs h a q. begin_goes (items_of b vs) b line xs k f a (λ items e. l.items b vs items h q e))
instr_goes l c line (NextOr to) k s p f = next_goes to k.now.operands k f f.1.1
instr_goes l c line (BeginOf o) k s p f = nexts (Collecting o [] ∷ k.now.operands) k f (tt, f.1.1)
instr_goes l c line (AddBelow n) k s p f = top_goes l k.now.operands (λ v xs. go_added (added n v xs) line k) f.1.1 (λ v xs h a. added_goes (added n v xs) line k f (added_stands l n v xs h a))
instr_goes l c line (LeaveAll n) k s p f = rest_goes (without_iterators n k.now.operands) (λ xs. next xs k) (without_stand n k.now.operands f.1.1) (λ xs a. nexts xs k f a)
instr_goes l c line PayRound k s p f = turn_goes k (λ d. next d.now.operands d) (λ n q. nexts k.now.operands (record k { world = record k.world { left = n } }) (fewer k n (omega (arith, q)) f) f.1.1)
instr_goes l c line (CallBody n) k s p f = call_goes l n (slice_get c.bodies n) line k f
instr_goes l c line ReturnTop k s p f =
    top_goes l k.now.operands (λ v xs. return_to (slice_get c.bodies k.now.body) v k k.callers) f.1.1 (λ v xs h a. return_goes (slice_get c.bodies k.now.body) v k k.callers f h f.2)
instr_goes l c line KeepAll k s p f = (tt, (tt, tt), (f.0, (f.1.0, (a_boolean true, f.1.1)), f.2, ((f.0, f.1, f.2), f.3), f.4), tt)
instr_goes l c line GoBack k s p f = go_back_goes line k.kept k f f.3
instr_goes l c line ForgetKept k s p f = forget_goes line k.kept k f f.3
instr_goes l c line (PrintTop n) k s p f =
    any_popped (popped n [] k.now.operands) (λ vs xs. print_values vs xs k) (popped_stands l.collected n [] k.now.operands tt f.1.1)
    (λ vs xs h a. let said = line_bytes vs h in (said, (said, tt), (f.0, (f.1.0, a), f.2, f.3, f.4), tt))
instr_goes l c line ReadOne k s p f = read_goes (read_denotation k.world.input) line k f (λ v rest e. l.readings k.world.input v rest f.4.0 e)
instr_goes l c line StopRun k s p f = tt

step_goes : Known → (c : Code) (s : Option Step) (k : CodeCore) → OfSome (λ t. InstrStands t.1) s → StepCounts s k → CoreStands k → MoveStands (do_step c s k)
step_goes l c None k s p f = tt
step_goes l c (Some s) k h p f = instr_goes l c s.0 s.1 k h p f

-- ---- runs

steps_stand : (b : Option Body) → OfSome BodyStands b → AllByRecursion (λ s. InstrStands s.1) (body_steps b)
steps_stand None h = tt
steps_stand (Some b) h = h

fetched : (c : Code) (body at : ℕ) → CodeStands c → OfSome (λ s. InstrStands s.1) (fetch c body at)
fetched c body at h = all_get (λ s. InstrStands s.1) (body_steps (slice_get c.bodies body)) at (steps_stand (slice_get c.bodies body) (all_get BodyStands c.bodies body h))

pub runs_stand : Known → RunsStand
runs_stand l c test zero s h p f = f
runs_stand l c test (suc n) s h p f =
    go (step (machine c) test s) refl (λ u. runs_stand l c test n u h)
    (settle_stands c test s (do_step c (fetch c s.core.now.body s.core.now.at) s.core) f (step_goes l c (fetch c s.core.now.body s.core.now.at) s.core (fetched c s.core.now.body s.core.now.at h) (p 0 s refl) f.0))
  where
    go : (x : Next CodeCore) → step (machine c) test s ≡ x → ((u : State CodeCore) → RunCounts c test u → StateStands u → StateStands (last_state (run (machine c) test n u)))
        → StateStands (last_state x) → StateStands (last_state (and_then x (run (machine c) test n)))
    go (Goes u) q later g = later u (λ m w r. p (suc m) w (ap (λ y. and_then y (run (machine c) test m)) q ∙ r)) g
    go (Ends end u) q later g = g
