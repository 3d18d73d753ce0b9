-- Steps of iterations.
use Rattle.std.proofs.Common.{refl, List, [], ◌∷◌, Option, Some, None}
use Rattle.std.specs.Prelude.{reverse}
use Rattle.setl_value.specs.Datum.{Datum}
use Rattle.setl_operators_table.specs.Outcome.{Fault}
use Rattle.setl_program.specs.declared.kinds.Quantifier.TheVariants.{Exists, Forall, NotExists}
use Rattle.setl_program.specs.Program.{begin_of, Exprs, no_expr, more_exprs, Iterators, no_iterator, more_iterators, Condition, no_condition, only_if}
use Rattle.setl_model.specs.Core.{Iterate, Goal, Collect, Select, Decide, Repeat, Item, Level, Iteration, IterationFrame, Sources, ToBind, IsBound, Testing, Body, Paused, Frame, InExpr, InIteration, InCall, InStmt, Storing, Then}
use Rattle.setl_model.specs.Slots.{Parting, Parted, NotParted}
use Rattle.setl_model.specs.Collections.{refusal}
use Rattle.setl_model.specs.Iterations.{Started, Starts, Refuses, items_of, start, start_next, sources, finish, gather_by, gather, visit, judge, test, inward_by, begin, bind_by, bind, item_stores, goal_at, next_item, go_on, iterate, result_in_iteration}
use Rattle.setl_model_turns.proofs.Moves.{GoesOn, going, after_a_turn, deciding}

starting : (s : Started) (i : Iteration) (level : Level) (rest : Iterators) (work : List Frame) → GoesOn (start s i level rest work)
starting (Starts items) i level rest work c n h = (n, h, refl)
starting (Refuses fault) i level rest work c n h = refl

starting_next : (is : Iterators) (vs : List (Option Datum)) (i : Iteration) (work : List Frame) → GoesOn (start_next is vs i work)
starting_next no_iterator vs i work c n h = refl
starting_next (more_iterators b es rest) vs i work c n h = starting (items_of (begin_of b) vs) i (record { binding = b; sources = es; left = [] }) rest work c n h

in_sources : (es : Exprs) (got : List (Option Datum)) (i : Iteration) (work : List Frame) → GoesOn (sources got es i work)
in_sources no_expr got i work c n h = starting_next i.waiting (reverse got) i work c n h
in_sources (more_exprs e rest) got i work c n h = (n, h, refl)

finishing : (g : Goal) (i : Iteration) (work : List Frame) → GoesOn (finish g i work)
finishing (Collect k e got) i work c n h = (n, h, refl)
finishing (Select k v got) i work c n h = (n, h, refl)
finishing (Decide q) i work c n h = (n, h, refl)
finishing (Repeat line b) i work c n h = (n, h, refl)

gathering_by : (f : Option Fault) (v : Option Datum) (i : Iteration) (work : List Frame) → GoesOn (gather_by f v i work)
gathering_by None v i work c n h = (n, h, refl)
gathering_by (Some fault) v i work c n h = refl

gathering : (g : Goal) (v : Option Datum) (i : Iteration) (work : List Frame) → GoesOn (gather g v i work)
gathering (Collect k e got) v i work c n h = gathering_by (refusal k v) v i work c n h
gathering (Select k w got) v i work c n h = gathering_by (refusal k v) v i work c n h
gathering (Decide q) v i work c n h = refl
gathering (Repeat line b) v i work c n h = refl

visiting : (g : Goal) (i : Iteration) (work : List Frame) → GoesOn (visit g i work)
visiting (Collect k e got) i work c n h = (n, h, refl)
visiting (Select k v got) i work c n h = gathering_by (refusal k v) v i work c n h
visiting (Decide q) i work c n h = (n, h, refl)
visiting (Repeat line b) i work c n h = (n, h, refl)

judging : (g : Goal) (v : Option Datum) (i : Iteration) (work : List Frame) → GoesOn (judge g v i work)
judging (Decide Forall) v i work c n h = deciding v _ _ _ _ _ (n, h, refl) (visiting i.goal i work c n h)
judging (Decide Exists) v i work c n h = deciding v _ _ _ _ _ (visiting i.goal i work c n h) (n, h, refl)
judging (Decide NotExists) v i work c n h = deciding v _ _ _ _ _ (visiting i.goal i work c n h) (n, h, refl)
judging (Collect k e got) v i work c n h = deciding v _ _ _ _ _ (visiting i.goal i work c n h) (n, h, refl)
judging (Select k w got) v i work c n h = deciding v _ _ _ _ _ (visiting i.goal i work c n h) (n, h, refl)
judging (Repeat line b) v i work c n h = deciding v _ _ _ _ _ (visiting i.goal i work c n h) (n, h, refl)

testing : (t : Condition) (i : Iteration) (work : List Frame) → GoesOn (test t i work)
testing no_condition i work c n h = visiting i.goal i work c n h
testing (only_if e) i work c n h = (n, h, refl)

inwards : (is : Iterators) (i : Iteration) (work : List Frame) → GoesOn (inward_by is i work)
inwards no_iterator i work c n h = testing i.condition i work c n h
inwards (more_iterators b es rest) i work c n h = in_sources es [] i work c n h

pub beginning : (g : Goal) (is : Iterators) (t : Condition) (work : List Frame) → GoesOn (begin g is t work)
beginning g is t work c n h = inwards is (record { goal = g; condition = t; started = []; waiting = is }) work c n h

binding_by : (p : Parting) (i : Iteration) (work : List Frame) → GoesOn (bind_by p i work)
binding_by (Parted xs) i work c n h = (n, h, refl)
binding_by (NotParted fault) i work c n h = refl

binding_item : (ls : List Level) (item : Item) (i : Iteration) (work : List Frame) → GoesOn (bind ls item i work)
binding_item [] item i work c n h = refl
binding_item (l ∷ ls) item i work c n h = binding_by (item_stores l.binding item) (record i { goal = goal_at i.goal item }) work c n h

at_item : (items : List Item) (l : Level) (ls : List Level) (i : Iteration) (work : List Frame) → GoesOn (next_item items l ls i work)
at_item [] l ls i work c n h = (n, h, refl)
at_item (item ∷ left) l ls i work c n h = after_a_turn _ (going Iterate (InIteration (ToBind item) (record i { started = record l { left = left } ∷ ls }) ∷ work)) c n h

on : (ls : List Level) (i : Iteration) (work : List Frame) → GoesOn (go_on ls i work)
on [] i work c n h = finishing i.goal i work c n h
on (l ∷ ls) i work c n h = at_item l.left l ls i work c n h

pub iterating : (work : List Frame) → GoesOn (iterate work)
iterating [] c n h = refl
iterating (InIteration Paused i ∷ work) c n h = on i.started i work c n h
iterating (InIteration (ToBind item) i ∷ work) c n h = binding_item i.started item i work c n h
iterating (InIteration (Sources got rest) i ∷ work) c n h = refl
iterating (InIteration IsBound i ∷ work) c n h = refl
iterating (InIteration Testing i ∷ work) c n h = refl
iterating (InIteration Body i ∷ work) c n h = refl
iterating (InExpr f ∷ work) c n h = refl
iterating (InCall f ∷ work) c n h = refl
iterating (InStmt line f ∷ work) c n h = refl
iterating (Storing xs ∷ work) c n h = refl
iterating (Then b ∷ work) c n h = refl

pub iteration_goes_on : (f : IterationFrame) (v : Option Datum) (i : Iteration) (work : List Frame) → GoesOn (result_in_iteration f v i work)
iteration_goes_on (Sources got rest) v i work c n h = in_sources rest (v ∷ got) i work c n h
iteration_goes_on IsBound v i work c n h = inwards i.waiting i work c n h
iteration_goes_on Testing v i work c n h = judging i.goal v i work c n h
iteration_goes_on Body v i work c n h = gathering i.goal v i work c n h
iteration_goes_on (ToBind item) v i work c n h = refl
iteration_goes_on Paused v i work c n h = refl
