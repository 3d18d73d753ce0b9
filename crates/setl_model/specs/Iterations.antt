-- Steps of iterators, formers, quantifiers and loops over members.
use Rattle.std.specs.Prelude.{ℕ, ◌==◌, suc, pos, ◌-ℤ◌, Bool, true, false, List, [], ◌∷◌, ◌++◌, map, reverse, unsigned_abs, if◌then◌else◌, Option, Some, None}
use Rattle.setl_value.specs.Datum.{Datum, bool, int, text, tuple, set, element_list, part_list}
use Rattle.setl_set.specs.Sets.{set_from}
use Rattle.setl_value.specs.Pairs.{is_map}
use Rattle.setl_operators_table.specs.Ranges.{range_from, step_from}
use Rattle.setl_map.specs.Maps.{image, domain_of}
use Rattle.setl_operators_table.specs.Outcome.{Fault, OmFault, KindFault, ZeroFault, all_values}
use Rattle.setl_model.specs.Collections.{refusal, collection}
use Rattle.setl_program.specs.declared.kinds.Quantifier.{Quantifier}
use Rattle.setl_program.specs.declared.kinds.Quantifier.TheVariants.{Exists, Forall, NotExists}
use Rattle.setl_program.specs.declared.kinds.Source.TheVariants.{Values, Between, SetSteps, TupleSteps}
use Rattle.setl_program.specs.Program.{Slots, Binding, Member, Components, Point, Begin, Members, Points, begin_of, Exprs, no_expr, more_exprs, Iterators, no_iterator, more_iterators, Condition, no_condition, only_if, no_stmt}
use Rattle.setl_model_runs.specs.Events.{Stuck}
use Rattle.setl_model_runs.specs.Run.{Move, Halts}
use Rattle.setl_model.specs.Core.{Execute, Evaluate, Result, Iterate, Goal, Collect, Select, Decide, Repeat, Item, One, Two, Level, Iteration, IterationFrame, Sources, ToBind, IsBound, Testing, Body, Paused, Frame, InIteration, Storing, Core, line_of}
use Rattle.setl_model.specs.World.{stop, branch}
use Rattle.setl_model.specs.Moves.{go, turn}
use Rattle.setl_model_runs.specs.Variable.{Variable}
use Rattle.setl_model.specs.Slots.{Parting, Parted, NotParted, parting, variables_in, om_stores}

-- ---- the items of an iterator

-- The items of a source, or why there are none.
pub data Started : Type 0 where
  Starts : List Item → Started
  Refuses : Fault → Started

abbrev pub singles : List (Option Datum) → List Item
singles vs = map One vs

abbrev pub members : List Datum → List Item
members ds = map (λ d. One (Some d)) ds

-- the bytes of a string as strings of length 1
abbrev pub letters : List ℕ → List (Option Datum)
letters [] = []
letters (b ∷ bs) = Some (text (b ∷ [])) ∷ letters bs

-- the arguments of a map with their images
abbrev pub map_points : List Datum → List Datum → List Item
map_points f xs = map (λ x. Two (Some x) (image x f)) xs

-- the places of a list from n on, with what stands there
abbrev pub place_points : ℕ → List (Option Datum) → List Item
place_points n [] = []
place_points n (v ∷ vs) = Two (Some (int (pos n))) v ∷ place_points (suc n) vs

-- a set's members in rising order, a tuple's components, a string's bytes
abbrev pub values_of : Datum → Started
values_of (set ms) = Starts (members (element_list ms))
values_of (tuple ps) = Starts (singles (part_list ps))
values_of (text t) = Starts (singles (letters t))
values_of d = Refuses KindFault

-- for `y = f(x)`: the domain of a map, or the places of a tuple or string, each with `f(x)`
abbrev pub points_of : Datum → Started
points_of (set ms) = if is_map (element_list ms) then Starts (map_points (element_list ms) (domain_of (element_list ms))) else Refuses KindFault
points_of (tuple ps) = Starts (place_points 1 (part_list ps))
points_of (text t) = Starts (place_points 1 (letters t))
points_of d = Refuses KindFault

abbrev pub integers_between : List Datum → Started
integers_between (int a ∷ int b ∷ []) = Starts (members (range_from a b))
integers_between ds = Refuses KindFault

abbrev pub integers_stepped : (List Datum → List Datum) → List Datum → Started
integers_stepped order (int a ∷ int b ∷ int c ∷ []) =
    if unsigned_abs (b -ℤ a) == 0 then Refuses ZeroFault else Starts (members (order (step_from a b c)))
integers_stepped order ds = Refuses KindFault

abbrev pub one_source : (Datum → Started) → List Datum → Started
one_source f (d ∷ []) = f d
one_source f ds = Refuses KindFault

-- an operand that is `om` comes before the others' kinds
abbrev pub of_values : (List Datum → Started) → Option (List Datum) → Started
of_values f None = Refuses OmFault
of_values f (Some ds) = f ds

-- what an iterator runs over
abbrev pub items_of : Begin → List (Option Datum) → Started
items_of (Members Values) vs = of_values (one_source values_of) (all_values vs)
items_of (Members Between) vs = of_values integers_between (all_values vs)
items_of (Members SetSteps) vs = of_values (integers_stepped set_from) (all_values vs)
items_of (Members TupleSteps) vs = of_values (integers_stepped (λ ds. ds)) (all_values vs)
items_of Points vs = of_values (one_source points_of) (all_values vs)

-- ---- starting iterators

-- the next source of the next iterator from left to right, or the iterator over its items
abbrev pub start : Started → Iteration → Level → Iterators → List Frame → Core → Move Core
start (Starts items) i level rest work c =
    go Iterate (InIteration Paused (record i { started = record level { left = items } ∷ i.started; waiting = rest }) ∷ work) c
start (Refuses fault) i level rest work c = stop fault (line_of (InIteration Paused i ∷ work))

abbrev pub start_next : Iterators → List (Option Datum) → Iteration → List Frame → Core → Move Core
start_next no_iterator vs i work c = Halts Stuck
start_next (more_iterators b es rest) vs i work c =
    start (items_of (begin_of b) vs) i (record { binding = b; sources = es; left = [] }) rest work c

abbrev pub sources : List (Option Datum) → Exprs → Iteration → List Frame → Core → Move Core
sources got no_expr i work c = start_next i.waiting (reverse got) i work c
sources got (more_exprs e rest) i work c = go (Evaluate e) (InIteration (Sources got rest) i ∷ work) c

-- ---- what an iteration is for

-- a quantifier's answer where a member decides it; otherwise it is the other one
abbrev pub decided : Quantifier → Bool
decided Exists = true
decided Forall = false
decided NotExists = false

abbrev pub undecided : Quantifier → Bool
undecided Exists = false
undecided Forall = true
undecided NotExists = true

-- the variables that the iterators bind, from left to right
abbrev pub bound_by : Binding → Slots
bound_by (Member k x) = Some x ∷ []
bound_by (Components k xs) = xs
bound_by (Point y x) = Some y ∷ Some x ∷ []

abbrev pub all_bound : Iterators → List Variable
all_bound no_iterator = []
all_bound (more_iterators b es rest) = variables_in (bound_by b) ++ all_bound rest

-- the end of an iteration
abbrev pub finish : Goal → Iteration → List Frame → Core → Move Core
finish (Collect k e got) i work c = go (Result (Some (collection k got))) work c
finish (Select k v got) i work c = go (Result (Some (collection k got))) work c
finish (Decide q) i work c = go (Result (Some (bool (undecided q)))) (Storing (om_stores (all_bound i.waiting)) ∷ work) c
finish (Repeat line b) i work c = go (Execute no_stmt) work c

-- the goal with one more that is collected
abbrev pub add_to_goal : Goal → Option Datum → Goal
add_to_goal (Collect k e got) v = Collect k e (v ∷ got)
add_to_goal (Select k w got) v = Select k w (v ∷ got)
add_to_goal g v = g

-- a value is collected, or the former stops
abbrev pub gather_by : Option Fault → Option Datum → Iteration → List Frame → Core → Move Core
gather_by None v i work c = go Iterate (InIteration Paused (record i { goal = add_to_goal i.goal v }) ∷ work) c
gather_by (Some fault) v i work c = stop fault (line_of (InIteration Body i ∷ work))

abbrev pub gather : Goal → Option Datum → Iteration → List Frame → Core → Move Core
gather (Collect k e got) v i work c = gather_by (refusal k v) v i work c
gather (Select k w got) v i work c = gather_by (refusal k v) v i work c
gather g v i work c = Halts Stuck

-- a step of all iterators for which the condition holds
abbrev pub visit : Goal → Iteration → List Frame → Core → Move Core
visit (Collect k e got) i work c = go (Evaluate e) (InIteration Body i ∷ work) c
visit (Select k v got) i work c = gather_by (refusal k v) v i work c
visit (Decide q) i work c = go (Result (Some (bool (decided q)))) work c
visit (Repeat line b) i work c = go (Execute b) (InIteration Body i ∷ work) c

-- a step of all iterators for which it doesn't hold
abbrev pub pass_by : Iteration → List Frame → Core → Move Core
pass_by i work c = go Iterate (InIteration Paused i ∷ work) c

-- the condition's result; `forall` is decided by a member for which it doesn't hold
abbrev pub judge : Goal → Option Datum → Iteration → List Frame → Core → Move Core
judge (Decide Forall) v i work c = branch v (line_of work) (pass_by i work c) (visit i.goal i work c)
judge g v i work c = branch v (line_of (InIteration Testing i ∷ work)) (visit i.goal i work c) (pass_by i work c)

abbrev pub test : Condition → Iteration → List Frame → Core → Move Core
test no_condition i work c = visit i.goal i work c
test (only_if e) i work c = go (Evaluate e) (InIteration Testing i ∷ work) c

-- the next iterator, or the condition where all have started
abbrev pub inward_by : Iterators → Iteration → List Frame → Core → Move Core
inward_by no_iterator i work c = test i.condition i work c
inward_by (more_iterators b es rest) i work c = sources [] es i work c

abbrev pub inward : Iteration → List Frame → Core → Move Core
inward i work c = inward_by i.waiting i work c

-- an iteration over these iterators begins
abbrev pub begin : Goal → Iterators → Condition → List Frame → Core → Move Core
begin g is t work c = inward (record { goal = g; condition = t; started = []; waiting = is }) work c

-- ---- steps of iterators

-- the goal at this item: a former that collects its members has the member
abbrev pub goal_at : Goal → Item → Goal
goal_at (Select k w got) (One v) = Select k v got
goal_at g item = g

-- the stores by which an item is bound: in `y = f(x)` first x, then y
abbrev pub item_stores : Binding → Item → Parting
item_stores (Member k x) (One v) = Parted ((x, v) ∷ [])
item_stores (Components k xs) (One v) = parting xs v
item_stores (Point y x) (Two argument value) = Parted ((x, argument) ∷ (y, value) ∷ [])
item_stores b item = NotParted KindFault

abbrev pub bind_by : Parting → Iteration → List Frame → Core → Move Core
bind_by (Parted xs) i work c = go (Result None) (Storing xs ∷ InIteration IsBound i ∷ work) c
bind_by (NotParted fault) i work c = stop fault (line_of (InIteration IsBound i ∷ work))

-- binds an item of the innermost iterator
abbrev pub bind : List Level → Item → Iteration → List Frame → Core → Move Core
bind [] item i work c = Halts Stuck
bind (l ∷ ls) item i work c = bind_by (item_stores l.binding item) (record i { goal = goal_at i.goal item }) work c

-- a level without items is dropped, and the one before goes on; else its first item is taken off for one turn
abbrev pub next_item : List Item → Level → List Level → Iteration → List Frame → Core → Move Core
next_item [] l ls i work c =
    go Iterate (InIteration Paused (record i { started = ls; waiting = more_iterators l.binding l.sources i.waiting }) ∷ work) c
next_item (item ∷ left) l ls i work c =
    turn c (λ d. go Iterate (InIteration (ToBind item) (record i { started = record l { left = left } ∷ ls }) ∷ work) d)

abbrev pub go_on : List Level → Iteration → List Frame → Core → Move Core
go_on [] i work c = finish i.goal i work c
go_on (l ∷ ls) i work c = next_item l.left l ls i work c

-- an iteration in hand
abbrev pub iterate : List Frame → Core → Move Core
iterate (InIteration Paused i ∷ work) c = go_on i.started i work c
iterate (InIteration (ToBind item) i ∷ work) c = bind i.started item i work c
iterate work c = Halts Stuck

-- a result of a part of an iteration
abbrev pub result_in_iteration : IterationFrame → Option Datum → Iteration → List Frame → Core → Move Core
result_in_iteration (Sources got rest) v i work c = sources (v ∷ got) rest i work c
result_in_iteration IsBound v i work c = inward i work c
result_in_iteration Testing v i work c = judge i.goal v i work c
result_in_iteration Body v i work c = gather i.goal v i work c
result_in_iteration f v i work c = Halts Stuck
