-- Iterations keep each value in its flow.
use Rattle.std.proofs.Common.{◌≡◌, refl, subst, Bool, true, false, List, [], ◌∷◌, Option, Some, None}
use mathlib.Core.List.{reverse_aux}
use Rattle.std.specs.List.{AllByRecursion}
use Rattle.setl_value.specs.Datum.{Datum, bool}
use Rattle.setl_model_runs.specs.Variable.{Variable}
use Rattle.setl_model_runs.specs.Turns.{left_after}
use Rattle.setl_operators_table.specs.Outcome.{Fault}
use Rattle.setl_program.specs.declared.kinds.Collection.{Collection}
use Rattle.setl_program.specs.declared.kinds.Quantifier.TheVariants.{Exists, Forall, NotExists}
use Rattle.setl_program.specs.Program.{Binding, begin_of, Exprs, no_expr, more_exprs, Iterators, no_iterator, more_iterators, Condition, no_condition, only_if, no_stmt, Program}
use Rattle.setl_model.specs.Collections.{refusal, collection}
use Rattle.setl_model.specs.Slots.{Parting, Parted, NotParted, om_stores}
use Rattle.setl_model.specs.Core.{Execute, Evaluate, Result, Iterate, Goal, Collect, Select, Decide, Repeat, Item, One, Two, Level, Iteration, IterationFrame, Sources, ToBind, IsBound, Testing, Body, Paused, Frame, InExpr, InIteration, InCall, InStmt, Storing, Then, Core, line_of}
use Rattle.setl_model.specs.World.{with_left}
use Rattle.setl_model.specs.Moves.{holding, go}
use Rattle.setl_model.specs.Iterations.{Started, Starts, Refuses, items_of, start, start_next, sources, decided, undecided, all_bound, finish, gather_by, gather, visit, pass_by, judge, test, inward, goal_at, item_stores, bind_by, bind, next_item, go_on, iterate, result_in_iteration}
use Rattle.setl_advise_flows.specs.Flow.{Flow}
use Rattle.setl_advise_flows.specs.Has.{HasAt}
use Rattle.setl_advise_flows.specs.Operators.{Shape, HasShape, HaveShapes}
use Rattle.setl_advise_flows.specs.Expressions.{Flows, shape_of, shapes_of, of_members, ExprsFlows}
use Rattle.setl_advise_flows.specs.Invariant.{onto, nothing, StoresIn, PartingIn, ItemMember, ItemIn, BindingIn, LevelIn, WaitingIn, GoalIn, MemberIn, SourcesIn, HeadIn, BodyIn, gives_result, IterationFrameIn, IterationIn, Waits, CoreIn, MoveIn}
use Rattle.setl_advise_flows.proofs.Moving.{itself, going, spent, goes_with, stops, decides, have_onto}

-- what an iterator runs over can be bound by what it binds
abbrev pub StartedIn : Flows → Bool → Shape → Binding → Started → Type 0
StartedIn s selects m b (Starts items) = AllByRecursion (ItemIn s selects m b) items
StartedIn s selects m b (Refuses e) = Unit {0}

abbrev pub ItemsIn : Flows → Type 0
ItemsIn s = (selects : Bool) (m : Shape) (b : Binding) (ws : List Shape) (vs : List (Option Datum)) → HaveShapes ws vs → BindingIn s selects m b ws → StartedIn s selects m b (items_of (begin_of b) vs)

-- what is collected is in the flow of the collection
abbrev pub CollectionsIn : Type 0
CollectionsIn = (k : Collection) (m : Shape) (got : List (Option Datum)) → AllByRecursion (HasShape m) got → HasAt (of_members k m) (Some (collection k got))

module _ (p : Program) (s : Flows) (items_in : ItemsIn s) (collects : CollectionsIn) where
  -- an iteration over frames
  abbrev At : Flow → Bool → Shape → Iteration → List Frame → Type 0
  At r selects m i work = (out : Shape) × IterationIn p s r selects m out i × Waits p s r (gives_result i.goal) out work

  pub next_step : (r : Flow) (selects : Bool) (m : Shape) (i : Iteration) (work : List Frame) (c : Core) → CoreIn p s c → At r selects m i work →
      MoveIn p s (go Iterate (InIteration Paused i ∷ work) c)
  next_step r selects m i work c h a = going p s c h r Iterate (InIteration Paused i ∷ work) (a.0, selects, m, tt, a.1, a.2)

  -- ---- starting

  begins_next : (is : Iterators) (ws : List Shape) (vs : List (Option Datum)) (r : Flow) (selects : Bool) (m : Shape) (i : Iteration) (work : List Frame) (c : Core) → CoreIn p s c →
      At r selects m i work → WaitingIn p s selects m is → SourcesIn p s selects m ws is → HaveShapes ws vs → MoveIn p s (start_next is vs i work c)
  begins_next no_iterator ws vs r selects m i work c h a waits from have = tt
  begins_next (more_iterators b es rest) ws vs r selects m i work c h a waits from have = by_items (items_of (begin_of b) vs) (items_in selects m b ws vs have from)
    where
      by_items : (started : Started) → StartedIn s selects m b started → MoveIn p s (start started i (record { binding = b; sources = es; left = [] }) rest work c)
      by_items (Refuses fault) n = stops p s fault (line_of (InIteration Paused i ∷ work))
      by_items (Starts items) n =
          next_step r selects m (record { goal = i.goal; condition = i.condition; started = record { binding = b; sources = es; left = items } ∷ i.started; waiting = rest }) work c h
          (a.0, (a.1.0, a.1.1, ((waits.0, waits.1, n), a.1.2), waits.2), a.2)

  pub starts : (es : Exprs) (ws : List Shape) (got : List (Option Datum)) (r : Flow) (selects : Bool) (m : Shape) (i : Iteration) (work : List Frame) (c : Core) → CoreIn p s c →
      At r selects m i work → ExprsFlows p s es → SourcesIn p s selects m (onto ws (shapes_of s es)) i.waiting → HaveShapes ws got → MoveIn p s (sources got es i work c)
  starts no_expr ws got r selects m i work c h a flows from have =
      begins_next i.waiting (onto ws []) (reverse_aux got []) r selects m i work c h a a.1.3 from (have_onto ws [] got [] have tt)
  starts (more_exprs e rest) ws got r selects m i work c h a flows from have =
      going p s c h r (Evaluate e) (InIteration (Sources got rest) i ∷ work)
      (shape_of s e, flows.0, itself (shape_of s e), (a.0, selects, m, (ws, have, flows.1, from), a.1, a.2))

  -- ---- members

  stores_om : (xs : List Variable) → StoresIn s (om_stores xs)
  stores_om [] = tt
  stores_om (x ∷ xs) = (tt, stores_om xs)

  pub finishes : (g : Goal) (t : Condition) (ls : List Level) (is : Iterators) (r : Flow) (selects : Bool) (m : Shape) (work : List Frame) (c : Core) → CoreIn p s c →
      At r selects m (record { goal = g; condition = t; started = ls; waiting = is }) work → MoveIn p s (finish g (record { goal = g; condition = t; started = ls; waiting = is }) work c)
  finishes (Collect k e got) t ls is r selects m work c h a =
      going p s c h r (Result (Some (collection k got))) work (a.0, a.1.0.3 (Some (collection k got)) (collects k m got a.1.0.2), (true, a.2))
  finishes (Select k v got) t ls is r selects m work c h a =
      going p s c h r (Result (Some (collection k got))) work (a.0, a.1.0.2 (Some (collection k got)) (collects k m got a.1.0.1), (true, a.2))
  finishes (Decide q) t ls is r selects m work c h a =
      going p s c h r (Result (Some (bool (undecided q)))) (Storing (om_stores (all_bound is)) ∷ work) (a.0, a.1.0 (Some (bool (undecided q))) tt, (true, (stores_om (all_bound is), a.2)))
  finishes (Repeat line b) t ls is r selects m work c h a =
      going p s c h r (Execute no_stmt) work (tt, subst (λ w. Waits p s r false w work) a.1.0.1 a.2)

  gathers_by : (o : Option Fault) (v : Option Datum) (g : Goal) (t : Condition) (ls : List Level) (is : Iterators) (r : Flow) (selects : Bool) (m : Shape) (work : List Frame) (c : Core) → CoreIn p s c →
      At r selects m (record { goal = g; condition = t; started = ls; waiting = is }) work → HasShape m v → MoveIn p s (gather_by o v (record { goal = g; condition = t; started = ls; waiting = is }) work c)
  gathers_by (Some fault) v g t ls is r selects m work c h a x = stops p s fault (line_of (InIteration Body (record { goal = g; condition = t; started = ls; waiting = is }) ∷ work))
  gathers_by None v (Collect k e got) t ls is r selects m work c h a x =
      next_step r selects m (record { goal = Collect k e (v ∷ got); condition = t; started = ls; waiting = is }) work c h
      (a.0, ((a.1.0.0, a.1.0.1, (x, a.1.0.2), a.1.0.3), a.1.1, a.1.2, a.1.3), a.2)
  gathers_by None v (Select k w got) t ls is r selects m work c h a x =
      next_step r selects m (record { goal = Select k w (v ∷ got); condition = t; started = ls; waiting = is }) work c h
      (a.0, ((a.1.0.0, (x, a.1.0.1), a.1.0.2), a.1.1, a.1.2, a.1.3), a.2)
  gathers_by None v (Decide q) t ls is r selects m work c h a x = next_step r selects m (record { goal = Decide q; condition = t; started = ls; waiting = is }) work c h a
  gathers_by None v (Repeat line b) t ls is r selects m work c h a x = next_step r selects m (record { goal = Repeat line b; condition = t; started = ls; waiting = is }) work c h a

  pub gathers : (v : Option Datum) (g : Goal) (t : Condition) (ls : List Level) (is : Iterators) (r : Flow) (selects : Bool) (m : Shape) (due : Bool) (w : Shape) (work : List Frame) (c : Core) → CoreIn p s c →
      At r selects m (record { goal = g; condition = t; started = ls; waiting = is }) work → BodyIn m due w g → HasShape w v → MoveIn p s (gather g v (record { goal = g; condition = t; started = ls; waiting = is }) work c)
  gathers v (Collect k e got) t ls is r selects m due w work c h a b x = gathers_by (refusal k v) v (Collect k e got) t ls is r selects m work c h a (b.1 v x)
  gathers v (Select k u got) t ls is r selects m due w work c h a b x = gathers_by (refusal k v) v (Select k u got) t ls is r selects m work c h a (b.1 v x)
  gathers v (Decide q) t ls is r selects m due w work c h a b x = tt
  gathers v (Repeat line b) t ls is r selects m due w work c h a e x = tt

  visits : (g : Goal) (t : Condition) (ls : List Level) (is : Iterators) (r : Flow) (selects : Bool) (m : Shape) (work : List Frame) (c : Core) → CoreIn p s c →
      At r selects m (record { goal = g; condition = t; started = ls; waiting = is }) work → MemberIn m g → MoveIn p s (visit g (record { goal = g; condition = t; started = ls; waiting = is }) work c)
  visits (Collect k e got) t ls is r selects m work c h a x =
      going p s c h r (Evaluate e) (InIteration Body (record { goal = Collect k e got; condition = t; started = ls; waiting = is }) ∷ work)
      (shape_of s e, a.1.0.0, itself (shape_of s e), (a.0, selects, m, (refl, a.1.0.1), a.1, a.2))
  visits (Select k v got) t ls is r selects m work c h a x = gathers_by (refusal k v) v (Select k v got) t ls is r selects m work c h a x
  visits (Decide q) t ls is r selects m work c h a x =
      going p s c h r (Result (Some (bool (decided q)))) work (a.0, a.1.0 (Some (bool (decided q))) tt, (true, a.2))
  visits (Repeat line b) t ls is r selects m work c h a x =
      going p s c h r (Execute b) (InIteration Body (record { goal = Repeat line b; condition = t; started = ls; waiting = is }) ∷ work) (a.1.0.0, (a.0, selects, m, tt, a.1, a.2))

  judges : (g : Goal) (v : Option Datum) (t : Condition) (ls : List Level) (is : Iterators) (r : Flow) (selects : Bool) (m : Shape) (work : List Frame) (c : Core) → CoreIn p s c →
      At r selects m (record { goal = g; condition = t; started = ls; waiting = is }) work → MemberIn m g → MoveIn p s (judge g v (record { goal = g; condition = t; started = ls; waiting = is }) work c)
  judges g v t ls is r selects m work c h a x = by_goal g refl
    where
      i : Iteration
      i = record { goal = g; condition = t; started = ls; waiting = is }

      on : MoveIn p s (visit g i work c)
      on = visits g t ls is r selects m work c h a x

      past : MoveIn p s (pass_by i work c)
      past = next_step r selects m i work c h a

      by_goal : (f : Goal) → f ≡ g → MoveIn p s (judge f v i work c)
      by_goal (Decide Forall) e = decides p s v (line_of work) (pass_by i work c) (visit g i work c) past on
      by_goal (Decide Exists) e = decides p s v (line_of (InIteration Testing i ∷ work)) (visit g i work c) (pass_by i work c) on past
      by_goal (Decide NotExists) e = decides p s v (line_of (InIteration Testing i ∷ work)) (visit g i work c) (pass_by i work c) on past
      by_goal (Collect k d got) e = decides p s v (line_of (InIteration Testing i ∷ work)) (visit g i work c) (pass_by i work c) on past
      by_goal (Select k d got) e = decides p s v (line_of (InIteration Testing i ∷ work)) (visit g i work c) (pass_by i work c) on past
      by_goal (Repeat line b) e = decides p s v (line_of (InIteration Testing i ∷ work)) (visit g i work c) (pass_by i work c) on past

  tests : (t : Condition) (g : Goal) (ls : List Level) (is : Iterators) (r : Flow) (selects : Bool) (m : Shape) (work : List Frame) (c : Core) → CoreIn p s c →
      At r selects m (record { goal = g; condition = t; started = ls; waiting = is }) work → MemberIn m g → MoveIn p s (test t (record { goal = g; condition = t; started = ls; waiting = is }) work c)
  tests no_condition g ls is r selects m work c h a x = visits g no_condition ls is r selects m work c h a x
  tests (only_if e) g ls is r selects m work c h a x =
      going p s c h r (Evaluate e) (InIteration Testing (record { goal = g; condition = only_if e; started = ls; waiting = is }) ∷ work)
      (shape_of s e, a.1.1, itself (shape_of s e), (a.0, selects, m, x, a.1, a.2))

  -- the member is bound where no iterator waits
  abbrev MemberDue : Iterators → Shape → Goal → Type 0
  MemberDue no_iterator m g = MemberIn m g
  MemberDue (more_iterators b es rest) m g = Unit {0}

  pub goes_inward : (is : Iterators) (g : Goal) (t : Condition) (ls : List Level) (r : Flow) (selects : Bool) (m : Shape) (work : List Frame) (c : Core) → CoreIn p s c →
      At r selects m (record { goal = g; condition = t; started = ls; waiting = is }) work → MemberDue is m g → MoveIn p s (inward (record { goal = g; condition = t; started = ls; waiting = is }) work c)
  goes_inward no_iterator g t ls r selects m work c h a x = tests t g ls no_iterator r selects m work c h a x
  goes_inward (more_iterators b es rest) g t ls r selects m work c h a x =
      starts es [] [] r selects m (record { goal = g; condition = t; started = ls; waiting = more_iterators b es rest }) work c h a a.1.3.0 a.1.3.1 tt

  pub member_due : (is : Iterators) (m : Shape) (g : Goal) → MemberIn m g → MemberDue is m g
  member_due no_iterator m g x = x
  member_due (more_iterators b es rest) m g x = tt

  -- ---- steps of iterators

  goal_with : (g : Goal) (item : Item) (r : Flow) (selects : Bool) (m out : Shape) → GoalIn p s r selects m out g → ItemMember selects m item →
      GoalIn p s r selects m out (goal_at g item) × MemberIn m (goal_at g item) × (gives_result g ≡ gives_result (goal_at g item))
  goal_with (Collect k e got) item r selects m out h x = (h, tt, refl)
  goal_with (Decide q) item r selects m out h x = (h, tt, refl)
  goal_with (Repeat line b) item r selects m out h x = (h, tt, refl)
  goal_with (Select k v got) (One u) r selects m out h x = (h, subst (λ b. ItemMember b m (One u)) h.0 x, refl)
  goal_with (Select k v got) (Two u w) r selects m out h x = absurd (subst (λ b. ItemMember b m (Two u w)) h.0 x)

  binds : (ls : List Level) (item : Item) (i : Iteration) (r : Flow) (selects : Bool) (m : Shape) (work : List Frame) (c : Core) → CoreIn p s c →
      At r selects m i work → HeadIn s selects m item ls → MoveIn p s (bind ls item i work c)
  binds [] item i r selects m work c h a x = tt
  binds (l ∷ ls) item i r selects m work c h a x = by_parting (item_stores l.binding item) x.0
    where
      j : Iteration
      j = record { goal = goal_at i.goal item; condition = i.condition; started = i.started; waiting = i.waiting }

      by_parting : (o : Parting) → PartingIn s o → MoveIn p s (bind_by o j work c)
      by_parting (NotParted fault) y = stops p s fault (line_of (InIteration IsBound j ∷ work))
      by_parting (Parted xs) y =
          let g = goal_with i.goal item r selects m a.0 a.1.0 x.1 in
          going p s c h r (Result None) (Storing xs ∷ InIteration IsBound j ∷ work)
          (nothing, tt, (false, (y, (a.0, selects, m, g.1, (g.0, a.1.1, a.1.2, a.1.3), subst (λ b. Waits p s r b a.0 work) g.2 a.2))))

  next_items : (items : List Item) (l : Level) (ls : List Level) (i : Iteration) (r : Flow) (selects : Bool) (m : Shape) (work : List Frame) (c : Core) → CoreIn p s c →
      At r selects m i work → AllByRecursion (LevelIn p s selects m) ls → ExprsFlows p s l.sources × BindingIn s selects m l.binding (shapes_of s l.sources) → AllByRecursion (ItemIn s selects m l.binding) items → MoveIn p s (next_item items l ls i work c)
  next_items [] l ls i r selects m work c h a before x y =
      next_step r selects m (record { goal = i.goal; condition = i.condition; started = ls; waiting = more_iterators l.binding l.sources i.waiting }) work c h
      (a.0, (a.1.0, a.1.1, before, (x.0, x.1, a.1.3)), a.2)
  next_items (item ∷ left) l ls i r selects m work c h a before x y =
      goes_with p s (left_after 1 c.shared.world.left) c (λ d. go Iterate (InIteration (ToBind item) j ∷ work) d)
      (λ n. going p s (with_left holding n c) (spent p s c h n) r Iterate (InIteration (ToBind item) j ∷ work)
      (a.0, selects, m, y.0, (a.1.0, a.1.1, ((x.0, x.1, y.1), before), a.1.3), a.2))
    where
      j : Iteration
      j = record { goal = i.goal; condition = i.condition; started = record { binding = l.binding; sources = l.sources; left = left } ∷ ls; waiting = i.waiting }

  goes_on : (ls : List Level) (g : Goal) (t : Condition) (is : Iterators) (r : Flow) (selects : Bool) (m : Shape) (work : List Frame) (c : Core) → CoreIn p s c →
      At r selects m (record { goal = g; condition = t; started = ls; waiting = is }) work → MoveIn p s (go_on ls (record { goal = g; condition = t; started = ls; waiting = is }) work c)
  goes_on [] g t is r selects m work c h a = finishes g t [] is r selects m work c h a
  goes_on (l ∷ ls) g t is r selects m work c h a =
      next_items l.left l ls (record { goal = g; condition = t; started = l ∷ ls; waiting = is }) r selects m work c h a a.1.2.1 (a.1.2.0.0, a.1.2.0.1) a.1.2.0.2

  pub iterates : (work : List Frame) (r : Flow) (c : Core) → CoreIn p s c → Waits p s r false nothing work → MoveIn p s (iterate work c)
  iterates (InIteration Paused i ∷ work) r c h a = goes_on i.started i.goal i.condition i.waiting r a.1 a.2 work c h (a.0, a.4, a.5)
  iterates (InIteration (ToBind item) i ∷ work) r c h a = binds i.started item i r a.1 a.2 work c h (a.0, a.4, a.5) a.3
  iterates (InIteration (Sources got rest) i ∷ work) r c h a = tt
  iterates (InIteration IsBound i ∷ work) r c h a = tt
  iterates (InIteration Testing i ∷ work) r c h a = tt
  iterates (InIteration Body i ∷ work) r c h a = tt
  iterates [] r c h a = tt
  iterates (InExpr f ∷ work) r c h a = tt
  iterates (InCall f ∷ work) r c h a = tt
  iterates (InStmt line f ∷ work) r c h a = tt
  iterates (Storing xs ∷ work) r c h a = tt
  iterates (Then b ∷ work) r c h a = tt

  pub iteration_takes : (f : IterationFrame) (v : Option Datum) (i : Iteration) (w : Shape) (due : Bool) (r : Flow) (selects : Bool) (m : Shape) (work : List Frame) (c : Core) → CoreIn p s c →
      At r selects m i work → IterationFrameIn p s selects m due w f i → HasShape w v → MoveIn p s (result_in_iteration f v i work c)
  iteration_takes (Sources got rest) v i w due r selects m work c h a x y =
      starts rest (w ∷ x.0) (v ∷ got) r selects m i work c h a x.2 x.3 (y, x.1)
  iteration_takes IsBound v i w due r selects m work c h a x y = goes_inward i.waiting i.goal i.condition i.started r selects m work c h a (member_due i.waiting m i.goal x)
  iteration_takes Testing v i w due r selects m work c h a x y = judges i.goal v i.condition i.started i.waiting r selects m work c h a x
  iteration_takes Body v i w due r selects m work c h a x y = gathers v i.goal i.condition i.started i.waiting r selects m due w work c h a x y
  iteration_takes (ToBind item) v i w due r selects m work c h a x y = tt
  iteration_takes Paused v i w due r selects m work c h a x y = tt
