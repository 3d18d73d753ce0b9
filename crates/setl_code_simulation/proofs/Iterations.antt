-- The code of iterations follows their meaning: sources, items, bindings, conditions, and what is collected.
use Rattle.std.proofs.Common.{◌≡◌, ℕ, suc, Bool, true, false, List, [], ◌∷◌, reverse, Option, Some, None, refl, sym, subst}
use Rattle.std.specs.Prelude.{slice_get, if◌then◌else◌, unsigned_abs, ◌-ℤ◌, ◌==◌}
use Rattle.setl_value.specs.Datum.{Datum, int, text, tuple, set, element_list, part_list}
use Rattle.setl_value.specs.Pairs.{is_map}
use Rattle.setl_set.specs.Sets.{set_from}
use Rattle.setl_operators_table.specs.Ranges.{range_from, step_from}
use Rattle.setl_map.specs.Maps.{domain_of}
use Rattle.setl_operators_table.specs.Outcome.{all_values, Fault, KindFault, ZeroFault}
use Rattle.setl_program.specs.declared.kinds.Collection.{Collection}
use Rattle.setl_program.specs.declared.kinds.Source.{Source}
use Rattle.setl_program.specs.declared.kinds.Source.TheVariants.{Values, Between, SetSteps, TupleSteps}
use Rattle.setl_program.specs.Program.{Binding, Begin, Members, Points, begin_of, Expr, Exprs, no_expr, more_exprs, Iterators, no_iterator, more_iterators, Condition, no_condition, only_if, Program}
use Rattle.setl_program.specs.Formed.{Formed, FormedExprs, FormedIterators}
use Rattle.setl_model.specs.Collections.{refusal}
use Rattle.setl_model.specs.Core.{Shared, Hand, Execute, Evaluate, Result, Iterate, Goal, Collect, Select, Decide, Repeat, Item, Level, Iteration, Sources, Testing, Body, Paused, Frame, InIteration, Snapshot, goal_line, line_of}
use Rattle.setl_model.specs.Iterations.{members, letters, map_points, place_points, values_of, points_of, of_values, one_source, integers_between, integers_stepped, Started, Starts, Refuses, items_of, singles, inward, start, gather_by, add_to_goal}
use Rattle.setl_model.specs.Step.{language}
use Rattle.setl_code.specs.Code.{Jump, Code}
use Rattle.setl_code.specs.Piece.{Labels, past, Is, Stands}
use Rattle.setl_code.specs.Generated.{block}
use Rattle.setl_code.specs.CodeCore.{Cells, Operand, Collecting, value_of, Copy}
use Rattle.setl_code.specs.Machine.{iterator, added, Adds, Refused, below, go_added, begin_over}
use Rattle.setl_code_simulation.specs.Follow.{Related, moves, halts, by_step, after_step}
use Rattle.setl_code_simulation.specs.Matches.{Where, steps_in, around, Holds, none, more, begins, looping, ItemsOf, with_member, source, testing, value, Levels, outside, level, collecting, selecting_all, FormedWaiting, FormedGoal, FormedTest, Placed, iterating, iterating_back, Matches, FormedBehind, body, in_loop, AfterBlock}
use Rattle.setl_code_simulation.specs.States.{bodies_at_work}
use Rattle.setl_code_simulation.proofs.Parts.{code_core, core, Same, matched, all_popped}
use Rattle.setl_code_simulation.proofs.Calling.{Coded}
use Rattle.setl_code_simulation.proofs.Expressions.{Answered, expr_answered, has_source}
use Rattle.setl_code_simulation.proofs.Leaving.{started}
use Rattle.setl_code_simulation.proofs.Statements.{rank_executing, block_answered}

-- ---- what iterators run over

abbrev StartsOf : Begin → Started → Type 0
StartsOf k (Starts items) = ItemsOf k items
StartsOf k (Refuses f) = Unit {0}

singles_of : (k : Source) (vs : List (Option Datum)) → ItemsOf (Members k) (singles vs)
singles_of k [] = tt
singles_of k (v ∷ vs) = singles_of k vs

members_of : (k : Source) (ds : List Datum) → ItemsOf (Members k) (members ds)
members_of k [] = tt
members_of k (d ∷ ds) = members_of k ds

map_points_of : (f xs : List Datum) → ItemsOf Points (map_points f xs)
map_points_of f [] = tt
map_points_of f (x ∷ xs) = map_points_of f xs

place_points_of : (n : ℕ) (vs : List (Option Datum)) → ItemsOf Points (place_points n vs)
place_points_of n [] = tt
place_points_of n (v ∷ vs) = place_points_of (suc n) vs

values_start : (d : Datum) → StartsOf (Members Values) (values_of d)
values_start (set ms) = members_of Values (element_list ms)
values_start (tuple ps) = singles_of Values (part_list ps)
values_start (text t) = singles_of Values (letters t)
values_start d = tt

points_start : (d : Datum) → StartsOf Points (points_of d)
points_start (set ms) = go (is_map (element_list ms))
  where
    go : (t : Bool) → StartsOf Points (if t then Starts (map_points (element_list ms) (domain_of (element_list ms))) else Refuses KindFault)
    go true = map_points_of (element_list ms) (domain_of (element_list ms))
    go false = tt
points_start (tuple ps) = place_points_of 1 (part_list ps)
points_start (text t) = place_points_of 1 (letters t)
points_start d = tt

one_start : (k : Begin) (f : Datum → Started) → ((d : Datum) → StartsOf k (f d)) → (vs : Option (List Datum)) → StartsOf k (of_values (one_source f) vs)
one_start k f each None = tt
one_start k f each (Some (d ∷ [])) = each d
one_start k f each (Some ds) = tt

between_start : (vs : Option (List Datum)) → StartsOf (Members Between) (of_values integers_between vs)
between_start None = tt
between_start (Some (int a ∷ int b ∷ [])) = members_of Between (range_from a b)
between_start (Some ds) = tt

stepped_start : (k : Source) (order : List Datum → List Datum) (vs : Option (List Datum)) → StartsOf (Members k) (of_values (integers_stepped order) vs)
stepped_start k order None = tt
stepped_start k order (Some (int a ∷ int b ∷ int d ∷ [])) = go (unsigned_abs (b -ℤ a) == 0)
  where
    go : (t : Bool) → StartsOf (Members k) (if t then Refuses ZeroFault else Starts (members (order (step_from a b d))))
    go true = tt
    go false = members_of k (order (step_from a b d))
stepped_start k order (Some ds) = tt

-- an iterator gives the items of its kind
items_start : (k : Begin) (vs : List (Option Datum)) → StartsOf k (items_of k vs)
items_start (Members Values) vs = one_start (Members Values) values_of values_start (all_values vs)
items_start (Members Between) vs = between_start (all_values vs)
items_start (Members SetSteps) vs = stepped_start SetSteps set_from (all_values vs)
items_start (Members TupleSteps) vs = stepped_start TupleSteps (λ ds. ds) (all_values vs)
items_start Points vs = one_start Points points_of points_start (all_values vs)

-- ---- a value that is added

-- a goal that collects, with what it has
pub data Collects : Goal → Collection → List (Option Datum) → Type 0 where
  by_former : {k : Collection} {e : Expr} {have : List (Option Datum)} → Collects (Collect k e have) k have
  by_selection : {k : Collection} {v : Option Datum} {have : List (Option Datum)} → Collects (Select k v have) k have

added_past : (k : Begin) (items : List Item) (n : ℕ) (v : Option Datum) (xs : List Operand) → added (suc n) v (iterator k items ∷ xs) ≡ below (iterator k items) (added n v xs)
added_past (Members k) items n v xs = refl
added_past Points items n v xs = refl

module _ (c : Code) (pr : Program) where
  refused_there : {p : Where} {l : Labels} {n a : ℕ} {g : Goal} {k : Collection} {have : List (Option Datum)} {t : Condition} {ls : List Level} {ws : Iterators} {xs : List Operand} {w : List Frame} (v : Option Datum) (f : Fault) → Collects g k have → refusal k v ≡ Some f → Levels c pr.procedures p l n g t ls ws a xs w → added (started ls) v xs ≡ Refused f
  refused_there v f by_former h (outside fi fw fn fg ft (collecting next)) = rw h refl
  refused_there v f by_selection h (outside fi fw fn fg ft (selecting_all next)) = rw h refl
  refused_there v f is h (level {ls = ls} {b = b} {items = items} {xs = xs} at ok here out) = rw (added_past (begin_of b) items (started ls) v xs, refused_there v f is h out) refl

  -- Operands with a value more in the collection.
  pub record AddedTo (p : Where) (l : Labels) (n a : ℕ) (g : Goal) (t : Condition) (ls : List Level) (ws : Iterators) (xs : List Operand) (w : List Frame) (v : Option Datum) : Type 0 where
    pub operands : List Operand
    pub adds : added (started ls) v xs ≡ Adds operands
    pub after : Levels c pr.procedures p l n (add_to_goal g v) t ls ws a operands w

  pub added_former : {p : Where} {l : Labels} {n a : ℕ} {k : Collection} {e : Expr} {have : List (Option Datum)} {t : Condition} {ls : List Level} {ws : Iterators} {xs : List Operand} {w : List Frame} (v : Option Datum) → refusal k v ≡ None → Levels c pr.procedures p l n (Collect k e have) t ls ws a xs w → AddedTo p l n a (Collect k e have) t ls ws xs w v
  added_former {k = k} {e = e} {have = have} v h (outside {ws = ws} fi fw fn fg ft (collecting {xs = zs} next)) =
      record { operands = Collecting k (v ∷ have) ∷ zs; adds = rw h refl; after = outside fi (still ws) fn fg ft (collecting next) }
    where
      still : (us : Iterators) → FormedWaiting c pr.procedures (Collect k e (v ∷ have)) us
      still no_iterator = tt
      still (more_iterators b es us) = (tt, tt, still us)
  added_former v h (level {ls = ls} {b = b} {items = items} {xs = xs} at ok here out) =
      let r = added_former v h out in
      record { operands = iterator (begin_of b) items ∷ r.operands; adds = rw (added_past (begin_of b) items (started ls) v xs, r.adds) refl; after = level at ok here r.after }

  pub added_selection : {p : Where} {l : Labels} {n a : ℕ} {k : Collection} {u : Option Datum} {have : List (Option Datum)} {t : Condition} {ls : List Level} {ws : Iterators} {xs : List Operand} {w : List Frame} (v : Option Datum) → refusal k v ≡ None → Levels c pr.procedures p l n (Select k u have) t ls ws a xs w → AddedTo p l n a (Select k u have) t ls ws xs w v
  added_selection {p = p} {k = k} {u = u} {have = have} {t = t} v h (outside {ws = ws} fi fw fn fg ft (selecting_all {xs = zs} next)) =
      record { operands = Collecting k (v ∷ have) ∷ zs; adds = rw h refl; after = outside fi (still ws fw) fn fg (same_test t ft) (selecting_all next) }
    where
      behind : (us : Iterators) → FormedBehind c pr.procedures (Select k u have) us → FormedBehind c pr.procedures (Select k u (v ∷ have)) us
      behind no_iterator f = tt
      behind (more_iterators b es us) f = absurd f

      still : (us : Iterators) → FormedWaiting c pr.procedures (Select k u have) us → FormedWaiting c pr.procedures (Select k u (v ∷ have)) us
      still no_iterator f = tt
      still (more_iterators b es us) f = (f.0, behind us f.1, still us f.2)

      same_test : (d : Condition) → FormedTest c pr.procedures p (Select k u have) d → FormedTest c pr.procedures p (Select k u (v ∷ have)) d
      same_test no_condition f = f
      same_test (only_if e) f = f
  added_selection {t = only_if e} v h (level {ls = ls} {b = b} {items = items} {xs = xs} at ok here out) =
      let r = added_selection v h out in
      record { operands = iterator (begin_of b) items ∷ r.operands; adds = rw (added_past (begin_of b) items (started ls) v xs, r.adds) refl; after = level at ok here r.after }
  added_selection {t = no_condition} v h (level {ls = ls} {b = b} {items = items} {xs = xs} at ok here out) =
      let r = added_selection v h out in
      record { operands = iterator (begin_of b) items ∷ r.operands; adds = rw (added_past (begin_of b) items (started ls) v xs, r.adds) refl; after = level at ok here r.after }

  -- both sides refuse a value, or go on
  pub gathered : {p : Where} {l : Labels} {a : ℕ} {g : Goal} {k : Collection} {have : List (Option Datum)} {t : Condition} {ls : List Level} {xs : List Operand} {w : List Frame} (v : Option Datum) (g1 o : Cells) (s : Shared) (at line : ℕ) (ys : List Operand) (ks : List Copy) (hand : Hand) (u : List Frame) (ss : List Snapshot) → Same c pr.procedures g1 o s ks ss → Collects g k have → (refusal k v ≡ None → AddedTo p l (started ls) a g t ls no_iterator xs w v) → line ≡ line_of (InIteration Body (record { goal = g; condition = t; started = ls; waiting = no_iterator }) ∷ w) → {back : ℕ} → Is (steps_in c p) (suc at) back (Jump a) → Levels c pr.procedures p l (started ls) g t ls no_iterator a xs w → Related (Matches c pr.procedures) (go_added (added (started ls) v xs) line (code_core g1 o s.world p at ys ks)) (gather_by (refusal k v) v (record { goal = g; condition = t; started = ls; waiting = no_iterator }) w (core s hand u ss))
  gathered {p = p} {l = l} {a = a} {g = g} {k = k} {t = t} {ls = ls} {xs = xs} {w = w} v g1 o s at line ys ks hand u ss same is add lines back here = go (refusal k v) refl
    where
      go : (r : Option Fault) → refusal k v ≡ r → Related (Matches c pr.procedures) (go_added (added (started ls) v xs) line (code_core g1 o s.world p at ys ks)) (gather_by r v (record { goal = g; condition = t; started = ls; waiting = no_iterator }) w (core s hand u ss))
      go (Some f) h = rw (refused_there v f is h here, lines) halts
      go None h =
          let r = add h in
          rw r.adds (moves (matched c pr.procedures same (iterating_back back r.after)))

  -- the iterators that wait
  pub waiting_formed : {p : Where} {l : Labels} {n a : ℕ} {g : Goal} {t : Condition} {ls : List Level} {ws : Iterators} {xs : List Operand} {w : List Frame} → Levels c pr.procedures p l n g t ls ws a xs w → FormedIterators (around c pr.procedures p) ws × FormedWaiting c pr.procedures g ws
  waiting_formed (outside fi fw fn fg ft next) = (fi, fw)
  waiting_formed (level at ok here out) = let r = waiting_formed out in (r.0.3, r.1.2)

  pub goal_formed : {p : Where} {l : Labels} {n a : ℕ} {g : Goal} {t : Condition} {ls : List Level} {ws : Iterators} {xs : List Operand} {w : List Frame} → Levels c pr.procedures p l n g t ls ws a xs w → FormedGoal c pr.procedures p g × FormedTest c pr.procedures p g t
  goal_formed (outside fi fw fn fg ft next) = (fg, ft)
  goal_formed (level at ok here out) = goal_formed out

-- ---- steps of iterations

abbrev pub iteration : Goal → Condition → List Level → Iterators → Iteration
iteration g t ls ws = record { goal = g; condition = t; started = ls; waiting = ws }

module _ (c : Code) (pr : Program) (coded : Coded c pr) (formed : Formed pr) where
  -- an iterator begins over the results of its sources
  begun : {p : Where} {l : Labels} {n back : ℕ} {b : Binding} {es : Exprs} {ws : Iterators} {g : Goal} {t : Condition} {ls : List Level} {xs : List Operand} {w : List Frame} (st : Started) (line : ℕ) (g1 o : Cells) (s : Shared) (here at : ℕ) (ys : List Operand) (ks : List Copy) (hand : Hand) (u : List Frame) (ss : List Snapshot) → Same c pr.procedures g1 o s ks ss → line ≡ goal_line g (line_of w) → StartsOf (begin_of b) st → suc here ≡ past at (begins (goal_line g (line_of w)) b 0 es at) → Stands (steps_in c p) l at (looping c pr.procedures (goal_line g (line_of w)) n g t (more_iterators b es ws) back at) → Levels c pr.procedures p l n g t ls (more_iterators b es ws) back xs w → Related (Matches c pr.procedures) (begin_over st (begin_of b) line xs (code_core g1 o s.world p here ys ks)) (start st (iteration g t ls (more_iterators b es ws)) (record { binding = b; sources = es; left = [] }) ws w (core s hand u ss))
  begun (Refuses f) line g1 o s here at ys ks hand u ss same lines ok place stand out = rw lines halts
  begun {p = p} {b = b} {es = es} {ws = ws} {g = g} {t = t} {ls = ls} {xs = xs} {w = w} (Starts items) line g1 o s here at ys ks hand u ss same lines ok place stand out =
      let placed = subst (λ m. Placed c pr.procedures p m (iterator (begin_of b) items ∷ xs) Iterate (InIteration Paused (iteration g t (record { binding = b; sources = es; left = items } ∷ ls) ws) ∷ w)) (sym place) (iterating (level at ok stand out)) in
      moves (matched c pr.procedures same placed)

  pub source_answered : {p : Where} {l : Labels} {n m back : ℕ} {b : Binding} {es : Exprs} {ws : Iterators} {g : Goal} {t : Condition} {ls : List Level} {os xs : List Operand} {vs : List (Option Datum)} {w : List Frame} (rest : Exprs) (y : Operand) (v : Option Datum) (g1 o : Cells) (s : Shared) (here at : ℕ) (ks : List Copy) (ss : List Snapshot) → value_of y ≡ Some v → Same c pr.procedures g1 o s ks ss → Holds m os vs xs → FormedExprs (around c pr.procedures p) rest → Stands (steps_in c p) l here (begins (goal_line g (line_of w)) b (suc m) rest here) → past here (begins (goal_line g (line_of w)) b (suc m) rest here) ≡ past at (begins (goal_line g (line_of w)) b 0 es at) → Stands (steps_in c p) l at (looping c pr.procedures (goal_line g (line_of w)) n g t (more_iterators b es ws) back at) → Levels c pr.procedures p l n g t ls (more_iterators b es ws) back xs w → Answered c pr 0 (slice_get (steps_in c p) here) g1 o s p here (y ∷ os) ks (Result v) (InIteration (Sources vs rest) (iteration g t ls (more_iterators b es ws)) ∷ w) ss
  source_answered {b = b} {vs = vs} no_expr y v g1 o s here at ks ss is same h f code place stand out =
      rw (code.1, all_popped (more is h)) (by_step tt (begun (items_of (begin_of b) (reverse (v ∷ vs))) _ g1 o s here at _ ks _ _ ss same refl (items_start (begin_of b) (reverse (v ∷ vs))) place stand out))
  source_answered {p = p} {l = l} {b = b} {es = es} {ws = ws} {g = g} {t = t} {ls = ls} {os = os} {vs = vs} {w = w} (more_exprs e rest) y v g1 o s here at ks ss is same h f code place stand out =
      after_step {r' = 1} (core s (Evaluate e) (InIteration (Sources (v ∷ vs) rest) (iteration g t ls (more_iterators b es ws)) ∷ w) ss) refl (refl, refl) (expr_answered c pr coded formed e l g1 o s p here (y ∷ os) ks _ ss same f.0 code.0.0 (source l at (more is h) f.1 (code.0.1, code.1) place stand out))

  -- the operands inside the iterators that have started
  abbrev pub inner_operands : Goal → Iterators → List Operand → List Operand
  inner_operands g no_iterator xs = with_member g xs
  inner_operands g (more_iterators b es ws) xs = xs

  -- the next iterator, or the condition and the body where all have started; the meaning's step leads there
  pub inward_answered : {p : Where} {l : Labels} {n a : ℕ} {g : Goal} {t : Condition} {ls : List Level} {xs : List Operand} {w : List Frame} (ws : Iterators) (r : ℕ) (g1 o : Cells) (s : Shared) (at : ℕ) (ks : List Copy) (hand : Hand) (u : List Frame) (ss : List Snapshot) → Same c pr.procedures g1 o s ks ss → Stands (steps_in c p) l at (looping c pr.procedures (goal_line g (line_of w)) n g t ws a at) → Levels c pr.procedures p l n g t ls ws a xs w → (language pr).move (core s hand u ss) ≡ inward (iteration g t ls ws) w (core s hand u ss) → bodies_at_work s.own u ≡ bodies_at_work s.own w → Answered c pr r (slice_get (steps_in c p) at) g1 o s p at (inner_operands g ws xs) ks hand u ss
  inward_answered {p = p} {l = l} {g = g} {t = t} {ls = ls} {xs = xs} {w = w} (more_iterators b (more_exprs e es) ws) r g1 o s at ks hand u ss same stand out moving stays =
      let f = (waiting_formed c pr out).0 in
      after_step {r' = 1} (core s (Evaluate e) (InIteration (Sources [] es) (iteration g t ls (more_iterators b (more_exprs e es) ws)) ∷ w) ss) moving (refl, stays)
      (expr_answered c pr coded formed e l g1 o s p at xs ks _ ss same f.1.0 stand.0.0 (source l at none f.1.1 (stand.0.1, stand.1.0) refl stand out))
  inward_answered (more_iterators b no_expr ws) r g1 o s at ks hand u ss same stand out moving stays = absurd (has_source b (waiting_formed c pr out).0.2)
  inward_answered {p = p} {l = l} {g = Collect k e have} {t = only_if f} {ls = ls} {xs = xs} {w = w} no_iterator r g1 o s at ks hand u ss same stand out moving stays =
      after_step {r' = 1} (core s (Evaluate f) (InIteration Testing (iteration (Collect k e have) (only_if f) ls no_iterator) ∷ w) ss) moving (refl, stays)
      (expr_answered c pr coded formed f l g1 o s p at xs ks _ ss same (goal_formed c pr out).1 stand.0.0 (testing l at stand out))
  inward_answered {p = p} {l = l} {g = Collect k e have} {t = no_condition} {ls = ls} {xs = xs} {w = w} no_iterator r g1 o s at ks hand u ss same stand out moving stays =
      after_step {r' = 1} (core s (Evaluate e) (InIteration Body (iteration (Collect k e have) no_condition ls no_iterator) ∷ w) ss) moving (refl, stays)
      (expr_answered c pr coded formed e l g1 o s p at xs ks _ ss same (goal_formed c pr out).0 stand.1.0 (value l stand.1.1.0 stand.1.1.1 out))
  inward_answered {p = p} {l = l} {g = Select k v have} {t = only_if f} {ls = ls} {xs = xs} {w = w} no_iterator r g1 o s at ks hand u ss same stand out moving stays =
      after_step {r' = 1} (core s (Evaluate f) (InIteration Testing (iteration (Select k v have) (only_if f) ls no_iterator) ∷ w) ss) moving (refl, stays)
      (expr_answered c pr coded formed f l g1 o s p at _ ks _ ss same (goal_formed c pr out).1 stand.0 (testing l at stand out))
  inward_answered {g = Select k v have} {t = no_condition} no_iterator r g1 o s at ks hand u ss same stand out moving stays = absurd (goal_formed c pr out).1
  inward_answered {p = p} {l = l} {g = Decide q} {t = only_if f} {ls = ls} {xs = xs} {w = w} no_iterator r g1 o s at ks hand u ss same stand out moving stays =
      after_step {r' = 1} (core s (Evaluate f) (InIteration Testing (iteration (Decide q) (only_if f) ls no_iterator) ∷ w) ss) moving (refl, stays)
      (expr_answered c pr coded formed f l g1 o s p at xs ks _ ss same (goal_formed c pr out).1 stand.0 (testing l at stand out))
  inward_answered {g = Decide q} {t = no_condition} no_iterator r g1 o s at ks hand u ss same stand out moving stays = absurd (goal_formed c pr out).1
  inward_answered {p = p} {l = l} {g = Repeat line b} {t = only_if f} {ls = ls} {xs = xs} {w = w} no_iterator r g1 o s at ks hand u ss same stand out moving stays =
      after_step {r' = 1} (core s (Evaluate f) (InIteration Testing (iteration (Repeat line b) (only_if f) ls no_iterator) ∷ w) ss) moving (refl, stays)
      (expr_answered c pr coded formed f l g1 o s p at xs ks _ ss same (goal_formed c pr out).1 stand.0.0 (testing l at stand out))
  inward_answered {p = p} {l = l} {n = n} {a = a} {g = Repeat line b} {t = no_condition} {ls = ls} {xs = xs} {w = w} no_iterator r g1 o s at ks hand u ss same stand out moving stays =
      let after : AfterBlock c pr.procedures p (in_loop l a n) (past at (block n b at)) xs (InIteration Body (iteration (Repeat line b) no_condition ls no_iterator) ∷ w) = body l (past at (block n b at)) stand.1.1 out in
      after_step {r' = rank_executing c pr coded formed b after} (core s (Execute b) (InIteration Body (iteration (Repeat line b) no_condition ls no_iterator) ∷ w) ss) moving (refl, stays)
      (block_answered c pr coded formed b (in_loop l a n) g1 o s p at xs ks _ ss same (goal_formed c pr out).0 stand.1.0 after)
