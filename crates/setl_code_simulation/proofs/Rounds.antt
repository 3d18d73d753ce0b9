-- The code of iterations follows their meaning from item to item, and at their ends.
use Rattle.setl_code_simulation.specs.Matches.{AfterBlock, AfterResult, AfterStores, FormedBehind, FormedWaiting, ItemsOf, Levels, Placed, Where, adding, answering, around, begins, binding, body, clearing, clearing_one, collecting, deciding_all, discarding, doubling, evaluating, executing, filled, fills, got, in_loop, inside, item_bound, item_operands, iterating, iterating_back, leaving_all, level, looping, negating, outside, rank_block, rank_goal, rank_result, repeating, result_below, selecting_all, steps_in, stmt_done, storing, value, with_member, rank_place, result_jumps}
use Rattle.std.proofs.Common.{◌≡◌, ◌<◌, ℕ, suc, Bool, true, false, List, [], ◌∷◌, Option, Some, None, refl, sym, ap, subst, arith}
use Rattle.std.specs.Prelude.{slice_get, not}
use Rattle.std.proofs.Math.Nat.{sub-zero}
use Rattle.setl_value.specs.Datum.{Datum, bool, int, text, atom, tuple, set, part_list}
use Rattle.setl_model_runs.specs.Variable.{Variable}
use Rattle.setl_program.specs.declared.kinds.Collection.{Collection}
use Rattle.setl_program.specs.declared.kinds.Quantifier.{Quantifier}
use Rattle.setl_program.specs.declared.kinds.Quantifier.TheVariants.{Exists, Forall, NotExists}
use Rattle.setl_program.specs.Program.{Binding, Member, Components, Point, Begin, Members, Points, begin_of, Expr, Former, Selection, Exprs, Iterators, no_iterator, more_iterators, Condition, no_condition, only_if, Program, no_stmt}
use Rattle.setl_program.specs.Formed.{Formed, BindsMembers, FormedExpr}
use Rattle.setl_model.specs.Collections.{collection}
use Rattle.setl_model.specs.Core.{Shared, Execute, Evaluate, Result, Iterate, Goal, Collect, Select, Decide, Repeat, Item, One, Two, Level, ToBind, IsBound, Testing, Body, Paused, Frame, InIteration, Storing, Dropping, InStmt, Snapshot, goal_line, line_of}
use Rattle.setl_model.specs.Iterations.{decided, undecided, all_bound, goal_at}
use Rattle.setl_model.specs.Slots.{om_stores}
use Rattle.setl_code.specs.Code.{AddBelow, Jump, Push, DropTop, DupTop, StoreIn, Unless, LeaveAll, Code}
use Rattle.setl_code.specs.Piece.{Labels, past, Is, Stands, ◌⨾◌, one, jumps_out, nothing}
use Rattle.setl_code.specs.Generated.{levels, expr, iterators, bind, clear, block}
use Rattle.setl_code.specs.CodeCore.{Result as OperandResult}
use Rattle.setl_code.specs.CodeCore.{Cells, Operand, Collecting, value_of, Copy, CodeCore, without_iterators}
use Rattle.setl_code.specs.Machine.{iterator, next_or, go_to, next, turn}
use Rattle.setl_code_simulation.specs.Follow.{moves, halts, by_step, after_step, by_none}
use Rattle.setl_code_simulation.proofs.Parts.{code_core, core, Same, matched, matched_in, stored, turns, tests}
use Rattle.setl_code_simulation.proofs.Calling.{Coded}
use Rattle.setl_code_simulation.proofs.Expressions.{Answered}
use Rattle.setl_code_simulation.proofs.Storing.{parts_fill, storing_answered}
use Rattle.setl_code_simulation.proofs.Leaving.{started, counted, levels_decided}
use Rattle.setl_code_simulation.proofs.Statements.{ended}
use Rattle.setl_code_simulation.proofs.Iterations.{by_former, by_selection, added_former, added_selection, gathered, waiting_formed, goal_formed, iteration, inner_operands, inward_answered}

-- ---- an iterator at its next item

next_at_end : (k : Begin) (to : ℕ) (xs : List Operand) (c : CodeCore) → next_or to (iterator k [] ∷ xs) c ≡ go_to to xs c
next_at_end (Members k) to xs c = refl
next_at_end Points to xs c = refl

next_item : (k : Begin) (item : Item) (items : List Item) (to : ℕ) (xs : List Operand) (c : CodeCore) → ItemsOf k (item ∷ items) → next_or to (iterator k (item ∷ items) ∷ xs) c ≡ turn c (λ d. next (item_operands item (iterator k items ∷ xs)) d)
next_item (Members k) (One v) items to xs c h = refl
next_item Points (Two v w) items to xs c h = refl
next_item (Members k) (Two v w) items to xs c h = absurd h
next_item Points (One v) items to xs c h = absurd h

items_left : (k : Begin) (item : Item) (items : List Item) → ItemsOf k (item ∷ items) → ItemsOf k items × ItemsOf k (item ∷ [])
items_left (Members k) (One v) items h = (h, tt)
items_left Points (Two v w) items h = (h, tt)
items_left (Members k) (Two v w) items h = absurd h
items_left Points (One v) items h = absurd h

module _ (c : Code) (pr : Program) (coded : Coded c pr) (formed : Formed pr) where
  -- ---- conditions

  -- a quantifier is decided
  decided_there : {p : Where} {l : Labels} {n a : ℕ} {q : Quantifier} {t : Condition} {ls : List Level} {xs : List Operand} {w : List Frame} {line : ℕ} (b : Bool) (at : ℕ) → Is (steps_in c p) at line (LeaveAll n) → Is (steps_in c p) (suc at) line (Push (Some (bool b))) → Is (steps_in c p) (suc (suc at)) line (Jump l.exit) → Levels c pr.procedures p l n (Decide q) t ls no_iterator a xs w → Placed c pr.procedures p at xs (Result (Some (bool b))) w
  decided_there {xs = xs} b at leave push jump out =
      let r = levels_decided c pr.procedures out in
      let n : started _ ≡ _ = let m = counted c pr.procedures out in omega (arith, m) in
      leaving_all leave (subst (λ m. without_iterators m xs ≡ Some r.operands) n r.left) push jump r.after

  -- the condition of all iterators
  pub tested : {p : Where} {n a : ℕ} {g : Goal} {f : Expr} {ls : List Level} {xs : List Operand} {w : List Frame} (l : Labels) (y : Operand) (v : Option Datum) (g1 o : Cells) (s : Shared) (at : ℕ) (ks : List Copy) (ss : List Snapshot) → value_of y ≡ Some v → Same c pr.procedures g1 o s ks ss → Stands (steps_in c p) l at (inside (goal_line g (line_of w)) n g (only_if f) a at) → Levels c pr.procedures p l n g (only_if f) ls no_iterator a xs w → Answered c pr (rank_goal g) (slice_get (steps_in c p) (past at (expr (goal_line g (line_of w)) f at))) g1 o s p (past at (expr (goal_line g (line_of w)) f at)) (y ∷ with_member g xs) ks (Result v) (InIteration Testing (iteration g (only_if f) ls no_iterator) ∷ w) ss
  tested {g = Collect k e have} l y v g1 o s at ks ss is same stand out =
      rw (stand.0.1, is) (by_step tt (tests c pr.procedures v _ _ _ _ _ (moves (matched c pr.procedures same (evaluating l (goal_formed c pr out).0 stand.1.0 (value l stand.1.1.0 stand.1.1.1 out)))) (moves (matched c pr.procedures same (iterating out)))))
  tested {p = p} {n = n} {a = a} {g = Repeat line b} {f = f} {ls = ls} {xs = xs} {w = w} l y v g1 o s at ks ss is same stand out =
      let start = suc (past at (expr line f at)) in
      let after : AfterBlock c pr.procedures p (in_loop l a n) (past start (block n b start)) xs (InIteration Body (iteration (Repeat line b) (only_if f) ls no_iterator) ∷ w) = body l (past start (block n b start)) stand.1.1 out in
      rw (stand.0.1, is) (by_step tt (tests c pr.procedures v _ _ _ _ _ (moves (matched c pr.procedures same (executing (in_loop l a n) (goal_formed c pr out).0 stand.1.0 after))) (moves (matched c pr.procedures same (iterating out)))))
  tested {g = Decide Exists} l y v g1 o s at ks ss is same stand out =
      rw (stand.1.1.0, is) (by_step tt (tests c pr.procedures v _ _ _ _ _ (moves (matched c pr.procedures same (decided_there true _ stand.1.1.1.0 stand.1.1.1.1.0 stand.1.1.1.1.1 out))) (moves (matched c pr.procedures same (iterating out)))))
  tested {g = Decide NotExists} l y v g1 o s at ks ss is same stand out =
      rw (stand.1.1.0, is) (by_step tt (tests c pr.procedures v _ _ _ _ _ (moves (matched c pr.procedures same (decided_there false _ stand.1.1.1.0 stand.1.1.1.1.0 stand.1.1.1.1.1 out))) (moves (matched c pr.procedures same (iterating out)))))
  tested {g = Decide Forall} l y None g1 o s at ks ss is same stand out = rw (stand.1.0, is) (by_step tt halts)
  tested {g = Decide Forall} l y (Some (bool b)) g1 o s at ks ss is same stand out =
      let less : 0 < 1 = omega arith in
      rw (stand.1.0, is) (by_none tt (record { world = ap (λ n. record s.world { left = n }) (sub-zero s.world.left); globals = same.globals; own = same.own; kept = same.kept; place = negating l stand.1.1 out }) less)
  tested {g = Decide Forall} l y (Some (int z)) g1 o s at ks ss is same stand out = rw (stand.1.0, is) (by_step tt halts)
  tested {g = Decide Forall} l y (Some (text t)) g1 o s at ks ss is same stand out = rw (stand.1.0, is) (by_step tt halts)
  tested {g = Decide Forall} l y (Some (atom t)) g1 o s at ks ss is same stand out = rw (stand.1.0, is) (by_step tt halts)
  tested {g = Decide Forall} l y (Some (tuple t)) g1 o s at ks ss is same stand out = rw (stand.1.0, is) (by_step tt halts)
  tested {g = Decide Forall} l y (Some (set t)) g1 o s at ks ss is same stand out = rw (stand.1.0, is) (by_step tt halts)
  tested {g = Select k u have} l y (Some (bool true)) g1 o s at ks ss is same stand out =
      let less : 0 < 1 = omega arith in
      rw (stand.1.0.0, is) (by_none tt (matched c pr.procedures same (adding l stand.1.0.1.0 stand.1.0.1.1 out)) less)
  tested {g = Select k u have} l y (Some (bool false)) g1 o s at ks ss is same stand out =
      rw (stand.1.0.0, is) (by_step tt (moves (matched c pr.procedures same (discarding refl stand.1.1.0 stand.1.1.1 out))))
  tested {g = Select k u have} l y None g1 o s at ks ss is same stand out = rw (stand.1.0.0, is) (by_step tt halts)
  tested {g = Select k u have} l y (Some (int z)) g1 o s at ks ss is same stand out = rw (stand.1.0.0, is) (by_step tt halts)
  tested {g = Select k u have} l y (Some (text t)) g1 o s at ks ss is same stand out = rw (stand.1.0.0, is) (by_step tt halts)
  tested {g = Select k u have} l y (Some (atom t)) g1 o s at ks ss is same stand out = rw (stand.1.0.0, is) (by_step tt halts)
  tested {g = Select k u have} l y (Some (tuple t)) g1 o s at ks ss is same stand out = rw (stand.1.0.0, is) (by_step tt halts)
  tested {g = Select k u have} l y (Some (set t)) g1 o s at ks ss is same stand out = rw (stand.1.0.0, is) (by_step tt halts)

  -- a condition of `forall` that has been negated
  pub negated_answered : {p : Where} {n a : ℕ} {e : Expr} {ls : List Level} {xs : List Operand} {w : List Frame} (b : Bool) (at : ℕ) (l : Labels) (g1 o : Cells) (s : Shared) (ks : List Copy) (ss : List Snapshot) → Same c pr.procedures g1 o s ks ss → Stands (steps_in c p) l at ((one (line_of w) (Unless a) ⨾ one (line_of w) (LeaveAll n) ⨾ one (line_of w) (Push (Some (bool (decided Forall)))) ⨾ jumps_out (line_of w)) at) → Levels c pr.procedures p l n (Decide Forall) (only_if e) ls no_iterator a xs w → Answered c pr 0 (slice_get (steps_in c p) at) g1 o s p at (OperandResult (Some (bool (not b))) ∷ xs) ks (Result (Some (bool b))) (InIteration Testing (iteration (Decide Forall) (only_if e) ls no_iterator) ∷ w) ss
  negated_answered true at l g1 o s ks ss same stand out = rw stand.0 (by_step tt (moves (matched c pr.procedures same (iterating out))))
  negated_answered false at l g1 o s ks ss same stand out = rw stand.0 (by_step tt (moves (matched c pr.procedures same (decided_there false _ stand.1.0 stand.1.1.0 stand.1.1.1 out))))

  -- a value of a former's body is added
  pub value_answered : {p : Where} {n a : ℕ} {k : Collection} {e : Expr} {have : List (Option Datum)} {t : Condition} {ls : List Level} {xs : List Operand} {w : List Frame} (l : Labels) (y : Operand) (v : Option Datum) (g1 o : Cells) (s : Shared) (at : ℕ) (ks : List Copy) (ss : List Snapshot) → value_of y ≡ Some v → Same c pr.procedures g1 o s ks ss → Is (steps_in c p) at (line_of w) (AddBelow n) → Is (steps_in c p) (suc at) (line_of w) (Jump a) → Levels c pr.procedures p l n (Collect k e have) t ls no_iterator a xs w → Answered c pr 0 (slice_get (steps_in c p) at) g1 o s p at (y ∷ xs) ks (Result v) (InIteration Body (iteration (Collect k e have) t ls no_iterator) ∷ w) ss
  value_answered {p = p} {a = a} {k = k} {e = e} {have = have} {t = t} {ls = ls} {xs = xs} {w = w} l y v g1 o s at ks ss is same adds back out =
      let n : _ ≡ started ls = let m = counted c pr.procedures out in omega (arith, m) in
      let adds' = subst (λ m. Is (steps_in c p) at (line_of w) (AddBelow m)) n adds in
      let out' = subst (λ m. Levels c pr.procedures p l m (Collect k e have) t ls no_iterator a xs w) n out in
      rw (adds', is) (by_step tt (gathered c pr v g1 o s at (line_of w) _ ks _ _ ss same by_former (λ h. added_former c pr v h out') refl back out'))

  -- a selection has one iterator
  one_level : {p : Where} {l : Labels} {n a : ℕ} {k : Collection} {v : Option Datum} {have : List (Option Datum)} {t : Condition} {ls : List Level} {ws : Iterators} {xs : List Operand} {w : List Frame} → Levels c pr.procedures p l n (Select k v have) t ls ws a xs w → n ≡ 1
  one_level (outside fi fw fn fg ft next) = fn
  one_level (level at ok stand out) = one_level out

  -- a member of a selection is added
  pub adding_answered : {p : Where} {n a : ℕ} {k : Collection} {v : Option Datum} {e : Expr} {have : List (Option Datum)} {ls : List Level} {xs : List Operand} {w : List Frame} (l : Labels) (g1 o : Cells) (s : Shared) (at : ℕ) (ks : List Copy) (ss : List Snapshot) → Same c pr.procedures g1 o s ks ss → Is (steps_in c p) at (line_of w) (AddBelow 1) → Is (steps_in c p) (suc at) (line_of w) (Jump a) → Levels c pr.procedures p l n (Select k v have) (only_if e) ls no_iterator a xs w → Answered c pr 0 (slice_get (steps_in c p) at) g1 o s p at (OperandResult v ∷ xs) ks (Result (Some (bool true))) (InIteration Testing (iteration (Select k v have) (only_if e) ls no_iterator) ∷ w) ss
  adding_answered {p = p} {a = a} {k = k} {v = v} {e = e} {have = have} {ls = ls} {xs = xs} {w = w} l g1 o s at ks ss same adds back out =
      let n : _ ≡ started ls = let m = counted c pr.procedures out in omega (arith, m) in
      let single : 1 ≡ started ls = let m = counted c pr.procedures out in let k1 = one_level out in omega (arith, m, k1) in
      let adds' = subst (λ m. Is (steps_in c p) at (line_of w) (AddBelow m)) single adds in
      let out' = subst (λ m. Levels c pr.procedures p l m (Select k v have) (only_if e) ls no_iterator a xs w) n out in
      rw adds' (by_step tt (gathered c pr v g1 o s at (line_of w) _ ks _ _ ss same by_selection (λ h. added_selection c pr v h out') refl back out'))

  -- a member for which the condition of a selection doesn't hold
  pub discarded_answered : {p : Where} {n a line : ℕ} {g : Goal} {t : Condition} {ls : List Level} {ws : Iterators} {v : Option Datum} {xs : List Operand} {w : List Frame} (y : Operand) (at : ℕ) (l : Labels) (g1 o : Cells) (s : Shared) (ks : List Copy) (ss : List Snapshot) → value_of y ≡ Some v → Same c pr.procedures g1 o s ks ss → Is (steps_in c p) at line DropTop → Is (steps_in c p) (suc at) line (Jump a) → Levels c pr.procedures p l n g t ls ws a xs w → Answered c pr 2 (slice_get (steps_in c p) at) g1 o s p at (y ∷ xs) ks Iterate (InIteration Paused (iteration g t ls ws) ∷ w) ss
  discarded_answered y at l g1 o s ks ss is same drop back out =
      let less : 1 < 2 = omega arith in
      rw (drop, is) (by_none tt (matched c pr.procedures same (iterating_back back out)) less)

  -- ---- the answer of a quantifier

  pub left_answered : {p : Where} {n to line : ℕ} {ys : List Operand} {w : List Frame} (b : Bool) (at : ℕ) (xs : List Operand) (g1 o : Cells) (s : Shared) (ks : List Copy) (ss : List Snapshot) → Same c pr.procedures g1 o s ks ss → Is (steps_in c p) at line (LeaveAll n) → without_iterators n xs ≡ Some ys → Is (steps_in c p) (suc at) line (Push (Some (bool b))) → Is (steps_in c p) (suc (suc at)) line (Jump to) → (after : AfterResult c pr.procedures p to ys w) → Answered c pr (suc (suc (suc (rank_result after)))) (slice_get (steps_in c p) at) g1 o s p at xs ks (Result (Some (bool b))) w ss
  left_answered b at xs g1 o s ks ss same leave left push jump after =
      let less : suc (suc (rank_result after)) < suc (suc (suc (rank_result after))) = omega arith in
      rw (leave, left) (by_none tt (matched c pr.procedures same (answering push jump after)) less)

  pub pushed_answered : {p : Where} {to line : ℕ} {xs : List Operand} {w : List Frame} (b : Bool) (at : ℕ) (g1 o : Cells) (s : Shared) (ks : List Copy) (ss : List Snapshot) → Same c pr.procedures g1 o s ks ss → Is (steps_in c p) at line (Push (Some (bool b))) → Is (steps_in c p) (suc at) line (Jump to) → (after : AfterResult c pr.procedures p to xs w) → Answered c pr (suc (suc (rank_result after))) (slice_get (steps_in c p) at) g1 o s p at xs ks (Result (Some (bool b))) w ss
  pushed_answered b at g1 o s ks ss same push jump after =
      let less : suc (rank_result after) < suc (suc (rank_result after)) = omega arith in
      rw push (by_none tt (matched c pr.procedures same (got refl (result_jumps jump after))) less)

  -- bound names are cleared one by one, and the answer is pushed
  pub cleared_answered : {p : Where} {xs : List Operand} {w : List Frame} (names : List Variable) (b : Bool) (at : ℕ) (l : Labels) (g1 o : Cells) (s : Shared) (ks : List Copy) (ss : List Snapshot) → Same c pr.procedures g1 o s ks ss → (here : Stands (steps_in c p) l at ((clear (line_of w) names ⨾ one (line_of w) (Push (Some (bool b)))) at)) (after : AfterResult c pr.procedures p (past at ((clear (line_of w) names ⨾ one (line_of w) (Push (Some (bool b)))) at)) xs w) → Answered c pr (rank_place (clearing {xs = xs} {w = w} names l here after)) (slice_get (steps_in c p) at) g1 o s p at xs ks (Result (Some (bool b))) (Storing (om_stores names) ∷ w) ss
  cleared_answered [] b at l g1 o s ks ss same here after = rw here.1 (by_step tt (moves (matched c pr.procedures same (got refl after))))
  cleared_answered (x ∷ names) b at l g1 o s ks ss same here after =
      let less : 0 < 1 = omega arith in
      rw here.0.0 (by_none tt (matched c pr.procedures same (clearing_one x names l here.0.1.0 (here.0.1.1, here.1) after)) less)

  pub cleared_one_answered : {p : Where} {xs : List Operand} {w : List Frame} (x : Variable) (names : List Variable) (b : Bool) (at : ℕ) (l : Labels) (g1 o : Cells) (s : Shared) (ks : List Copy) (ss : List Snapshot) → Same c pr.procedures g1 o s ks ss → Is (steps_in c p) at (line_of w) (StoreIn x) → Stands (steps_in c p) l (suc at) ((clear (line_of w) names ⨾ one (line_of w) (Push (Some (bool b)))) (suc at)) → AfterResult c pr.procedures p (past (suc at) ((clear (line_of w) names ⨾ one (line_of w) (Push (Some (bool b)))) (suc at))) xs w → Answered c pr 0 (slice_get (steps_in c p) at) g1 o s p at (OperandResult None ∷ xs) ks (Result (Some (bool b))) (Storing (om_stores (x ∷ names)) ∷ w) ss
  cleared_one_answered {xs = xs} {w = w} x names b at l g1 o s ks ss same is here after =
      rw is (by_step tt (stored c pr.procedures x (line_of w) None at _ xs _ _ same (clearing names l here after)))

  -- ---- from item to item

  -- the member of a selection is another one
  with_other_member : {p : Where} {l : Labels} {n a : ℕ} {k : Collection} {u : Option Datum} {have : List (Option Datum)} {e : Expr} {ls : List Level} {ws : Iterators} {xs : List Operand} {w : List Frame} (v : Option Datum) → Levels c pr.procedures p l n (Select k u have) (only_if e) ls ws a xs w → Levels c pr.procedures p l n (Select k v have) (only_if e) ls ws a xs w
  with_other_member {k = k} {u = u} {have = have} v (outside {ws = ws} fi fw fn fg ft (selecting_all next)) = outside fi (still ws fw) fn fg ft (selecting_all next)
    where
      behind : (us : Iterators) → FormedBehind c pr.procedures (Select k u have) us → FormedBehind c pr.procedures (Select k v have) us
      behind no_iterator f = tt
      behind (more_iterators b es us) f = absurd f

      still : (us : Iterators) → FormedWaiting c pr.procedures (Select k u have) us → FormedWaiting c pr.procedures (Select k v have) us
      still no_iterator f = tt
      still (more_iterators b es us) f = (f.0, behind us f.1, still us f.2)
  with_other_member v (level at ok stand out) = level at ok stand (with_other_member v out)

  -- where an item has been taken off: a selection pushes its member once more, and then the item is bound
  taken_off : {p : Where} {l : Labels} {n back : ℕ} {g : Goal} {t : Condition} {b : Binding} {es : Exprs} {items : List Item} {ls : List Level} {ws : Iterators} {xs : List Operand} {w : List Frame} (item : Item) (at : ℕ) → ItemsOf (begin_of b) items → ItemsOf (begin_of b) (item ∷ []) → Stands (steps_in c p) l at (looping c pr.procedures (goal_line g (line_of w)) n g t (more_iterators b es ws) back at) → Levels c pr.procedures p l n g t ls (more_iterators b es ws) back xs w → Placed c pr.procedures p (suc (past at (begins (goal_line g (line_of w)) b 0 es at))) (item_operands item (iterator (begin_of b) items ∷ xs)) Iterate (InIteration (ToBind item) (iteration g t (record { binding = b; sources = es; left = items } ∷ ls) ws) ∷ w)
  taken_off {g = Collect k e have} item at left one_ stand out = binding one_ stand.1.1.1.0.1 stand.1.1.1.1 (level at left stand out)
  taken_off {g = Decide q} item at left one_ stand out = binding one_ stand.1.1.1.0.1 stand.1.1.1.1 (level at left stand out)
  taken_off {g = Repeat line b2} item at left one_ stand out = binding one_ stand.1.1.1.0.1 stand.1.1.1.1 (level at left stand out)
  taken_off {g = Select k u have} {t = no_condition} item at left one_ stand out = absurd (goal_formed c pr out).1
  taken_off {g = Select k u have} {t = only_if e} {b = Member m x} (One v) at left one_ stand out = doubling stand.1.1.1.0.0 tt stand.1.1.1.0.1 stand.1.1.1.1 (with_other_member v (level at left stand out))
  taken_off {g = Select k u have} {t = only_if e} {b = Components m x} (One v) at left one_ stand out = doubling stand.1.1.1.0.0 tt stand.1.1.1.0.1 stand.1.1.1.1 (with_other_member v (level at left stand out))
  taken_off {g = Select k u have} {t = only_if e} {b = Member m x} (Two v w2) at left one_ stand out = absurd one_
  taken_off {g = Select k u have} {t = only_if e} {b = Components m x} (Two v w2) at left one_ stand out = absurd one_
  taken_off {g = Select k u have} {t = only_if e} {b = Point y x} item at left one_ stand out = absurd (waiting_formed c pr out).1.0

  -- an iteration in hand: an item is taken off, or the iterator ends; where none is started the iteration ends
  pub next_answered : {p : Where} {l : Labels} {n a : ℕ} {g : Goal} {t : Condition} {ls : List Level} {ws : Iterators} {xs : List Operand} {w : List Frame} (results : (at : ℕ) (y : Operand) (v : Option Datum) (ys : List Operand) (g1 o : Cells) (s : Shared) (ks : List Copy) (ss : List Snapshot) → value_of y ≡ Some v → Same c pr.procedures g1 o s ks ss → (d : AfterResult c pr.procedures p at ys w) → Answered c pr (rank_result d) (slice_get (steps_in c p) at) g1 o s p at (y ∷ ys) ks (Result v) w ss) (g1 o : Cells) (s : Shared) (ks : List Copy) (ss : List Snapshot) → Same c pr.procedures g1 o s ks ss → Levels c pr.procedures p l n g t ls ws a xs w → Answered c pr 0 (slice_get (steps_in c p) a) g1 o s p a xs ks Iterate (InIteration Paused (iteration g t ls ws) ∷ w) ss
  next_answered {a = a} {g = Collect k e have} {w = w} results g1 o s ks ss same (outside fi fw fn fg ft (collecting {xs = ys} next)) =
      after_step {r' = rank_result next} (core s (Result (Some (collection k have))) w ss) refl (refl, refl) (results a _ (Some (collection k have)) ys g1 o s ks ss refl same next)
  next_answered {a = a} {g = Select k v have} {w = w} results g1 o s ks ss same (outside fi fw fn fg ft (selecting_all {xs = ys} next)) =
      after_step {r' = rank_result next} (core s (Result (Some (collection k have))) w ss) refl (refl, refl) (results a _ (Some (collection k have)) ys g1 o s ks ss refl same next)
  next_answered {p = p} {a = a} {g = Decide q} {xs = xs} {w = w} results g1 o s ks ss same (outside {ws = ws} fi fw fn fg ft (deciding_all l2 here exit next)) =
      let next' = subst (λ m. AfterResult c pr.procedures p m xs w) exit next in
      after_step {r' = rank_place (clearing {xs = xs} {w = w} (all_bound ws) l2 here next')} (core s (Result (Some (bool (undecided q)))) (Storing (om_stores (all_bound ws)) ∷ w) ss) refl (refl, refl)
      (cleared_answered (all_bound ws) (undecided q) a l2 g1 o s ks ss same here next')
  next_answered {g = Repeat line b} {w = w} results g1 o s ks ss same (outside fi fw fn fg ft (repeating q exit after)) =
      after_step {r' = rank_block after} (core s (Execute no_stmt) w ss) refl (refl, refl) (ended c pr coded formed g1 o s ks ss same after)
  next_answered results g1 o s ks ss same (level {b = b} {items = []} {xs = xs} at ok stand out) =
      rw (stand.1.1.0, next_at_end (begin_of b)) (by_step tt (moves (matched c pr.procedures same (iterating out))))
  next_answered {p = p} {a = a} {w = w} results g1 o s ks ss same (level {b = b} {items = item ∷ items} {xs = xs} at ok stand out) =
      let left = items_left (begin_of b) item items ok in
      rw (stand.1.1.0, next_item (begin_of b) item items _ xs (code_core g1 o s.world p a (iterator (begin_of b) (item ∷ items) ∷ xs) ks) ok)
      (by_step tt (turns c pr.procedures (code_core g1 o s.world p a (iterator (begin_of b) (item ∷ items) ∷ xs) ks) (core s Iterate _ ss) refl _ _ (λ m. moves (matched_in c pr.procedures _ same (taken_off item at left.0 left.1 stand out)))))

  -- a selection's member is pushed once more
  pub doubled_answered : {p : Where} {l : Labels} {n a : ℕ} {v u : Option Datum} {k : Collection} {have : List (Option Datum)} {t : Condition} {b : Binding} {es : Exprs} {items : List Item} {ls : List Level} {ws : Iterators} {xs : List Operand} {w : List Frame} (at : ℕ) (g1 o : Cells) (s : Shared) (ks : List Copy) (ss : List Snapshot) → Same c pr.procedures g1 o s ks ss → Is (steps_in c p) at (line_of w) DupTop → BindsMembers b → Stands (steps_in c p) l (suc at) (bind (line_of w) b (suc at)) → Stands (steps_in c p) l (past (suc at) (bind (line_of w) b (suc at))) (looping c pr.procedures (line_of w) n (Select k v have) t ws a (past (suc at) (bind (line_of w) b (suc at)))) → Levels c pr.procedures p l n (Select k v have) t (record { binding = b; sources = es; left = items } ∷ ls) ws a xs w → Answered c pr 1 (slice_get (steps_in c p) at) g1 o s p at (OperandResult v ∷ xs) ks Iterate (InIteration (ToBind (One v)) (iteration (Select k u have) t (record { binding = b; sources = es; left = items } ∷ ls) ws) ∷ w) ss
  doubled_answered {v = v} {u = u} {k = k} {have = have} {b = Member m x} at g1 o s ks ss same is members bound inner out =
      let less : 0 < 1 = omega arith in
      rw is (by_none tt (matched c pr.procedures same (binding {item = One v} {g = Select k u have} tt bound inner out)) less)
  doubled_answered {v = v} {u = u} {k = k} {have = have} {b = Components m x} at g1 o s ks ss same is members bound inner out =
      let less : 0 < 1 = omega arith in
      rw is (by_none tt (matched c pr.procedures same (binding {item = One v} {g = Select k u have} tt bound inner out)) less)
  doubled_answered {b = Point y x} at g1 o s ks ss same is members bound inner out = absurd members

  -- what follows the stores
  inner_same : (g : Goal) (ws : Iterators) (xs : List Operand) → FormedBehind c pr.procedures g ws → with_member g xs ≡ inner_operands c pr coded formed g ws xs
  inner_same (Collect k e have) no_iterator xs f = refl
  inner_same (Collect k e have) (more_iterators b es ws) xs f = refl
  inner_same (Decide q) no_iterator xs f = refl
  inner_same (Decide q) (more_iterators b es ws) xs f = refl
  inner_same (Repeat line b) no_iterator xs f = refl
  inner_same (Repeat line b) (more_iterators b2 es ws) xs f = refl
  inner_same (Select k v have) no_iterator xs f = refl
  inner_same (Select k v have) (more_iterators b es ws) xs f = absurd f

  behind_level : {p : Where} {l : Labels} {n a : ℕ} {g : Goal} {t : Condition} {v0 : Level} {ls : List Level} {ws : Iterators} {xs : List Operand} {w : List Frame} → Levels c pr.procedures p l n g t (v0 ∷ ls) ws a xs w → FormedBehind c pr.procedures g ws
  behind_level (level at ok stand out) = (waiting_formed c pr out).1.1

  pub stored_all : {p : Where} {xs : List Operand} {v : Option Datum} {w : List Frame} (results : (at : ℕ) (y : Operand) (v : Option Datum) (ys : List Operand) (w : List Frame) (g1 o : Cells) (s : Shared) (ks : List Copy) (ss : List Snapshot) → value_of y ≡ Some v → Same c pr.procedures g1 o s ks ss → (d : AfterResult c pr.procedures p at ys w) → Answered c pr (rank_result d) (slice_get (steps_in c p) at) g1 o s p at (y ∷ ys) ks (Result v) w ss) (at : ℕ) (g1 o : Cells) (s : Shared) (ks : List Copy) (ss : List Snapshot) → Same c pr.procedures g1 o s ks ss → AfterStores c pr.procedures p at xs v w → Answered c pr 0 (slice_get (steps_in c p) at) g1 o s p at xs ks (Result v) (Storing [] ∷ w) ss
  stored_all {v = v} {w = w} results at g1 o s ks ss same (result_below {o = y} {xs = ys} is next) =
      after_step {r' = rank_result next} (core s (Result v) w ss) refl (refl, refl) (results at y v ys w g1 o s ks ss is same next)
  stored_all {p = p} results at g1 o s ks ss same (item_bound {l = l} {g = g} {t = t} {v0 = v0} {ls = ls} {ws = ws} {xs = xs} {w = w} stand out) =
      after_step {r' = 0} (core s (Result None) (InIteration IsBound (iteration g t (v0 ∷ ls) ws) ∷ w) ss) refl (refl, refl)
      (subst (λ os. Answered c pr 0 (slice_get (steps_in c p) at) g1 o s p at os ks (Result None) (InIteration IsBound (iteration g t (v0 ∷ ls) ws) ∷ w) ss) (sym (inner_same g ws xs (behind_level out)))
      (inward_answered c pr coded formed ws 0 g1 o s at ks _ _ ss same stand out refl refl))
  stored_all results at g1 o s ks ss same (stmt_done {line = line} {w = w} q after) =
      after_step {r' = 0} (core s (Result None) (InStmt line Dropping ∷ w) ss) refl (refl, refl) (after_step {r' = rank_block after} (core s (Execute no_stmt) w ss) refl (refl, refl) (ended c pr coded formed g1 o s ks ss same after))

  -- an item is bound
  pub bound_answered : {p : Where} {l : Labels} {n a : ℕ} {g : Goal} {t : Condition} {es : Exprs} {items : List Item} {ls : List Level} {ws : Iterators} {xs : List Operand} {w : List Frame} (results : (at : ℕ) (y : Operand) (v : Option Datum) (ys : List Operand) (w : List Frame) (g1 o : Cells) (s : Shared) (ks : List Copy) (ss : List Snapshot) → value_of y ≡ Some v → Same c pr.procedures g1 o s ks ss → (d : AfterResult c pr.procedures p at ys w) → Answered c pr (rank_result d) (slice_get (steps_in c p) at) g1 o s p at (y ∷ ys) ks (Result v) w ss) (b : Binding) (item : Item) (at : ℕ) (g1 o : Cells) (s : Shared) (ks : List Copy) (ss : List Snapshot) → Same c pr.procedures g1 o s ks ss → ItemsOf (begin_of b) (item ∷ []) → Stands (steps_in c p) l at (bind (goal_line (goal_at g item) (line_of w)) b at) → Stands (steps_in c p) l (past at (bind (goal_line (goal_at g item) (line_of w)) b at)) (looping c pr.procedures (goal_line (goal_at g item) (line_of w)) n (goal_at g item) t ws a (past at (bind (goal_line (goal_at g item) (line_of w)) b at))) → Levels c pr.procedures p l n (goal_at g item) t (record { binding = b; sources = es; left = items } ∷ ls) ws a xs w → Answered c pr 0 (slice_get (steps_in c p) at) g1 o s p at (item_operands item (with_member (goal_at g item) xs)) ks Iterate (InIteration (ToBind item) (iteration g t (record { binding = b; sources = es; left = items } ∷ ls) ws) ∷ w) ss
  bound_answered {l = l} {g = g} {t = t} {es = es} {items = items} {ls = ls} {ws = ws} {w = w} results (Member k x) (One v) at g1 o s ks ss same one_ bound inner out =
      after_step {r' = 0} (core s (Result None) (Storing ((x, v) ∷ []) ∷ InIteration IsBound (iteration (goal_at g (One v)) t (record { binding = Member k x; sources = es; left = items } ∷ ls) ws) ∷ w) ss) refl (refl, refl)
      (storing_answered c pr {slots = Some x ∷ []} (λ at2 g2 o2 s2 ks2 ss2 same2 after. stored_all results at2 g2 o2 s2 ks2 ss2 same2 after) l at g1 o s ks ss same (fills refl filled) bound (item_bound inner out))
  bound_answered {l = l} {g = g} {t = t} {es = es} {items = items} {ls = ls} {ws = ws} {w = w} results (Point y x) (Two argument image) at g1 o s ks ss same one_ bound inner out =
      after_step {r' = 0} (core s (Result None) (Storing ((x, argument) ∷ (y, image) ∷ []) ∷ InIteration IsBound (iteration (goal_at g (Two argument image)) t (record { binding = Point y x; sources = es; left = items } ∷ ls) ws) ∷ w) ss) refl (refl, refl)
      (storing_answered c pr {slots = Some x ∷ Some y ∷ []} (λ at2 g2 o2 s2 ks2 ss2 same2 after. stored_all results at2 g2 o2 s2 ks2 ss2 same2 after) l at g1 o s ks ss same (fills refl (fills refl filled)) bound (item_bound inner out))
  bound_answered {l = l} results (Components k slots) (One (Some (tuple ps))) at g1 o s ks ss same one_ bound inner out =
      rw bound.0 (by_step tt (moves (matched c pr.procedures same (storing l (parts_fill slots (part_list ps) _) bound.1 (item_bound inner out)))))
  bound_answered results (Components k slots) (One None) at g1 o s ks ss same one_ bound inner out = rw bound.0 (by_step tt halts)
  bound_answered results (Components k slots) (One (Some d)) at g1 o s ks ss same one_ bound inner out = rw bound.0 (by_step tt halts)
  bound_answered results (Member k x) (Two v u) at g1 o s ks ss same one_ bound inner out = absurd one_
  bound_answered results (Components k slots) (Two v u) at g1 o s ks ss same one_ bound inner out = absurd one_
  bound_answered results (Point y x) (One v) at g1 o s ks ss same one_ bound inner out = absurd one_

  -- ---- a former or a selection begins

  former_end : (is : Iterators) (at line n : ℕ) (k : Collection) (e : Expr) (t : Condition) (end : ℕ) → past at (iterators line nothing is (inside line n (Collect k e []) t) end at) ≡ past at (iterators line nothing is (inside line n (Collect k e []) t) 0 at)
  former_end no_iterator at line n k e no_condition end = refl
  former_end no_iterator at line n k e (only_if f) end = refl
  former_end (more_iterators b es ws) at line n k e t end = refl

  former_waits : (k : Collection) (e : Expr) (us : Iterators) → FormedWaiting c pr.procedures (Collect k e []) us
  former_waits k e no_iterator = tt
  former_waits k e (more_iterators b es us) = (tt, tt, former_waits k e us)

  pub former_answered : {p : Where} {k : Collection} {e : Expr} {t : Condition} {xs : List Operand} {w : List Frame} (is : Iterators) (at : ℕ) (l : Labels) (g1 o : Cells) (s : Shared) (ks : List Copy) (ss : List Snapshot) → Same c pr.procedures g1 o s ks ss → FormedExpr (around c pr.procedures p) (Former k e is t) → Stands (steps_in c p) l at (expr (line_of w) (Former k e is t) at) → AfterResult c pr.procedures p (past at (expr (line_of w) (Former k e is t) at)) xs w → Answered c pr 0 (slice_get (steps_in c p) (suc at)) g1 o s p (suc at) (Collecting k [] ∷ xs) ks (Evaluate (Former k e is t)) w ss
  former_answered no_iterator at l g1 o s ks ss same f stand after = absurd f.0
  former_answered {p = p} {k = k} {e = e} {t = t} {xs = xs} {w = w} (more_iterators b es ws) at l g1 o s ks ss same f stand after =
      let is = more_iterators b es ws in
      let ins = inside (line_of w) (levels is) (Collect k e []) t in
      let end = past (suc at) (iterators (line_of w) nothing is ins 0 (suc at)) in
      let next = subst (λ m. AfterResult c pr.procedures p m xs w) (former_end is (suc at) (line_of w) (levels is) k e t end) after in
      inward_answered c pr coded formed is 0 g1 o s (suc at) ks _ _ ss same stand.1 (outside f.2 (former_waits k e is) tt f.1 f.3 (collecting next)) refl refl

  pub selection_answered : {p : Where} {k : Collection} {b : Binding} {es : Exprs} {e : Expr} {xs : List Operand} {w : List Frame} (at : ℕ) (l : Labels) (g1 o : Cells) (s : Shared) (ks : List Copy) (ss : List Snapshot) → Same c pr.procedures g1 o s ks ss → FormedExpr (around c pr.procedures p) (Selection k b es e) → Stands (steps_in c p) l at (expr (line_of w) (Selection k b es e) at) → AfterResult c pr.procedures p (past at (expr (line_of w) (Selection k b es e) at)) xs w → Answered c pr 0 (slice_get (steps_in c p) (suc at)) g1 o s p (suc at) (Collecting k [] ∷ xs) ks (Evaluate (Selection k b es e)) w ss
  selection_answered {b = b} {es = es} at l g1 o s ks ss same f stand after =
      inward_answered c pr coded formed (more_iterators b es no_iterator) 0 g1 o s (suc at) ks _ _ ss same stand.1 (outside (f.1, f.2, f.3, tt) (f.0, tt, tt) refl tt f.4 (selecting_all after)) refl refl
