-- The code of expressions follows their meaning: where an expression is in hand, and where the result of a part is.
use Rattle.std.proofs.Common.{◌≡◌, ◌<◌, ℕ, suc, ◌+◌, List, [], ◌∷◌, reverse, Option, Some, refl, arith}
use Rattle.std.specs.Prelude.{slice_get}
use Rattle.setl_value.specs.Datum.{Datum, bool}
use Rattle.setl_operators_table.specs.declared.Operator.{Operator}
use Rattle.setl_operators_table.specs.Operators.{op_of}
use Rattle.setl_program.specs.declared.kinds.Connective.{Connective}
use Rattle.setl_program.specs.declared.kinds.Connective.TheVariants.{And, Or, Implies}
use Rattle.setl_program.specs.declared.kinds.Quantifier.{Quantifier}
use Rattle.setl_program.specs.declared.kinds.Source.TheVariants.{Values, Between, SetSteps, TupleSteps}
use Rattle.setl_program.specs.Program.{Binding, Members, Points, begin_of, Iterators, no_iterator, more_iterators, Expr, Literal, Undefined, Name, Apply, Connect, Choose, Former, Selection, Quantified, Call, Newat, Eof, Ok, Exprs, no_expr, more_exprs, only_if, Arguments, no_argument, rd_argument, wr_argument, rw_argument, Program, Begin}
use Rattle.setl_program.specs.Formed.{Passed, FormedExpr, FormedExprs, FormedArguments, Formed, parts_of}
use Rattle.setl_model.specs.Core.{Shared, Hand, Evaluate, Result, Operands, ConnectLeft, ChooseTest, Decide, Sources, Argument, Frame, InExpr, InIteration, InCall, Snapshot, line_of}
use Rattle.setl_program.specs.FormedLaws.{arguments_number}
use Rattle.setl_model.specs.Moves.{deliver}
use Rattle.setl_model.specs.Iterations.{undecided, all_bound}
use Rattle.setl_model.specs.Step.{language}
use Rattle.setl_code.specs.Code.{Operate, Push, Step, Code, CallBody}
use Rattle.setl_code.specs.Piece.{Labels, past, Stands, ◌⨾◌, one, nothing}
use Rattle.setl_code.specs.Generated.{count_from, clear, levels, iterators, arguments, store_slots, set_by, expr, exprs}
use Rattle.setl_code.specs.CodeCore.{Result as OperandResult}
use Rattle.setl_code.specs.CodeCore.{Cells, Operand, value_of, popped, Copy}
use Rattle.setl_code.specs.Machine.{do_step, on_popped, next, with_outcome}
use Rattle.setl_code_simulation.specs.Follow.{Related, moves, Answers, by_step, after_step, by_none}
use Rattle.setl_code_simulation.specs.Matches.{Where, steps_in, around, Holds, none, more, behind_left, inside, AfterResult, operands, connect_left, connect_right, choose_test, argument, source, Levels, outside, deciding_all, forming, selection_formed, evaluating, got, more_copy, Matches, rank, FormedWaiting, Keeps, InHand}
use Rattle.setl_code_simulation.proofs.Parts.{code_core, core, Same, matched, matched_in, all_popped, held_read, outcomes, turns, tests}
use Rattle.setl_code_simulation.proofs.Calling.{Coded, called}

abbrev pub Answered : Code → Program → ℕ → Option Step → Cells → Cells → Shared → Where → ℕ → List Operand → List Copy → Hand → List Frame → List Snapshot → Type 0
Answered c pr r i g o s p at xs ks hand w ss =
    Answers (Matches c pr.procedures) (rank c pr.procedures) (language pr) Keeps (InHand i (slice_get (steps_in c p) (suc at))) r (do_step c i (code_core g o s.world p at xs ks)) (core s hand w ss)

-- the place behind iterators doesn't rest on where the first leads back
pub same_end : (is : Iterators) (at line n : ℕ) (q : Quantifier) (e : Expr) (end : ℕ) → past at (iterators line nothing is (inside line n (Decide q) (only_if e)) end at) ≡ past at (iterators line nothing is (inside line n (Decide q) (only_if e)) 0 at)
same_end no_iterator at line n q e end = refl
same_end (more_iterators b es ws) at line n q e end = refl

-- an iterator has a source
pub has_source : (b : Binding) → 0 ≡ parts_of (begin_of b) → ⊥
has_source b h = go (begin_of b) h
  where
    go : (k : Begin) → 0 ≡ parts_of k → ⊥
    go (Members Values) h = cc
    go (Members Between) h = cc
    go (Members SetSteps) h = cc
    go (Members TupleSteps) h = cc
    go Points h = cc

module _ (c : Code) (pr : Program) (coded : Coded c pr) (formed : Formed pr) where
  -- the operator over the operands that are on top
  applied : (f : Operator) (n : ℕ) (os xs : List Operand) (vs : List (Option Datum)) (g o : Cells) (s : Shared) (p : Where) (at : ℕ) (ks : List Copy) (hand : Hand) (w u : List Frame) (ss : List Snapshot) → Same c pr.procedures g o s ks ss → Holds n os vs xs → AfterResult c pr.procedures p (suc at) xs w → Related (Matches c pr.procedures) (on_popped (popped n [] os) (λ us ys. with_outcome (op_of f us s.world.left) (line_of w) (code_core g o s.world p at os ks) (λ v d. next (OperandResult v ∷ ys) d))) (deliver (op_of f (reverse vs) s.world.left) w (core s hand u ss))
  applied f n os xs vs g o s p at ks hand w u ss same h after =
      rw (all_popped h) (outcomes c pr.procedures (op_of f (reverse vs) s.world.left) (line_of w) _ _ _ _ (λ v m. moves (matched_in c pr.procedures _ same (got refl after))))

  pub expr_answered : (e : Expr) (l : Labels) (g o : Cells) (s : Shared) (p : Where) (at : ℕ) (xs : List Operand) (ks : List Copy) (w : List Frame) (ss : List Snapshot) → Same c pr.procedures g o s ks ss → FormedExpr (around c pr.procedures p) e → Stands (steps_in c p) l at (expr (line_of w) e at) → AfterResult c pr.procedures p (past at (expr (line_of w) e at)) xs w → Answered c pr 1 (slice_get (steps_in c p) at) g o s p at xs ks (Evaluate e) w ss
  expr_answered (Literal d) l g o s p at xs ks w ss same f here after = rw here (by_step tt (moves (matched c pr.procedures same (got refl after))))
  expr_answered Undefined l g o s p at xs ks w ss same f here after = rw here (by_step tt (moves (matched c pr.procedures same (got refl after))))
  expr_answered (Name x) l g o s p at xs ks w ss same f here after =
      rw (here, held_read g o s p at xs ks same.globals same.own x) (by_step tt (moves (matched c pr.procedures same (got refl after))))
  expr_answered (Apply o2 no_expr) l g o s p at xs ks w ss same f here after =
      rw here.1 (by_step tt (applied o2 0 xs xs [] g o s p at ks _ w w ss same none after))
  expr_answered (Apply o2 (more_exprs e rest)) l g o s p at xs ks w ss same f here after =
      after_step {r' = 1} (core s (Evaluate e) (InExpr (Operands o2 [] rest) ∷ w) ss) refl (refl, refl) (expr_answered e l g o s p at xs ks _ ss same f.0 here.0.0 (operands l none f.1 (here.0.1, here.1) after))
  expr_answered (Connect k a b) l g o s p at xs ks w ss same f here after =
      after_step {r' = 1} (core s (Evaluate a) (InExpr (ConnectLeft k b) ∷ w) ss) refl (refl, refl) (expr_answered a l g o s p at xs ks _ ss same f.0 here.0 (connect_left l f.1 here.1 after))
  expr_answered (Choose t a b) l g o s p at xs ks w ss same f here after =
      after_step {r' = 1} (core s (Evaluate t) (InExpr (ChooseTest a b) ∷ w) ss) refl (refl, refl) (expr_answered t l g o s p at xs ks _ ss same f.0 here.0 (choose_test l f.1 f.2 here.1 after))
  expr_answered (Former k e is t) l g o s p at xs ks w ss same f here after =
      let less : 0 < 1 = omega arith in
      rw here.0 (by_none tt (matched c pr.procedures same (forming l f here after)) less)
  expr_answered (Selection k b es e) l g o s p at xs ks w ss same f here after =
      let less : 0 < 1 = omega arith in
      rw here.0 (by_none tt (matched c pr.procedures same (selection_formed l f here after)) less)
  expr_answered (Quantified q no_iterator e) l g o s p at xs ks w ss same f here after = absurd f.0
  expr_answered (Quantified q (more_iterators b (more_exprs e es) ws) t) l g o s p at xs ks w ss same f here after =
      let is = more_iterators b (more_exprs e es) ws in
      let n = levels is in
      let ins = inside (line_of w) n (Decide q) (only_if t) in
      let end = past at (iterators (line_of w) nothing is ins 0 at) in
      let exit = past end ((clear (line_of w) (all_bound is) ⨾ one (line_of w) (Push (Some (bool (undecided q))))) end) in
      let out : Levels c pr.procedures p (record l { exit = exit }) n (Decide q) (only_if t) [] is end xs w = outside f.1 (tt, tt, waiting ws) tt tt f.2 (deciding_all l here.1 refl after) in
      after_step {r' = 1} (core s (Evaluate e) (InIteration (Sources [] es) (record { goal = Decide q; condition = only_if t; started = []; waiting = is }) ∷ w) ss) refl (refl, refl)
      (expr_answered e (record l { exit = exit }) g o s p at xs ks _ ss same f.1.1.0 here.0.0.0 (source (record l { exit = exit }) at none f.1.1.1 (here.0.0.1, here.0.1.0) refl here.0 out))
    where
      waiting : (us : Iterators) → FormedWaiting c pr.procedures (Decide q) us
      waiting no_iterator = tt
      waiting (more_iterators b es us) = (tt, tt, waiting us)
  expr_answered (Quantified q (more_iterators b no_expr ws) t) l g o s p at xs ks w ss same f here after = absurd (has_source b f.1.2)
  expr_answered (Call f2 no_argument) l g o s p at xs ks w ss same f here after =
      rw here.1.0 (by_step tt (called c pr coded formed f2 0 xs xs [] no_argument l g o s p at ks _ w w ss same none f.0 refl here.1.1 after))
  expr_answered (Call f2 (rd_argument e rest)) l g o s p at xs ks w ss same f here after =
      let count : 0 + suc (arguments_number rest) ≡ suc (arguments_number rest) = omega arith in
      after_step {r' = 1} (core s (Evaluate e) (InCall (Argument f2 (rd_argument e rest) [] rest) ∷ w) ss) refl (refl, refl)
      (expr_answered e l g o s p at xs ks _ ss same f.1.0 here.0.0 (argument l none f.0 count f.1.1 (here.0.1, here.1) after))
  expr_answered (Call f2 (wr_argument x rest)) l g o s p at xs ks w ss same f here after =
      let count : 0 + suc (arguments_number rest) ≡ suc (arguments_number rest) = omega arith in
      rw here.0.0 (by_step tt (moves (matched c pr.procedures same (got refl (argument l none f.0 count f.1.1 (here.0.1, here.1) after)))))
  expr_answered (Call f2 (rw_argument x rest)) l g o s p at xs ks w ss same f here after =
      let count : 0 + suc (arguments_number rest) ≡ suc (arguments_number rest) = omega arith in
      rw (here.0.0, held_read g o s p at xs ks same.globals same.own x) (by_step tt (moves (matched c pr.procedures same (got refl (argument l none f.0 count f.1.1 (here.0.1, here.1) after)))))
  expr_answered Newat l g o s p at xs ks w ss same f here after =
      rw here (by_step tt (turns c pr.procedures (code_core g o s.world p at xs ks) (core s (Evaluate Newat) w ss) refl _ _ (λ n. moves (matched_in c pr.procedures _ same (got refl after)))))
  expr_answered Eof l g o s p at xs ks w ss same f here after = rw here (by_step tt (moves (matched c pr.procedures same (got refl after))))
  expr_answered Ok l g o s p at xs ks w ss same f here after =
      rw here (by_step tt (moves (record { world = refl; globals = same.globals; own = same.own; kept = more_copy same.globals same.own after same.kept; place = got refl after })))

  -- ---- the result of a part

  -- an operand is done: the next one, or the operator
  pub operand_answered : (f : Operator) (n : ℕ) (u : Operand) (v : Option Datum) (os xs : List Operand) (vs : List (Option Datum)) (rest : Exprs) (l : Labels) (g o : Cells) (s : Shared) (p : Where) (at : ℕ) (ks : List Copy) (w : List Frame) (ss : List Snapshot) → value_of u ≡ Some v → Same c pr.procedures g o s ks ss → Holds n os vs xs → FormedExprs (around c pr.procedures p) rest → Stands (steps_in c p) l at ((exprs (line_of w) rest ⨾ one (line_of w) (Operate f (count_from (suc n) rest))) at) → AfterResult c pr.procedures p (past at ((exprs (line_of w) rest ⨾ one (line_of w) (Operate f (count_from (suc n) rest))) at)) xs w → Answered c pr 0 (slice_get (steps_in c p) at) g o s p at (u ∷ os) ks (Result v) (InExpr (Operands f vs rest) ∷ w) ss
  operand_answered f n u v os xs vs no_expr l g o s p at ks w ss is same h fe here after =
      rw here.1 (by_step tt (applied f (suc n) (u ∷ os) xs (v ∷ vs) g o s p at ks _ w _ ss same (more is h) after))
  operand_answered f n u v os xs vs (more_exprs e rest) l g o s p at ks w ss is same h fe here after =
      after_step {r' = 1} (core s (Evaluate e) (InExpr (Operands f (v ∷ vs) rest) ∷ w) ss) refl (refl, refl) (expr_answered e l g o s p at (u ∷ os) ks _ ss same fe.0 here.0.0 (operands l (more is h) fe.1 (here.0.1, here.1) after))

  pub connected : (k : Connective) (b : Expr) (v : Option Datum) (l : Labels) (g o : Cells) (s : Shared) (p : Where) (at : ℕ) (u : Operand) (xs : List Operand) (ks : List Copy) (w : List Frame) (ss : List Snapshot) → value_of u ≡ Some v → Same c pr.procedures g o s ks ss → FormedExpr (around c pr.procedures p) b → Stands (steps_in c p) l at (behind_left (line_of w) k b at) → AfterResult c pr.procedures p (past at (behind_left (line_of w) k b at)) xs w → Answered c pr 0 (slice_get (steps_in c p) at) g o s p at (u ∷ xs) ks (Result v) (InExpr (ConnectLeft k b) ∷ w) ss
  connected And b v l g o s p at u xs ks w ss is same f here after =
      rw (here.0, is) (by_step tt (tests c pr.procedures v _ _ _ _ _ (moves (matched c pr.procedures same (evaluating l f here.1.0 (connect_right here.1.1 after)))) (moves (matched c pr.procedures same (got refl after)))))
  connected Or b v l g o s p at u xs ks w ss is same f here after =
      rw (here.0, is) (by_step tt (tests c pr.procedures v _ _ _ _ _ (moves (matched c pr.procedures same (got refl after))) (moves (matched c pr.procedures same (evaluating l f here.1.0 (connect_right here.1.1 after))))))
  connected Implies b v l g o s p at u xs ks w ss is same f here after =
      rw (here.0, is) (by_step tt (tests c pr.procedures v _ _ _ _ _ (moves (matched c pr.procedures same (evaluating l f here.1.0 (connect_right here.1.1 after)))) (moves (matched c pr.procedures same (got refl after)))))

  -- an argument is done: the next one, or the call
  pub argument_answered : (f n : ℕ) (u : Operand) (v : Option Datum) (os xs : List Operand) (vs : List (Option Datum)) (all rest : Arguments) (l : Labels) (g o : Cells) (s : Shared) (p : Where) (at : ℕ) (ks : List Copy) (w : List Frame) (ss : List Snapshot) → value_of u ≡ Some v → Same c pr.procedures g o s ks ss → Holds n os vs xs → Passed (slice_get pr.procedures f) all → n + suc (arguments_number rest) ≡ arguments_number all → FormedArguments (around c pr.procedures p) rest → Stands (steps_in c p) l at ((arguments (line_of w) rest ⨾ one (line_of w) (CallBody (suc f)) ⨾ store_slots (line_of w) (set_by all)) at) → AfterResult c pr.procedures p (past at ((arguments (line_of w) rest ⨾ one (line_of w) (CallBody (suc f)) ⨾ store_slots (line_of w) (set_by all)) at)) xs w → Answered c pr 0 (slice_get (steps_in c p) at) g o s p at (u ∷ os) ks (Result v) (InCall (Argument f all vs rest) ∷ w) ss
  argument_answered f n u v os xs vs all no_argument l g o s p at ks w ss is same h passed count fa here after =
      let many : suc n ≡ arguments_number all = omega (arith, count) in
      rw here.1.0 (by_step tt (called c pr coded formed f (suc n) (u ∷ os) xs (v ∷ vs) all l g o s p at ks _ w _ ss same (more is h) passed many here.1.1 after))
  argument_answered f n u v os xs vs all (rd_argument e rest) l g o s p at ks w ss is same h passed count fa here after =
      let next : suc n + suc (arguments_number rest) ≡ arguments_number all = omega (arith, count) in
      after_step {r' = 1} (core s (Evaluate e) (InCall (Argument f all (v ∷ vs) rest) ∷ w) ss) refl (refl, refl)
      (expr_answered e l g o s p at (u ∷ os) ks _ ss same fa.0 here.0.0 (argument l (more is h) passed next fa.1 (here.0.1, here.1) after))
  argument_answered f n u v os xs vs all (wr_argument x rest) l g o s p at ks w ss is same h passed count fa here after =
      let next : suc n + suc (arguments_number rest) ≡ arguments_number all = omega (arith, count) in
      rw here.0.0 (by_step tt (moves (matched c pr.procedures same (got refl (argument l (more is h) passed next fa.1 (here.0.1, here.1) after)))))
  argument_answered f n u v os xs vs all (rw_argument x rest) l g o s p at ks w ss is same h passed count fa here after =
      let next : suc n + suc (arguments_number rest) ≡ arguments_number all = omega (arith, count) in
      rw (here.0.0, held_read g o s p at (u ∷ os) ks same.globals same.own x) (by_step tt (moves (matched c pr.procedures same (got refl (argument l (more is h) passed next fa.1 (here.0.1, here.1) after)))))
