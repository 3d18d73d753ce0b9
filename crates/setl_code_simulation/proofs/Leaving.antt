-- What is left by `quit`, by a quantifier's answer and by `return`.
use Rattle.std.proofs.Common.{◌≡◌, ℕ, zero, suc, ◌+◌, false, List, [], ◌∷◌, Option, Some, refl, sym, subst, arith}
use Rattle.setl_value.specs.Datum.{Datum}
use Rattle.setl_model_runs.specs.Variable.{Environment}
use Rattle.setl_program.specs.declared.kinds.Quantifier.{Quantifier}
use Rattle.setl_program.specs.Program.{Begin, Members, Points, begin_of, Iterators, no_iterator, Condition, Block, no_stmt, Procedure}
use Rattle.setl_program.specs.Formed.{IsInLoop, InProcedure}
use Rattle.setl_model.specs.Core.{Hand, Goal, Repeat, Decide, Item, Level, Paused, WhileTest, Evaluate, Execute, Iterate, Result, HandBacks, Activation, Frame, InIteration, InStmt, InCall, Core}
use Rattle.setl_model.specs.Moves.{go}
use Rattle.setl_model.specs.Statements.{quit, continue_loop, return_value}
use Rattle.setl_code.specs.Code.{Code}
use Rattle.setl_code.specs.Piece.{Labels}
use Rattle.setl_code.specs.Generated.{levels}
use Rattle.setl_code.specs.CodeCore.{Operand, without_iterators}
use Rattle.setl_code.specs.Machine.{iterator}
use Rattle.setl_code_simulation.specs.States.{bodies_at_work}
use Rattle.setl_code_simulation.specs.Matches.{Where, Loop, AfterResult, AfterBlock, last, ends, rest, loop, body, block_jumps, Awaits, Returns, at_activation, past_rest, past_loop, past_body, Levels, outside, level, deciding_all, repeating, Placed, evaluating, iterating, while_test}

abbrev pub started : List Level → ℕ
started [] = zero
started (l ∷ ls) = suc (started ls)

-- an iterator on top is left
pub one_left : (k : Begin) (items : List Item) (n : ℕ) (xs : List Operand) → without_iterators (suc n) (iterator k items ∷ xs) ≡ without_iterators n xs
one_left (Members k) items n xs = refl
one_left Points items n xs = refl

module _ (c : Code) (ps : List Procedure) where
  pub counted : {p : Where} {l : Labels} {n a : ℕ} {g : Goal} {t : Condition} {ls : List Level} {ws : Iterators} {xs : List Operand} {w : List Frame} → Levels c ps p l n g t ls ws a xs w → n ≡ started ls + levels ws
  counted (outside {ws = ws} fi fw fn fg ft next) = omega arith
  counted (level {ls = ls} {ws = ws} at items here out) = let before = counted out in omega (arith, before)

  -- ---- a loop is left

  -- where a loop over iterators is left: the operands below them, and the frames around it
  pub record Leaves (p : Where) (n exit : ℕ) (xs : List Operand) (w : List Frame) : Type 0 where
    pub operands : List Operand
    pub outer : Loop
    pub left : without_iterators n xs ≡ Some operands
    pub after : AfterBlock c ps p outer exit operands w

  pub levels_left : {p : Where} {l : Labels} {n a line : ℕ} {b : Block} {t : Condition} {ls : List Level} {ws : Iterators} {xs : List Operand} {w : List Frame} → Levels c ps p l n (Repeat line b) t ls ws a xs w → Leaves p (started ls) l.exit xs w
  levels_left {p = p} {w = w} (outside {xs = xs} fi fw fn fg ft (repeating q same after)) =
      record { operands = xs; outer = q; left = refl; after = subst (λ m. AfterBlock c ps p q m xs w) (sym same) after }
  levels_left (level {ls = ls} {b = b} {items = items} {xs = xs} at ok stand out) =
      let r = levels_left out in record { operands = r.operands; outer = r.outer; left = rw (one_left (begin_of b) items (started ls) xs) r.left; after = r.after }

  -- a quantifier is left with its answer
  pub record Decides (p : Where) (n exit : ℕ) (xs : List Operand) (w : List Frame) : Type 0 where
    pub operands : List Operand
    pub left : without_iterators n xs ≡ Some operands
    pub after : AfterResult c ps p exit operands w

  pub levels_decided : {p : Where} {l : Labels} {n a : ℕ} {q : Quantifier} {t : Condition} {ls : List Level} {ws : Iterators} {xs : List Operand} {w : List Frame} → Levels c ps p l n (Decide q) t ls ws a xs w → Decides p (started ls) l.exit xs w
  levels_decided (outside {xs = xs} fi fw fn fg ft (deciding_all l2 here same after)) = record { operands = xs; left = refl; after = after }
  levels_decided (level {ls = ls} {b = b} {items = items} {xs = xs} at ok stand out) =
      let r = levels_decided out in record { operands = r.operands; left = rw (one_left (begin_of b) items (started ls) xs) r.left; after = r.after }

  -- `quit` leads behind the innermost loop
  pub record Quits (p : Where) (q : Loop) (xs : List Operand) (w : List Frame) : Type 0 where
    pub frames : List Frame
    pub leads : Leaves p q.leaves q.labels.exit xs frames
    pub quits : (m : Core) → quit w m ≡ go (Execute no_stmt) frames m

  pub quitting : {p : Where} {q : Loop} {at : ℕ} {xs : List Operand} {w : List Frame} → IsInLoop q.is_loop → AfterBlock c ps p q at xs w → Quits p q xs w
  quitting {q = q} f (last main outermost alone is) = let never : IsInLoop false = subst IsInLoop alone f in absurd never
  quitting {q = q} f (ends alone push ret wait) = let never : IsInLoop false = subst IsInLoop alone f in absurd never
  quitting f (rest fb here next) = let r = quitting f next in record { frames = r.frames; leads = r.leads; quits = r.quits }
  quitting {xs = xs} f (loop {w = w} outer start fe fb here next) =
      record { frames = w; leads = record { operands = xs; outer = outer; left = refl; after = next }; quits = λ m. refl }
  quitting {p = p} {xs = xs} f (body {n = n} {w = w} l at is out) =
      let same : started _ ≡ n = let m = counted out in omega (arith, m) in
      record { frames = w; leads = subst (λ m. Leaves p m l.exit xs w) same (levels_left out); quits = λ m. refl }
  quitting f (block_jumps is next) = quitting f next

  -- `continue` leads to the next step or test of the innermost loop
  pub record Continues (p : Where) (q : Loop) (xs : List Operand) (w : List Frame) : Type 0 where
    pub hand : Hand
    pub frames : List Frame
    pub goes : (m : Core) → continue_loop w m ≡ go hand frames m
    pub place : Placed c ps p q.labels.again xs hand frames

  pub continuing : {p : Where} {q : Loop} {at : ℕ} {xs : List Operand} {w : List Frame} → IsInLoop q.is_loop → AfterBlock c ps p q at xs w → Continues p q xs w
  continuing f (last main outermost alone is) = let never : IsInLoop false = subst IsInLoop alone f in absurd never
  continuing f (ends alone push ret wait) = let never : IsInLoop false = subst IsInLoop alone f in absurd never
  continuing f (rest fb here next) = let r = continuing f next in record { hand = r.hand; frames = r.frames; goes = r.goes; place = r.place }
  continuing f (loop {line = line} {e = e} {b = b} {w = w} outer start fe fb here next) =
      record { hand = Evaluate e; frames = InStmt line (WhileTest e b) ∷ w; goes = λ m. refl; place = evaluating _ fe here.0 (while_test outer start fe fb here next) }
  continuing f (body {line = line} {b = b} {t = t} {ls = ls} {w = w} l at is out) =
      record { hand = Iterate; frames = InIteration Paused (record { goal = Repeat line b; condition = t; started = ls; waiting = no_iterator }) ∷ w; goes = λ m. refl; place = iterating out }
  continuing f (block_jumps is next) = continuing f next

  -- ---- a procedure is left

  -- `return` leads to the activation at work
  pub record Leads (p : Where) (w : List Frame) : Type 0 where
    pub name : List ℕ
    pub backs : HandBacks
    pub own : Environment
    pub frames : List Frame
    pub to : Returns c ps p w name backs own frames
    pub waits : Awaits c ps p name backs own frames

  mutual
    pub leading : {p : Where} {q : Loop} {at : ℕ} {xs : List Operand} {w : List Frame} → InProcedure p.body → AfterBlock c ps p q at xs w → Leads p w
    leading f (last main outermost alone is) = let never : InProcedure 0 = subst InProcedure main f in absurd never
    leading f (ends alone push ret wait) = record { name = _; backs = _; own = _; frames = _; to = at_activation; waits = wait }
    leading f (rest fb here next) = let r = leading f next in record { name = r.name; backs = r.backs; own = r.own; frames = r.frames; to = past_rest r.to; waits = r.waits }
    leading f (loop outer start fe fb here next) = let r = leading f next in record { name = r.name; backs = r.backs; own = r.own; frames = r.frames; to = past_loop r.to; waits = r.waits }
    leading f (body l at is out) = let r = leading_out f out in record { name = r.name; backs = r.backs; own = r.own; frames = r.frames; to = past_body r.to; waits = r.waits }
    leading f (block_jumps is next) = leading f next

    leading_out : {p : Where} {l : Labels} {n a line : ℕ} {b : Block} {t : Condition} {ls : List Level} {ws : Iterators} {xs : List Operand} {w : List Frame} → InProcedure p.body → Levels c ps p l n (Repeat line b) t ls ws a xs w → Leads p w
    leading_out f (outside fi fw fn fg ft (repeating q same after)) = leading f after
    leading_out f (level at ok stand out) = leading_out f out

  pub returns : {p : Where} {name : List ℕ} {backs : HandBacks} {own : Environment} {w frames : List Frame} (v : Option Datum) (m : Core) → Returns c ps p w name backs own frames → return_value v w m ≡ go (Result v) (InCall (Activation name backs own) ∷ frames) m
  returns v m at_activation = refl
  returns v m (past_rest to) = returns v m to
  returns v m (past_loop to) = returns v m to
  returns v m (past_body to) = returns v m to

  -- the bodies at work stay
  pub same_bodies : {p : Where} {name : List ℕ} {backs : HandBacks} {own : Environment} {w frames : List Frame} (now : Environment) → Returns c ps p w name backs own frames → bodies_at_work now w ≡ bodies_at_work now (InCall (Activation name backs own) ∷ frames)
  same_bodies now at_activation = refl
  same_bodies now (past_rest to) = same_bodies now to
  same_bodies now (past_loop to) = same_bodies now to
  same_bodies now (past_body to) = same_bodies now to
