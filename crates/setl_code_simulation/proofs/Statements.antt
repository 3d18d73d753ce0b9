-- The code of statements follows their meaning.
use Rattle.std.proofs.Common.{◌≡◌, ◌<◌, ℕ, zero, suc, true, false, List, [], ◌∷◌, Option, Some, None, refl, sym, subst, arith}
use Rattle.std.specs.Prelude.{slice_get}
use Rattle.setl_value.specs.Datum.{Datum, bool, tuple, part_list}
use Rattle.setl_text.specs.Reading.{Reading, Denotes, AtEnd, NotForm, TooWide, TooDeep, read_denotation}
use Rattle.setl_model_runs.specs.Variable.{Variable}
use Rattle.setl_program.specs.Program.{Slots, Expr, Exprs, no_expr, more_exprs, Iterators, no_iterator, more_iterators, Condition, no_condition, only_if, Stmt, Assign, Update, AssignParts, TakeFrom, Perform, If, For, While, Quit, Continue, Fail, Succeed, Stop, Pass, Return, Print, Read, Block, no_stmt, more_stmts, Program}
use Rattle.setl_program.specs.Formed.{FormedExprs, FormedStmt, FormedBlock, Formed, FormedExpr, FormedVariables, IsInLoop}
use Rattle.setl_model.specs.Core.{Shared, Hand, Execute, Evaluate, Result, Repeat, Sources, Takes, AssignRight, UpdateRight, PartsRight, IfTest, WhileTest, PrintParts, Returning, Dropping, Frame, InIteration, InStmt, Then, Snapshot}
use Rattle.setl_model.specs.Statements.{fail, succeed, take_reading}
use Rattle.setl_code.specs.Code.{PrintTop, Code, TakingOut}
use Rattle.setl_code.specs.Piece.{Labels, past, Stands, ◌⨾◌, one, either, nothing}
use Rattle.setl_code.specs.Generated.{store_slots, parts, levels, count_from, expr, exprs, iterators, stmt, block, read_all, quit}
use Rattle.setl_code.specs.CodeCore.{Cells, Operand, value_of, Copy, without_iterators}
use Rattle.setl_code.specs.Machine.{go_back, forget_kept, push_read, go_to}
use Rattle.setl_code_simulation.specs.Follow.{Related, moves, halts, by_step, after_step, by_none}
use Rattle.setl_code_simulation.specs.Matches.{Where, steps_in, around, Loop, in_loop, Holds, none, more, filled, fills, inside, FormedWaiting, putting, combining, parting_right, printing, if_test, while_test, dropped, returned, returning, source, AfterBlock, last, ends, rest, loop, body, block_jumps, Levels, outside, repeating, stmt_done, Copies, no_copy, more_copy, got, evaluating, executing, rounding, storing, iterating, Matches, rank_block, takes, past_rest}
use Rattle.setl_code_simulation.specs.States.{without_arguments, with_arguments}
use Rattle.setl_code_simulation.proofs.Parts.{code_core, core, Same, matched, matched_in, all_popped, turns, tests}
use Rattle.setl_code_simulation.proofs.Calling.{Coded}
use Rattle.setl_code_simulation.proofs.Expressions.{Answered, expr_answered, has_source}
use Rattle.setl_code_simulation.proofs.Storing.{parts_fill}
use Rattle.setl_code_simulation.proofs.Updating.{select_answered}
use Rattle.setl_code_simulation.proofs.Leaving.{quitting, continuing, leading}

-- the place behind iterators doesn't rest on where the first leads back
same_end : (is : Iterators) (at line n at0 : ℕ) (b : Block) (t : Condition) (end : ℕ) → past at (iterators line nothing is (inside line n (Repeat at0 b) t) end at) ≡ past at (iterators line nothing is (inside line n (Repeat at0 b) t) 0 at)
same_end no_iterator at line n at0 b no_condition end = refl
same_end no_iterator at line n at0 b (only_if f) end = refl
same_end (more_iterators b es ws) at line n at0 c t end = refl

module _ (c : Code) (pr : Program) (coded : Coded c pr) (formed : Formed pr) where
  -- ---- the results of parts of statements

  -- `if` with its condition's result
  pub chosen : (line : ℕ) (a b : Block) (q : Loop) (u : Operand) (v : Option Datum) (xs : List Operand) (g o : Cells) (s : Shared) (p : Where) (at : ℕ) (ks : List Copy) (w : List Frame) (ss : List Snapshot) → value_of u ≡ Some v → Same c pr.procedures g o s ks ss → FormedBlock (around c pr.procedures p) q.is_loop a → FormedBlock (around c pr.procedures p) q.is_loop b → Stands (steps_in c p) q.labels at (either line (block q.leaves a) (block q.leaves b) at) → AfterBlock c pr.procedures p q (past at (either line (block q.leaves a) (block q.leaves b) at)) xs w → Answered c pr 0 (slice_get (steps_in c p) at) g o s p at (u ∷ xs) ks (Result v) (InStmt line (IfTest a b) ∷ w) ss
  chosen line a b q u v xs g o s p at ks w ss is same fa fb here after =
      rw (here.0, is) (by_step tt (tests c pr.procedures v line _ _ _ _ (moves (matched c pr.procedures same (executing q fa here.1.0 (block_jumps here.1.1.0 after)))) (moves (matched c pr.procedures same (executing q fb here.1.1.1 after)))))

  -- the test of a loop
  pub looped : (line start : ℕ) (e : Expr) (b : Block) (q : Loop) (u : Operand) (v : Option Datum) (xs : List Operand) (g o : Cells) (s : Shared) (p : Where) (ks : List Copy) (w : List Frame) (ss : List Snapshot) → value_of u ≡ Some v → Same c pr.procedures g o s ks ss → FormedExpr (around c pr.procedures p) e → FormedBlock (around c pr.procedures p) true b → Stands (steps_in c p) q.labels start (stmt q.leaves line (While e b) start) → AfterBlock c pr.procedures p q (past start (stmt q.leaves line (While e b) start)) xs w → Answered c pr 1 (slice_get (steps_in c p) (past start (expr line e start))) g o s p (past start (expr line e start)) (u ∷ xs) ks (Result v) (InStmt line (WhileTest e b) ∷ w) ss
  looped line start e b q u (Some (bool true)) xs g o s p ks w ss is same fe fb here after =
      let less : 0 < 1 = omega arith in
      rw (here.1.0, is) (by_none tt (matched c pr.procedures same (rounding q start fe fb here after)) less)
  looped line start e b q u (Some (bool false)) xs g o s p ks w ss is same fe fb here after =
      rw (here.1.0, is) (by_step tt (moves (matched c pr.procedures same (executing {b = no_stmt} q tt tt after))))
  looped line start e b q u None xs g o s p ks w ss is same fe fb here after = rw (here.1.0, is) (by_step tt halts)
  looped line start e b q u (Some d) xs g o s p ks w ss is same fe fb here after = rw (here.1.0, is) (by_step tt halts)

  -- the turn of a loop
  pub rounded : (line start : ℕ) (e : Expr) (b : Block) (q : Loop) (xs : List Operand) (g o : Cells) (s : Shared) (p : Where) (ks : List Copy) (w : List Frame) (ss : List Snapshot) → Same c pr.procedures g o s ks ss → FormedExpr (around c pr.procedures p) e → FormedBlock (around c pr.procedures p) true b → Stands (steps_in c p) q.labels start (stmt q.leaves line (While e b) start) → AfterBlock c pr.procedures p q (past start (stmt q.leaves line (While e b) start)) xs w → Answered c pr 0 (slice_get (steps_in c p) (suc (past start (expr line e start)))) g o s p (suc (past start (expr line e start))) xs ks (Result (Some (bool true))) (InStmt line (WhileTest e b) ∷ w) ss
  rounded line start e b q xs g o s p ks w ss same fe fb here after =
      rw here.1.1.0 (by_step tt (turns c pr.procedures (code_core g o s.world p (suc (past start (expr line e start))) xs ks) (core s (Result (Some (bool true))) (InStmt line (WhileTest e b) ∷ w) ss) refl _ _ (λ n. moves (matched_in c pr.procedures _ same (executing (in_loop (record { exit = past start (stmt q.leaves line (While e b) start); again = 0 }) start 0) fb here.1.1.1.0 (loop q start fe fb here after))))))

  -- an argument of `print` is done: the next one, or the line
  pub printed : (line n : ℕ) (u : Operand) (v : Option Datum) (os xs : List Operand) (vs : List (Option Datum)) (es : Exprs) (q : Loop) (l : Labels) (g o : Cells) (s : Shared) (p : Where) (at : ℕ) (ks : List Copy) (w : List Frame) (ss : List Snapshot) → value_of u ≡ Some v → Same c pr.procedures g o s ks ss → Holds n os vs xs → FormedExprs (around c pr.procedures p) es → Stands (steps_in c p) l at ((exprs line es ⨾ one line (PrintTop (count_from (suc n) es))) at) → AfterBlock c pr.procedures p q (past at ((exprs line es ⨾ one line (PrintTop (count_from (suc n) es))) at)) xs w → Answered c pr 0 (slice_get (steps_in c p) at) g o s p at (u ∷ os) ks (Result v) (InStmt line (PrintParts vs es) ∷ w) ss
  printed line n u v os xs vs no_expr q l g o s p at ks w ss is same h f here after =
      rw (here.1, all_popped (more is h)) (by_step with_arguments (moves (matched c pr.procedures same (executing {b = no_stmt} q tt tt after))))
  printed line n u v os xs vs (more_exprs e es) q l g o s p at ks w ss is same h f here after =
      after_step {r' = 1} (core s (Evaluate e) (InStmt line (PrintParts (v ∷ vs) es) ∷ w) ss) refl (refl, refl)
      (expr_answered c pr coded formed e l g o s p at (u ∷ os) ks _ ss same f.0 here.0.0 (printing q l (more is h) f.1 (here.0.1, here.1) after))

  -- a tuple is taken apart
  pub parted : (line : ℕ) (slots : Slots) (q : Loop) (u : Operand) (v : Option Datum) (xs : List Operand) (g o : Cells) (s : Shared) (p : Where) (at : ℕ) (ks : List Copy) (w : List Frame) (ss : List Snapshot) → value_of u ≡ Some v → Same c pr.procedures g o s ks ss → Stands (steps_in c p) q.labels at (parts line slots at) → AfterBlock c pr.procedures p q (past at (parts line slots at)) xs w → Answered c pr 0 (slice_get (steps_in c p) at) g o s p at (u ∷ xs) ks (Result v) (InStmt line (PartsRight slots) ∷ w) ss
  parted line slots q u (Some (tuple ps)) xs g o s p at ks w ss is same here after =
      rw (here.0, is) (by_step tt (moves (matched c pr.procedures same (storing q.labels (parts_fill slots (part_list ps) xs) here.1 (stmt_done q after)))))
  parted line slots q u None xs g o s p at ks w ss is same here after = rw (here.0, is) (by_step tt halts)
  parted line slots q u (Some d) xs g o s p at ks w ss is same here after = rw (here.0, is) (by_step tt halts)

  -- ---- statements in hand

  -- the latest copy comes back
  failed : (line : ℕ) (g o : Cells) (s : Shared) (p : Where) (at : ℕ) (xs : List Operand) (ks ls : List Copy) (hand : Hand) (w : List Frame) (ss zs : List Snapshot) → Copies c pr.procedures ks ss → Related (Matches c pr.procedures) (go_back line ks (code_core g o s.world p at xs ls)) (fail line ss (core s hand w zs))
  failed line g o s p at xs ks ls hand w ss zs no_copy = halts
  failed line g o s p at xs ks ls hand w ss zs (more_copy globals own next kept) =
      turns c pr.procedures (code_core g o s.world p at xs ls) (core s hand w zs) refl _ _ (λ n. moves (record { world = refl; globals = globals; own = own; kept = kept; place = got refl next }))

  -- the latest copy is forgotten
  succeeded : (line : ℕ) (q : Loop) (g o : Cells) (s : Shared) (p : Where) (at : ℕ) (xs : List Operand) (ks ls : List Copy) (hand : Hand) (u w : List Frame) (ss zs : List Snapshot) → Same c pr.procedures g o s ls zs → Copies c pr.procedures ks ss → AfterBlock c pr.procedures p q (suc at) xs w → Related (Matches c pr.procedures) (forget_kept line ks (code_core g o s.world p at xs ls)) (succeed line ss w (core s hand u zs))
  succeeded line q g o s p at xs ks ls hand u w ss zs same no_copy after = halts
  succeeded line q g o s p at xs ks ls hand u w ss zs same (more_copy globals own next kept) after =
      moves (matched c pr.procedures (record { globals = same.globals; own = same.own; kept = kept }) (executing {b = no_stmt} q tt tt after))

  -- a value is read, or the input has none
  read_one : (r : Reading) (line : ℕ) (x : Variable) (xs : List Variable) (q : Loop) (g o : Cells) (s : Shared) (p : Where) (at : ℕ) (ys : List Operand) (ks : List Copy) (hand : Hand) (u w : List Frame) (ss : List Snapshot) → Same c pr.procedures g o s ks ss → Stands (steps_in c p) q.labels (suc at) ((store_slots line (Some x ∷ []) ⨾ read_all line xs) (suc at)) → AfterBlock c pr.procedures p q (past (suc at) ((store_slots line (Some x ∷ []) ⨾ read_all line xs) (suc at))) ys w → FormedVariables p.body xs → Related (Matches c pr.procedures) (push_read r line (code_core g o s.world p at ys ks)) (take_reading r line x xs w (core s hand u ss))
  read_one (Denotes v input) line x xs q g o s p at ys ks hand u w ss same here after f =
      moves (matched_in c pr.procedures _ same (storing q.labels (fills refl filled) here.0 (stmt_done q (rest {b = more_stmts line (Read xs) no_stmt} (f, tt) (here.1, tt) after))))
  read_one AtEnd line x xs q g o s p at ys ks hand u w ss same here after f =
      moves (matched_in c pr.procedures _ same (storing q.labels (fills refl filled) here.0 (stmt_done q (rest {b = more_stmts line (Read xs) no_stmt} (f, tt) (here.1, tt) after))))
  read_one NotForm line x xs q g o s p at ys ks hand u w ss same here after f = halts
  read_one TooWide line x xs q g o s p at ys ks hand u w ss same here after f = halts
  read_one TooDeep line x xs q g o s p at ys ks hand u w ss same here after f = halts

  -- `quit`
  quit_answered : (n line : ℕ) (q : Loop) (g o : Cells) (s : Shared) (p : Where) (at : ℕ) (xs : List Operand) (ks : List Copy) (r : Block) (w : List Frame) (ss : List Snapshot) → q.leaves ≡ n → Same c pr.procedures g o s ks ss → IsInLoop q.is_loop → Stands (steps_in c p) q.labels at (quit line n at) → {end : ℕ} → AfterBlock c pr.procedures p q end xs w → Answered c pr 0 (slice_get (steps_in c p) at) g o s p at xs ks (Execute (more_stmts line Quit r)) w ss
  quit_answered zero line q g o s p at xs ks r w ss n same f here after =
      let to = quitting c pr.procedures f after in
      let count = subst (λ m. without_iterators m xs ≡ Some to.leads.operands) n to.leads.left in
      let below : xs ≡ to.leads.operands = cc in
      let next = subst (λ ys. AfterBlock c pr.procedures p to.leads.outer q.labels.exit ys to.frames) (sym below) to.leads.after in
      rw here (by_step tt (subst (λ m. Related (Matches c pr.procedures) (go_to q.labels.exit xs (code_core g o s.world p at xs ks)) m) (sym (to.quits (core s (Execute (more_stmts line Quit r)) w ss)))
      (moves (matched c pr.procedures same (executing {b = no_stmt} to.leads.outer tt tt next)))))
  quit_answered (suc n) line q g o s p at xs ks r w ss many same f here after =
      let to = quitting c pr.procedures f after in
      let left = subst (λ m. without_iterators m xs ≡ Some to.leads.operands) many to.leads.left in
      rw (here.0, left) (by_step tt (subst (λ m. Related (Matches c pr.procedures) (go_to (suc at) to.leads.operands (code_core g o s.world p at xs ks)) m) (sym (to.quits (core s (Execute (more_stmts line Quit r)) w ss)))
      (moves (matched c pr.procedures same (executing {b = no_stmt} to.leads.outer tt tt (block_jumps here.1 to.leads.after))))))

  -- a statement in hand; `later` is the answer for the statements that follow, where it has no code of its own
  stmt_answered : (st : Stmt) (line : ℕ) (r : Block) (q : Loop) (g o : Cells) (s : Shared) (p : Where) (at : ℕ) (xs : List Operand) (ks : List Copy) (w : List Frame) (ss : List Snapshot) → Same c pr.procedures g o s ks ss → FormedStmt (around c pr.procedures p) q.is_loop st → FormedBlock (around c pr.procedures p) q.is_loop r → Stands (steps_in c p) q.labels at ((stmt q.leaves line st ⨾ block q.leaves r) at) → AfterBlock c pr.procedures p q (past at ((stmt q.leaves line st ⨾ block q.leaves r) at)) xs w → {rank_later : ℕ} → (later : Answered c pr rank_later (slice_get (steps_in c p) (past at (stmt q.leaves line st at))) g o s p (past at (stmt q.leaves line st at)) xs ks (Execute r) w ss) → Answered c pr 0 (slice_get (steps_in c p) at) g o s p at xs ks (Execute (more_stmts line st r)) w ss
  stmt_answered (Assign place e) line r q g o s p at xs ks w ss same f fr here after later =
      after_step {r' = 1} (core s (Evaluate e) (InStmt line (AssignRight place) ∷ Then r ∷ w) ss) refl (refl, refl) (expr_answered c pr coded formed e q.labels g o s p at xs ks _ ss same f.2 here.0.0 (putting q f.1 here.0.1 (rest fr here.1 after)))
  stmt_answered (Update h place e) line r q g o s p at xs ks w ss same f fr here after later =
      after_step {r' = 1} (core s (Evaluate e) (InStmt line (UpdateRight h place) ∷ Then r ∷ w) ss) refl (refl, refl) (expr_answered c pr coded formed e q.labels g o s p at xs ks _ ss same f.2 here.0.0 (combining q f.1 here.0.1 (rest fr here.1 after)))
  stmt_answered (AssignParts slots e) line r q g o s p at xs ks w ss same f fr here after later =
      after_step {r' = 1} (core s (Evaluate e) (InStmt line (PartsRight slots) ∷ Then r ∷ w) ss) refl (refl, refl) (expr_answered c pr coded formed e q.labels g o s p at xs ks _ ss same f.1 here.0.0 (parting_right q here.0.1 (rest fr here.1 after)))
  stmt_answered (TakeFrom k x place) line r q g o s p at xs ks w ss same f fr here after later =
      select_answered c pr coded formed place.selectors 0 (TakingOut k) (Takes k x) place.variable line 0 q [] g o s p at xs xs xs ks _ w (Then r ∷ w) ss same refl refl none takes f.2 here.0 (rest fr here.1 after)
  stmt_answered (Perform e) line r q g o s p at xs ks w ss same f fr here after later =
      after_step {r' = 1} (core s (Evaluate e) (InStmt line Dropping ∷ Then r ∷ w) ss) refl (refl, refl) (expr_answered c pr coded formed e q.labels g o s p at xs ks _ ss same f here.0.0 (dropped q here.0.1 (rest fr here.1 after)))
  stmt_answered (If e a b) line r q g o s p at xs ks w ss same f fr here after later =
      after_step {r' = 1} (core s (Evaluate e) (InStmt line (IfTest a b) ∷ Then r ∷ w) ss) refl (refl, refl) (expr_answered c pr coded formed e q.labels g o s p at xs ks _ ss same f.0 here.0.0 (if_test q f.1 f.2 here.0.1 (rest fr here.1 after)))
  stmt_answered (For no_iterator t b) line r q g o s p at xs ks w ss same f fr here after later = absurd f.0
  stmt_answered (For (more_iterators b no_expr ws) t b2) line r q g o s p at xs ks w ss same f fr here after later = absurd (has_source b f.1.2)
  stmt_answered (For (more_iterators b (more_exprs e es) ws) t b2) line r q g o s p at xs ks w ss same f fr here after later =
      let is = more_iterators b (more_exprs e es) ws in
      let n = levels is in
      let ins = inside line n (Repeat line b2) t in
      let end = past at (iterators line nothing is ins 0 at) in
      let exit = past at (iterators line nothing is ins end at) in
      let l = record q.labels { exit = exit } in
      let next = subst (λ m. AfterBlock c pr.procedures p q m xs (Then r ∷ w)) (same_end is at line n line b2 t end) (rest fr here.1 after) in
      let out : Levels c pr.procedures p l n (Repeat line b2) t [] is end xs (Then r ∷ w) = outside f.1 (tt, tt, waiting ws) tt f.3 f.2 (repeating q (same_end is at line n line b2 t end) next) in
      after_step {r' = 1} (core s (Evaluate e) (InIteration (Sources [] es) (record { goal = Repeat line b2; condition = t; started = []; waiting = is }) ∷ Then r ∷ w) ss) refl (refl, refl)
      (expr_answered c pr coded formed e l g o s p at xs ks _ ss same f.1.1.0 here.0.0.0 (source l at none f.1.1.1 (here.0.0.1, here.0.1.0) refl here.0 out))
    where
      waiting : (us : Iterators) → FormedWaiting c pr.procedures (Repeat line b2) us
      waiting no_iterator = tt
      waiting (more_iterators b es us) = (tt, tt, waiting us)
  stmt_answered (While e b) line r q g o s p at xs ks w ss same f fr here after later =
      after_step {r' = 1} (core s (Evaluate e) (InStmt line (WhileTest e b) ∷ Then r ∷ w) ss) refl (refl, refl) (expr_answered c pr coded formed e _ g o s p at xs ks _ ss same f.0 here.0.0 (while_test q at f.0 f.1 here.0 (rest fr here.1 after)))
  stmt_answered Quit line r q g o s p at xs ks w ss same f fr here after later = quit_answered q.leaves line q g o s p at xs ks r w ss refl same f here.0 after
  stmt_answered Continue line r q g o s p at xs ks w ss same f fr here after later =
      let to = continuing c pr.procedures f after in
      rw here.0 (by_step tt (subst (λ m. Related (Matches c pr.procedures) (go_to q.labels.again xs (code_core g o s.world p at xs ks)) m) (sym (to.goes (core s (Execute (more_stmts line Continue r)) w ss))) (moves (matched c pr.procedures same to.place))))
  stmt_answered Fail line r q g o s p at xs ks w ss same f fr here after later =
      rw here.0 (by_step tt (failed line g o s p at xs ks ks (Execute (more_stmts line Fail r)) w ss ss same.kept))
  stmt_answered Succeed line r q g o s p at xs ks w ss same f fr here after later =
      rw here.0 (by_step tt (succeeded line q g o s p at xs ks ks (Execute (more_stmts line Succeed r)) w (Then r ∷ w) ss ss same same.kept (rest fr here.1 after)))
  stmt_answered Stop line r q g o s p at xs ks w ss same f fr here after later = rw here.0 (by_step tt halts)
  stmt_answered Pass line r q g o s p at xs ks w ss same f fr here after later =
      after_step {r' = 0} (core s (Execute no_stmt) (Then r ∷ w) ss) refl (refl, refl) (after_step {r' = _} (core s (Execute r) w ss) refl (refl, refl) later)
  stmt_answered (Return e) line r q g o s p at xs ks w ss same f fr here after later =
      let to = leading c pr.procedures f.0 after in
      after_step {r' = 1} (core s (Evaluate e) (InStmt line Returning ∷ Then r ∷ w) ss) refl (refl, refl) (expr_answered c pr coded formed e q.labels g o s p at xs ks _ ss same f.1 here.0.0 (returned here.0.1 (past_rest to.to) to.waits))
  stmt_answered (Print no_expr) line r q g o s p at xs ks w ss same f fr here after later =
      rw here.0.1 (by_step without_arguments (moves (matched c pr.procedures same (executing {b = no_stmt} q tt tt (rest fr here.1 after)))))
  stmt_answered (Print (more_exprs e es)) line r q g o s p at xs ks w ss same f fr here after later =
      after_step {r' = 1} (core s (Evaluate e) (InStmt line (PrintParts [] es) ∷ Then r ∷ w) ss) refl (refl, refl) (expr_answered c pr coded formed e q.labels g o s p at xs ks _ ss same f.0 here.0.0.0 (printing q q.labels none f.1 (here.0.0.1, here.0.1) (rest fr here.1 after)))
  stmt_answered (Read []) line r q g o s p at xs ks w ss same f fr here after later =
      after_step {r' = 0} (core s (Execute no_stmt) (Then r ∷ w) ss) refl (refl, refl) (after_step {r' = _} (core s (Execute r) w ss) refl (refl, refl) later)
  stmt_answered (Read (x ∷ vs)) line r q g o s p at xs ks w ss same f fr here after later =
      rw here.0.0 (by_step (record { variable = x; others = vs; rest = r; in_hand = refl; stores = here.0.1.0.0 }) (read_one (read_denotation s.world.input) line x vs q g o s p at xs ks (Execute (more_stmts line (Read (x ∷ vs)) r)) w (Then r ∷ w) ss same here.0.1 (rest fr here.1 after) f.1))

  -- ---- blocks

  abbrev pub rank_executing : {p : Where} {q : Loop} {at : ℕ} {xs : List Operand} {w : List Frame} → Block → AfterBlock c pr.procedures p q at xs w → ℕ
  rank_executing no_stmt after = rank_block after
  rank_executing (more_stmts line st r) after = 0

  -- statements, where it is answered what follows them
  block_by : (b : Block) (q : Loop) (g o : Cells) (s : Shared) (p : Where) (at : ℕ) (xs : List Operand) (ks : List Copy) (w : List Frame) (ss : List Snapshot) → Same c pr.procedures g o s ks ss → FormedBlock (around c pr.procedures p) q.is_loop b → Stands (steps_in c p) q.labels at (block q.leaves b at) → (after : AfterBlock c pr.procedures p q (past at (block q.leaves b at)) xs w) → Answered c pr (rank_block after) (slice_get (steps_in c p) (past at (block q.leaves b at))) g o s p (past at (block q.leaves b at)) xs ks (Execute no_stmt) w ss → Answered c pr (rank_executing b after) (slice_get (steps_in c p) at) g o s p at xs ks (Execute b) w ss
  block_by no_stmt q g o s p at xs ks w ss same f here after done = done
  block_by (more_stmts line st r) q g o s p at xs ks w ss same f here after done =
      stmt_answered st line r q g o s p at xs ks w ss same f.0 f.1 here after
      (block_by r q g o s p (past at (stmt q.leaves line st at)) xs ks w ss same f.1 here.1 after done)

  -- the end of statements
  pub ended : {q : Loop} {p : Where} {at : ℕ} {xs : List Operand} {w : List Frame} (g o : Cells) (s : Shared) (ks : List Copy) (ss : List Snapshot) → Same c pr.procedures g o s ks ss → (d : AfterBlock c pr.procedures p q at xs w) → Answered c pr (rank_block d) (slice_get (steps_in c p) at) g o s p at xs ks (Execute no_stmt) w ss
  ended g o s ks ss same (last main outermost alone is) = rw is (by_step tt halts)
  ended g o s ks ss same (ends alone push ret wait) = rw push (by_step tt (moves (matched c pr.procedures same (got refl (returning ret wait)))))
  ended {p = p} {at = at} {xs = xs} g o s ks ss same (rest {q = q} {b = b} {w = u} f here later) =
      after_step {r' = rank_executing b later} (core s (Execute b) u ss) refl (refl, refl) (block_by b q g o s p at xs ks u ss same f here later (ended g o s ks ss same later))
  ended g o s ks ss same (loop outer start fe fb here next) =
      rw here.1.1.1.1 (by_step tt (moves (matched c pr.procedures same (evaluating _ fe here.0 (while_test outer start fe fb here next)))))
  ended g o s ks ss same (body l at is out) = rw is (by_step tt (moves (matched c pr.procedures same (iterating out))))
  ended g o s ks ss same (block_jumps is next) =
      let less : rank_block next < suc (rank_block next) = omega arith in
      rw is (by_none tt (matched c pr.procedures same (executing {b = no_stmt} _ tt tt next)) less)

  pub block_answered : (b : Block) (q : Loop) (g o : Cells) (s : Shared) (p : Where) (at : ℕ) (xs : List Operand) (ks : List Copy) (w : List Frame) (ss : List Snapshot) → Same c pr.procedures g o s ks ss → FormedBlock (around c pr.procedures p) q.is_loop b → Stands (steps_in c p) q.labels at (block q.leaves b at) → (after : AfterBlock c pr.procedures p q (past at (block q.leaves b at)) xs w) → Answered c pr (rank_executing b after) (slice_get (steps_in c p) at) g o s p at xs ks (Execute b) w ss
  block_answered b q g o s p at xs ks w ss same f here after = block_by b q g o s p at xs ks w ss same f here after (ended g o s ks ss same after)
