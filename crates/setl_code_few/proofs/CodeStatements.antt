-- The code of a statement has at most nine times as many steps as the statement is large.
use Rattle.std.proofs.Common.{ℕ, zero, suc, ◌+◌, ◌*◌, List, [], ◌∷◌, length, arith}
use Rattle.setl_model_runs.specs.Variable.{Variable}
use Rattle.setl_program.specs.Program.{Selectors, no_selector, round_selector, brace_selector, Stmt, Assign, Update, AssignParts, TakeFrom, Perform, If, For, While, Quit, Continue, Fail, Succeed, Stop, Pass, Return, Print, Read, Block, no_stmt, more_stmts}
use Rattle.setl_code.specs.Code.{Alteration, Putting, Combining, TakingOut}
use Rattle.setl_code.specs.Generated.{selectors, alter, put, read_all, quit, levels, stmt, block, main_code, procedure_code}
use Rattle.setl_code_few.proofs.Sizes.{condition_size, selectors_size, stmt_size, block_size}
use Rattle.setl_code_few.proofs.Pieces.{Small, within, s_empty, s_step, s_out, s_on, s_join, s_ending, s_going}
use Rattle.setl_code_few.proofs.CodeExpressions.{store_small, expr_small, exprs_small, iterators_small, condition_small}

selectors_small : (ss : Selectors) (line at : ℕ) → Small (selectors line ss at) (9 * selectors_size ss)
selectors_small no_selector line at = within s_empty (omega arith)
selectors_small (round_selector e rest) line at = within (s_join (expr_small e line at) (selectors_small rest line _)) (omega arith)
selectors_small (brace_selector e rest) line at = within (s_join (expr_small e line at) (selectors_small rest line _)) (omega arith)

alter_small : (a : Alteration) (x : Variable) (ss : Selectors) (line at : ℕ) → Small (alter line a x ss at) (9 * selectors_size ss + 1)
alter_small a x ss line at = s_join (selectors_small ss line at) s_step

put_small : (x : Variable) (ss : Selectors) (line at : ℕ) → Small (put line x ss at) (9 * selectors_size ss + 1)
put_small x no_selector line at = within s_step (omega arith)
put_small x (round_selector e rest) line at = alter_small Putting x (round_selector e rest) line at
put_small x (brace_selector e rest) line at = alter_small Putting x (brace_selector e rest) line at

read_small : (xs : List Variable) (line at : ℕ) → Small (read_all line xs at) (2 * length xs)
read_small [] line at = within s_empty (omega arith)
read_small (x ∷ xs) line at = within (s_join s_step (s_join (s_join s_step s_empty) (read_small xs line _))) (omega arith)

quit_small : (leaves line at : ℕ) → Small (quit line leaves at) 2
quit_small zero line at = within s_out (omega arith)
quit_small (suc k) line at = within (s_join s_step s_out) (omega arith)

mutual
  pub stmt_small : (s : Stmt) (leaves line at : ℕ) → Small (stmt leaves line s at) (9 * stmt_size s)
  stmt_small (Assign p e) leaves line at = within (s_join (expr_small e line at) (put_small p.variable p.selectors line _)) (omega arith)
  stmt_small (Update o p e) leaves line at = within (s_join (expr_small e line at) (alter_small (Combining o) p.variable p.selectors line _)) (omega arith)
  stmt_small (AssignParts xs e) leaves line at = within (s_join (expr_small e line at) (s_join s_step (store_small xs line _))) (omega arith)
  stmt_small (TakeFrom k x p) leaves line at = within (s_join (alter_small (TakingOut k) p.variable p.selectors line at) (s_join s_step s_empty)) (omega arith)
  stmt_small (Perform e) leaves line at = within (s_join (expr_small e line at) s_step) (omega arith)
  stmt_small (If e a b) leaves line at = within (s_join (expr_small e line at) (s_join s_step (s_join (block_small a leaves _) (s_join s_step (block_small b leaves _))))) (omega arith)
  stmt_small (For is t b) leaves line at =
      within (s_ending (iterators_small is _ line at _ (9 * condition_size t + (9 * block_size b + 2)) (λ a to. within (s_join (condition_small t line to a) (s_join (s_going (block_small b (levels is) _)) s_step)) (omega arith)))) (omega arith)
  stmt_small (While e b) leaves line at =
      within (s_ending (s_join (expr_small e line at) (s_join s_step (s_join s_step (s_join (s_going (block_small b zero _)) s_step))))) (omega arith)
  stmt_small Quit leaves line at = within (quit_small leaves line at) (omega arith)
  stmt_small Continue leaves line at = within s_on (omega arith)
  stmt_small Fail leaves line at = within s_step (omega arith)
  stmt_small Succeed leaves line at = within s_step (omega arith)
  stmt_small Stop leaves line at = within s_step (omega arith)
  stmt_small Pass leaves line at = within s_empty (omega arith)
  stmt_small (Return e) leaves line at = within (s_join (expr_small e line at) s_step) (omega arith)
  stmt_small (Print es) leaves line at = within (s_join (exprs_small es line at) s_step) (omega arith)
  stmt_small (Read xs) leaves line at = within (read_small xs line at) (omega arith)

  pub block_small : (b : Block) (leaves at : ℕ) → Small (block leaves b at) (9 * block_size b)
  block_small no_stmt leaves at = within s_empty (omega arith)
  block_small (more_stmts line s rest) leaves at = within (s_join (stmt_small s leaves line at) (block_small rest leaves _)) (omega arith)

pub main_small : (line : ℕ) (b : Block) → Small (main_code line b 0) (9 * block_size b + 1)
main_small line b = s_join (block_small b zero 0) s_step

pub procedure_small : (line : ℕ) (b : Block) → Small (procedure_code line b 0) (9 * block_size b + 2)
procedure_small line b = s_join (block_small b zero 0) (s_join s_step s_step)
