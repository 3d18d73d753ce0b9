-- The code of statements and bodies is placed.
use Rattle.std.proofs.Common.{ℕ, zero, suc, List}
use Rattle.setl_model_runs.specs.Variable.{Variable}
use Rattle.setl_program.specs.Program.{Selectors, no_selector, round_selector, brace_selector, Stmt, Assign, Update, AssignParts, TakeFrom, Perform, If, For, While, Quit, Continue, Fail, Succeed, Stop, Pass, Return, Print, Read, Block, no_stmt, more_stmts}
use Rattle.setl_program.specs.Placed.{PlacedVariable, PlacedSelectors, PlacedStmt, PlacedBlock}
use Rattle.setl_code.specs.Code.{Alteration, Putting, Combining, TakingOut}
use Rattle.setl_code.specs.Generated.{selectors, alter, put, quit, stmt, block, main_code, procedure_code}
use Rattle.setl_code_may_run.proofs.Pieces.{PlacedAlteration, PlacedPiece}
use Rattle.setl_code_may_run.proofs.Storing.{slots_placed, reads_placed}
use Rattle.setl_code_may_run.proofs.Expressions.{expr_placed, exprs_placed, iterators_placed, condition_placed}

module _ (vars : List (List ℕ)) where
  selectors_placed : (ss : Selectors) (line at : ℕ) → PlacedSelectors vars ss → PlacedPiece vars (selectors line ss at)
  selectors_placed no_selector line at g = tt
  selectors_placed (round_selector e rest) line at g = (expr_placed vars e line at g.0, selectors_placed rest line _ g.1)
  selectors_placed (brace_selector e rest) line at g = (expr_placed vars e line at g.0, selectors_placed rest line _ g.1)

  alter_placed : (a : Alteration) (x : Variable) (ss : Selectors) (line at : ℕ) → PlacedAlteration a → PlacedVariable vars x → PlacedSelectors vars ss → PlacedPiece vars (alter line a x ss at)
  alter_placed a x ss line at f g h = (selectors_placed ss line at h, (g, f))

  put_placed : (x : Variable) (ss : Selectors) (line at : ℕ) → PlacedVariable vars x → PlacedSelectors vars ss → PlacedPiece vars (put line x ss at)
  put_placed x no_selector line at g h = g
  put_placed x (round_selector e rest) line at g h = alter_placed Putting x (round_selector e rest) line at tt g h
  put_placed x (brace_selector e rest) line at g h = alter_placed Putting x (brace_selector e rest) line at tt g h

  quit_placed : (leaves line at : ℕ) → PlacedPiece vars (quit line leaves at)
  quit_placed zero line at = tt
  quit_placed (suc k) line at = (tt, tt)

  mutual
    stmt_placed : (s : Stmt) (leaves line at : ℕ) → PlacedStmt vars s → PlacedPiece vars (stmt leaves line s at)
    stmt_placed (Assign p e) leaves line at g = (expr_placed vars e line at g.1, put_placed p.variable p.selectors line _ g.0.0 g.0.1)
    stmt_placed (Update o p e) leaves line at g = (expr_placed vars e line at g.2, alter_placed (Combining o) p.variable p.selectors line _ g.0 g.1.0 g.1.1)
    stmt_placed (AssignParts xs e) leaves line at g = (expr_placed vars e line at g.1, (tt, slots_placed vars xs line _ g.0))
    stmt_placed (TakeFrom k x p) leaves line at g = (alter_placed (TakingOut k) p.variable p.selectors line at tt g.1.0 g.1.1, (g.0, tt))
    stmt_placed (Perform e) leaves line at g = (expr_placed vars e line at g, tt)
    stmt_placed (If e a b) leaves line at g = (expr_placed vars e line at g.0, (tt, (block_placed a leaves _ g.1, (tt, block_placed b leaves _ g.2))))
    stmt_placed (For is t b) leaves line at g =
        iterators_placed vars is _ line at _ g.0 (λ a to. (condition_placed vars t line to a g.1, (block_placed b _ _ g.2, tt)))
    stmt_placed (While e b) leaves line at g = (expr_placed vars e line at g.0, (tt, (tt, (block_placed b zero _ g.1, tt))))
    stmt_placed Quit leaves line at g = quit_placed leaves line at
    stmt_placed Continue leaves line at g = tt
    stmt_placed Fail leaves line at g = tt
    stmt_placed Succeed leaves line at g = tt
    stmt_placed Stop leaves line at g = tt
    stmt_placed Pass leaves line at g = tt
    stmt_placed (Return e) leaves line at g = (expr_placed vars e line at g, tt)
    stmt_placed (Print es) leaves line at g = (exprs_placed vars es line at g, tt)
    stmt_placed (Read xs) leaves line at g = reads_placed vars xs line at g

    block_placed : (b : Block) (leaves at : ℕ) → PlacedBlock vars b → PlacedPiece vars (block leaves b at)
    block_placed no_stmt leaves at g = tt
    block_placed (more_stmts line s rest) leaves at g = (stmt_placed s leaves line at g.0, block_placed rest leaves _ g.1)

  pub main_placed : (line : ℕ) (b : Block) → PlacedBlock vars b → PlacedPiece vars (main_code line b 0)
  main_placed line b g = (block_placed b zero 0 g, tt)

  pub procedure_placed : (line : ℕ) (b : Block) → PlacedBlock vars b → PlacedPiece vars (procedure_code line b 0)
  procedure_placed line b g = (block_placed b zero 0 g, (tt, tt))
