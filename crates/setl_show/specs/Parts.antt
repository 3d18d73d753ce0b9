-- The canonical tokens of the parts of statements and modes.
use Rattle.std.specs.Prelude.{ℕ}
use Rattle.setl_tree.specs.Tokens.{Tokens}
use Rattle.setl_tree.specs.declared.mode.Core.{Core, fold-Core}
use Rattle.setl_tree.specs.declared.stmt.Branch.{Branch, fold-Branch}
use Rattle.setl_tree.specs.declared.stmt.StmtKind.{StmtKind, fold-StmtKind}
use Rattle.setl_tree.specs.Canonical.{kind_step, branch_step, stmt_step, core_step, mode_step}

-- a statement whose first token has this line
abbrev pub kind_tokens : StmtKind → ℕ → Tokens
kind_tokens = fold-StmtKind (ℕ → Tokens) Tokens Tokens kind_step branch_step stmt_step

abbrev pub branch_tokens : Branch → Tokens
branch_tokens = fold-Branch (ℕ → Tokens) Tokens Tokens kind_step branch_step stmt_step

-- a mode without its attribute, whose first token has this line
abbrev pub core_tokens : Core → ℕ → Tokens
core_tokens = fold-Core (ℕ → Tokens) Tokens core_step mode_step
