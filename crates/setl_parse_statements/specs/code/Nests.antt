-- What reads the statements and the modes that stand one nesting deeper.
use Rattle.std.specs.Prelude.{ℕ, List, Result}
use Rattle.std.specs.Borrow.{MutBor}
use Rattle.setl_tree.specs.declared.stmt.Stmt.{Stmt}
use Rattle.setl_tree.specs.declared.mode.WrittenMode.{WrittenMode}
use Rattle.setl_tree.specs.Tokens.{Tokens}
use Rattle.setl_parse_reading.specs.declared.fault.Fault.{Fault}
use Rattle.setl_parse_reading.specs.code.Reading.{Reads}
use Rattle.setl_parse_reading.specs.code.ReadStatements.{nested_stmts}
use Rattle.setl_parse_reading.specs.code.ReadModes.{nested_mode}

-- A function may be called where so many nestings may still open, and reads statements as the grammar says.
pub record NestsStmts (room : ℕ) (pre : MutBor Tokens → ℕ → Type 0) (post : MutBor Tokens → ℕ → Result (List Stmt) Fault → MutBor Tokens → Type 0) : Type 0 where
  pub callable : (old : MutBor Tokens) → pre old room
  pub reads : (old new : MutBor Tokens) (r : Result (List Stmt) Fault) → post old room r new → Reads (nested_stmts room old.now) r new.now

-- The same for modes.
pub record NestsModes (room : ℕ) (pre : MutBor Tokens → ℕ → Type 0) (post : MutBor Tokens → ℕ → Result WrittenMode Fault → MutBor Tokens → Type 0) : Type 0 where
  pub callable : (old : MutBor Tokens) → pre old room
  pub reads : (old new : MutBor Tokens) (r : Result WrittenMode Fault) → post old room r new → Reads (nested_mode room old.now) r new.now
