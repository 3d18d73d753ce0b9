-- What reads the parts of expressions that stand one nesting deeper.
use Rattle.std.specs.Prelude.{ℕ, Result}
use Rattle.std.specs.Borrow.{MutBor}
use Rattle.setl_tree.specs.declared.expr.Expr.{Expr}
use Rattle.setl_tree.specs.Tokens.{Tokens}
use Rattle.setl_parse_reading.specs.declared.fault.Fault.{Fault}
use Rattle.setl_parse_reading.specs.code.Reading.{Reader, Reads}
use Rattle.setl_parse_reading.specs.code.ReadExpressions.{Inside, nested}
use Rattle.setl_parse_expressions.specs.declared.grammar.Part.{Part}
use Rattle.setl_parse_expressions.specs.declared.grammar.Part.TheVariants as part

-- the reader of a part
abbrev pub reader_of : Inside → Part → Reader Expr
reader_of deep part.Whole = deep.expr
reader_of deep part.Source = deep.source
reader_of deep (part.After a) = deep.after a

-- A function may be called where so many nestings may still open, and reads parts as the grammar says.
pub record Nests (room : ℕ) (pre : MutBor Tokens → ℕ → Part → Type 0)
    (post : MutBor Tokens → ℕ → Part → Result Expr Fault → MutBor Tokens → Type 0) : Type 0 where
  pub callable : (old : MutBor Tokens) (p : Part) → pre old room p
  pub reads : (old new : MutBor Tokens) (p : Part) (r : Result Expr Fault) → post old room p r new → Reads (reader_of (nested room) p old.now) r new.now
