-- The grammar of statements. In each language `room` is how many nestings may still open there, and `deep` has the
-- statements that stand one nesting deeper.
use Rattle.std.specs.Prelude.{ℕ, zero, suc, ◌-◌, List, Option, Some, None}
use Rattle.setl_tree.specs.declared.kind.Kind.{Kind}
use Rattle.setl_tree.specs.declared.kind.Kind.TheVariants as k
use Rattle.setl_tree.specs.declared.expr.Selector.{Selector}
use Rattle.setl_tree.specs.declared.expr.Selector.TheVariants as se
use Rattle.setl_tree.specs.declared.stmt.Place.{Place}
use Rattle.setl_tree.specs.declared.stmt.FromEnd.{FromEnd}
use Rattle.setl_tree.specs.declared.stmt.FromEnd.TheVariants as fr
use Rattle.setl_tree.specs.declared.stmt.Branch.{Branch, roll-Branch}
use Rattle.setl_tree.specs.declared.stmt.Stmt.{Stmt, roll-Stmt}
use Rattle.setl_tree.specs.declared.stmt.StmtKind.{StmtKind}
use Rattle.setl_tree.specs.declared.stmt.StmtKind.TheVariants as st
use Rattle.setl_tree.specs.Tokens.{Token}
use Rattle.setl_tree.specs.Lang.{Lang, pure, ◌>>=◌, ◌>>◌, ◌∣◌, never, token, one_of, opening, many, optional, separated, listed, lined, name}
use Rattle.setl_tree.specs.Operators.{update_op}
use Rattle.setl_tree.specs.Expressions.{nested, expr, pattern, iters}

unfoldable pub from_word : Kind → Option FromEnd
from_word k.From = Some fr.From
from_word k.Fromb = Some fr.Fromb
from_word k.Frome = Some fr.Frome
from_word _ = None

-- the statements of one word
unfoldable pub simple : Kind → Option StmtKind
simple k.Quit = Some st.Quit
simple k.Continue = Some st.Continue
simple k.Fail = Some st.Fail
simple k.Succeed = Some st.Succeed
simple k.Stop = Some st.Stop
simple k.Pass = Some st.Pass
simple _ = None

-- "end" [ word ] ";"
unfoldable pub ending : Kind → Lang Token
ending word = do token k.End; optional (token word); token k.Semicolon

module _ (room : ℕ) where
  -- what may stand behind the name of a place: "(" expr { "," expr } ")" | "{" expr { "," expr } "}"
  unfoldable pub place_selector : Lang Selector
  place_selector =
      (do opening room k.LeftParen; xs ← separated (nested room).expr; token k.RightParen; pure (se.Round xs))
      ∣ (do opening room k.LeftBrace; xs ← separated (nested room).expr; token k.RightBrace; pure (se.Braces xs))

  -- place = name { "(" expr { "," expr } ")" | "{" expr { "," expr } "}" }
  unfoldable pub place : Lang Place
  place = do x ← name; ss ← many place_selector; pure (record { name = x; selectors = ss })

  module _ (deep : Lang (List Stmt)) where
    -- expr "then" { stmt }
    unfoldable pub branch : Lang Branch
    branch = do c ← (nested room).expr; token k.Then; body ← deep; pure (roll-Branch (record { condition = c; body = body }))

    unfoldable pub stmt_kind : Lang StmtKind
    stmt_kind =
        (do p ← place; token k.Assign; x ← expr room; token k.Semicolon; pure (st.Assign p x))
        ∣ (do p ← place; o ← one_of update_op; token k.Assign; x ← expr room; token k.Semicolon; pure (st.Update p o x))
        ∣ (do slots ← pattern room; token k.Assign; x ← expr room; token k.Semicolon; pure (st.TupleAssign slots x))
        ∣ (do x ← name; w ← one_of from_word; p ← place; token k.Semicolon; pure (st.Take x w p))
        ∣ (do f ← name; opening room k.LeftParen; xs ← listed (nested room).expr; token k.RightParen; token k.Semicolon; pure (st.Call f xs))
        ∣ (do opening room k.If; first ← branch; others ← many (token k.Elseif >> branch); last ← optional (token k.Else >> deep); ending k.If; pure (st.If first others last))
        ∣ (do opening room k.LeftParen; token k.For; over ← iters (room - 1) (nested room).source; c ← optional (token k.Bar >> (nested room).expr); token k.RightParen; body ← deep; ending k.For; pure (st.For over c body))
        ∣ (do opening room k.LeftParen; token k.While; c ← (nested room).expr; token k.RightParen; body ← deep; ending k.While; pure (st.While c body))
        ∣ (do s ← one_of simple; token k.Semicolon; pure s)
        ∣ (do token k.Return; x ← optional (expr room); token k.Semicolon; pure (st.Return x))
        ∣ (do token k.Print; opening room k.LeftParen; xs ← listed (nested room).expr; token k.RightParen; token k.Semicolon; pure (st.Print xs))
        ∣ (do token k.Read; opening room k.LeftParen; xs ← separated name; token k.RightParen; token k.Semicolon; pure (st.Read xs))

    unfoldable pub stmt : Lang Stmt
    stmt = do s ← lined stmt_kind; pure (roll-Stmt (record { line = s.0; kind = s.1 }))

-- the statements that stand one nesting deeper than where so many nestings may still open
unfoldable pub nested_stmts : ℕ → Lang (List Stmt)
nested_stmts zero = never
nested_stmts (suc room) = many (stmt room (nested_stmts room))

-- { stmt }, with at most so many nestings inside one another
unfoldable pub stmts : ℕ → Lang (List Stmt)
stmts room = many (stmt room (nested_stmts room))
