-- Reading statements. In each reader `room` is how many nestings may still open there, and `deep` reads the statements
-- that stand one nesting deeper.
use Rattle.std.specs.Prelude.{ℕ, zero, suc, ◌-◌, Bool, true, false, if◌then◌else◌, List, [], ◌∷◌, Option}
use Rattle.setl_tree.specs.declared.kind.Kind.{Kind}
use Rattle.setl_tree.specs.declared.kind.Kind.TheVariants as k
use Rattle.setl_tree.specs.declared.expr.Expr.{Expr}
use Rattle.setl_tree.specs.declared.expr.Selector.{Selector}
use Rattle.setl_tree.specs.declared.expr.Selector.TheVariants as se
use Rattle.setl_tree.specs.declared.stmt.Place.{Place}
use Rattle.setl_tree.specs.declared.stmt.Branch.{Branch, roll-Branch}
use Rattle.setl_tree.specs.declared.stmt.Stmt.{Stmt, roll-Stmt}
use Rattle.setl_tree.specs.declared.stmt.StmtKind.{StmtKind}
use Rattle.setl_tree.specs.declared.stmt.StmtKind.TheVariants as st
use Rattle.setl_tree.specs.Tokens.{Token}
use Rattle.setl_tree.specs.Operators.{update_op}
use Rattle.setl_tree.specs.Statements.{from_word, simple}
use Rattle.setl_parse_reading.specs.code.Reading.{Reader, ◌>>=◌, ◌>>◌, pure, refuse, peek, expect, opening, one_of, is, but, begins_as, many, optional, separated, listed, lined, name}
use Rattle.setl_parse_reading.specs.code.ReadExpressions.{nested, expr, pattern, iters, condition, braces, begins_selector}

-- "end" [ word ] ";"
unfoldable pub ending : Kind → Reader Token
ending word = do expect k.End; optional (is word) (expect word); expect k.Semicolon

unfoldable pub begins_stmt : Kind → Bool
begins_stmt k.Name = true
begins_stmt k.LeftBracket = true
begins_stmt k.If = true
begins_stmt k.LeftParen = true
begins_stmt k.Quit = true
begins_stmt k.Continue = true
begins_stmt k.Fail = true
begins_stmt k.Succeed = true
begins_stmt k.Stop = true
begins_stmt k.Pass = true
begins_stmt k.Return = true
begins_stmt k.Print = true
begins_stmt k.Read = true
begins_stmt _ = false

module _ (room : ℕ) where
  -- ---- places

  unfoldable pub place_round : Reader Selector
  place_round = do opening room k.LeftParen; xs ← separated (nested room).expr; expect k.RightParen; pure (se.Round xs)

  unfoldable pub place_selector : Reader Selector
  place_selector = do
    kind ← peek
    if is k.LeftParen kind then place_round else braces room (nested room)

  unfoldable pub place_selectors : Reader (List Selector)
  place_selectors = many begins_selector place_selector

  unfoldable pub place : Reader Place
  place = do x ← name; ss ← place_selectors; pure (record { name = x; selectors = ss })

  -- ---- statements that begin with a name

  -- behind a place: `:= value;`
  unfoldable pub assigned : Place → Reader StmtKind
  assigned p = do expect k.Assign; x ← expr room; expect k.Semicolon; pure (st.Assign p x)

  -- behind a place: `op := value;`
  unfoldable pub updated : Place → Reader StmtKind
  updated p = do o ← one_of update_op; expect k.Assign; x ← expr room; expect k.Semicolon; pure (st.Update p o x)

  -- behind a place
  unfoldable pub stored : Place → Reader StmtKind
  stored p = do
    kind ← peek
    if is k.Assign kind then assigned p else updated p

  -- behind the first selector of a place
  unfoldable pub selected_place : List ℕ → Selector → Reader StmtKind
  selected_place x s = do ss ← place_selectors; stored (record { name = x; selectors = s ∷ ss })

  -- behind `name(x, ..)`: the end of a call, or more of a place
  unfoldable pub after_arguments : List ℕ → List Expr → Reader StmtKind
  after_arguments f xs = do
    kind ← peek
    if is k.Semicolon kind then expect k.Semicolon >> pure (st.Call f xs) else selected_place f (se.Round xs)

  -- behind `name()`
  unfoldable pub no_arguments : List ℕ → Reader StmtKind
  no_arguments f = do expect k.RightParen; expect k.Semicolon; pure (st.Call f [])

  -- behind `name(`
  unfoldable pub called : List ℕ → Reader StmtKind
  called f = do
    kind ← peek
    if is k.RightParen kind then no_arguments f else (do xs ← separated (nested room).expr; expect k.RightParen; after_arguments f xs)

  -- behind a name with no round bracket
  unfoldable pub braced_or_alone : List ℕ → Reader StmtKind
  braced_or_alone x = do
    kind ← peek
    if is k.LeftBrace kind then braces room (nested room) >>= selected_place x else stored (record { name = x; selectors = [] })

  -- behind a name: a call or a place
  unfoldable pub called_or_stored : List ℕ → Reader StmtKind
  called_or_stored x = do
    kind ← peek
    if is k.LeftParen kind then opening room k.LeftParen >> called x else braced_or_alone x

  -- behind a name: `from place;`
  unfoldable pub taken : List ℕ → Reader StmtKind
  taken x = do w ← one_of from_word; p ← place; expect k.Semicolon; pure (st.Take x w p)

  -- behind a name
  unfoldable pub behind_name : List ℕ → Reader StmtKind
  behind_name x = do
    kind ← peek
    if begins_as from_word kind then taken x else called_or_stored x

  -- ---- other statements

  unfoldable pub tuple_assign : Reader StmtKind
  tuple_assign = do slots ← pattern room; expect k.Assign; x ← expr room; expect k.Semicolon; pure (st.TupleAssign slots x)

  unfoldable pub return_stmt : Reader StmtKind
  return_stmt = do expect k.Return; x ← optional (but k.Semicolon) (expr room); expect k.Semicolon; pure (st.Return x)

  unfoldable pub print_stmt : Reader StmtKind
  print_stmt = do
    expect k.Print
    opening room k.LeftParen
    xs ← listed k.RightParen (nested room).expr
    expect k.RightParen
    expect k.Semicolon
    pure (st.Print xs)

  unfoldable pub read_stmt : Reader StmtKind
  read_stmt = do
    expect k.Read
    opening room k.LeftParen
    xs ← separated name
    expect k.RightParen
    expect k.Semicolon
    pure (st.Read xs)

  unfoldable pub simple_stmt : Reader StmtKind
  simple_stmt = do s ← one_of simple; expect k.Semicolon; pure s

  module _ (deep : Reader (List Stmt)) where
    unfoldable pub branch : Reader Branch
    branch = do c ← (nested room).expr; expect k.Then; body ← deep; pure (roll-Branch (record { condition = c; body = body }))

    unfoldable pub elseifs : Reader (List Branch)
    elseifs = many (is k.Elseif) (expect k.Elseif >> branch)

    unfoldable pub else_part : Reader (Option (List Stmt))
    else_part = optional (is k.Else) (expect k.Else >> deep)

    unfoldable pub if_stmt : Reader StmtKind
    if_stmt = do
      opening room k.If
      first ← branch
      others ← elseifs
      last ← else_part
      ending k.If
      pure (st.If first others last)

    -- behind `(`
    unfoldable pub for_loop : Reader StmtKind
    for_loop = do
      expect k.For
      over ← iters (room - 1) (nested room).source
      c ← optional (is k.Bar) (condition room (nested room))
      expect k.RightParen
      body ← deep
      ending k.For
      pure (st.For over c body)

    -- behind `(`
    unfoldable pub while_loop : Reader StmtKind
    while_loop = do
      expect k.While
      c ← (nested room).expr
      expect k.RightParen
      body ← deep
      ending k.While
      pure (st.While c body)

    -- behind `(`
    unfoldable pub for_or_while : Reader StmtKind
    for_or_while = do
      kind ← peek
      if is k.For kind then for_loop else while_loop

    unfoldable pub loop : Reader StmtKind
    loop = opening room k.LeftParen >> for_or_while

    abbrev pub kind_by : Kind → Reader StmtKind
    kind_by k.Name = name >>= behind_name
    kind_by k.LeftBracket = tuple_assign
    kind_by k.If = if_stmt
    kind_by k.LeftParen = loop
    kind_by k.Return = return_stmt
    kind_by k.Print = print_stmt
    kind_by k.Read = read_stmt
    kind_by _ = simple_stmt

    unfoldable pub stmt_kind : Reader StmtKind
    stmt_kind = peek >>= kind_by

    unfoldable pub stmt : Reader Stmt
    stmt = do s ← lined stmt_kind; pure (roll-Stmt (record { line = s.0; kind = s.1 }))

-- the statements that stand one nesting deeper than where so many nestings may still open
unfoldable pub nested_stmts : ℕ → Reader (List Stmt)
nested_stmts zero = refuse
nested_stmts (suc room) = many begins_stmt (stmt room (nested_stmts room))

-- statements with at most so many nestings inside one another
unfoldable pub stmts : ℕ → Reader (List Stmt)
stmts room = many begins_stmt (stmt room (nested_stmts room))
