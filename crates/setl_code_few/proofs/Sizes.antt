-- How large the parts of a program are: the number of their nodes and variables.
use Rattle.std.specs.Prelude.{ℕ, suc, ◌+◌, length}
use Rattle.setl_program.specs.Program.{Binding, Member, Components, Point, Expr, Literal, Undefined, Name, Apply, Connect, Choose, Former, Selection, Quantified, Call, Newat, Eof, Ok, Exprs, no_expr, more_exprs, Iterators, no_iterator, more_iterators, Condition, no_condition, only_if, Arguments, no_argument, rd_argument, wr_argument, rw_argument, Selectors, no_selector, round_selector, brace_selector, Stmt, Assign, Update, AssignParts, TakeFrom, Perform, If, For, While, Quit, Continue, Fail, Succeed, Stop, Pass, Return, Print, Read, Block, no_stmt, more_stmts}

abbrev pub binding_size : Binding → ℕ
binding_size (Member k x) = 1
binding_size (Components k xs) = suc (length xs)
binding_size (Point y x) = 2

-- iterators and what they bind, without their sources
abbrev pub binds : Iterators → ℕ
binds no_iterator = 0
binds (more_iterators b es rest) = suc (binding_size b + binds rest)

-- the variables among arguments
abbrev pub passed : Arguments → ℕ
passed no_argument = 0
passed (rd_argument e rest) = passed rest
passed (wr_argument x rest) = suc (passed rest)
passed (rw_argument x rest) = suc (passed rest)

abbrev mutual
  pub size : Expr → ℕ
  size (Literal d) = 1
  size Undefined = 1
  size (Name x) = 1
  size (Apply o es) = suc (sizes es)
  size (Connect k a b) = suc (size a + size b)
  size (Choose t a b) = suc (size t + (size a + size b))
  size (Former k e is t) = suc (size e + (binds is + (inner is + condition_size t)))
  size (Selection k b es c) = suc (binding_size b + (sizes es + size c))
  size (Quantified q is c) = suc (binds is + (inner is + size c))
  size (Call f all) = suc (values all + passed all)
  size Newat = 1
  size Eof = 1
  size Ok = 1

  pub sizes : Exprs → ℕ
  sizes no_expr = 0
  sizes (more_exprs e rest) = size e + sizes rest

  -- the sources of iterators
  pub inner : Iterators → ℕ
  inner no_iterator = 0
  inner (more_iterators b es rest) = sizes es + inner rest

  pub condition_size : Condition → ℕ
  condition_size no_condition = 0
  condition_size (only_if e) = size e

  -- the values among arguments
  pub values : Arguments → ℕ
  values no_argument = 0
  values (rd_argument e rest) = size e + values rest
  values (wr_argument x rest) = values rest
  values (rw_argument x rest) = values rest

abbrev pub selectors_size : Selectors → ℕ
selectors_size no_selector = 0
selectors_size (round_selector e rest) = size e + selectors_size rest
selectors_size (brace_selector e rest) = size e + selectors_size rest

abbrev mutual
  pub stmt_size : Stmt → ℕ
  stmt_size (Assign p e) = suc (selectors_size p.selectors + size e)
  stmt_size (Update o p e) = suc (selectors_size p.selectors + size e)
  stmt_size (AssignParts xs e) = suc (length xs + size e)
  stmt_size (TakeFrom k x p) = suc (suc (selectors_size p.selectors))
  stmt_size (Perform e) = suc (size e)
  stmt_size (If e a b) = suc (size e + (block_size a + block_size b))
  stmt_size (For is t b) = suc (binds is + (inner is + (condition_size t + block_size b)))
  stmt_size (While e b) = suc (size e + block_size b)
  stmt_size Quit = 1
  stmt_size Continue = 1
  stmt_size Fail = 1
  stmt_size Succeed = 1
  stmt_size Stop = 1
  stmt_size Pass = 1
  stmt_size (Return e) = suc (size e)
  stmt_size (Print es) = suc (sizes es)
  stmt_size (Read xs) = suc (length xs)

  pub block_size : Block → ℕ
  block_size no_stmt = 0
  block_size (more_stmts line s rest) = stmt_size s + block_size rest
