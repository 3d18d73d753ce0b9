-- The code of expressions and statements, without takes.
use Rattle.std.specs.Prelude.{ℕ, zero, suc, List, [], ◌∷◌, length, Some, None}
use Rattle.setl_value.specs.Datum.{bool}
use Rattle.setl_model_runs.specs.Variable.{Variable}
use Rattle.setl_operators_table.specs.declared.Operator.TheVariants.{Not}
use Rattle.setl_program.specs.declared.kinds.Quantifier.{Quantifier}
use Rattle.setl_program.specs.declared.kinds.Quantifier.TheVariants.{Exists, Forall, NotExists}
use Rattle.setl_program.specs.Program.{Slots, Binding, Member, Components, Point, begin_of, Expr, Literal, Undefined, Name, Apply, Connect, Choose, Former, Selection, Quantified, Call, Newat, Eof, Ok, Exprs, no_expr, more_exprs, Iterators, no_iterator, more_iterators, Condition, no_condition, only_if, Arguments, no_argument, rd_argument, wr_argument, rw_argument, Selectors, no_selector, round_selector, brace_selector, Stmt, Assign, Update, AssignParts, TakeFrom, Perform, If, For, While, Quit, Continue, Fail, Succeed, Stop, Pass, Return, Print, Read, Block, no_stmt, more_stmts}
use Rattle.setl_model.specs.Iterations.{decided, undecided, all_bound}
use Rattle.setl_code.specs.Code.{Bracket, InRound, InBrace, Alteration, Putting, Combining, TakingOut, Push, PushAtom, PushEof, Load, StoreIn, Operate, Alter, Decides, TestBool, Unless, Jump, DropTop, DupTop, PartsOf, BeginOver, NextOr, BeginOf, AddBelow, LeaveAll, PayRound, CallBody, ReturnTop, KeepAll, GoBack, ForgetKept, PrintTop, ReadOne, StopRun}
use Rattle.setl_code.specs.Piece.{Laid, ◌⨾◌, nothing, one, jumps_out, jumps_on, over, either, ending, going_on, leaving, with_end, with_start}

-- ---- stores

abbrev pub store_slots : ℕ → Slots → Laid
store_slots line [] = nothing
store_slots line (None ∷ xs) = one line DropTop ⨾ store_slots line xs
store_slots line (Some x ∷ xs) = one line (StoreIn x) ⨾ store_slots line xs

-- a tuple on top is taken apart
abbrev pub parts : ℕ → Slots → Laid
parts line xs = one line (PartsOf (length xs)) ⨾ store_slots line xs

abbrev pub bind : ℕ → Binding → Laid
bind line (Member k x) = store_slots line (Some x ∷ [])
bind line (Components k xs) = parts line xs
bind line (Point y x) = store_slots line (Some x ∷ Some y ∷ [])

-- `om` in each of these variables
abbrev pub clear : ℕ → List Variable → Laid
clear line [] = nothing
clear line (x ∷ xs) = one line (Push None) ⨾ one line (StoreIn x) ⨾ clear line xs

-- what a call sets, from left to right
abbrev pub set_by : Arguments → Slots
set_by no_argument = []
set_by (rd_argument e rest) = set_by rest
set_by (wr_argument x rest) = Some x ∷ set_by rest
set_by (rw_argument x rest) = Some x ∷ set_by rest

-- ---- expressions

-- so many and the number of these
abbrev pub count_from : ℕ → Exprs → ℕ
count_from n no_expr = n
count_from n (more_exprs e rest) = count_from (suc n) rest

abbrev pub count : Exprs → ℕ
count es = count_from 0 es

abbrev pub levels : Iterators → ℕ
levels no_iterator = zero
levels (more_iterators b es rest) = suc (levels rest)

-- `forall` is decided by a member for which the condition doesn't hold
abbrev pub negated : ℕ → Quantifier → Laid
negated line Exists = nothing
negated line Forall = one line (Operate Not 1)
negated line NotExists = nothing

-- an iterator at its next step, whose end leads back; the code inside knows where this step is
abbrev pub next_step : ℕ → ℕ → Laid → (ℕ → Laid) → Laid
next_step line back bound inside = with_start (λ a. one line (NextOr back) ⨾ bound ⨾ inside a)

-- a member that is to be collected stands below the condition
abbrev pub keep_or_drop : ℕ → ℕ → Laid
keep_or_drop line a =
    over line Unless (one line (AddBelow 1) ⨾ one line (Jump a)) ⨾ one line DropTop ⨾ one line (Jump a)

abbrev mutual
  pub expr : ℕ → Expr → Laid
  expr line (Literal d) = one line (Push (Some d))
  expr line Undefined = one line (Push None)
  expr line (Name x) = one line (Load x)
  expr line (Apply o es) = exprs line es ⨾ one line (Operate o (count es))
  expr line (Connect k a b) = expr line a ⨾ over line (Decides k) (expr line b ⨾ one line TestBool)
  expr line (Choose t a b) = expr line t ⨾ either line (expr line a) (expr line b)
  expr line (Former k e is t) =
      one line (BeginOf k) ⨾ with_end (iterators line nothing is (λ a. condition line t a ⨾ expr line e ⨾ one line (AddBelow (levels is)) ⨾ one line (Jump a)))
  expr line (Selection k b es c) =
      one line (BeginOf k)
      ⨾ with_end (λ back. exprs line es ⨾ one line (BeginOver (begin_of b) (count es)) ⨾ next_step line back (one line DupTop ⨾ bind line b) (λ a. expr line c ⨾ keep_or_drop line a))
  expr line (Quantified q is c) =
      leaving
      (with_end (iterators line nothing is (λ a. expr line c ⨾ negated line q ⨾ one line (Unless a) ⨾ one line (LeaveAll (levels is)) ⨾ one line (Push (Some (bool (decided q)))) ⨾ jumps_out line)))
      (clear line (all_bound is) ⨾ one line (Push (Some (bool (undecided q)))))
  expr line (Call f all) = arguments line all ⨾ one line (CallBody (suc f)) ⨾ store_slots line (set_by all)
  expr line Newat = one line PushAtom
  expr line Eof = one line PushEof
  expr line Ok = one line KeepAll

  pub exprs : ℕ → Exprs → Laid
  exprs line no_expr = nothing
  exprs line (more_exprs e rest) = expr line e ⨾ exprs line rest

  -- iterators, the end of the first of which leads back, with what comes before each binding; the code inside knows
  -- where the innermost goes on
  pub iterators : ℕ → (before : Laid) → Iterators → (ℕ → Laid) → ℕ → Laid
  iterators line before no_iterator inside back = inside back
  iterators line before (more_iterators b es rest) inside back =
      exprs line es ⨾ one line (BeginOver (begin_of b) (count es)) ⨾ next_step line back (before ⨾ bind line b) (iterators line before rest inside)

  -- a condition that goes back where it doesn't hold
  pub condition : ℕ → Condition → ℕ → Laid
  condition line no_condition a = nothing
  condition line (only_if c) a = expr line c ⨾ one line (Unless a)

  pub arguments : ℕ → Arguments → Laid
  arguments line no_argument = nothing
  arguments line (rd_argument e rest) = expr line e ⨾ arguments line rest
  arguments line (wr_argument x rest) = one line (Push None) ⨾ arguments line rest
  arguments line (rw_argument x rest) = one line (Load x) ⨾ arguments line rest

-- ---- statements

abbrev pub selectors : ℕ → Selectors → Laid
selectors line no_selector = nothing
selectors line (round_selector e rest) = expr line e ⨾ selectors line rest
selectors line (brace_selector e rest) = expr line e ⨾ selectors line rest

abbrev pub brackets : Selectors → List Bracket
brackets no_selector = []
brackets (round_selector e rest) = InRound ∷ brackets rest
brackets (brace_selector e rest) = InBrace ∷ brackets rest

abbrev pub alter : ℕ → Alteration → Variable → Selectors → Laid
alter line a x ss = selectors line ss ⨾ one line (Alter a x (brackets ss))

-- a right side is put into a place
abbrev pub put : ℕ → Variable → Selectors → Laid
put line x no_selector = one line (StoreIn x)
put line x ss = alter line Putting x ss

-- each variable is read and stored
abbrev pub read_all : ℕ → List Variable → Laid
read_all line [] = nothing
read_all line (x ∷ xs) = one line ReadOne ⨾ store_slots line (Some x ∷ []) ⨾ read_all line xs

-- `quit` leaves the iterators of the innermost loop; a `while` has none
abbrev pub quit : ℕ → ℕ → Laid
quit line zero = jumps_out line
quit line (suc k) = one line (LeaveAll (suc k)) ⨾ jumps_out line

-- `leaves` is the number of iterators of the innermost loop
abbrev mutual
  pub stmt : (leaves : ℕ) → (line : ℕ) → Stmt → Laid
  stmt leaves line (Assign p e) = expr line e ⨾ put line p.variable p.selectors
  stmt leaves line (Update o p e) = expr line e ⨾ alter line (Combining o) p.variable p.selectors
  stmt leaves line (AssignParts xs e) = expr line e ⨾ parts line xs
  stmt leaves line (TakeFrom k x p) = alter line (TakingOut k) p.variable p.selectors ⨾ store_slots line (Some x ∷ [])
  stmt leaves line (Perform e) = expr line e ⨾ one line DropTop
  stmt leaves line (If e a b) = expr line e ⨾ either line (block leaves a) (block leaves b)
  stmt leaves line (For is t b) =
      ending (with_end (iterators line nothing is (λ a. condition line t a ⨾ going_on a (block (levels is) b) ⨾ one line (Jump a))))
  stmt leaves line (While e b) =
      ending (with_start (λ w. expr line e ⨾ over line Unless (one line PayRound ⨾ going_on w (block zero b) ⨾ one line (Jump w))))
  stmt leaves line Quit = quit line leaves
  stmt leaves line Continue = jumps_on line
  stmt leaves line Fail = one line GoBack
  stmt leaves line Succeed = one line ForgetKept
  stmt leaves line Stop = one line StopRun
  stmt leaves line Pass = nothing
  stmt leaves line (Return e) = expr line e ⨾ one line ReturnTop
  stmt leaves line (Print es) = exprs line es ⨾ one line (PrintTop (count es))
  stmt leaves line (Read xs) = read_all line xs

  pub block : (leaves : ℕ) → Block → Laid
  block leaves no_stmt = nothing
  block leaves (more_stmts line s rest) = stmt leaves line s ⨾ block leaves rest

-- ---- bodies

-- the main program, and a procedure, with the line of its `end`
abbrev pub main_code : ℕ → Block → Laid
main_code line b = block zero b ⨾ one line StopRun

abbrev pub procedure_code : ℕ → Block → Laid
procedure_code line b = block zero b ⨾ one line (Push None) ⨾ one line ReturnTop
