-- How a state of the code stands for a state of the meaning.
use Rattle.std.specs.Prelude.{◌≡◌, ℕ, zero, suc, ◌+◌, true, List, [], ◌∷◌, ◌++◌, map, reverse, slice_get, Option, Some, None, Bool, false, not}
use Rattle.setl_value.specs.Datum.{Datum, bool}
use Rattle.setl_model_runs.specs.Variable.{Variable, Environment}
use Rattle.setl_model_runs.specs.Run.{Store}
use Rattle.setl_operators_table.specs.declared.Operator.{Operator}
use Rattle.setl_program.specs.declared.kinds.Collection.{Collection}
use Rattle.setl_program.specs.declared.kinds.Connective.{Connective}
use Rattle.setl_program.specs.declared.kinds.Quantifier.{Quantifier}
use Rattle.setl_program.specs.declared.kinds.Quantifier.TheVariants.{Forall}
use Rattle.setl_program.specs.declared.kinds.Taking.{Taking}
use Rattle.setl_program.specs.Program.{Slots, Binding, Begin, Members, Points, begin_of, Expr, Former, Selection, Exprs, Iterators, no_iterator, more_iterators, Condition, no_condition, only_if, Arguments, Selectors, While, Read, Block, no_stmt, more_stmts, Procedure}
use Rattle.setl_program.specs.Formed.{Around, BindsMembers, Passed, FormedExpr, FormedExprs, FormedIterators, FormedCondition, FormedArguments, FormedSelectors, FormedBlock, PassedAs, InProcedure}
use Rattle.setl_model.specs.Core.{Hand, Execute, Evaluate, Result, Iterate, Operands, ConnectLeft, ConnectRight, ChooseTest, Goal, Collect, Select, Decide, Repeat, Item, One, Two, Level, Iteration, Sources, ToBind, IsBound, Testing, Body, Paused, HandBacks, Argument, Activation, Selected, Round, Brace, Change, Puts, Combines, Takes, AssignRight, UpdateRight, PartsRight, RoundSelector, BraceSelector, IfTest, WhileTest, WhileBody, PrintParts, Returning, Dropping, Frame, InExpr, InIteration, InCall, InStmt, Storing, Then, Snapshot, Core, goal_line, line_of}
use Rattle.setl_program.specs.FormedLaws.{arguments_number}
use Rattle.setl_model.specs.Slots.{om_stores}
use Rattle.setl_model.specs.Iterations.{decided, undecided, goal_at, all_bound}
use Rattle.setl_model.specs.Calls.{hand_backs}
use Rattle.setl_code.specs.Code.{Bracket, InRound, InBrace, Alteration, Putting, Combining, TakingOut, Push, StoreIn, Operate, Alter, Decides, TestBool, Unless, Jump, DropTop, BeginOver, AddBelow, LeaveAll, CallBody, ReturnTop, PrintTop, ReadOne, StopRun, Instr, Step, Code, DupTop}
use Rattle.setl_code.specs.Code.{Body as CodeBody}
use Rattle.setl_code.specs.Piece.{Labels, past, Is, Stands, Laid, ◌⨾◌, nothing, one, jumps_out, over, either, going_on}
use Rattle.setl_code.specs.Generated.{store_slots, parts, bind, clear, set_by, count_from, levels, negated, keep_or_drop, expr, exprs, iterators, condition, arguments, selectors, brackets, alter, put, stmt, block}
use Rattle.setl_code.specs.CodeCore.{Result as OperandResult, without_iterators}
use Rattle.setl_code.specs.CodeCore.{Activation as CodeActivation}
use Rattle.setl_code.specs.CodeCore.{Operand, Collecting, value_of, Copy, CodeCore}
use Rattle.setl_code.specs.Machine.{iterator, body_steps, fetch}
use Rattle.setl_code_simulation.specs.States.{Alike, bodies_at_work, IsPrintOf}

-- The body at work, and the activations that wait for it.
pub record Where : Type 0 where
  pub body : ℕ
  pub callers : List CodeActivation

abbrev pub steps_in : Code → Where → List Step
steps_in c p = body_steps (slice_get c.bodies p.body)

-- Whether there is a loop around, its labels and the number of its iterators.
pub record Loop : Type 0 where
  pub is_loop : Bool
  pub labels : Labels
  pub leaves : ℕ

-- ---- values

-- So many operands serve as these results, the latest first, over others.
pub data Holds : ℕ → List Operand → List (Option Datum) → List Operand → Type 0 where
  none : {xs : List Operand} → Holds zero xs [] xs
  more : {n : ℕ} {o : Operand} {v : Option Datum} {os : List Operand} {vs : List (Option Datum)} {xs : List Operand} → value_of o ≡ Some v → Holds n os vs xs → Holds (suc n) (o ∷ os) (v ∷ vs) xs

-- The operands, one for each slot, the first on top, are what these stores put into the slots' variables.
pub data Fills : Slots → List Operand → List Store → List Operand → Type 0 where
  filled : {xs : List Operand} → Fills [] xs [] xs
  skips : {o : Operand} {v : Option Datum} {slots : Slots} {os : List Operand} {stores : List Store} {xs : List Operand} → value_of o ≡ Some v → Fills slots os stores xs → Fills (None ∷ slots) (o ∷ os) stores xs
  fills : {x : Variable} {o : Operand} {v : Option Datum} {slots : Slots} {os : List Operand} {stores : List Store} {xs : List Operand} → value_of o ≡ Some v → Fills slots os stores xs → Fills (Some x ∷ slots) (o ∷ os) ((x, v) ∷ stores) xs

-- ---- selectors

abbrev pub selected_value : Selected → Option Datum
selected_value (Round v) = v
selected_value (Brace v) = v

abbrev pub bracket_of : Selected → Bracket
bracket_of (Round v) = InRound
bracket_of (Brace v) = InBrace

-- What an instruction does to a place is what a statement changes; the right side lies on the operands.
pub data Alters : Alteration → Change → List Operand → List Operand → Type 0 where
  puts : {o : Operand} {v : Option Datum} {xs : List Operand} → value_of o ≡ Some v → Alters Putting (Puts v) (o ∷ xs) xs
  combines : {f : Operator} {o : Operand} {v : Option Datum} {xs : List Operand} → value_of o ≡ Some v → Alters (Combining f) (Combines f v) (o ∷ xs) xs
  takes : {k : Taking} {target : Variable} {xs : List Operand} → Alters (TakingOut k) (Takes k target) xs xs

-- what is stored behind a change
abbrev pub target_of : Change → Slots
target_of (Puts v) = []
target_of (Combines f v) = []
target_of (Takes k target) = Some target ∷ []

-- ---- code behind frames

-- what follows the left part of a connective
abbrev pub behind_left : ℕ → Connective → Expr → Laid
behind_left line k b = over line (Decides k) (expr line b ⨾ one line TestBool)

-- what is inside all iterators, at the place where the innermost goes on
abbrev pub inside : ℕ → ℕ → Goal → Condition → ℕ → Laid
inside line n (Collect k e got) t a = condition line t a ⨾ expr line e ⨾ one line (AddBelow n) ⨾ one line (Jump a)
inside line n (Select k v got) (only_if e) a = expr line e ⨾ keep_or_drop line a
inside line n (Decide q) (only_if e) a =
    expr line e ⨾ negated line q ⨾ one line (Unless a) ⨾ one line (LeaveAll n) ⨾ one line (Push (Some (bool (decided q)))) ⨾ jumps_out line
inside line n (Repeat at b) t a = condition line t a ⨾ going_on a (block n b) ⨾ one line (Jump a)
inside line n g t a = nothing

-- the sources of an iterator, and its begin
abbrev pub begins : ℕ → Binding → ℕ → Exprs → Laid
begins line b n es = exprs line es ⨾ one line (BeginOver (begin_of b) (count_from n es))

-- the body of a loop with these labels and so many iterators
abbrev pub in_loop : Labels → ℕ → ℕ → Loop
in_loop l a n = record { is_loop = true; labels = record { exit = l.exit; again = a }; leaves = n }

-- the rest of the selectors, and the update
abbrev pub selecting : ℕ → Alteration → Variable → List Bracket → Selectors → Laid
selecting line a x before rest = selectors line rest ⨾ one line (Alter a x (before ++ brackets rest))

-- the items that an iterator over these gives
abbrev pub ItemsOf : Begin → List Item → Type 0
ItemsOf k [] = Unit {0}
ItemsOf (Members k) (One v ∷ items) = ItemsOf (Members k) items
ItemsOf Points (Two v w ∷ items) = ItemsOf Points items
ItemsOf k items = ⊥

-- what stands before a binding: a selection pushes its member once more
abbrev pub ahead : ℕ → Goal → Laid
ahead line (Select k v got) = one line DupTop
ahead line g = nothing

-- how an item lies on the operands
abbrev pub item_operands : Item → List Operand → List Operand
item_operands (One v) xs = OperandResult v ∷ xs
item_operands (Two argument image) xs = OperandResult argument ∷ OperandResult image ∷ xs

-- a selection has its member below what is bound
abbrev pub with_member : Goal → List Operand → List Operand
with_member (Select k v got) xs = OperandResult v ∷ xs
with_member g xs = xs

module _ (c : Code) (ps : List Procedure) where
  -- where an expression stands
  abbrev pub around : Where → Around
  around p = record { body = p.body; procedures = ps }

  -- the code of iterators and of what is inside them
  abbrev pub looping : ℕ → ℕ → Goal → Condition → Iterators → ℕ → Laid
  looping line n g t ws back = iterators line (ahead line g) ws (inside line n g t) back

  -- the frames are formed
  abbrev pub FormedGoal : Where → Goal → Type 0
  FormedGoal p (Collect k e got) = FormedExpr (around p) e
  FormedGoal p (Select k v got) = Unit {0}
  FormedGoal p (Decide q) = Unit {0}
  FormedGoal p (Repeat line b) = FormedBlock (around p) true b

  -- a selection has one iterator and a condition, and a quantifier a condition
  abbrev pub FormedTest : Where → Goal → Condition → Type 0
  FormedTest p (Collect k e got) t = FormedCondition (around p) t
  FormedTest p (Select k v got) (only_if e) = FormedExpr (around p) e
  FormedTest p (Select k v got) no_condition = ⊥
  FormedTest p (Decide q) (only_if e) = FormedExpr (around p) e
  FormedTest p (Decide q) no_condition = ⊥
  FormedTest p (Repeat line b) t = FormedCondition (around p) t

  -- the iterators of a selection bind members
  abbrev pub FormedLevel : Goal → Binding → Type 0
  FormedLevel (Select k v got) b = BindsMembers b
  FormedLevel (Collect k e got) b = Unit {0}
  FormedLevel (Decide q) b = Unit {0}
  FormedLevel (Repeat line b2) b = Unit {0}

  -- a selection has no further iterator
  abbrev pub FormedBehind : Goal → Iterators → Type 0
  FormedBehind (Select k v got) no_iterator = Unit {0}
  FormedBehind (Select k v got) (more_iterators b es ws) = ⊥
  FormedBehind (Collect k e got) ws = Unit {0}
  FormedBehind (Decide q) ws = Unit {0}
  FormedBehind (Repeat line b) ws = Unit {0}

  -- a selection has exactly one
  abbrev pub FormedNumber : Goal → ℕ → Type 0
  FormedNumber (Select k v got) n = n ≡ 1
  FormedNumber (Collect k e got) n = Unit {0}
  FormedNumber (Decide q) n = Unit {0}
  FormedNumber (Repeat line b) n = Unit {0}

  abbrev pub FormedWaiting : Goal → Iterators → Type 0
  FormedWaiting g no_iterator = Unit {0}
  FormedWaiting g (more_iterators b es ws) = FormedLevel g b × FormedBehind g ws × FormedWaiting g ws

  mutual
    -- At this place, with a result on top of these operands, the code goes on as these frames.
    pub data AfterResult : Where → ℕ → List Operand → List Frame → Type 0 where
      operands : {p : Where} {at n : ℕ} {os xs : List Operand} {got : List (Option Datum)} {o : Operator} {rest : Exprs} {w : List Frame} → (l : Labels) → Holds n os got xs → FormedExprs (around p) rest → Stands (steps_in c p) l at ((exprs (line_of w) rest ⨾ one (line_of w) (Operate o (count_from (suc n) rest))) at) → AfterResult p (past at ((exprs (line_of w) rest ⨾ one (line_of w) (Operate o (count_from (suc n) rest))) at)) xs w → AfterResult p at os (InExpr (Operands o got rest) ∷ w)
      connect_left : {p : Where} {at : ℕ} {xs : List Operand} {k : Connective} {b : Expr} {w : List Frame} → (l : Labels) → FormedExpr (around p) b → Stands (steps_in c p) l at (behind_left (line_of w) k b at) → AfterResult p (past at (behind_left (line_of w) k b at)) xs w → AfterResult p at xs (InExpr (ConnectLeft k b) ∷ w)
      connect_right : {p : Where} {at : ℕ} {xs : List Operand} {w : List Frame} → Is (steps_in c p) at (line_of w) TestBool → AfterResult p (suc at) xs w → AfterResult p at xs (InExpr ConnectRight ∷ w)
      choose_test : {p : Where} {at : ℕ} {xs : List Operand} {a b : Expr} {w : List Frame} → (l : Labels) → FormedExpr (around p) a → FormedExpr (around p) b → Stands (steps_in c p) l at (either (line_of w) (expr (line_of w) a) (expr (line_of w) b) at) → AfterResult p (past at (either (line_of w) (expr (line_of w) a) (expr (line_of w) b) at)) xs w → AfterResult p at xs (InExpr (ChooseTest a b) ∷ w)
      result_jumps : {p : Where} {at line to : ℕ} {xs : List Operand} {w : List Frame} → Is (steps_in c p) at line (Jump to) → AfterResult p to xs w → AfterResult p at xs w
      -- an argument of a call
      argument : {p : Where} {at n f : ℕ} {os xs : List Operand} {got : List (Option Datum)} {all rest : Arguments} {w : List Frame} → (l : Labels) → Holds n os got xs → Passed (slice_get ps f) all → n + suc (arguments_number rest) ≡ arguments_number all → FormedArguments (around p) rest → Stands (steps_in c p) l at ((arguments (line_of w) rest ⨾ one (line_of w) (CallBody (suc f)) ⨾ store_slots (line_of w) (set_by all)) at) → AfterResult p (past at ((arguments (line_of w) rest ⨾ one (line_of w) (CallBody (suc f)) ⨾ store_slots (line_of w) (set_by all)) at)) xs w → AfterResult p at os (InCall (Argument f all got rest) ∷ w)
      -- the end of a call
      returning : {p : Where} {at line : ℕ} {xs : List Operand} {name : List ℕ} {backs : HandBacks} {own : Environment} {w : List Frame} → Is (steps_in c p) at line ReturnTop → Awaits p name backs own w → AfterResult p at xs (InCall (Activation name backs own) ∷ w)
      -- the right side of an assignment, and of an update
      putting : {p : Where} {at line : ℕ} {x : Variable} {ss : Selectors} {xs : List Operand} {w : List Frame} → (q : Loop) → FormedSelectors (around p) ss → Stands (steps_in c p) q.labels at (put line x ss at) → AfterBlock p q (past at (put line x ss at)) xs w → AfterResult p at xs (InStmt line (AssignRight (record { variable = x; selectors = ss })) ∷ w)
      combining : {p : Where} {at line : ℕ} {f : Operator} {x : Variable} {ss : Selectors} {xs : List Operand} {w : List Frame} → (q : Loop) → FormedSelectors (around p) ss → Stands (steps_in c p) q.labels at (alter line (Combining f) x ss at) → AfterBlock p q (past at (alter line (Combining f) x ss at)) xs w → AfterResult p at xs (InStmt line (UpdateRight f (record { variable = x; selectors = ss })) ∷ w)
      -- a selector, `round` or brace
      round_selected : {p : Where} {at line n : ℕ} {a : Alteration} {x : Variable} {change : Change} {got : List Selected} {ss : Selectors} {os ys xs : List Operand} {w : List Frame} → (q : Loop) → Holds n os (map selected_value got) ys → Alters a change ys xs → FormedSelectors (around p) ss → Stands (steps_in c p) q.labels at ((selecting line a x (reverse (InRound ∷ map bracket_of got)) ss ⨾ store_slots line (target_of change)) at) → AfterBlock p q (past at ((selecting line a x (reverse (InRound ∷ map bracket_of got)) ss ⨾ store_slots line (target_of change)) at)) xs w → AfterResult p at os (InStmt line (RoundSelector x change got ss) ∷ w)
      brace_selected : {p : Where} {at line n : ℕ} {a : Alteration} {x : Variable} {change : Change} {got : List Selected} {ss : Selectors} {os ys xs : List Operand} {w : List Frame} → (q : Loop) → Holds n os (map selected_value got) ys → Alters a change ys xs → FormedSelectors (around p) ss → Stands (steps_in c p) q.labels at ((selecting line a x (reverse (InBrace ∷ map bracket_of got)) ss ⨾ store_slots line (target_of change)) at) → AfterBlock p q (past at ((selecting line a x (reverse (InBrace ∷ map bracket_of got)) ss ⨾ store_slots line (target_of change)) at)) xs w → AfterResult p at os (InStmt line (BraceSelector x change got ss) ∷ w)
      parting_right : {p : Where} {at line : ℕ} {slots : Slots} {xs : List Operand} {w : List Frame} → (q : Loop) → Stands (steps_in c p) q.labels at (parts line slots at) → AfterBlock p q (past at (parts line slots at)) xs w → AfterResult p at xs (InStmt line (PartsRight slots) ∷ w)
      printing : {p : Where} {at line n : ℕ} {os xs : List Operand} {got : List (Option Datum)} {rest : Exprs} {w : List Frame} → (q : Loop) (l : Labels) → Holds n os got xs → FormedExprs (around p) rest → Stands (steps_in c p) l at ((exprs line rest ⨾ one line (PrintTop (count_from (suc n) rest))) at) → AfterBlock p q (past at ((exprs line rest ⨾ one line (PrintTop (count_from (suc n) rest))) at)) xs w → AfterResult p at os (InStmt line (PrintParts got rest) ∷ w)
      if_test : {p : Where} {at line : ℕ} {xs : List Operand} {a b : Block} {w : List Frame} → (q : Loop) → FormedBlock (around p) q.is_loop a → FormedBlock (around p) q.is_loop b → Stands (steps_in c p) q.labels at (either line (block q.leaves a) (block q.leaves b) at) → AfterBlock p q (past at (either line (block q.leaves a) (block q.leaves b) at)) xs w → AfterResult p at xs (InStmt line (IfTest a b) ∷ w)
      while_test : {p : Where} {line : ℕ} {xs : List Operand} {e : Expr} {b : Block} {w : List Frame} → (q : Loop) (start : ℕ) → FormedExpr (around p) e → FormedBlock (around p) true b → Stands (steps_in c p) q.labels start (stmt q.leaves line (While e b) start) → AfterBlock p q (past start (stmt q.leaves line (While e b) start)) xs w → AfterResult p (past start (expr line e start)) xs (InStmt line (WhileTest e b) ∷ w)
      dropped : {p : Where} {at line : ℕ} {xs : List Operand} {w : List Frame} → (q : Loop) → Is (steps_in c p) at line DropTop → AfterBlock p q (suc at) xs w → AfterResult p at xs (InStmt line Dropping ∷ w)
      -- a result that a procedure returns
      returned : {p : Where} {at line : ℕ} {xs : List Operand} {name : List ℕ} {backs : HandBacks} {own : Environment} {w frames : List Frame} → Is (steps_in c p) at line ReturnTop → Returns p w name backs own frames → Awaits p name backs own frames → AfterResult p at xs (InStmt line Returning ∷ w)
      -- a source of the next iterator, which begins at a place
      source : {p : Where} {here n m back : ℕ} {os xs : List Operand} {got : List (Option Datum)} {rest : Exprs} {g : Goal} {t : Condition} {ls : List Level} {b : Binding} {es : Exprs} {ws : Iterators} {w : List Frame} → (l : Labels) (at : ℕ) → Holds m os got xs → FormedExprs (around p) rest → Stands (steps_in c p) l here (begins (goal_line g (line_of w)) b (suc m) rest here) → past here (begins (goal_line g (line_of w)) b (suc m) rest here) ≡ past at (begins (goal_line g (line_of w)) b 0 es at) → Stands (steps_in c p) l at (looping (goal_line g (line_of w)) n g t (more_iterators b es ws) back at) → Levels p l n g t ls (more_iterators b es ws) back xs w → AfterResult p here os (InIteration (Sources got rest) (record { goal = g; condition = t; started = ls; waiting = more_iterators b es ws }) ∷ w)
      testing : {p : Where} {n a : ℕ} {xs : List Operand} {g : Goal} {e : Expr} {ls : List Level} {w : List Frame} → (l : Labels) (at : ℕ) → Stands (steps_in c p) l at (inside (goal_line g (line_of w)) n g (only_if e) a at) → Levels p l n g (only_if e) ls no_iterator a xs w → AfterResult p (past at (expr (goal_line g (line_of w)) e at)) (with_member g xs) (InIteration Testing (record { goal = g; condition = only_if e; started = ls; waiting = no_iterator }) ∷ w)
      value : {p : Where} {at n a : ℕ} {xs : List Operand} {k : Collection} {e : Expr} {got : List (Option Datum)} {t : Condition} {ls : List Level} {w : List Frame} → (l : Labels) → Is (steps_in c p) at (line_of w) (AddBelow n) → Is (steps_in c p) (suc at) (line_of w) (Jump a) → Levels p l n (Collect k e got) t ls no_iterator a xs w → AfterResult p at xs (InIteration Body (record { goal = Collect k e got; condition = t; started = ls; waiting = no_iterator }) ∷ w)

    -- At this place, over these operands, the statements in hand are done, and the code goes on as these frames.
    pub data AfterBlock : Where → Loop → ℕ → List Operand → List Frame → Type 0 where
      last : {p : Where} {q : Loop} {at line : ℕ} {xs : List Operand} → p.body ≡ 0 → p.callers ≡ [] → q.is_loop ≡ false → Is (steps_in c p) at line StopRun → AfterBlock p q at xs []
      ends : {p : Where} {q : Loop} {at line : ℕ} {xs : List Operand} {name : List ℕ} {backs : HandBacks} {own : Environment} {w : List Frame} → q.is_loop ≡ false → Is (steps_in c p) at line (Push None) → Is (steps_in c p) (suc at) line ReturnTop → Awaits p name backs own w → AfterBlock p q at xs (InCall (Activation name backs own) ∷ w)
      rest : {p : Where} {q : Loop} {at : ℕ} {b : Block} {xs : List Operand} {w : List Frame} → FormedBlock (around p) q.is_loop b → Stands (steps_in c p) q.labels at (block q.leaves b at) → AfterBlock p q (past at (block q.leaves b at)) xs w → AfterBlock p q at xs (Then b ∷ w)
      loop : {p : Where} {line : ℕ} {e : Expr} {b : Block} {xs : List Operand} {w : List Frame} → (q : Loop) (start : ℕ) → FormedExpr (around p) e → FormedBlock (around p) true b → Stands (steps_in c p) q.labels start (stmt q.leaves line (While e b) start) → AfterBlock p q (past start (stmt q.leaves line (While e b) start)) xs w → AfterBlock p (in_loop (record { exit = past start (stmt q.leaves line (While e b) start); again = 0 }) start 0) (past (suc (suc (past start (expr line e start)))) (block 0 b (suc (suc (past start (expr line e start)))))) xs (InStmt line (WhileBody e b) ∷ w)
      body : {p : Where} {n a line : ℕ} {b : Block} {t : Condition} {xs : List Operand} {ls : List Level} {w : List Frame} → (l : Labels) (at : ℕ) → Is (steps_in c p) at line (Jump a) → Levels p l n (Repeat line b) t ls no_iterator a xs w → AfterBlock p (in_loop l a n) at xs (InIteration Body (record { goal = Repeat line b; condition = t; started = ls; waiting = no_iterator }) ∷ w)
      block_jumps : {p : Where} {q : Loop} {at line to : ℕ} {xs : List Operand} {w : List Frame} → Is (steps_in c p) at line (Jump to) → AfterBlock p q to xs w → AfterBlock p q at xs w

    -- The activation that waits for the body at work, with the code that stores what is handed back.
    pub data Awaits : Where → List ℕ → HandBacks → Environment → List Frame → Type 0 where
      awaits : {p : Where} {name : List ℕ} {backs : HandBacks} {own : Environment} {w : List Frame} → (l : Labels) (caller : CodeActivation) (outer : List CodeActivation) (b : CodeBody) (all : Arguments) → InProcedure p.body → p.callers ≡ caller ∷ outer → Alike caller.own own → slice_get c.bodies p.body ≡ Some b → b.name ≡ name → backs ≡ hand_backs p.body b.parameters all → PassedAs b.parameters all → Stands (steps_in c (record { body = caller.body; callers = outer })) l caller.at (store_slots (line_of w) (set_by all) caller.at) → AfterResult (record { body = caller.body; callers = outer }) (past caller.at (store_slots (line_of w) (set_by all) caller.at)) caller.operands w → Awaits p name backs own w

    -- The frames up to the activation at work: those of loops and of statements that follow.
    pub data Returns : Where → List Frame → List ℕ → HandBacks → Environment → List Frame → Type 0 where
      at_activation : {p : Where} {name : List ℕ} {backs : HandBacks} {own : Environment} {w : List Frame} → Returns p (InCall (Activation name backs own) ∷ w) name backs own w
      past_rest : {p : Where} {b : Block} {name : List ℕ} {backs : HandBacks} {own : Environment} {w frames : List Frame} → Returns p w name backs own frames → Returns p (Then b ∷ w) name backs own frames
      past_loop : {p : Where} {line : ℕ} {e : Expr} {b : Block} {name : List ℕ} {backs : HandBacks} {own : Environment} {w frames : List Frame} → Returns p w name backs own frames → Returns p (InStmt line (WhileBody e b) ∷ w) name backs own frames
      past_body : {p : Where} {i : Iteration} {name : List ℕ} {backs : HandBacks} {own : Environment} {w frames : List Frame} → Returns p w name backs own frames → Returns p (InIteration Body i ∷ w) name backs own frames

    -- The started iterators, the innermost at this place, stand over these operands; where none is started, this is the
    -- place of the iteration's end.
    pub data Levels : Where → Labels → ℕ → Goal → Condition → List Level → Iterators → ℕ → List Operand → List Frame → Type 0 where
      outside : {p : Where} {l : Labels} {g : Goal} {t : Condition} {ws : Iterators} {back : ℕ} {xs : List Operand} {w : List Frame} → FormedIterators (around p) ws → FormedWaiting g ws → FormedNumber g (levels ws) → FormedGoal p g → FormedTest p g t → Finish p l g ws back xs w → Levels p l (levels ws) g t [] ws back xs w
      level : {p : Where} {l : Labels} {n back : ℕ} {g : Goal} {t : Condition} {ls : List Level} {b : Binding} {es : Exprs} {items : List Item} {ws : Iterators} {xs : List Operand} {w : List Frame} → (at : ℕ) → ItemsOf (begin_of b) items → Stands (steps_in c p) l at (looping (goal_line g (line_of w)) n g t (more_iterators b es ws) back at) → Levels p l n g t ls (more_iterators b es ws) back xs w → Levels p l n g t (record { binding = b; sources = es; left = items } ∷ ls) ws (past at (begins (goal_line g (line_of w)) b 0 es at)) (iterator (begin_of b) items ∷ xs) w

    -- What an iteration is for goes on behind it.
    pub data Finish : Where → Labels → Goal → Iterators → ℕ → List Operand → List Frame → Type 0 where
      collecting : {p : Where} {l : Labels} {k : Collection} {e : Expr} {got : List (Option Datum)} {ws : Iterators} {at : ℕ} {xs : List Operand} {w : List Frame} → AfterResult p at xs w → Finish p l (Collect k e got) ws at (Collecting k got ∷ xs) w
      selecting_all : {p : Where} {l : Labels} {k : Collection} {v : Option Datum} {got : List (Option Datum)} {ws : Iterators} {at : ℕ} {xs : List Operand} {w : List Frame} → AfterResult p at xs w → Finish p l (Select k v got) ws at (Collecting k got ∷ xs) w
      deciding_all : {p : Where} {l : Labels} {q : Quantifier} {ws : Iterators} {at : ℕ} {xs : List Operand} {w : List Frame} → (l2 : Labels) → Stands (steps_in c p) l2 at ((clear (line_of w) (all_bound ws) ⨾ one (line_of w) (Push (Some (bool (undecided q))))) at) → l.exit ≡ past at ((clear (line_of w) (all_bound ws) ⨾ one (line_of w) (Push (Some (bool (undecided q))))) at) → AfterResult p l.exit xs w → Finish p l (Decide q) ws at xs w
      repeating : {p : Where} {l : Labels} {line at : ℕ} {b : Block} {ws : Iterators} {xs : List Operand} {w : List Frame} → (q : Loop) → l.exit ≡ at → AfterBlock p q at xs w → Finish p l (Repeat line b) ws at xs w

  -- What follows once all stores are made, with a result in hand.
  pub data AfterStores : Where → ℕ → List Operand → Option Datum → List Frame → Type 0 where
    -- the result lies on the operands
    result_below : {p : Where} {at : ℕ} {o : Operand} {v : Option Datum} {xs : List Operand} {w : List Frame} → value_of o ≡ Some v → AfterResult p at xs w → AfterStores p at (o ∷ xs) v w
    -- the item of an iterator is bound
    item_bound : {p : Where} {l : Labels} {n a at : ℕ} {g : Goal} {t : Condition} {v0 : Level} {ls : List Level} {ws : Iterators} {xs : List Operand} {w : List Frame} → Stands (steps_in c p) l at (looping (goal_line g (line_of w)) n g t ws a at) → Levels p l n g t (v0 ∷ ls) ws a xs w → AfterStores p at (with_member g xs) None (InIteration IsBound (record { goal = g; condition = t; started = v0 ∷ ls; waiting = ws }) ∷ w)
    -- a statement is done
    stmt_done : {p : Where} {at line : ℕ} {xs : List Operand} {w : List Frame} → (q : Loop) → AfterBlock p q at xs w → AfterStores p at xs None (InStmt line Dropping ∷ w)

  -- The place and operands of the code stand for what is in hand.
  pub data Placed : Where → ℕ → List Operand → Hand → List Frame → Type 0 where
    evaluating : {p : Where} {at : ℕ} {e : Expr} {xs : List Operand} {w : List Frame} → (l : Labels) → FormedExpr (around p) e → Stands (steps_in c p) l at (expr (line_of w) e at) → AfterResult p (past at (expr (line_of w) e at)) xs w → Placed p at xs (Evaluate e) w
    got : {p : Where} {at : ℕ} {v : Option Datum} {o : Operand} {xs : List Operand} {w : List Frame} → value_of o ≡ Some v → AfterResult p at xs w → Placed p at (o ∷ xs) (Result v) w
    executing : {p : Where} {at : ℕ} {b : Block} {xs : List Operand} {w : List Frame} → (q : Loop) → FormedBlock (around p) q.is_loop b → Stands (steps_in c p) q.labels at (block q.leaves b at) → AfterBlock p q (past at (block q.leaves b at)) xs w → Placed p at xs (Execute b) w
    -- the test of a loop was true, and its turn is not yet taken
    rounding : {p : Where} {line : ℕ} {e : Expr} {b : Block} {xs : List Operand} {w : List Frame} → (q : Loop) (start : ℕ) → FormedExpr (around p) e → FormedBlock (around p) true b → Stands (steps_in c p) q.labels start (stmt q.leaves line (While e b) start) → AfterBlock p q (past start (stmt q.leaves line (While e b) start)) xs w → Placed p (suc (past start (expr line e start))) xs (Result (Some (bool true))) (InStmt line (WhileTest e b) ∷ w)
    iterating : {p : Where} {l : Labels} {n a : ℕ} {g : Goal} {t : Condition} {ls : List Level} {ws : Iterators} {xs : List Operand} {w : List Frame} → Levels p l n g t ls ws a xs w → Placed p a xs Iterate (InIteration Paused (record { goal = g; condition = t; started = ls; waiting = ws }) ∷ w)
    iterating_back : {p : Where} {l : Labels} {at line n a : ℕ} {g : Goal} {t : Condition} {ls : List Level} {ws : Iterators} {xs : List Operand} {w : List Frame} → Is (steps_in c p) at line (Jump a) → Levels p l n g t ls ws a xs w → Placed p at xs Iterate (InIteration Paused (record { goal = g; condition = t; started = ls; waiting = ws }) ∷ w)
    -- a member for which the condition of a selection doesn't hold
    discarding : {p : Where} {l : Labels} {at line n a : ℕ} {g : Goal} {t : Condition} {ls : List Level} {ws : Iterators} {o : Operand} {v : Option Datum} {xs : List Operand} {w : List Frame} → value_of o ≡ Some v → Is (steps_in c p) at line DropTop → Is (steps_in c p) (suc at) line (Jump a) → Levels p l n g t ls ws a xs w → Placed p at (o ∷ xs) Iterate (InIteration Paused (record { goal = g; condition = t; started = ls; waiting = ws }) ∷ w)
    -- a former or a selection whose collection has been pushed
    forming : {p : Where} {at : ℕ} {k : Collection} {e : Expr} {is : Iterators} {t : Condition} {xs : List Operand} {w : List Frame} → (l : Labels) → FormedExpr (around p) (Former k e is t) → Stands (steps_in c p) l at (expr (line_of w) (Former k e is t) at) → AfterResult p (past at (expr (line_of w) (Former k e is t) at)) xs w → Placed p (suc at) (Collecting k [] ∷ xs) (Evaluate (Former k e is t)) w
    selection_formed : {p : Where} {at : ℕ} {k : Collection} {b : Binding} {es : Exprs} {e : Expr} {xs : List Operand} {w : List Frame} → (l : Labels) → FormedExpr (around p) (Selection k b es e) → Stands (steps_in c p) l at (expr (line_of w) (Selection k b es e) at) → AfterResult p (past at (expr (line_of w) (Selection k b es e) at)) xs w → Placed p (suc at) (Collecting k [] ∷ xs) (Evaluate (Selection k b es e)) w
    -- an item that is still to be bound; before it a selection pushes its member once more
    doubling : {p : Where} {l : Labels} {n a at : ℕ} {v w0 : Option Datum} {k : Collection} {have : List (Option Datum)} {t : Condition} {b : Binding} {es : Exprs} {items : List Item} {ls : List Level} {ws : Iterators} {xs : List Operand} {w : List Frame} → Is (steps_in c p) at (line_of w) DupTop → BindsMembers b → Stands (steps_in c p) l (suc at) (bind (line_of w) b (suc at)) → Stands (steps_in c p) l (past (suc at) (bind (line_of w) b (suc at))) (looping (line_of w) n (Select k v have) t ws a (past (suc at) (bind (line_of w) b (suc at)))) → Levels p l n (Select k v have) t (record { binding = b; sources = es; left = items } ∷ ls) ws a xs w → Placed p at (OperandResult v ∷ xs) Iterate (InIteration (ToBind (One v)) (record { goal = Select k w0 have; condition = t; started = record { binding = b; sources = es; left = items } ∷ ls; waiting = ws }) ∷ w)
    binding : {p : Where} {l : Labels} {n a at : ℕ} {item : Item} {g : Goal} {t : Condition} {b : Binding} {es : Exprs} {items : List Item} {ls : List Level} {ws : Iterators} {xs : List Operand} {w : List Frame} → ItemsOf (begin_of b) (item ∷ []) → Stands (steps_in c p) l at (bind (goal_line (goal_at g item) (line_of w)) b at) → Stands (steps_in c p) l (past at (bind (goal_line (goal_at g item) (line_of w)) b at)) (looping (goal_line (goal_at g item) (line_of w)) n (goal_at g item) t ws a (past at (bind (goal_line (goal_at g item) (line_of w)) b at))) → Levels p l n (goal_at g item) t (record { binding = b; sources = es; left = items } ∷ ls) ws a xs w → Placed p at (item_operands item (with_member (goal_at g item) xs)) Iterate (InIteration (ToBind item) (record { goal = g; condition = t; started = record { binding = b; sources = es; left = items } ∷ ls; waiting = ws }) ∷ w)
    -- stores that are still to be made, from the operands
    storing : {p : Where} {at : ℕ} {slots : Slots} {stores : List Store} {v : Option Datum} {os xs : List Operand} {w : List Frame} → (l : Labels) → Fills slots os stores xs → Stands (steps_in c p) l at (store_slots (line_of w) slots at) → AfterStores p (past at (store_slots (line_of w) slots at)) xs v w → Placed p at os (Result v) (Storing stores ∷ w)
    -- bound names that are still to be cleared, before and behind the `om`
    clearing : {p : Where} {at : ℕ} {b : Bool} {xs : List Operand} {w : List Frame} → (names : List Variable) (l : Labels) → Stands (steps_in c p) l at ((clear (line_of w) names ⨾ one (line_of w) (Push (Some (bool b)))) at) → AfterResult p (past at ((clear (line_of w) names ⨾ one (line_of w) (Push (Some (bool b)))) at)) xs w → Placed p at xs (Result (Some (bool b))) (Storing (om_stores names) ∷ w)
    clearing_one : {p : Where} {at : ℕ} {b : Bool} {xs : List Operand} {w : List Frame} → (x : Variable) (names : List Variable) (l : Labels) → Is (steps_in c p) at (line_of w) (StoreIn x) → Stands (steps_in c p) l (suc at) ((clear (line_of w) names ⨾ one (line_of w) (Push (Some (bool b)))) (suc at)) → AfterResult p (past (suc at) ((clear (line_of w) names ⨾ one (line_of w) (Push (Some (bool b)))) (suc at))) xs w → Placed p at (OperandResult None ∷ xs) (Result (Some (bool b))) (Storing (om_stores (x ∷ names)) ∷ w)
    -- a quantifier that a member has decided: its iterators are left, and the answer is pushed
    leaving_all : {p : Where} {at line n to : ℕ} {b : Bool} {xs ys : List Operand} {w : List Frame} → Is (steps_in c p) at line (LeaveAll n) → without_iterators n xs ≡ Some ys → Is (steps_in c p) (suc at) line (Push (Some (bool b))) → Is (steps_in c p) (suc (suc at)) line (Jump to) → AfterResult p to ys w → Placed p at xs (Result (Some (bool b))) w
    answering : {p : Where} {at line to : ℕ} {b : Bool} {xs : List Operand} {w : List Frame} → Is (steps_in c p) at line (Push (Some (bool b))) → Is (steps_in c p) (suc at) line (Jump to) → AfterResult p to xs w → Placed p at xs (Result (Some (bool b))) w
    -- a condition of `forall` that has been negated
    negating : {p : Where} {at n a : ℕ} {b : Bool} {e : Expr} {ls : List Level} {xs : List Operand} {w : List Frame} → (l : Labels) → Stands (steps_in c p) l at ((one (line_of w) (Unless a) ⨾ one (line_of w) (LeaveAll n) ⨾ one (line_of w) (Push (Some (bool (decided Forall)))) ⨾ jumps_out (line_of w)) at) → Levels p l n (Decide Forall) (only_if e) ls no_iterator a xs w → Placed p at (OperandResult (Some (bool (not b))) ∷ xs) (Result (Some (bool b))) (InIteration Testing (record { goal = Decide Forall; condition = only_if e; started = ls; waiting = no_iterator }) ∷ w)
    -- a member for which the condition of a selection holds
    adding : {p : Where} {at n a : ℕ} {e : Expr} {k : Collection} {v : Option Datum} {have : List (Option Datum)} {ls : List Level} {xs : List Operand} {w : List Frame} → (l : Labels) → Is (steps_in c p) at (line_of w) (AddBelow 1) → Is (steps_in c p) (suc at) (line_of w) (Jump a) → Levels p l n (Select k v have) (only_if e) ls no_iterator a xs w → Placed p at (OperandResult v ∷ xs) (Result (Some (bool true))) (InIteration Testing (record { goal = Select k v have; condition = only_if e; started = ls; waiting = no_iterator }) ∷ w)

  -- Each copy that the code kept stands for a snapshot: a result goes on as its frames.
  pub data Copies : List Copy → List Snapshot → Type 0 where
    no_copy : Copies [] []
    more_copy : {k : Copy} {s : Snapshot} {ks : List Copy} {ss : List Snapshot} → Alike k.globals s.globals → Alike k.now.own s.own → AfterResult (record { body = k.now.body; callers = k.callers }) k.now.at k.now.operands s.work → Copies ks ss → Copies (k ∷ ks) (s ∷ ss)

  pub record Matches (k : CodeCore) (m : Core) : Type 0 where
    pub world : k.world ≡ m.shared.world
    pub globals : Alike k.globals m.shared.globals
    pub own : Alike k.now.own m.shared.own
    pub kept : Copies k.kept m.kept
    pub place : Placed (record { body = k.now.body; callers = k.callers }) k.now.at k.now.operands m.hand m.work

-- ---- how many instructions the code makes before the next step of the meaning

-- the test of a quantifier or a selection may need one
abbrev pub rank_goal : Goal → ℕ
rank_goal (Decide Forall) = 1
rank_goal (Select k v have) = 1
rank_goal g = 0

abbrev pub rank_result : {c : Code} {ps : List Procedure} {p : Where} {at : ℕ} {xs : List Operand} {w : List Frame} → AfterResult c ps p at xs w → ℕ
rank_result (result_jumps is next) = suc (rank_result next)
rank_result (while_test q start fe fb here next) = 1
rank_result (testing {g = g} l at here out) = rank_goal g
rank_result d = 0

abbrev pub rank_block : {c : Code} {ps : List Procedure} {p : Where} {q : Loop} {at : ℕ} {xs : List Operand} {w : List Frame} → AfterBlock c ps p q at xs w → ℕ
rank_block (block_jumps is next) = suc (rank_block next)
rank_block d = 0

-- a component that is skipped is dropped by the code alone
abbrev pub rank_slots : Slots → ℕ
rank_slots [] = 0
rank_slots (None ∷ xs) = suc (rank_slots xs)
rank_slots (Some x ∷ xs) = 0

abbrev pub rank_place : {c : Code} {ps : List Procedure} {p : Where} {at : ℕ} {xs : List Operand} {hand : Hand} {w : List Frame} → Placed c ps p at xs hand w → ℕ
rank_place (got is next) = rank_result next
rank_place (executing {b = no_stmt} q f here next) = rank_block next
rank_place (evaluating l f here next) = 1
rank_place (iterating_back is out) = 1
rank_place (discarding h is back out) = 2
rank_place (doubling is k here inner out) = 1
rank_place (storing {slots = slots} l h here next) = rank_slots slots
rank_place (clearing (x ∷ names) l here next) = 1
rank_place (leaving_all is h push jump next) = suc (suc (suc (rank_result next)))
rank_place (answering push jump next) = suc (suc (rank_result next))
rank_place d = 0

abbrev pub rank : (c : Code) (ps : List Procedure) (k : CodeCore) (m : Core) → Matches c ps k m → ℕ
rank c ps k m h = rank_place h.place

-- ---- what quiet steps of the meaning keep, and what is then in hand

-- the variables, the world and the bodies at work stay
abbrev pub Keeps : Core → Core → Type 0
Keeps a b = (a.shared ≡ b.shared) × (bodies_at_work a.shared.own a.work ≡ bodies_at_work b.shared.own b.work)

-- a `read` of this line, into the variable in which the step behind it stores
pub record IsReadFor (line : ℕ) (behind : Option Step) (hand : Hand) : Type 0 where
  pub variable : Variable
  pub others : List Variable
  pub rest : Block
  pub in_hand : hand ≡ Execute (more_stmts line (Read (variable ∷ others)) rest)
  pub stores : behind ≡ Some (line, StoreIn variable)

-- the `read` or the `print` that this instruction does
abbrev pub InHandFor : Instr → ℕ → Option Step → Core → Type 0
InHandFor ReadOne line behind m = IsReadFor line behind m.hand
InHandFor (PrintTop n) line behind m = IsPrintOf line m.hand m.work
InHandFor i line behind m = Unit {0}

abbrev pub InHand : Option Step → Option Step → Core → Type 0
InHand None behind m = Unit {0}
InHand (Some s) behind m = InHandFor s.1 s.0 behind m

abbrev pub InHandOf : Code → CodeCore → Core → Type 0
InHandOf c k m = InHand (fetch c k.now.body k.now.at) (fetch c k.now.body (suc k.now.at)) m
