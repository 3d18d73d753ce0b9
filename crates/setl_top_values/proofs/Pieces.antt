-- Code that is laid out of programs whose literals are values pushes values.
use Rattle.std.proofs.Common.{ℕ, zero, suc, List, [], ◌∷◌, Some, None, arith}
use Rattle.std.specs.List.{AllByRecursion}
use Rattle.setl_model_runs.specs.Variable.{Variable}
use Rattle.setl_operators_laws.specs.Lists.{all_append}
use Rattle.setl_program.specs.declared.kinds.Quantifier.{Quantifier}
use Rattle.setl_program.specs.declared.kinds.Quantifier.TheVariants.{Exists, Forall, NotExists}
use Rattle.setl_program.specs.Program.{Slots, Binding, Member, Components, Point, Expr, Literal, Undefined, Name, Apply, Connect, Choose, Former, Selection, Quantified, Call, Newat, Eof, Ok, Exprs, no_expr, more_exprs, Iterators, no_iterator, more_iterators, Condition, no_condition, only_if, Arguments, no_argument, rd_argument, wr_argument, rw_argument, Selectors, no_selector, round_selector, brace_selector, Stmt, Assign, Update, AssignParts, TakeFrom, Perform, If, For, While, Quit, Continue, Fail, Succeed, Stop, Pass, Return, Print, Read, Block, no_stmt, more_stmts}
use Rattle.setl_model.specs.Iterations.{all_bound}
use Rattle.setl_code.specs.Code.{Alteration, Putting, Combining, TakingOut, Step}
use Rattle.setl_code.specs.Piece.{Piece, empty, step, jump_out, jump_on, join, ending_at, going_on_at, Labels, steps_of, Laid, nothing}
use Rattle.setl_code.specs.Generated.{store_slots, bind, clear, set_by, negated, expr, exprs, iterators, condition, arguments, selectors, alter, put, read_all, quit, stmt, block, main_code, procedure_code}
use Rattle.setl_code_values.specs.Standing.{InstrStands}
use Rattle.setl_top_values.proofs.Standing.{ExprStands, ExprsStand, IteratorsStand, ConditionStands, ArgumentsStand, SelectorsStand, StmtStands, BlockStands}

abbrev pub StepStands : Step → Type 0
StepStands s = InstrStands s.1

abbrev pub PieceStands : Piece → Type 0
PieceStands empty = Unit {0}
PieceStands (step line i) = InstrStands i
PieceStands (jump_out line) = Unit {0}
PieceStands (jump_on line) = Unit {0}
PieceStands (join p q) = PieceStands p × PieceStands q
PieceStands (ending_at to p) = PieceStands p
PieceStands (going_on_at to p) = PieceStands p

pub steps_stand : (p : Piece) (l : Labels) → PieceStands p → AllByRecursion StepStands (steps_of l p)
steps_stand empty l h = tt
steps_stand (step line i) l h = (h, tt)
steps_stand (jump_out line) l h = (tt, tt)
steps_stand (jump_on line) l h = (tt, tt)
steps_stand (join p q) l h = all_append StepStands (steps_of l p) (steps_of l q) (steps_stand p l h.0) (steps_stand q l h.1)
steps_stand (ending_at to p) l h = steps_stand p _ h
steps_stand (going_on_at to p) l h = steps_stand p _ h

-- ---- stores

slots_stand : (xs : Slots) (line at : ℕ) → PieceStands (store_slots line xs at)
slots_stand [] line at = tt
slots_stand (None ∷ xs) line at = (tt, slots_stand xs line _)
slots_stand (Some x ∷ xs) line at = (tt, slots_stand xs line _)

binding_stands : (b : Binding) (line at : ℕ) → PieceStands (bind line b at)
binding_stands (Member k x) line at = (tt, tt)
binding_stands (Components k xs) line at = (tt, slots_stand xs line _)
binding_stands (Point y x) line at = (tt, (tt, tt))

clear_stands : (xs : List Variable) (line at : ℕ) → PieceStands (clear line xs at)
clear_stands [] line at = tt
clear_stands (x ∷ xs) line at = (tt, (tt, clear_stands xs line _))

reads_stand : (xs : List Variable) (line at : ℕ) → PieceStands (read_all line xs at)
reads_stand [] line at = tt
reads_stand (x ∷ xs) line at = (tt, ((tt, tt), reads_stand xs line _))

-- ---- expressions

negated_stands : (q : Quantifier) (line at : ℕ) → PieceStands (negated line q at)
negated_stands Exists line at = tt
negated_stands Forall line at = tt
negated_stands NotExists line at = tt

mutual
  expr_stands : (e : Expr) (line at : ℕ) → ExprStands e → PieceStands (expr line e at)
  expr_stands (Literal d) line at g = g
  expr_stands Undefined line at g = tt
  expr_stands (Name x) line at g = tt
  expr_stands (Apply o es) line at g = (all_stand es line at g, tt)
  expr_stands (Connect k a b) line at g = (expr_stands a line at g.0, (tt, (expr_stands b line _ g.1, tt)))
  expr_stands (Choose t a b) line at g = (expr_stands t line at g.0, (tt, (expr_stands a line _ g.1, (tt, expr_stands b line _ g.2))))
  expr_stands (Former k e is t) line at g =
      (tt, turns_stand is _ line _ _ g.1 (λ a to. (condition_stands t line to a g.2, (expr_stands e line _ g.0, (tt, tt)))))
  expr_stands (Selection k b es c) line at g =
      (tt, (all_stand es line _ g.0, (tt, (tt, ((tt, binding_stands b line _), (expr_stands c line _ g.1, ((tt, (tt, tt)), (tt, tt))))))))
  expr_stands (Quantified q is c) line at g =
      (turns_stand is _ line at _ g.0 (λ a to. (expr_stands c line to g.1, (negated_stands q line _, (tt, (tt, ((tt, omega arith), tt)))))), (clear_stands (all_bound is) line _, (tt, omega arith)))
  expr_stands (Call f all) line at g = (arguments_stand all line at g, (tt, slots_stand (set_by all) line _))
  expr_stands Newat line at g = tt
  expr_stands Eof line at g = tt
  expr_stands Ok line at g = tt

  all_stand : (es : Exprs) (line at : ℕ) → ExprsStand es → PieceStands (exprs line es at)
  all_stand no_expr line at g = tt
  all_stand (more_exprs e rest) line at g = (expr_stands e line at g.0, all_stand rest line _ g.1)

  turns_stand : (is : Iterators) (inside : ℕ → Laid) (line at back : ℕ) → IteratorsStand is → ((a to : ℕ) → PieceStands (inside a to)) → PieceStands (iterators line nothing is inside back at)
  turns_stand no_iterator inside line at back g inner = inner back at
  turns_stand (more_iterators b es rest) inside line at back g inner =
      (all_stand es line at g.0, (tt, (tt, ((tt, binding_stands b line _), turns_stand rest inside line _ _ g.1 inner))))

  condition_stands : (t : Condition) (line at a : ℕ) → ConditionStands t → PieceStands (condition line t a at)
  condition_stands no_condition line at a g = tt
  condition_stands (only_if c) line at a g = (expr_stands c line at g, tt)

  arguments_stand : (all : Arguments) (line at : ℕ) → ArgumentsStand all → PieceStands (arguments line all at)
  arguments_stand no_argument line at g = tt
  arguments_stand (rd_argument e rest) line at g = (expr_stands e line at g.0, arguments_stand rest line _ g.1)
  arguments_stand (wr_argument x rest) line at g = (tt, arguments_stand rest line _ g)
  arguments_stand (rw_argument x rest) line at g = (tt, arguments_stand rest line _ g)

-- ---- statements

selectors_stand : (ss : Selectors) (line at : ℕ) → SelectorsStand ss → PieceStands (selectors line ss at)
selectors_stand no_selector line at g = tt
selectors_stand (round_selector e rest) line at g = (expr_stands e line at g.0, selectors_stand rest line _ g.1)
selectors_stand (brace_selector e rest) line at g = (expr_stands e line at g.0, selectors_stand rest line _ g.1)

alter_stands : (a : Alteration) (x : Variable) (ss : Selectors) (line at : ℕ) → SelectorsStand ss → PieceStands (alter line a x ss at)
alter_stands a x ss line at h = (selectors_stand ss line at h, tt)

put_stands : (x : Variable) (ss : Selectors) (line at : ℕ) → SelectorsStand ss → PieceStands (put line x ss at)
put_stands x no_selector line at h = tt
put_stands x (round_selector e rest) line at h = alter_stands Putting x (round_selector e rest) line at h
put_stands x (brace_selector e rest) line at h = alter_stands Putting x (brace_selector e rest) line at h

quit_stands : (leaves line at : ℕ) → PieceStands (quit line leaves at)
quit_stands zero line at = tt
quit_stands (suc k) line at = (tt, tt)

mutual
  stmt_stands : (s : Stmt) (leaves line at : ℕ) → StmtStands s → PieceStands (stmt leaves line s at)
  stmt_stands (Assign p e) leaves line at g = (expr_stands e line at g.1, put_stands p.variable p.selectors line _ g.0)
  stmt_stands (Update o p e) leaves line at g = (expr_stands e line at g.1, alter_stands (Combining o) p.variable p.selectors line _ g.0)
  stmt_stands (AssignParts xs e) leaves line at g = (expr_stands e line at g, (tt, slots_stand xs line _))
  stmt_stands (TakeFrom k x p) leaves line at g = (alter_stands (TakingOut k) p.variable p.selectors line at g, (tt, tt))
  stmt_stands (Perform e) leaves line at g = (expr_stands e line at g, tt)
  stmt_stands (If e a b) leaves line at g = (expr_stands e line at g.0, (tt, (block_stands a leaves _ g.1, (tt, block_stands b leaves _ g.2))))
  stmt_stands (For is t b) leaves line at g =
      turns_stand is _ line at _ g.0 (λ a to. (condition_stands t line to a g.1, (block_stands b _ _ g.2, tt)))
  stmt_stands (While e b) leaves line at g = (expr_stands e line at g.0, (tt, (tt, (block_stands b zero _ g.1, tt))))
  stmt_stands Quit leaves line at g = quit_stands leaves line at
  stmt_stands Continue leaves line at g = tt
  stmt_stands Fail leaves line at g = tt
  stmt_stands Succeed leaves line at g = tt
  stmt_stands Stop leaves line at g = tt
  stmt_stands Pass leaves line at g = tt
  stmt_stands (Return e) leaves line at g = (expr_stands e line at g, tt)
  stmt_stands (Print es) leaves line at g = (all_stand es line at g, tt)
  stmt_stands (Read xs) leaves line at g = reads_stand xs line at

  block_stands : (b : Block) (leaves at : ℕ) → BlockStands b → PieceStands (block leaves b at)
  block_stands no_stmt leaves at g = tt
  block_stands (more_stmts line s rest) leaves at g = (stmt_stands s leaves line at g.0, block_stands rest leaves _ g.1)

pub main_stands : (line : ℕ) (b : Block) → BlockStands b → PieceStands (main_code line b 0)
main_stands line b g = (block_stands b zero 0 g, tt)

pub procedure_stands : (line : ℕ) (b : Block) → BlockStands b → PieceStands (procedure_code line b 0)
procedure_stands line b g = (block_stands b zero 0 g, (tt, tt))
