-- Flows that have all values meet the conditions of each formed program.
use Rattle.std.proofs.Common.{refl, ℕ, suc, Bool, true, false, List, [], ◌∷◌, Option, Some, None}
use Rattle.std.specs.Prelude.{◌+◌, slice_get}
use Rattle.setl_model_runs.specs.Variable.{Variable}
use Rattle.setl_program.specs.Program.{Slots, Binding, Member, Components, Point, Expr, Literal, Undefined, Name, Apply, Connect, Choose, Former, Selection, Quantified, Call, Newat, Eof, Ok, Exprs, no_expr, more_exprs, Iterators, no_iterator, more_iterators, Condition, no_condition, only_if, Arguments, no_argument, rd_argument, wr_argument, rw_argument, Selectors, no_selector, round_selector, brace_selector, Stmt, Assign, Update, AssignParts, TakeFrom, Perform, If, For, While, Quit, Continue, Fail, Succeed, Stop, Pass, Return, Print, Read, Block, no_stmt, more_stmts, Parameter, Procedure, Program}
use Rattle.setl_program.specs.Formed.{Around, FormedExpr, FormedExprs, FormedIterators, FormedCondition, FormedArguments, FormedSelectors, FormedStmt, FormedBlock}
use Rattle.setl_program.specs.FormedLaws.{formed_at}
use Rattle.setl_model.specs.Core.{HandBacks}
use Rattle.setl_model.specs.Calls.{hand_backs}
use Rattle.setl_advise_flows.specs.Flow.{Flow, Nothing, Scalar, Set, Tuple, Map, Any, Below}
use Rattle.setl_advise_flows.specs.Operators.{Shape, part, el}
use Rattle.setl_advise_flows.specs.Expressions.{SlotsBelow, BindingBelow, ParametersAbove, BacksBelow, CallFlows, ExprFlows, ExprsFlows, IteratorsFlows, ConditionFlows, ArgumentsFlows, SelectorsFlows, StmtFlows, BlockFlows, ReadFlows}
use Rattle.setl_advise_flows.specs.Claims.{everything, EachHasSolution}

pub below_any : (f : Flow) → Below f Any
below_any Nothing = refl
below_any (Scalar k) = refl
below_any (Set f) = refl
below_any (Tuple f) = refl
below_any (Map f g) = refl
below_any Any = refl

slots_below : (f : Flow) (xs : Slots) → SlotsBelow everything f xs
slots_below f [] = tt
slots_below f (None ∷ xs) = slots_below f xs
slots_below f (Some x ∷ xs) = (below_any f, slots_below f xs)

binding_below : (b : Binding) (f : Flow) → BindingBelow everything b f
binding_below (Member k x) f = below_any (el f)
binding_below (Components k xs) f = slots_below (part (el f)) xs
binding_below (Point y x) f = (below_any _, below_any _)

parameters_above : (body : ℕ) (xs : List Parameter) (ws : List Shape) → ParametersAbove everything body xs ws
parameters_above body [] ws = tt
parameters_above body (x ∷ xs) [] = tt
parameters_above body (x ∷ xs) (w ∷ ws) = (below_any _, parameters_above body xs ws)

backs_below : (bs : HandBacks) → BacksBelow everything bs
backs_below [] = tt
backs_below (b ∷ bs) = (refl, backs_below bs)

reads_below : (xs : List Variable) → ReadFlows everything xs
reads_below [] = tt
reads_below (x ∷ xs) = (refl, reads_below xs)

call_below : (body : ℕ) (q : Option Procedure) (all : Arguments) (ws : List Shape) → CallFlows everything body q all ws
call_below body None all ws = tt
call_below body (Some q) all ws = (parameters_above body q.parameters ws, backs_below (hand_backs body q.parameters all))

module _ (p : Program) where
  mutual
    expr_solved : (a : Around) (e : Expr) → FormedExpr a e → ExprFlows p everything e
    expr_solved a (Literal d) h = tt
    expr_solved a Undefined h = tt
    expr_solved a (Name x) h = tt
    expr_solved a (Apply o es) h = exprs_solved a es h
    expr_solved a (Connect k x y) h = (expr_solved a x h.0, expr_solved a y h.1)
    expr_solved a (Choose t x y) h = (expr_solved a t h.0, expr_solved a x h.1, expr_solved a y h.2)
    expr_solved a (Former k e is t) h = (expr_solved a e h.1, iterators_solved a is h.2, condition_solved a t h.3)
    expr_solved a (Selection k b es c) h = (h.0, exprs_solved a es h.2, binding_below b _, expr_solved a c h.4)
    expr_solved a (Quantified q is c) h = (iterators_solved a is h.1, expr_solved a c h.2)
    expr_solved a (Call f all) h = (call_below (suc f) (slice_get p.procedures f) all _, arguments_solved a all h.1)
    expr_solved a Newat h = tt
    expr_solved a Eof h = tt
    expr_solved a Ok h = tt

    exprs_solved : (a : Around) (es : Exprs) → FormedExprs a es → ExprsFlows p everything es
    exprs_solved a no_expr h = tt
    exprs_solved a (more_exprs e rest) h = (expr_solved a e h.0, exprs_solved a rest h.1)

    iterators_solved : (a : Around) (is : Iterators) → FormedIterators a is → IteratorsFlows p everything is
    iterators_solved a no_iterator h = tt
    iterators_solved a (more_iterators b es rest) h = (exprs_solved a es h.1, binding_below b _, iterators_solved a rest h.3)

    condition_solved : (a : Around) (t : Condition) → FormedCondition a t → ConditionFlows p everything t
    condition_solved a no_condition h = tt
    condition_solved a (only_if e) h = expr_solved a e h

    arguments_solved : (a : Around) (all : Arguments) → FormedArguments a all → ArgumentsFlows p everything all
    arguments_solved a no_argument h = tt
    arguments_solved a (rd_argument e rest) h = (expr_solved a e h.0, arguments_solved a rest h.1)
    arguments_solved a (wr_argument x rest) h = arguments_solved a rest h.1
    arguments_solved a (rw_argument x rest) h = arguments_solved a rest h.1

  selectors_solved : (a : Around) (ss : Selectors) → FormedSelectors a ss → SelectorsFlows p everything ss
  selectors_solved a no_selector h = tt
  selectors_solved a (round_selector e rest) h = (expr_solved a e h.0, selectors_solved a rest h.1)
  selectors_solved a (brace_selector e rest) h = (expr_solved a e h.0, selectors_solved a rest h.1)

  mutual
    stmt_solved : (a : Around) (l : Bool) (st : Stmt) → FormedStmt a l st → StmtFlows p everything Any st
    stmt_solved a l (Assign q e) h = (expr_solved a e h.2, selectors_solved a q.selectors h.1, below_any _)
    stmt_solved a l (Update o q e) h = (expr_solved a e h.2, selectors_solved a q.selectors h.1, below_any _)
    stmt_solved a l (AssignParts xs e) h = (expr_solved a e h.1, slots_below _ xs)
    stmt_solved a l (TakeFrom k x q) h = (selectors_solved a q.selectors h.2, (below_any _, below_any _))
    stmt_solved a l (Perform e) h = expr_solved a e h
    stmt_solved a l (If e x y) h = (expr_solved a e h.0, block_solved a l x h.1, block_solved a l y h.2)
    stmt_solved a l (For is t x) h = (iterators_solved a is h.1, condition_solved a t h.2, block_solved a true x h.3)
    stmt_solved a l (While e x) h = (expr_solved a e h.0, block_solved a true x h.1)
    stmt_solved a l Quit h = tt
    stmt_solved a l Continue h = tt
    stmt_solved a l Fail h = tt
    stmt_solved a l Succeed h = tt
    stmt_solved a l Stop h = tt
    stmt_solved a l Pass h = tt
    stmt_solved a l (Return e) h = (expr_solved a e h.1, below_any _)
    stmt_solved a l (Print es) h = exprs_solved a es h
    stmt_solved a l (Read xs) h = reads_below xs

    block_solved : (a : Around) (l : Bool) (b : Block) → FormedBlock a l b → BlockFlows p everything Any b
    block_solved a l no_stmt h = tt
    block_solved a l (more_stmts line st rest) h = (stmt_solved a l st h.0, block_solved a l rest h.1)

pub each_has_solution : EachHasSolution
each_has_solution p h =
    record {
      main = block_solved p (record { body = 0; procedures = p.procedures }) false p.main h.0;
      procedures = λ f q is. block_solved p (record { body = 1 + f; procedures = p.procedures }) false q.body (formed_at p.procedures 1 f p.procedures q h.1 is);
    }
