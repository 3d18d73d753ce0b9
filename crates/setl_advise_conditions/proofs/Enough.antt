-- Flows that meet each condition meet all that a formed program asks.
use Rattle.std.proofs.Common.{◌≡◌, refl, subst, arith, ℕ, zero, suc, Bool, true, List, [], ◌∷◌, Option, Some, None}
use Rattle.std.specs.Prelude.{◌+◌, ◌++◌, false, slice_get}
use Rattle.setl_model_runs.specs.Variable.{Variable}
use Rattle.setl_program.specs.Program.{Slots, Binding, Member as MemberOf, Components, Point, begin_of, Expr, Literal, Undefined, Name, Apply, Connect, Choose, Former, Selection, Quantified, Call, Newat, Eof, Ok, Exprs, no_expr, more_exprs, Iterators, no_iterator, more_iterators, Condition as Test, no_condition, only_if, Arguments, no_argument, rd_argument, wr_argument, rw_argument, Selectors, no_selector, round_selector, brace_selector, Stmt, Assign, Update, AssignParts, TakeFrom, Perform, If, For, While, Quit, Continue, Fail, Succeed, Stop, Pass, Return, Print, Read, Block, no_stmt, more_stmts, Parameter, Procedure, Program}
use Rattle.setl_program.specs.Formed.{Around, FormedExpr, FormedExprs, FormedIterators, FormedCondition, FormedArguments, FormedSelectors, FormedStmt, FormedBlock}
use Rattle.setl_program.specs.FormedLaws.{formed_at}
use Rattle.setl_model.specs.Calls.{hand_backs}
use Rattle.setl_advise_flows.specs.Flow.{Flow, Nothing, Scalar, Set, Tuple, Map, Any, Below}
use Rattle.setl_advise_flows.specs.Operators.{flows}
use Rattle.setl_advise_flows.specs.Expressions.{Flows, flow_at, shapes_of, argument_shapes, source_flow, SlotsBelow, BindingBelow, ParametersAbove, BacksBelow, CallFlows, ExprFlows, ExprsFlows, IteratorsFlows, ConditionFlows, ArgumentsFlows, SelectorsFlows, StmtFlows, BlockFlows, ReadFlows}
use Rattle.setl_advise_conditions.specs.Conditions.{Term, Component, Condition, Meets, MeetsAll, term_flow}
use Rattle.setl_advise_conditions.specs.Parts.{slot_conditions, binding_conditions, passed_conditions, call_conditions, expr_conditions, exprs_conditions, iterators_conditions, test_conditions, arguments_conditions, selectors_conditions, read_conditions, return_conditions, stmt_conditions, block_conditions, procedures_conditions}
use Rattle.setl_advise_conditions.specs.Claims.{MetIsSolved}
use Rattle.setl_advise_conditions.proofs.Lists.{fronts, backs}

below_any : (f : Flow) → Below f Any
below_any Nothing = refl
below_any (Scalar k) = refl
below_any (Set f) = refl
below_any (Tuple f) = refl
below_any (Map f g) = refl
below_any Any = refl

module _ (s : Flows) where
  slots_met : (t : Term) (xs : Slots) → MeetsAll s (slot_conditions t xs) → SlotsBelow s (term_flow s t) xs
  slots_met t [] h = tt
  slots_met t (None ∷ xs) h = slots_met t xs h
  slots_met t (Some x ∷ xs) h = (h.0, slots_met t xs h.1)

  binding_met : (b : Binding) (es : Exprs) → MeetsAll s (binding_conditions b es) → BindingBelow s b (source_flow (begin_of b) (flows (shapes_of s es)))
  binding_met (MemberOf k x) es h = h.0
  binding_met (Components k xs) es h = slots_met _ xs h
  binding_met (Point y x) es h = (h.0, h.1.0)

  parameters_met : (body : ℕ) (ps : List Parameter) (all : Arguments) → MeetsAll s (passed_conditions body ps all) → ParametersAbove s body ps (argument_shapes s all)
  parameters_met body [] all h = tt
  parameters_met body (p ∷ ps) no_argument h = tt
  parameters_met body (p ∷ ps) (rd_argument e rest) h = (h.0, parameters_met body ps rest h.1)
  parameters_met body (p ∷ ps) (wr_argument x rest) h = (h.0, parameters_met body ps rest h.1.1)
  parameters_met body (p ∷ ps) (rw_argument x rest) h = (h.0, parameters_met body ps rest h.1.1)

  backs_met : (body : ℕ) (ps : List Parameter) (all : Arguments) → MeetsAll s (passed_conditions body ps all) → BacksBelow s (hand_backs body ps all)
  backs_met body [] all h = tt
  backs_met body (p ∷ ps) no_argument h = tt
  backs_met body (p ∷ ps) (rd_argument e rest) h = backs_met body ps rest h.1
  backs_met body (p ∷ ps) (wr_argument x rest) h = (h.1.0, backs_met body ps rest h.1.1)
  backs_met body (p ∷ ps) (rw_argument x rest) h = (h.1.0, backs_met body ps rest h.1.1)

  call_met : (body : ℕ) (q : Option Procedure) (all : Arguments) → MeetsAll s (call_conditions body q all) → CallFlows s body q all (argument_shapes s all)
  call_met body None all h = tt
  call_met body (Some q) all h = (parameters_met body q.parameters all h, backs_met body q.parameters all h)

  reads_met : (qs : List Procedure) (xs : List Variable) → MeetsAll s (read_conditions qs xs) → ReadFlows s xs
  reads_met qs [] h = tt
  reads_met qs (x ∷ xs) h = (h.0, reads_met qs xs h.1)

  module _ (p : Program) where
    abbrev front : (cs ds : List Condition) → MeetsAll s (cs ++ ds) → MeetsAll s cs
    front cs ds h = fronts (Meets s) cs ds h

    abbrev back : (cs ds : List Condition) → MeetsAll s (cs ++ ds) → MeetsAll s ds
    back cs ds h = backs (Meets s) cs ds h

    mutual
      expr_met : (a : Around) (e : Expr) → FormedExpr a e → MeetsAll s (expr_conditions p.procedures e) → ExprFlows p s e
      expr_met a (Literal d) f h = tt
      expr_met a Undefined f h = tt
      expr_met a (Name x) f h = tt
      expr_met a (Apply o es) f h = exprs_met a es f h
      expr_met a (Connect k x y) f h = (expr_met a x f.0 (front _ _ h), expr_met a y f.1 (back (expr_conditions p.procedures x) _ h))
      expr_met a (Choose t x y) f h =
          (expr_met a t f.0 (front _ _ (front _ (expr_conditions p.procedures y) h)), expr_met a x f.1 (back (expr_conditions p.procedures t) _ (front _ (expr_conditions p.procedures y) h)), expr_met a y f.2 (back (expr_conditions p.procedures t ++ expr_conditions p.procedures x) _ h))
      expr_met a (Former k e is t) f h =
          (expr_met a e f.1 (front _ _ (front _ (test_conditions p.procedures t) h)), iterators_met a is f.2 (back (expr_conditions p.procedures e) _ (front _ (test_conditions p.procedures t) h)), test_met a t f.3 (back (expr_conditions p.procedures e ++ iterators_conditions p.procedures is) _ h))
      expr_met a (Selection k b es c) f h =
          let x = binding_conditions b es in
          let y = exprs_conditions p.procedures es in
          let z = expr_conditions p.procedures c in
          (f.0, exprs_met a es f.2 (back x y (front (x ++ y) z h)), binding_met b es (front x y (front (x ++ y) z h)), expr_met a c f.4 (back (x ++ y) z h))
      expr_met a (Quantified q is c) f h = (iterators_met a is f.1 (front _ _ h), expr_met a c f.2 (back (iterators_conditions p.procedures is) _ h))
      expr_met a (Call n all) f h =
          let x = call_conditions (suc n) (slice_get p.procedures n) all in
          (call_met (suc n) (slice_get p.procedures n) all (front x _ h), arguments_met a all f.1 (back x _ h))
      expr_met a Newat f h = tt
      expr_met a Eof f h = tt
      expr_met a Ok f h = tt

      exprs_met : (a : Around) (es : Exprs) → FormedExprs a es → MeetsAll s (exprs_conditions p.procedures es) → ExprsFlows p s es
      exprs_met a no_expr f h = tt
      exprs_met a (more_exprs e rest) f h = (expr_met a e f.0 (front _ _ h), exprs_met a rest f.1 (back (expr_conditions p.procedures e) _ h))

      iterators_met : (a : Around) (is : Iterators) → FormedIterators a is → MeetsAll s (iterators_conditions p.procedures is) → IteratorsFlows p s is
      iterators_met a no_iterator f h = tt
      iterators_met a (more_iterators b es rest) f h =
          let x = binding_conditions b es in
          let y = exprs_conditions p.procedures es in
          let z = iterators_conditions p.procedures rest in
          (exprs_met a es f.1 (back x y (front (x ++ y) z h)), binding_met b es (front x y (front (x ++ y) z h)), iterators_met a rest f.3 (back (x ++ y) z h))

      test_met : (a : Around) (t : Test) → FormedCondition a t → MeetsAll s (test_conditions p.procedures t) → ConditionFlows p s t
      test_met a no_condition f h = tt
      test_met a (only_if e) f h = expr_met a e f h

      arguments_met : (a : Around) (all : Arguments) → FormedArguments a all → MeetsAll s (arguments_conditions p.procedures all) → ArgumentsFlows p s all
      arguments_met a no_argument f h = tt
      arguments_met a (rd_argument e rest) f h = (expr_met a e f.0 (front _ _ h), arguments_met a rest f.1 (back (expr_conditions p.procedures e) _ h))
      arguments_met a (wr_argument x rest) f h = arguments_met a rest f.1 h
      arguments_met a (rw_argument x rest) f h = arguments_met a rest f.1 h

    selectors_met : (a : Around) (ss : Selectors) → FormedSelectors a ss → MeetsAll s (selectors_conditions p.procedures ss) → SelectorsFlows p s ss
    selectors_met a no_selector f h = tt
    selectors_met a (round_selector e rest) f h = (expr_met a e f.0 (front _ _ h), selectors_met a rest f.1 (back (expr_conditions p.procedures e) _ h))
    selectors_met a (brace_selector e rest) f h = (expr_met a e f.0 (front _ _ h), selectors_met a rest f.1 (back (expr_conditions p.procedures e) _ h))

    -- the flow of the result of a body
    abbrev result_of : ℕ → Flow
    result_of zero = Any
    result_of (suc f) = s.result f

    return_met : (n : ℕ) (e : Expr) → MeetsAll s (return_conditions p.procedures n e) → Below (flow_at s e) (result_of n)
    return_met zero e h = below_any (flow_at s e)
    return_met (suc f) e h = h.0

    mutual
      stmt_met : (a : Around) (l : Bool) (st : Stmt) → FormedStmt a l st → MeetsAll s (stmt_conditions p.procedures a.body st) → StmtFlows p s (result_of a.body) st
      stmt_met a l (Assign q e) f h = (expr_met a e f.2 (back (selectors_conditions p.procedures q.selectors) _ h.1), selectors_met a q.selectors f.1 (front _ _ h.1), h.0)
      stmt_met a l (Update o q e) f h = (expr_met a e f.2 (back (selectors_conditions p.procedures q.selectors) _ h.1), selectors_met a q.selectors f.1 (front _ _ h.1), h.0)
      stmt_met a l (AssignParts xs e) f h = (expr_met a e f.1 (back (slot_conditions (Component e) xs) _ h), slots_met (Component e) xs (front _ _ h))
      stmt_met a l (TakeFrom k x q) f h = (selectors_met a q.selectors f.2 h.1.1, (h.1.0, h.0))
      stmt_met a l (Perform e) f h = expr_met a e f h
      stmt_met a l (If e x y) f h =
          let c = expr_conditions p.procedures e in
          let d = block_conditions p.procedures a.body x in
          let g = block_conditions p.procedures a.body y in
          (expr_met a e f.0 (front c d (front (c ++ d) g h)), block_met a l x f.1 (back c d (front (c ++ d) g h)), block_met a l y f.2 (back (c ++ d) g h))
      stmt_met a l (For is t x) f h =
          let c = iterators_conditions p.procedures is in
          let d = test_conditions p.procedures t in
          let g = block_conditions p.procedures a.body x in
          (iterators_met a is f.1 (front c d (front (c ++ d) g h)), test_met a t f.2 (back c d (front (c ++ d) g h)), block_met a true x f.3 (back (c ++ d) g h))
      stmt_met a l (While e x) f h = (expr_met a e f.0 (front _ _ h), block_met a true x f.1 (back (expr_conditions p.procedures e) _ h))
      stmt_met a l Quit f h = tt
      stmt_met a l Continue f h = tt
      stmt_met a l Fail f h = tt
      stmt_met a l Succeed f h = tt
      stmt_met a l Stop f h = tt
      stmt_met a l Pass f h = tt
      stmt_met a l (Return e) f h =
          (expr_met a e f.1 (back (return_conditions p.procedures a.body e) _ h), return_met a.body e (front _ _ h))
      stmt_met a l (Print es) f h = exprs_met a es f h
      stmt_met a l (Read xs) f h = reads_met p.procedures xs h

      block_met : (a : Around) (l : Bool) (b : Block) → FormedBlock a l b → MeetsAll s (block_conditions p.procedures a.body b) → BlockFlows p s (result_of a.body) b
      block_met a l no_stmt f h = tt
      block_met a l (more_stmts line st rest) f h = (stmt_met a l st f.0 (front _ _ h), block_met a l rest f.1 (back (stmt_conditions p.procedures a.body st) _ h))

    procedure_met : (n f : ℕ) (qs : List Procedure) (q : Procedure) → MeetsAll s (procedures_conditions p.procedures n qs) → slice_get qs f ≡ Some q → MeetsAll s (block_conditions p.procedures (n + f) q.body)
    procedure_met n f [] q h is = cc
    procedure_met n zero (r ∷ rs) q h is =
        let same : r ≡ q = cc in
        let place : n ≡ n + 0 = omega arith in
        subst (λ m. MeetsAll s (block_conditions p.procedures m q.body)) place (subst (λ (t : Procedure). MeetsAll s (block_conditions p.procedures n t.body)) same (front _ _ h))
    procedure_met n (suc f) (r ∷ rs) q h is =
        let place : suc n + f ≡ n + suc f = omega arith in
        subst (λ m. MeetsAll s (block_conditions p.procedures m q.body)) place (procedure_met (suc n) f rs q (back (block_conditions p.procedures n r.body) _ h) is)

pub met_is_solved : MetIsSolved
met_is_solved p s f h =
    let main = block_conditions p.procedures 0 p.main in
    let rest = procedures_conditions p.procedures 1 p.procedures in
    record {
      main = block_met s p (record { body = 0; procedures = p.procedures }) false p.main f.0 (fronts (Meets s) main rest h);
      procedures = λ n q is. of_procedure n q (block_met s p (record { body = 1 + n; procedures = p.procedures }) false q.body (formed_at p.procedures 1 n p.procedures q f.1 is) (procedure_met s p 1 n p.procedures q (backs (Meets s) main rest h) is));
    }
  where
    of_procedure : (n : ℕ) (q : Procedure) → BlockFlows p s (result_of s p (1 + n)) q.body → BlockFlows p s (s.result n) q.body
    of_procedure n q k = let place : 1 + n ≡ suc n = omega arith in subst (λ m. BlockFlows p s (result_of s p m) q.body) place k
