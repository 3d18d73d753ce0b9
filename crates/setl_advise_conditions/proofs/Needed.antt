-- Flows that meet all that a program asks meet each condition.
use Rattle.std.proofs.Common.{◌≡◌, refl, subst, arith, ℕ, zero, suc, List, [], ◌∷◌, Option, Some, None}
use Rattle.std.specs.Prelude.{◌+◌, ◌++◌, slice_get}
use Rattle.setl_model_runs.specs.Variable.{Variable}
use Rattle.setl_program.specs.Program.{Slots, Binding, Member as MemberOf, Components, Point, begin_of, Expr, Literal, Undefined, Name, Apply, Connect, Choose, Former, Selection, Quantified, Call, Newat, Eof, Ok, Exprs, no_expr, more_exprs, Iterators, no_iterator, more_iterators, Condition as Test, no_condition, only_if, Arguments, no_argument, rd_argument, wr_argument, rw_argument, Selectors, no_selector, round_selector, brace_selector, Stmt, Assign, Update, AssignParts, TakeFrom, Perform, If, For, While, Quit, Continue, Fail, Succeed, Stop, Pass, Return, Print, Read, Block, no_stmt, more_stmts, Parameter, Procedure, Program}
use Rattle.setl_model.specs.Calls.{hand_backs}
use Rattle.setl_advise_flows.specs.Flow.{Flow, Any, Below}
use Rattle.setl_advise_flows.specs.Operators.{flows}
use Rattle.setl_advise_flows.specs.Expressions.{Flows, flow_at, shapes_of, argument_shapes, source_flow, SlotsBelow, BindingBelow, ParametersAbove, BacksBelow, CallFlows, ExprFlows, ExprsFlows, IteratorsFlows, ConditionFlows, ArgumentsFlows, SelectorsFlows, StmtFlows, BlockFlows, ReadFlows}
use Rattle.setl_advise_conditions.specs.Conditions.{Term, Component, Condition, Meets, MeetsAll, term_flow}
use Rattle.setl_advise_conditions.specs.Parts.{slot_conditions, binding_conditions, passed_conditions, call_conditions, expr_conditions, exprs_conditions, iterators_conditions, test_conditions, arguments_conditions, selectors_conditions, read_conditions, return_conditions, stmt_conditions, block_conditions, procedures_conditions}
use Rattle.setl_advise_conditions.specs.Claims.{SolvedIsMet}
use Rattle.setl_advise_conditions.proofs.Lists.{both}

module _ (s : Flows) where
  slots_needed : (t : Term) (xs : Slots) → SlotsBelow s (term_flow s t) xs → MeetsAll s (slot_conditions t xs)
  slots_needed t [] h = cc
  slots_needed t (None ∷ xs) h = slots_needed t xs h
  slots_needed t (Some x ∷ xs) h = (h.0, slots_needed t xs h.1)

  binding_needed : (b : Binding) (es : Exprs) → BindingBelow s b (source_flow (begin_of b) (flows (shapes_of s es))) → MeetsAll s (binding_conditions b es)
  binding_needed (MemberOf k x) es h = (h, cc)
  binding_needed (Components k xs) es h = slots_needed _ xs h
  binding_needed (Point y x) es h = (h.0, (h.1, cc))

  passed_needed : (body : ℕ) (ps : List Parameter) (all : Arguments) → ParametersAbove s body ps (argument_shapes s all) → BacksBelow s (hand_backs body ps all) → MeetsAll s (passed_conditions body ps all)
  passed_needed body [] all h k = cc
  passed_needed body (p ∷ ps) no_argument h k = cc
  passed_needed body (p ∷ ps) (rd_argument e rest) h k = (h.0, passed_needed body ps rest h.1 k)
  passed_needed body (p ∷ ps) (wr_argument x rest) h k = (h.0, (k.0, passed_needed body ps rest h.1 k.1))
  passed_needed body (p ∷ ps) (rw_argument x rest) h k = (h.0, (k.0, passed_needed body ps rest h.1 k.1))

  call_needed : (body : ℕ) (q : Option Procedure) (all : Arguments) → CallFlows s body q all (argument_shapes s all) → MeetsAll s (call_conditions body q all)
  call_needed body None all h = cc
  call_needed body (Some q) all h = passed_needed body q.parameters all h.0 h.1

  reads_needed : (qs : List Procedure) (xs : List Variable) → ReadFlows s xs → MeetsAll s (read_conditions qs xs)
  reads_needed qs [] h = cc
  reads_needed qs (x ∷ xs) h = (h.0, reads_needed qs xs h.1)

  module _ (p : Program) where
    abbrev join : (cs ds : List Condition) → MeetsAll s cs → MeetsAll s ds → MeetsAll s (cs ++ ds)
    join cs ds h k = both (Meets s) cs ds h k

    mutual
      expr_needed : (e : Expr) → ExprFlows p s e → MeetsAll s (expr_conditions p.procedures e)
      expr_needed (Literal d) h = cc
      expr_needed Undefined h = cc
      expr_needed (Name x) h = cc
      expr_needed (Apply o es) h = exprs_needed es h
      expr_needed (Connect k x y) h = join (expr_conditions p.procedures x) _ (expr_needed x h.0) (expr_needed y h.1)
      expr_needed (Choose t x y) h =
          join (expr_conditions p.procedures t ++ expr_conditions p.procedures x) _ (join (expr_conditions p.procedures t) _ (expr_needed t h.0) (expr_needed x h.1)) (expr_needed y h.2)
      expr_needed (Former k e is t) h =
          join (expr_conditions p.procedures e ++ iterators_conditions p.procedures is) _ (join (expr_conditions p.procedures e) _ (expr_needed e h.0) (iterators_needed is h.1)) (test_needed t h.2)
      expr_needed (Selection k b es c) h =
          join (binding_conditions b es ++ exprs_conditions p.procedures es) _ (join (binding_conditions b es) _ (binding_needed b es h.2) (exprs_needed es h.1)) (expr_needed c h.3)
      expr_needed (Quantified q is c) h = join (iterators_conditions p.procedures is) _ (iterators_needed is h.0) (expr_needed c h.1)
      expr_needed (Call n all) h =
          join (call_conditions (suc n) (slice_get p.procedures n) all) _ (call_needed (suc n) (slice_get p.procedures n) all h.0) (arguments_needed all h.1)
      expr_needed Newat h = cc
      expr_needed Eof h = cc
      expr_needed Ok h = cc

      exprs_needed : (es : Exprs) → ExprsFlows p s es → MeetsAll s (exprs_conditions p.procedures es)
      exprs_needed no_expr h = cc
      exprs_needed (more_exprs e rest) h = join (expr_conditions p.procedures e) _ (expr_needed e h.0) (exprs_needed rest h.1)

      iterators_needed : (is : Iterators) → IteratorsFlows p s is → MeetsAll s (iterators_conditions p.procedures is)
      iterators_needed no_iterator h = cc
      iterators_needed (more_iterators b es rest) h =
          join (binding_conditions b es ++ exprs_conditions p.procedures es) _ (join (binding_conditions b es) _ (binding_needed b es h.1) (exprs_needed es h.0)) (iterators_needed rest h.2)

      test_needed : (t : Test) → ConditionFlows p s t → MeetsAll s (test_conditions p.procedures t)
      test_needed no_condition h = cc
      test_needed (only_if e) h = expr_needed e h

      arguments_needed : (all : Arguments) → ArgumentsFlows p s all → MeetsAll s (arguments_conditions p.procedures all)
      arguments_needed no_argument h = cc
      arguments_needed (rd_argument e rest) h = join (expr_conditions p.procedures e) _ (expr_needed e h.0) (arguments_needed rest h.1)
      arguments_needed (wr_argument x rest) h = arguments_needed rest h
      arguments_needed (rw_argument x rest) h = arguments_needed rest h

    selectors_needed : (ss : Selectors) → SelectorsFlows p s ss → MeetsAll s (selectors_conditions p.procedures ss)
    selectors_needed no_selector h = cc
    selectors_needed (round_selector e rest) h = join (expr_conditions p.procedures e) _ (expr_needed e h.0) (selectors_needed rest h.1)
    selectors_needed (brace_selector e rest) h = join (expr_conditions p.procedures e) _ (expr_needed e h.0) (selectors_needed rest h.1)

    -- the flow of the result of a body
    abbrev result_of : ℕ → Flow
    result_of zero = Any
    result_of (suc f) = s.result f

    return_needed : (n : ℕ) (e : Expr) → Below (flow_at s e) (result_of n) → MeetsAll s (return_conditions p.procedures n e)
    return_needed zero e h = cc
    return_needed (suc f) e h = (h, cc)

    mutual
      stmt_needed : (n : ℕ) (st : Stmt) → StmtFlows p s (result_of n) st → MeetsAll s (stmt_conditions p.procedures n st)
      stmt_needed n (Assign q e) h = (h.2, join (selectors_conditions p.procedures q.selectors) _ (selectors_needed q.selectors h.1) (expr_needed e h.0))
      stmt_needed n (Update o q e) h = (h.2, join (selectors_conditions p.procedures q.selectors) _ (selectors_needed q.selectors h.1) (expr_needed e h.0))
      stmt_needed n (AssignParts xs e) h = join (slot_conditions (Component e) xs) _ (slots_needed (Component e) xs h.1) (expr_needed e h.0)
      stmt_needed n (TakeFrom k x q) h = (h.1.1, (h.1.0, selectors_needed q.selectors h.0))
      stmt_needed n (Perform e) h = expr_needed e h
      stmt_needed n (If e x y) h =
          join (expr_conditions p.procedures e ++ block_conditions p.procedures n x) _ (join (expr_conditions p.procedures e) _ (expr_needed e h.0) (block_needed n x h.1)) (block_needed n y h.2)
      stmt_needed n (For is t x) h =
          join (iterators_conditions p.procedures is ++ test_conditions p.procedures t) _ (join (iterators_conditions p.procedures is) _ (iterators_needed is h.0) (test_needed t h.1)) (block_needed n x h.2)
      stmt_needed n (While e x) h = join (expr_conditions p.procedures e) _ (expr_needed e h.0) (block_needed n x h.1)
      stmt_needed n Quit h = cc
      stmt_needed n Continue h = cc
      stmt_needed n Fail h = cc
      stmt_needed n Succeed h = cc
      stmt_needed n Stop h = cc
      stmt_needed n Pass h = cc
      stmt_needed n (Return e) h = join (return_conditions p.procedures n e) _ (return_needed n e h.1) (expr_needed e h.0)
      stmt_needed n (Print es) h = exprs_needed es h
      stmt_needed n (Read xs) h = reads_needed p.procedures xs h

      block_needed : (n : ℕ) (b : Block) → BlockFlows p s (result_of n) b → MeetsAll s (block_conditions p.procedures n b)
      block_needed n no_stmt h = cc
      block_needed n (more_stmts line st rest) h = join (stmt_conditions p.procedures n st) _ (stmt_needed n st h.0) (block_needed n rest h.1)

    procedures_needed : (m : ℕ) (qs : List Procedure) → ((f : ℕ) (q : Procedure) → slice_get qs f ≡ Some q → BlockFlows p s (s.result (m + f)) q.body) → MeetsAll s (procedures_conditions p.procedures (suc m) qs)
    procedures_needed m [] h = cc
    procedures_needed m (q ∷ qs) h =
        let place : m + 0 ≡ m = omega arith in
        join (block_conditions p.procedures (suc m) q.body) _ (block_needed (suc m) q.body (subst (λ f. BlockFlows p s (s.result f) q.body) place (h 0 q refl))) (procedures_needed (suc m) qs (λ f r is. later f r (h (suc f) r is)))
      where
        later : (f : ℕ) (r : Procedure) → BlockFlows p s (s.result (m + suc f)) r.body → BlockFlows p s (s.result (suc m + f)) r.body
        later f r k = let place : m + suc f ≡ suc m + f = omega arith in subst (λ n. BlockFlows p s (s.result n) r.body) place k

pub solved_is_met : SolvedIsMet
solved_is_met p s h =
    both (Meets s) (block_conditions p.procedures 0 p.main) (procedures_conditions p.procedures 1 p.procedures) (block_needed s p 0 p.main h.main) (procedures_needed s p 0 p.procedures (λ f q is. of_procedure f q (h.procedures f q is)))
  where
    of_procedure : (f : ℕ) (q : Procedure) → BlockFlows p s (s.result f) q.body → BlockFlows p s (s.result (0 + f)) q.body
    of_procedure f q k = let place : f ≡ 0 + f = omega arith in subst (λ m. BlockFlows p s (s.result m) q.body) place k
