-- The code of expressions is placed.
use Rattle.std.proofs.Common.{◌≡◌, ℕ, suc, ◌+◌, List, refl, subst, arith}
use Rattle.setl_operators_table.specs.declared.Operator.{Operator}
use Rattle.setl_operators_table.specs.Operators.{TakesOperands}
use Rattle.setl_program.specs.declared.kinds.Quantifier.{Quantifier}
use Rattle.setl_program.specs.declared.kinds.Quantifier.TheVariants.{Exists, Forall, NotExists}
use Rattle.setl_program.specs.Program.{Expr, Literal, Undefined, Name, Apply, Connect, Choose, Former, Selection, Quantified, Call, Newat, Eof, Ok, Exprs, no_expr, more_exprs, Iterators, no_iterator, more_iterators, Condition, no_condition, only_if, Arguments, no_argument, rd_argument, wr_argument, rw_argument}
use Rattle.setl_program.specs.Formed.{number_of}
use Rattle.setl_program.specs.Placed.{PlacedExpr, PlacedExprs, PlacedIterators, PlacedCondition, PlacedArguments}
use Rattle.setl_model.specs.Iterations.{all_bound}
use Rattle.setl_code.specs.Piece.{Laid, nothing}
use Rattle.setl_code.specs.Generated.{set_by, count_from, count, negated, expr, exprs, iterators, condition, arguments}
use Rattle.setl_code_may_run.proofs.Pieces.{PlacedPiece}
use Rattle.setl_code_may_run.proofs.Storing.{slots_placed, binding_placed, clear_placed, set_placed, bound_placed}

counted_from : (n : ℕ) (es : Exprs) → count_from n es ≡ n + number_of es
counted_from n no_expr = omega arith
counted_from n (more_exprs e rest) = let more : count_from (suc n) rest ≡ suc n + number_of rest = counted_from (suc n) rest in omega (arith, more)

-- an operator has as many operands in code
counted : (o : Operator) (es : Exprs) → TakesOperands o (number_of es) → TakesOperands o (count es)
counted o es g = let same : number_of es ≡ count es = omega (arith, counted_from 0 es) in subst (λ n. TakesOperands o n) same g

module _ (vars : List (List ℕ)) where
  negated_placed : (q : Quantifier) (line at : ℕ) → PlacedPiece vars (negated line q at)
  negated_placed Exists line at = tt
  negated_placed Forall line at = refl
  negated_placed NotExists line at = tt

  mutual
    pub expr_placed : (e : Expr) (line at : ℕ) → PlacedExpr vars e → PlacedPiece vars (expr line e at)
    expr_placed (Literal d) line at g = tt
    expr_placed Undefined line at g = tt
    expr_placed (Name x) line at g = g
    expr_placed (Apply o es) line at g = (exprs_placed es line at g.1, counted o es g.0)
    expr_placed (Connect k a b) line at g = (expr_placed a line at g.0, (tt, (expr_placed b line _ g.1, tt)))
    expr_placed (Choose t a b) line at g = (expr_placed t line at g.0, (tt, (expr_placed a line _ g.1, (tt, expr_placed b line _ g.2))))
    expr_placed (Former k e is t) line at g =
        (tt, iterators_placed is _ line _ _ g.1 (λ a to. (condition_placed t line to a g.2, (expr_placed e line _ g.0, (tt, tt)))))
    expr_placed (Selection k b es c) line at g =
        (tt, (exprs_placed es line _ g.1, (tt, (tt, ((tt, binding_placed vars b line _ g.0), (expr_placed c line _ g.2, ((tt, (tt, tt)), (tt, tt))))))))
    expr_placed (Quantified q is c) line at g =
        (iterators_placed is _ line at _ g.0 (λ a to. (expr_placed c line to g.1, (negated_placed q line _, (tt, (tt, (tt, tt)))))), (clear_placed vars (all_bound is) line _ (bound_placed vars is g.0), tt))
    expr_placed (Call f all) line at g = (arguments_placed all line at g, (tt, slots_placed vars (set_by all) line _ (set_placed vars all g)))
    expr_placed Newat line at g = tt
    expr_placed Eof line at g = tt
    expr_placed Ok line at g = tt

    pub exprs_placed : (es : Exprs) (line at : ℕ) → PlacedExprs vars es → PlacedPiece vars (exprs line es at)
    exprs_placed no_expr line at g = tt
    exprs_placed (more_exprs e rest) line at g = (expr_placed e line at g.0, exprs_placed rest line _ g.1)

    pub iterators_placed : (is : Iterators) (inside : ℕ → Laid) (line at back : ℕ) → PlacedIterators vars is → ((a to : ℕ) → PlacedPiece vars (inside a to)) → PlacedPiece vars (iterators line nothing is inside back at)
    iterators_placed no_iterator inside line at back g inner = inner back at
    iterators_placed (more_iterators b es rest) inside line at back g inner =
        (exprs_placed es line at g.1, (tt, (tt, ((tt, binding_placed vars b line _ g.0), iterators_placed rest inside line _ _ g.2 inner))))

    pub condition_placed : (t : Condition) (line at a : ℕ) → PlacedCondition vars t → PlacedPiece vars (condition line t a at)
    condition_placed no_condition line at a g = tt
    condition_placed (only_if c) line at a g = (expr_placed c line at g, tt)

    arguments_placed : (all : Arguments) (line at : ℕ) → PlacedArguments vars all → PlacedPiece vars (arguments line all at)
    arguments_placed no_argument line at g = tt
    arguments_placed (rd_argument e rest) line at g = (expr_placed e line at g.0, arguments_placed rest line _ g.1)
    arguments_placed (wr_argument x rest) line at g = (tt, arguments_placed rest line _ g.1)
    arguments_placed (rw_argument x rest) line at g = (g.0, arguments_placed rest line _ g.1)
