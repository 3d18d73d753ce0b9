-- Worked rows of expressions: what the layers of a tree become.
use Rattle.std.specs.Prelude.{pos, List, [], ◌∷◌, codes, Some, None}
use Rattle.setl_tree.specs.declared.expr.BinaryOp.TheVariants as op
use Rattle.setl_tree.specs.declared.expr.Relation.TheVariants as rel
use Rattle.setl_tree.specs.declared.expr.Fold.TheVariants as fd
use Rattle.setl_tree.specs.declared.expr.Prefix.TheVariants as pre
use Rattle.setl_tree.specs.declared.expr.Quantifier.TheVariants as qu
use Rattle.setl_tree.specs.declared.expr.Slot.TheVariants as sl
use Rattle.setl_tree.specs.declared.expr.Bound.TheVariants as bd
use Rattle.setl_tree.specs.declared.expr.Expr.TheOpen.{Expr-F, Inner-F, Iter-F, Selector-F}
use Rattle.setl_tree.specs.declared.tree.Passing.TheVariants as pa
use Rattle.setl_model_runs.specs.Variable.{Bound}
use Rattle.setl_operators_table.specs.declared.Operator.TheVariants.{With, Less, Add, Subtract, Max, Multiply, Power, Equal, NotEqual, Above, In, Negate, Size, Abs, Not, FoldAdd, TupleRange, SetStep}
use Rattle.setl_program.specs.declared.kinds.Collection.TheVariants.{OfSet, OfTuple}
use Rattle.setl_program.specs.declared.kinds.Connective.TheVariants.{And, Or, Implies}
use Rattle.setl_program.specs.declared.kinds.Quantifier.TheVariants.{Exists, Forall, NotExists}
use Rattle.setl_program.specs.declared.kinds.Source.TheVariants.{Values, Between, SetSteps, TupleSteps}
use Rattle.setl_program.specs.Program.{Member, Components, Point, Expr, Undefined, Name, Connect, Choose, Former, Selection, Quantified, Call, Newat, Eof, Ok, no_iterator, more_iterators, no_condition, only_if, no_argument, rd_argument, wr_argument, rw_argument}
use Rattle.setl_program.specs.Source.{f, g, s, t, x, y, z, yes, no, number, quoted, exprs, one, two, three, set_of, tuple_of, at_round, at_brace, from_to, from_on, over, select_between, select_over}
use Rattle.setl_program.specs.Scope.{Scope}
use Rattle.setl_program.specs.Expressions.{Part, expr_step, inner_step, iter_step, selector_step}

-- the main program beside `proc p(a, wr b, rw c);`
abbrev main_scope : Scope
main_scope = record {
  body = 0;
  parameters = [];
  vars = [];
  formers = [];
  procedures =
      record {
        line = 9;
        name = codes "p";
        params = record { passing = pa.Rd; name = codes "a"; line = 9 } ∷ record { passing = pa.Wr; name = codes "b"; line = 9 } ∷ record { passing = pa.Rw; name = codes "c"; line = 9 } ∷ [];
        body = [];
        end_name = None;
        end_line = 9;
      }
      ∷ [];
}

-- what an expression of the main program becomes
abbrev pub term_in_main : Part → Expr
term_in_main p = (p.term main_scope 0).0

-- 1 + 2 - 3 * 4 ** 2; not x = 1 and true or false impl x /= 2; # +/ [1, om] max abs y; {x} with y less z; -(x + 1); x in y
abbrev pub operators_parts : List Part
operators_parts =
    expr_step (Expr-F.Chain (expr_step (Expr-F.Number (pos 1))) ((op.Plus, expr_step (Expr-F.Number (pos 2))) ∷ (
      op.Minus,
      expr_step (Expr-F.Chain (expr_step (Expr-F.Number (pos 3))) ((
        op.Times,
        expr_step (Expr-F.Chain
            (expr_step (Expr-F.Number (pos 4))) ((op.Power, expr_step (Expr-F.Number (pos 2))) ∷ [])),
      ) ∷ [])),
    ) ∷ []))
    ∷ expr_step (Expr-F.Chain (expr_step (Expr-F.Chain (expr_step (Expr-F.Chain (expr_step (Expr-F.Prefixed (pre.Not
    ∷ []) (expr_step (Expr-F.Compare (expr_step (Expr-F.Name (codes "x"))) (rel.Equal) (expr_step (Expr-F.Number
    (pos 1))))))) ((op.And, (expr_step Expr-F.True)) ∷ []))) ((op.Or, (expr_step Expr-F.False)) ∷ [])))
    ((
      op.Impl,
      expr_step (Expr-F.Compare (expr_step (Expr-F.Name (codes "x"))) (rel.NotEqual) (expr_step
          (Expr-F.Number (pos 2)))),
    ) ∷ []))
    ∷ expr_step (Expr-F.Chain (expr_step (Expr-F.Prefixed (pre.Size ∷ (pre.Folded fd.Plus) ∷ []) (expr_step
    (Expr-F.Tuple (inner_step (Inner-F.List (expr_step (Expr-F.Number (pos 1)) ∷ (expr_step Expr-F.Om) ∷ [])))))))
    ((op.Max, expr_step (Expr-F.Prefixed (pre.Abs ∷ []) (expr_step (Expr-F.Name (codes "y"))))) ∷ []))
    ∷ expr_step (Expr-F.Chain (expr_step (Expr-F.Set (inner_step (Inner-F.List (expr_step (Expr-F.Name (codes "x"))
    ∷ []))))) ((op.With, expr_step (Expr-F.Name (codes "y"))) ∷ (op.Less, expr_step (Expr-F.Name (codes "z")))
    ∷ []))
    ∷ expr_step (Expr-F.Prefixed (pre.Minus ∷ []) (expr_step (Expr-F.Chain (expr_step (Expr-F.Name (codes "x")))
    ((op.Plus, expr_step (Expr-F.Number (pos 1))) ∷ []))))
    ∷ expr_step (Expr-F.Compare (expr_step (Expr-F.Name (codes "x"))) (rel.In) (expr_step (Expr-F.Name (codes "y"))))
    ∷ []

abbrev pub operators_terms : List Expr
operators_terms =
    two Subtract (two Add (number 1) (number 2)) (two Multiply (number 3) (two Power (number 4) (number 2)))
    ∷ Connect Implies (Connect Or (Connect And (one Not (two Equal (Name x) (number 1))) yes) no) (two NotEqual
    (Name x) (number 2))
    ∷ two Max (one Size (one FoldAdd (tuple_of (number 1 ∷ Undefined ∷ [])))) (one Abs (Name y))
    ∷ two Less (two With (set_of (Name x ∷ [])) (Name y)) (Name z)
    ∷ one Negate (two Add (Name x) (number 1))
    ∷ two In (Name x) (Name y)
    ∷ []

-- f(1)(2){3}; f(1, 2); f{1, 2}; t(1..2); t(2..); (t + t)(1)
abbrev pub selections_parts : List Part
selections_parts =
    expr_step (Expr-F.Selected (expr_step (Expr-F.Name (codes "f"))) (selector_step (Selector-F.Round (expr_step
    (Expr-F.Number (pos 1)) ∷ [])) ∷ selector_step (Selector-F.Round (expr_step (Expr-F.Number (pos 2)) ∷ []))
    ∷ selector_step (Selector-F.Braces (expr_step (Expr-F.Number (pos 3)) ∷ [])) ∷ []))
    ∷ expr_step (Expr-F.Selected (expr_step (Expr-F.Name (codes "f"))) (selector_step (Selector-F.Round (expr_step
    (Expr-F.Number (pos 1)) ∷ expr_step (Expr-F.Number (pos 2)) ∷ [])) ∷ []))
    ∷ expr_step (Expr-F.Selected (expr_step (Expr-F.Name (codes "f"))) (selector_step (Selector-F.Braces (expr_step
    (Expr-F.Number (pos 1)) ∷ expr_step (Expr-F.Number (pos 2)) ∷ [])) ∷ []))
    ∷ expr_step (Expr-F.Selected (expr_step (Expr-F.Name (codes "t"))) (selector_step (Selector-F.Slice (expr_step
    (Expr-F.Number (pos 1))) (Some (expr_step (Expr-F.Number (pos 2))))) ∷ []))
    ∷ expr_step (Expr-F.Selected (expr_step (Expr-F.Name (codes "t"))) (selector_step (Selector-F.Slice (expr_step
    (Expr-F.Number (pos 2))) None) ∷ []))
    ∷ expr_step (Expr-F.Selected (expr_step (Expr-F.Chain (expr_step (Expr-F.Name (codes "t"))) ((
      op.Plus,
      expr_step
          (Expr-F.Name (codes "t")),
    ) ∷ []))) (selector_step (Selector-F.Round (expr_step (Expr-F.Number (pos 1)) ∷ []))
    ∷ []))
    ∷ []

abbrev pub selections_terms : List Expr
selections_terms =
    at_brace (at_round (at_round (Name f) (number 1)) (number 2)) (number 3)
    ∷ at_round (Name f) (tuple_of (number 1 ∷ number 2 ∷ []))
    ∷ at_brace (Name f) (tuple_of (number 1 ∷ number 2 ∷ []))
    ∷ from_to (Name t) (number 1) (number 2)
    ∷ from_on (Name t) (number 2)
    ∷ at_round (two Add (Name t) (Name t)) (number 1)
    ∷ []

-- [1..2]; {1, 3..9}; if x = 1 then {} else [] end; [newat, eof, ok, om, 'a']; {y in [1..2] | true}; [y : y in {1, 3..9}, z in [5, 4..1]]
abbrev pub ranges_parts : List Part
ranges_parts =
    expr_step (Expr-F.Tuple (inner_step (Inner-F.Range (expr_step (Expr-F.Number (pos 1))) None (expr_step
    (Expr-F.Number (pos 2))))))
    ∷ expr_step (Expr-F.Set (inner_step (Inner-F.Range (expr_step (Expr-F.Number (pos 1))) (Some (expr_step
    (Expr-F.Number (pos 3)))) (expr_step (Expr-F.Number (pos 9))))))
    ∷ expr_step (Expr-F.If (expr_step (Expr-F.Compare (expr_step (Expr-F.Name (codes "x"))) (rel.Equal) (expr_step
    (Expr-F.Number (pos 1))))) (expr_step (Expr-F.Set (inner_step (Inner-F.List [])))) (expr_step (Expr-F.Tuple
    (inner_step (Inner-F.List [])))))
    ∷ expr_step (Expr-F.Tuple (inner_step (Inner-F.List ((expr_step Expr-F.Newat) ∷ (expr_step Expr-F.Eof) ∷
    (expr_step Expr-F.Ok) ∷ (expr_step Expr-F.Om) ∷ expr_step (Expr-F.Text (codes "a")) ∷ []))))
    ∷ expr_step (Expr-F.Set (inner_step (Inner-F.Filter (bd.Name (codes "y")) (expr_step (Expr-F.Tuple (inner_step
    (Inner-F.Range (expr_step (Expr-F.Number (pos 1))) None (expr_step (Expr-F.Number (pos 2)))))))
    (expr_step Expr-F.True))))
    ∷ expr_step (Expr-F.Tuple (inner_step (Inner-F.Former (expr_step (Expr-F.Name (codes "y"))) (iter_step
    (Iter-F.Over (bd.Name (codes "y")) (expr_step (Expr-F.Set (inner_step (Inner-F.Range (expr_step (Expr-F.Number
    (pos 1))) (Some (expr_step (Expr-F.Number (pos 3)))) (expr_step (Expr-F.Number (pos 9)))))))) ∷ iter_step
    (Iter-F.Over (bd.Name (codes "z")) (expr_step (Expr-F.Tuple (inner_step (Inner-F.Range (expr_step
    (Expr-F.Number (pos 5))) (Some (expr_step (Expr-F.Number (pos 4)))) (expr_step (Expr-F.Number (pos 1))))))))
    ∷ []) None)))
    ∷ []

abbrev pub ranges_terms : List Expr
ranges_terms =
    two TupleRange (number 1) (number 2)
    ∷ three SetStep (number 1) (number 3) (number 9)
    ∷ Choose (two Equal (Name x) (number 1)) (set_of []) (tuple_of [])
    ∷ tuple_of (Newat ∷ Eof ∷ Ok ∷ Undefined ∷ quoted (codes "a") ∷ [])
    ∷ select_between OfSet (Bound 1 (codes "y")) (number 1) (number 2) yes
    ∷ Former OfTuple (Name (Bound 1 (codes "y"))) (more_iterators (Member SetSteps (Bound 1 (codes "y"))) (exprs
    (number 1 ∷ number 3 ∷ number 9 ∷ [])) (more_iterators (Member TupleSteps (Bound 1 (codes "z"))) (exprs
    (number 5 ∷ number 4 ∷ number 1 ∷ [])) no_iterator)) no_condition
    ∷ []

-- {x + 1 : x in x, y in [x..2] | y > x}; [[x, z] in s | x = {z in s | z = x}(1)]; {[y, x] : y = f(x)} + {#{x : x in y} : y in {x : x in y}}
abbrev pub formers_parts : List Part
formers_parts =
    expr_step (Expr-F.Set (inner_step (Inner-F.Former (expr_step (Expr-F.Chain (expr_step (Expr-F.Name (codes "x")))
    ((op.Plus, expr_step (Expr-F.Number (pos 1))) ∷ []))) (iter_step (Iter-F.Over (bd.Name (codes "x")) (expr_step
    (Expr-F.Name (codes "x")))) ∷ iter_step (Iter-F.Over (bd.Name (codes "y")) (expr_step (Expr-F.Tuple
    (inner_step (Inner-F.Range (expr_step (Expr-F.Name (codes "x"))) None (expr_step (Expr-F.Number (pos 2))))))))
    ∷ []) (Some (expr_step (Expr-F.Compare (expr_step (Expr-F.Name (codes "y"))) (rel.GreaterThan) (expr_step
    (Expr-F.Name (codes "x")))))))))
    ∷ expr_step (Expr-F.Tuple (inner_step (Inner-F.Filter (bd.Pattern (sl.Name (codes "x") ∷ sl.Name (codes "z")
    ∷ [])) (expr_step (Expr-F.Name (codes "s"))) (expr_step (Expr-F.Compare (expr_step (Expr-F.Name (codes "x")))
    (rel.Equal) (expr_step (Expr-F.Selected (expr_step (Expr-F.Set (inner_step (Inner-F.Filter (bd.Name
    (codes "z")) (expr_step (Expr-F.Name (codes "s"))) (expr_step (Expr-F.Compare (expr_step (Expr-F.Name
    (codes "z"))) (rel.Equal) (expr_step (Expr-F.Name (codes "x"))))))))) (selector_step (Selector-F.Round
    (expr_step (Expr-F.Number (pos 1)) ∷ [])) ∷ []))))))))
    ∷ expr_step (Expr-F.Chain (expr_step (Expr-F.Set (inner_step (Inner-F.Former (expr_step (Expr-F.Tuple (inner_step
    (Inner-F.List (expr_step (Expr-F.Name (codes "y")) ∷ expr_step (Expr-F.Name (codes "x")) ∷ []))))) (iter_step
    (Iter-F.Image (codes "y") (codes "f") (codes "x")) ∷ []) None)))) ((
      op.Plus,
      expr_step (Expr-F.Set (inner_step
          (Inner-F.Former (expr_step (Expr-F.Prefixed (pre.Size ∷ []) (expr_step (Expr-F.Set (inner_step (Inner-F.Former
          (expr_step (Expr-F.Name (codes "x"))) (iter_step (Iter-F.Over (bd.Name (codes "x")) (expr_step (Expr-F.Name
          (codes "y")))) ∷ []) None)))))) (iter_step (Iter-F.Over (bd.Name (codes "y")) (expr_step (Expr-F.Set
          (inner_step (Inner-F.Former (expr_step (Expr-F.Name (codes "x"))) (iter_step (Iter-F.Over (bd.Name
          (codes "x")) (expr_step (Expr-F.Name (codes "y")))) ∷ []) None))))) ∷ []) None))),
    ) ∷ []))
    ∷ []

abbrev pub formers_terms : List Expr
formers_terms =
    Former OfSet (two Add (Name (Bound 1 (codes "x"))) (number 1)) (more_iterators (Member Values (Bound 1
    (codes "x"))) (exprs (Name x ∷ [])) (more_iterators (Member Between (Bound 1 (codes "y"))) (exprs (Name
    (Bound 1 (codes "x")) ∷ number 2 ∷ [])) no_iterator)) (only_if (two Above (Name (Bound 1 (codes "y"))) (Name
    (Bound 1 (codes "x")))))
    ∷ Selection OfTuple (Components Values (Some (Bound 1 (codes "x")) ∷ Some (Bound 1 (codes "z"))
    ∷ [])) (exprs (Name s ∷ [])) (two Equal (Name (Bound 1 (codes "x"))) (at_round
    (select_over OfSet (Bound 2 (codes "z")) (Name s) (two Equal (Name (Bound 2 (codes "z"))) (Name
    (Bound 1 (codes "x"))))) (number 1)))
    ∷ two Add (Former OfSet (tuple_of (Name (Bound 1 (codes "y")) ∷ Name (Bound 1 (codes "x")) ∷ [])) (more_iterators (Point (Bound 1 (codes "y")) (Bound 1 (codes "x"))) (exprs (Name f ∷ [])) no_iterator) no_condition)
    (Former OfSet (one Size (Former OfSet (Name (Bound 3 (codes "x"))) (over (Bound 3 (codes "x")) (Name (Bound 2
    (codes "y")))) no_condition)) (over (Bound 2 (codes "y")) (Former OfSet (Name (Bound 4 (codes "x"))) (over
    (Bound 4 (codes "x")) (Name y)) no_condition)) no_condition)
    ∷ []

-- exists x in s, [y, -] in x | (forall z in y | z = x); notexists y = f(x) | y
abbrev pub quantifiers_parts : List Part
quantifiers_parts =
    expr_step (Expr-F.Quantified (qu.Exists) (iter_step (Iter-F.Over (bd.Name (codes "x")) (expr_step (Expr-F.Name
    (codes "s")))) ∷ iter_step (Iter-F.Over (bd.Pattern (sl.Name (codes "y") ∷ sl.Skip ∷ [])) (expr_step
    (Expr-F.Name (codes "x")))) ∷ []) (expr_step (Expr-F.Quantified (qu.Forall) (iter_step (Iter-F.Over (bd.Name
    (codes "z")) (expr_step (Expr-F.Name (codes "y")))) ∷ []) (expr_step (Expr-F.Compare (expr_step (Expr-F.Name
    (codes "z"))) (rel.Equal) (expr_step (Expr-F.Name (codes "x"))))))))
    ∷ expr_step (Expr-F.Quantified (qu.Notexists) (iter_step (Iter-F.Image (codes "y") (codes "f") (codes "x")) ∷ [])
    (expr_step (Expr-F.Name (codes "y"))))
    ∷ []

abbrev pub quantifiers_terms : List Expr
quantifiers_terms =
    Quantified Exists (more_iterators (Member Values x) (exprs (Name s ∷ [])) (more_iterators (Components Values (Some y
    ∷ None ∷ [])) (exprs (Name x ∷ [])) no_iterator)) (Quantified Forall (over z (Name y)) (two Equal
    (Name z) (Name x)))
    ∷ Quantified NotExists (more_iterators (Point y x) (exprs (Name f ∷ [])) no_iterator) (Name y)
    ∷ []

-- p(1, g, x) + y; p({x : x in g}, x, g)(1)
abbrev pub calls_parts : List Part
calls_parts =
    expr_step (Expr-F.Chain (expr_step (Expr-F.Selected (expr_step (Expr-F.Name (codes "p"))) (selector_step
    (Selector-F.Round (expr_step (Expr-F.Number (pos 1)) ∷ expr_step (Expr-F.Name (codes "g")) ∷ expr_step
    (Expr-F.Name (codes "x")) ∷ [])) ∷ []))) ((op.Plus, expr_step (Expr-F.Name (codes "y"))) ∷ []))
    ∷ expr_step (Expr-F.Selected (expr_step (Expr-F.Name (codes "p"))) (selector_step (Selector-F.Round (expr_step
    (Expr-F.Set (inner_step (Inner-F.Former (expr_step (Expr-F.Name (codes "x"))) (iter_step (Iter-F.Over (bd.Name
    (codes "x")) (expr_step (Expr-F.Name (codes "g")))) ∷ []) None))) ∷ expr_step (Expr-F.Name (codes "x"))
    ∷ expr_step (Expr-F.Name (codes "g")) ∷ [])) ∷ selector_step (Selector-F.Round (expr_step (Expr-F.Number
    (pos 1)) ∷ [])) ∷ []))
    ∷ []

abbrev pub calls_terms : List Expr
calls_terms =
    two Add (Call 0 (rd_argument (number 1) (wr_argument g (rw_argument x no_argument)))) (Name y)
    ∷ at_round (Call 0 (rd_argument (Former OfSet (Name (Bound 1 (codes "x"))) (over (Bound 1 (codes "x"))
    (Name g)) no_condition) (wr_argument x (rw_argument g no_argument)))) (number 1)
    ∷ []
