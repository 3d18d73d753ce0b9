-- Each expression that the grammar derives of such tokens has values for literals.
use Rattle.std.proofs.Common.{ℕ, ℤ, zero, suc, ◌-◌, List, [], ◌∷◌}
use Rattle.std.specs.List.{AllByRecursion}
use Rattle.setl_value.specs.WellFormed.{IsTextByte, IsWide}
use Rattle.setl_tree.specs.declared.kind.Kind.{Kind}
use Rattle.setl_tree.specs.declared.kind.Kind.TheVariants as k
use Rattle.setl_tree.specs.declared.expr.BinaryOp.{BinaryOp}
use Rattle.setl_tree.specs.declared.expr.Prefix.{Prefix}
use Rattle.setl_tree.specs.declared.expr.Expr.{Expr}
use Rattle.setl_tree.specs.declared.expr.Selector.{Selector}
use Rattle.setl_tree.specs.Lang.{Lang}
use Rattle.setl_tree.specs.Operators.{constant, chain_of, prefixed, selected}
use Rattle.setl_tree.specs.Expressions as x
use Rattle.setl_top_values.proofs.Literals.{LiteralStands}
use Rattle.setl_top_values.proofs.Languages.{Each, Maybe, Keeps, k_any, k_pure, k_never, k_then, k_or, k_token, k_one_of, k_many, k_optional, k_past, k_separated, k_listed}
use Rattle.setl_top_values.proofs.Trees.{Good, GoodInner, GoodIter, GoodSelector, good_number, good_text, good_om, good_true, good_false, good_newat, good_eof, good_ok, good_name, good_if, good_set, good_tuple, good_chain, good_compare, good_prefixed, good_selected, good_quantified, inner_list, inner_range, inner_former, inner_filter, iter_over, iter_image, selector_round, selector_braces, selector_slice}

wide : (text : List ℕ) (value : ℤ) → LiteralStands k.Number text value → IsWide value
unfolding LiteralStands
wide text value h = h

bytes : (text : List ℕ) (value : ℤ) → LiteralStands k.StringLiteral text value → AllByRecursion IsTextByte text
unfolding LiteralStands
bytes text value h = h

chain_good : (first : Expr) (others : List (BinaryOp × Expr)) → Good first → Each (λ p. Good p.1) others → Good (chain_of first others)
chain_good first [] g gs = g
chain_good first (p ∷ ps) g gs = good_chain first (p ∷ ps) g gs

prefixed_good : (ps : List Prefix) (y : Expr) → Good y → Good (prefixed ps y)
prefixed_good [] y g = g
prefixed_good (p ∷ ps) y g = good_prefixed (p ∷ ps) y g

selected_good : (p : Expr) (ss : List Selector) → Good p → Each GoodSelector ss → Good (selected p ss)
selected_good p [] g gs = g
selected_good p (z ∷ ss) g gs = good_selected p (z ∷ ss) g gs

constant_good : (kind : Kind) → Maybe Good (constant kind)
unfolding constant
constant_good k.Om = good_om
constant_good k.True = good_true
constant_good k.False = good_false
constant_good k.Newat = good_newat
constant_good k.Eof = good_eof
constant_good k.Ok = good_ok
constant_good _ = tt

iter_keeps : (room : ℕ) (source : Lang Expr) → Keeps source Good → Keeps (x.iter room source) GoodIter
unfolding x.iter
iter_keeps room source k_source = k_or
    (k_then k_any (λ b _. k_past (k_then k_source (λ s g. k_pure (iter_over b s g)))))
    (k_then k_any (λ y _. k_past (k_then k_any (λ f _. k_past (k_then k_any (λ v _. k_past (k_pure (iter_image y f v))))))))

pub iters_keeps : (room : ℕ) (source : Lang Expr) → Keeps source Good → Keeps (x.iters room source) (Each GoodIter)
unfolding x.iters
iters_keeps room source k_source = k_separated (iter_keeps room source k_source)

operand_keeps : (level : ℕ) (item : Lang Expr) → Keeps item Good → Keeps (x.operand level item) (λ p. Good p.1)
operand_keeps level item k_item = k_then k_any (λ o _. k_then k_item (λ y g. k_pure g))

chain_keeps : (level : ℕ) (item : Lang Expr) → Keeps item Good → Keeps (x.chain level item) Good
chain_keeps level item k_item = k_then k_item (λ first g. k_then (k_many (operand_keeps level item k_item)) (λ others gs. k_pure (chain_good first others g gs)))

inner_keeps : (room : ℕ) (here : x.Inside) → Keeps here.expr Good → Keeps here.source Good → Keeps (x.inner room here) GoodInner
unfolding x.inner
inner_keeps room here k_expr k_source = k_or (k_then (k_listed k_expr) (λ xs h. k_pure (inner_list xs h)))
    (k_or (k_then k_expr (λ a ga. k_then (k_optional (k_past k_expr)) (λ b gb. k_past (k_then k_expr (λ d gd. k_pure (inner_range a b d ga gb gd))))))
    (k_or (k_then k_expr (λ y g. k_past (k_then (iters_keeps room here.source k_source) (λ over gs. k_then (k_optional (k_past k_expr)) (λ t gt. k_pure (inner_former y over t g gs gt))))))
    (k_then k_any (λ b _. k_past (k_then k_source (λ s gs. k_past (k_then k_expr (λ t gt. k_pure (inner_filter b s t gs gt)))))))))

module _ (room : ℕ) (deep : x.Inside) (k_expr : Keeps deep.expr Good) (k_source : Keeps deep.source Good) where
  selector_keeps : Keeps (x.selector room deep) GoodSelector
  unfolding x.selector
  selector_keeps = k_or (k_past (k_then (k_listed k_expr) (λ xs h. k_past (k_pure (selector_round xs h)))))
      (k_or (k_past (k_then k_expr (λ a ga. k_past (k_then (k_optional k_expr) (λ b gb. k_past (k_pure (selector_slice a b ga gb)))))))
      (k_past (k_then (k_separated k_expr) (λ xs h. k_past (k_pure (selector_braces xs h))))))

  primary_keeps : Keeps (x.primary room deep) Good
  unfolding x.primary
  primary_keeps = k_or (k_then (k_token k.Number) (λ t h. k_pure (good_number t.value (wide t.text t.value h))))
      (k_or (k_then (k_token k.StringLiteral) (λ t h. k_pure (good_text t.text (bytes t.text t.value h))))
      (k_or (k_one_of constant constant_good)
      (k_or (k_then k_any (λ n _. k_pure (good_name n)))
      (k_or (k_past (k_then k_expr (λ y g. k_past (k_pure g))))
      (k_or (k_past (k_then k_expr (λ a ga. k_past (k_then k_expr (λ b gb. k_past (k_then k_expr (λ d gd. k_past (k_pure (good_if a b d ga gb gd)))))))))
      (k_or (k_past (k_then (inner_keeps (room - 1) deep k_expr k_source) (λ y g. k_past (k_pure (good_set y g)))))
      (k_past (k_then (inner_keeps (room - 1) deep k_expr k_source) (λ y g. k_past (k_pure (good_tuple y g)))))))))))

  k12 : Keeps (x.e12 room deep) Good
  unfolding x.e12
  k12 = k_then primary_keeps (λ p g. k_then (k_many selector_keeps) (λ ss gs. k_pure (selected_good p ss g gs)))

  k11 : Keeps (x.e11 room deep) Good
  unfolding x.e11
  k11 = k_then k_any (λ ps _. k_then k12 (λ y g. k_pure (prefixed_good ps y g)))

  k10 : Keeps (x.e10 room deep) Good
  unfolding x.e10
  k10 = chain_keeps 10 (x.e11 room deep) k11

  k9 : Keeps (x.e9 room deep) Good
  unfolding x.e9
  k9 = chain_keeps 9 (x.e10 room deep) k10

  k8 : Keeps (x.e8 room deep) Good
  unfolding x.e8
  k8 = chain_keeps 8 (x.e9 room deep) k9

  pub k7 : Keeps (x.e7 room deep) Good
  unfolding x.e7
  k7 = chain_keeps 7 (x.e8 room deep) k8

  k6 : Keeps (x.e6 room deep) Good
  unfolding x.e6
  k6 = k_or k7 (k_then k7 (λ a ga. k_then k_any (λ o _. k_then k7 (λ b gb. k_pure (good_compare a o b ga gb)))))

  k5 : Keeps (x.e5 room deep) Good
  unfolding x.e5
  k5 = k_then k_any (λ ps _. k_then k6 (λ y g. k_pure (prefixed_good ps y g)))

  k4 : Keeps (x.e4 room deep) Good
  unfolding x.e4
  k4 = chain_keeps 4 (x.e5 room deep) k5

  k3 : Keeps (x.e3 room deep) Good
  unfolding x.e3
  k3 = chain_keeps 3 (x.e4 room deep) k4

  k2 : Keeps (x.e2 room deep) Good
  unfolding x.e2
  k2 = chain_keeps 2 (x.e3 room deep) k3

  pub whole_keeps : Keeps (x.whole room deep) Good
  unfolding x.whole
  whole_keeps = k_or (k_then k_any (λ q _. k_then (iters_keeps (room - 1) deep.source k_source) (λ over gs. k_past (k_then k_expr (λ y g. k_pure (good_quantified q over y gs g)))))) k2

-- expressions and sources that stand one nesting deeper
pub nested_keeps : (room : ℕ) → Keeps (x.nested room).expr Good × Keeps (x.nested room).source Good
unfolding x.nested
nested_keeps zero = (k_never, k_never)
nested_keeps (suc room) =
    let deep = nested_keeps room in
    (whole_keeps room (x.nested room) deep.0 deep.1, k7 room (x.nested room) deep.0 deep.1)

pub expr_keeps : (room : ℕ) → Keeps (x.expr room) Good
unfolding x.expr
expr_keeps room = let deep = nested_keeps room in whole_keeps room (x.nested room) deep.0 deep.1
