-- Each expression that the grammar derives is good.
use Rattle.std.proofs.Common.{ℕ, zero, suc, ◌-◌, List, [], ◌∷◌}
use Rattle.setl_tree.specs.declared.kind.Kind.{Kind}
use Rattle.setl_tree.specs.declared.kind.Kind.TheVariants as k
use Rattle.setl_tree.specs.declared.expr.BinaryOp.{BinaryOp}
use Rattle.setl_tree.specs.declared.expr.Prefix.{Prefix}
use Rattle.setl_tree.specs.declared.expr.Expr.{Expr}
use Rattle.setl_tree.specs.declared.expr.Selector.{Selector}
use Rattle.setl_tree.specs.Lang.{Lang}
use Rattle.setl_tree.specs.Operators.{constant, chain_of, prefixed, selected}
use Rattle.setl_tree.specs.Expressions as x
use Rattle.setl_program_laws.proofs.Languages.{Each, SomeEach, Maybe, Keeps, k_any, k_pure, k_never, k_then, k_or, k_one_of, k_many, k_optional, k_past, k_some, k_separated, k_listed}
use Rattle.setl_program_laws.proofs.Fine.{Context}
use Rattle.setl_program_laws.proofs.Trees.{Good, GoodInner, GoodIter, GoodSelector, good_number, good_text, good_om, good_true, good_false, good_newat, good_eof, good_ok, good_name, good_if, good_set, good_tuple, good_chain, good_compare, good_prefixed, good_selected, good_quantified, inner_list, inner_range, inner_former, inner_filter, iter_over, iter_image, selector_round, selector_braces, selector_slice}

module _ (c : Context) where
  chain_good : (first : Expr) (others : List (BinaryOp × Expr)) → Good c first → Each (λ p. Good c p.1) others → Good c (chain_of first others)
  chain_good first [] g gs = g
  chain_good first (p ∷ ps) g gs = good_chain c first (p ∷ ps) g gs

  prefixed_good : (ps : List Prefix) (y : Expr) → Good c y → Good c (prefixed ps y)
  prefixed_good [] y g = g
  prefixed_good (p ∷ ps) y g = good_prefixed c (p ∷ ps) y g

  selected_good : (p : Expr) (ss : List Selector) → Good c p → Each (GoodSelector c) ss → Good c (selected p ss)
  selected_good p [] g gs = g
  selected_good p (z ∷ ss) g gs = good_selected c p (z ∷ ss) g gs

  constant_good : (kind : Kind) → Maybe (Good c) (constant kind)
  unfolding constant
  constant_good k.Om = good_om c
  constant_good k.True = good_true c
  constant_good k.False = good_false c
  constant_good k.Newat = good_newat c
  constant_good k.Eof = good_eof c
  constant_good k.Ok = good_ok c
  constant_good _ = tt

  iter_keeps : (room : ℕ) (source : Lang Expr) → Keeps source (Good c) → Keeps (x.iter room source) (GoodIter c)
  unfolding x.iter
  iter_keeps room source k_source = k_or
      (k_then k_any (λ b _. k_past (k_then k_source (λ s g. k_pure (iter_over c b s g)))))
      (k_then k_any (λ y _. k_past (k_then k_any (λ f _. k_past (k_then k_any (λ v _. k_past (k_pure (iter_image c y f v))))))))

  pub iters_keeps : (room : ℕ) (source : Lang Expr) → Keeps source (Good c) → Keeps (x.iters room source) (SomeEach (GoodIter c))
  unfolding x.iters
  iters_keeps room source k_source = k_some (iter_keeps room source k_source)

  operand_keeps : (level : ℕ) (item : Lang Expr) → Keeps item (Good c) → Keeps (x.operand level item) (λ p. Good c p.1)
  operand_keeps level item k_item = k_then k_any (λ o _. k_then k_item (λ y g. k_pure g))

  chain_keeps : (level : ℕ) (item : Lang Expr) → Keeps item (Good c) → Keeps (x.chain level item) (Good c)
  chain_keeps level item k_item = k_then k_item (λ first g. k_then (k_many (operand_keeps level item k_item)) (λ others gs. k_pure (chain_good first others g gs)))

  inner_keeps : (room : ℕ) (here : x.Inside) → Keeps here.expr (Good c) → Keeps here.source (Good c) → Keeps (x.inner room here) (GoodInner c)
  unfolding x.inner
  inner_keeps room here k_expr k_source = k_or (k_then (k_listed k_expr) (λ xs h. k_pure (inner_list c xs h)))
      (k_or (k_then k_expr (λ a ga. k_then (k_optional (k_past k_expr)) (λ b gb. k_past (k_then k_expr (λ d gd. k_pure (inner_range c a b d ga gb gd))))))
      (k_or (k_then k_expr (λ y g. k_past (k_then (iters_keeps room here.source k_source) (λ over gs. k_then (k_optional (k_past k_expr)) (λ t gt. k_pure (inner_former c y over t g gs gt))))))
      (k_then k_any (λ b _. k_past (k_then k_source (λ s gs. k_past (k_then k_expr (λ t gt. k_pure (inner_filter c b s t gs gt)))))))))

  module _ (room : ℕ) (deep : x.Inside) (k_expr : Keeps deep.expr (Good c)) (k_source : Keeps deep.source (Good c)) where
    selector_keeps : Keeps (x.selector room deep) (GoodSelector c)
    unfolding x.selector
    selector_keeps = k_or (k_past (k_then (k_listed k_expr) (λ xs h. k_past (k_pure (selector_round c xs h)))))
        (k_or (k_past (k_then k_expr (λ a ga. k_past (k_then (k_optional k_expr) (λ b gb. k_past (k_pure (selector_slice c a b ga gb)))))))
        (k_past (k_then (k_separated k_expr) (λ xs h. k_past (k_pure (selector_braces c xs h))))))

    primary_keeps : Keeps (x.primary room deep) (Good c)
    unfolding x.primary
    primary_keeps = k_or (k_then k_any (λ t _. k_pure (good_number c t.value)))
        (k_or (k_then k_any (λ t _. k_pure (good_text c t.text)))
        (k_or (k_one_of constant constant_good)
        (k_or (k_then k_any (λ n _. k_pure (good_name c n)))
        (k_or (k_past (k_then k_expr (λ y g. k_past (k_pure g))))
        (k_or (k_past (k_then k_expr (λ a ga. k_past (k_then k_expr (λ b gb. k_past (k_then k_expr (λ d gd. k_past (k_pure (good_if c a b d ga gb gd)))))))))
        (k_or (k_past (k_then (inner_keeps (room - 1) deep k_expr k_source) (λ y g. k_past (k_pure (good_set c y g)))))
        (k_past (k_then (inner_keeps (room - 1) deep k_expr k_source) (λ y g. k_past (k_pure (good_tuple c y g)))))))))))

    k12 : Keeps (x.e12 room deep) (Good c)
    unfolding x.e12
    k12 = k_then primary_keeps (λ p g. k_then (k_many selector_keeps) (λ ss gs. k_pure (selected_good p ss g gs)))

    k11 : Keeps (x.e11 room deep) (Good c)
    unfolding x.e11
    k11 = k_then k_any (λ ps _. k_then k12 (λ y g. k_pure (prefixed_good ps y g)))

    k10 : Keeps (x.e10 room deep) (Good c)
    unfolding x.e10
    k10 = chain_keeps 10 (x.e11 room deep) k11

    k9 : Keeps (x.e9 room deep) (Good c)
    unfolding x.e9
    k9 = chain_keeps 9 (x.e10 room deep) k10

    k8 : Keeps (x.e8 room deep) (Good c)
    unfolding x.e8
    k8 = chain_keeps 8 (x.e9 room deep) k9

    pub k7 : Keeps (x.e7 room deep) (Good c)
    unfolding x.e7
    k7 = chain_keeps 7 (x.e8 room deep) k8

    k6 : Keeps (x.e6 room deep) (Good c)
    unfolding x.e6
    k6 = k_or k7 (k_then k7 (λ a ga. k_then k_any (λ o _. k_then k7 (λ b gb. k_pure (good_compare c a o b ga gb)))))

    k5 : Keeps (x.e5 room deep) (Good c)
    unfolding x.e5
    k5 = k_then k_any (λ ps _. k_then k6 (λ y g. k_pure (prefixed_good ps y g)))

    k4 : Keeps (x.e4 room deep) (Good c)
    unfolding x.e4
    k4 = chain_keeps 4 (x.e5 room deep) k5

    k3 : Keeps (x.e3 room deep) (Good c)
    unfolding x.e3
    k3 = chain_keeps 3 (x.e4 room deep) k4

    k2 : Keeps (x.e2 room deep) (Good c)
    unfolding x.e2
    k2 = chain_keeps 2 (x.e3 room deep) k3

    pub whole_keeps : Keeps (x.whole room deep) (Good c)
    unfolding x.whole
    whole_keeps = k_or (k_then k_any (λ q _. k_then (iters_keeps (room - 1) deep.source k_source) (λ over gs. k_past (k_then k_expr (λ y g. k_pure (good_quantified c q over y gs g)))))) k2

  -- expressions and sources that stand one nesting deeper
  pub nested_keeps : (room : ℕ) → Keeps (x.nested room).expr (Good c) × Keeps (x.nested room).source (Good c)
  unfolding x.nested
  nested_keeps zero = (k_never, k_never)
  nested_keeps (suc room) =
      let deep = nested_keeps room in
      (whole_keeps room (x.nested room) deep.0 deep.1, k7 room (x.nested room) deep.0 deep.1)

  pub expr_keeps : (room : ℕ) → Keeps (x.expr room) (Good c)
  unfolding x.expr
  expr_keeps room = let deep = nested_keeps room in whole_keeps room (x.nested room) deep.0 deep.1
