-- Each expression that the grammar derives becomes what is no larger than its tokens are many.
use Rattle.std.proofs.Common.{◌≤◌, ℕ, zero, suc, ◌+◌, ◌-◌, List, [], ◌∷◌, length, arith}
use Rattle.setl_tree.specs.declared.kind.Kind.{Kind}
use Rattle.setl_tree.specs.declared.kind.Kind.TheVariants as k
use Rattle.setl_tree.specs.declared.expr.BinaryOp.{BinaryOp}
use Rattle.setl_tree.specs.declared.expr.Prefix.{Prefix}
use Rattle.setl_tree.specs.declared.expr.Slot.{Slot}
use Rattle.setl_tree.specs.declared.expr.Bound.{Bound}
use Rattle.setl_tree.specs.declared.expr.Expr.{Expr}
use Rattle.setl_tree.specs.declared.expr.Selector.{Selector}
use Rattle.setl_tree.specs.Lang.{Lang}
use Rattle.setl_tree.specs.Operators.{op_at, constant, not_sign, prefix_op, fold_sign, relation_op, quantifier, chain_of, prefixed, selected}
use Rattle.setl_tree.specs.Expressions as x
use Rattle.setl_code_few.proofs.Languages.{Each, Maybe, SomeToken, as_many_tokens, each_within, Costs, k_pure, k_never, k_then, k_or, k_past, k_token, k_opening, k_one_of, c_token, c_one_of, c_opening_one_of, c_name, k_many, k_optional, k_separated, k_listed}
use Rattle.setl_code_few.proofs.Parts.{bound_size, part_within}
use Rattle.setl_code_few.proofs.Trees.{Good, GoodInner, GoodIter, GoodSelector, GoodOperand, good_number, good_text, good_om, good_true, good_false, good_newat, good_eof, good_ok, good_name, good_if, good_set, good_tuple, good_chain, good_compare, good_prefixed, good_selected, good_quantified, inner_list, inner_range, inner_former, inner_filter, iter_over, iter_image, selector_round, selector_braces, selector_slice}

-- ---- what isn't a node where there is one part alone

chain_good : (first : Expr) (others : List (BinaryOp × Expr)) (i j n : ℕ) → Good first i → Each GoodOperand others j → i + j ≤ n → Good (chain_of first others) n
chain_good first [] i j n g h le = part_within g (omega (arith, le))
chain_good first (p ∷ ps) i j n g h le = good_chain first (p ∷ ps) i j n g h le

prefixed_good : (ps : List Prefix) (y : Expr) {i j : ℕ} (n : ℕ) → length ps ≤ i → Good y j → i + j ≤ n → Good (prefixed ps y) n
prefixed_good [] y n few g le = part_within g (omega (arith, le))
prefixed_good (p ∷ ps) y n few g le = good_prefixed (p ∷ ps) y n g (omega (arith, few, le))

selected_good : (p : Expr) (ss : List Selector) (i j n : ℕ) → Good p i → Each GoodSelector ss j → i + j ≤ n → Good (selected p ss) n
selected_good p [] i j n g h le = part_within g (omega (arith, le))
selected_good p (z ∷ ss) i j n g h le = good_selected p (z ∷ ss) i j n g h le

constant_good : (kind : Kind) (n : ℕ) → 1 ≤ n → Maybe Good (constant kind) n
unfolding constant
constant_good k.Om n le = good_om n le
constant_good k.True n le = good_true n le
constant_good k.False n le = good_false n le
constant_good k.Newat n le = good_newat n le
constant_good k.Eof n le = good_eof n le
constant_good k.Ok n le = good_ok n le
constant_good _ n le = tt

-- ---- what iterators bind

slot_costs : Costs 0 x.slot SomeToken
unfolding x.slot
slot_costs = k_or (k_then c_name (λ y i some. k_pure (λ n le. omega (arith, some, le)))) (k_token (k_pure (λ n le. omega (arith, le))))

-- the slots of a pattern and a token more
abbrev pub SlotsIn : List Slot → ℕ → Type 0
SlotsIn slots n = suc (length slots) ≤ n

pub pattern_costs : (room : ℕ) → Costs 0 (x.pattern room) SlotsIn
unfolding x.pattern
pattern_costs room = k_opening room _ (k_then (k_separated slot_costs) (λ slots i all. k_past (k_pure (λ n le. let few = as_many_tokens slots i all in omega (arith, few, le)))))

abbrev BoundIn : Bound → ℕ → Type 0
BoundIn b n = bound_size b ≤ n

bound_costs : (room : ℕ) → Costs 0 (x.bound room) BoundIn
unfolding x.bound
bound_costs room = k_or (k_then c_name (λ y i some. k_pure (λ n le. omega (arith, some, le)))) (k_then (pattern_costs room) (λ slots i few. k_pure (λ n le. omega (arith, few, le))))

iter_costs : (room : ℕ) (source : Lang Expr) → Costs 0 source Good → Costs 0 (x.iter room source) GoodIter
unfolding x.iter
iter_costs room source c_source = k_or
    (k_then (bound_costs room) (λ b i few. k_token (k_then c_source (λ s j g. k_pure (λ n le. iter_over b s n g (omega (arith, few, le)))))))
    (k_then c_name (λ y i one. k_token (k_then c_name (λ f j two. k_past (k_then c_name (λ v l three. k_past (k_pure (λ n le. iter_image y f v n (omega (arith, one, two, three, le))))))))))

pub iters_costs : (room : ℕ) (source : Lang Expr) → Costs 0 source Good → Costs 0 (x.iters room source) (Each GoodIter)
unfolding x.iters
iters_costs room source c_source = k_separated (iter_costs room source c_source)

-- ---- expressions

operand_costs : (level : ℕ) (item : Lang Expr) → Costs 0 item Good → Costs 0 (x.operand level item) GoodOperand
operand_costs level item c_item = k_then (c_one_of (op_at level)) (λ o i some. k_then c_item (λ y j g. k_pure (λ n le. record { less = j; fits = omega (arith, some, le); part = g })))

chain_costs : (level : ℕ) (item : Lang Expr) → Costs 0 item Good → Costs 0 (x.chain level item) Good
chain_costs level item c_item = k_then c_item (λ first i g. k_then (k_many (operand_costs level item c_item)) (λ others j h. k_pure (λ n le. chain_good first others i j n g h (omega (arith, le)))))

prefix_costs : Costs 0 x.prefix SomeToken
unfolding x.prefix
prefix_costs = k_or (c_one_of prefix_op) (k_then (c_one_of fold_sign) (λ o i some. k_past (k_pure (λ n le. omega (arith, some, le)))))

inner_costs : (room : ℕ) (here : x.Inside) → Costs 0 here.expr Good → Costs 0 here.source Good → Costs 0 (x.inner room here) GoodInner
unfolding x.inner
inner_costs room here c_expr c_source = k_or (k_then (k_listed c_expr) (λ xs i h. k_pure (λ n le. inner_list xs n (each_within Good xs h (omega (arith, le))))))
    (k_or (k_then c_expr (λ a i ga. k_then (k_optional (k_past c_expr)) (λ b j gb. k_past (k_then c_expr (λ d l gd. k_pure (λ n le. inner_range a b d j n ga gb gd (omega (arith, le))))))))
    (k_or (k_then c_expr (λ y i g. k_past (k_then (iters_costs room here.source c_source) (λ over j gs. k_then (k_optional (k_past c_expr)) (λ t l gt. k_pure (λ n le. inner_former y over t j l n g gs gt (omega (arith, le))))))))
    (k_then (bound_costs room) (λ b i few. k_past (k_then c_source (λ s j gs. k_past (k_then c_expr (λ t l gt. k_pure (λ n le. inner_filter b s t n gs gt (omega (arith, few, le)))))))))))

module _ (room : ℕ) (deep : x.Inside) (c_expr : Costs 0 deep.expr Good) (c_source : Costs 0 deep.source Good) where
  selector_costs : Costs 0 (x.selector room deep) GoodSelector
  unfolding x.selector
  selector_costs = k_or (k_opening room _ (k_then (k_listed c_expr) (λ xs i h. k_token (k_pure (λ n le. selector_round xs n h (omega (arith, le)))))))
      (k_or (k_opening room _ (k_then c_expr (λ a i ga. k_past (k_then (k_optional c_expr) (λ b j gb. k_past (k_pure (λ n le. selector_slice a b j n ga gb (omega (arith, le)))))))))
      (k_opening room _ (k_then (k_separated c_expr) (λ xs i h. k_token (k_pure (λ n le. selector_braces xs n h (omega (arith, le))))))))

  primary_costs : Costs 0 (x.primary room deep) Good
  unfolding x.primary
  primary_costs = k_or (k_then c_token (λ t i some. k_pure (λ n le. good_number t.value n (omega (arith, some, le)))))
      (k_or (k_then c_token (λ t i some. k_pure (λ n le. good_text t.text n (omega (arith, some, le)))))
      (k_or (k_one_of constant constant_good)
      (k_or (k_then c_name (λ y i some. k_pure (λ n le. good_name y n (omega (arith, some, le)))))
      (k_or (k_past (k_then c_expr (λ y i g. k_past (k_pure (λ n le. part_within g (omega (arith, le)))))))
      (k_or (k_opening room _ (k_then c_expr (λ a i ga. k_past (k_then c_expr (λ b j gb. k_past (k_then c_expr (λ d l gd. k_past (k_pure (λ n le. good_if a b d n ga gb gd (omega (arith, le)))))))))))
      (k_or (k_opening room _ (k_then (inner_costs (room - 1) deep c_expr c_source) (λ y i g. k_past (k_pure (λ n le. good_set y n g (omega (arith, le)))))))
      (k_opening room _ (k_then (inner_costs (room - 1) deep c_expr c_source) (λ y i g. k_past (k_pure (λ n le. good_tuple y n g (omega (arith, le)))))))))))))

  c12 : Costs 0 (x.e12 room deep) Good
  unfolding x.e12
  c12 = k_then primary_costs (λ p i g. k_then (k_many selector_costs) (λ ss j h. k_pure (λ n le. selected_good p ss i j n g h (omega (arith, le)))))

  c11 : Costs 0 (x.e11 room deep) Good
  unfolding x.e11
  c11 = k_then (k_many prefix_costs) (λ ps i all. k_then c12 (λ y j g. k_pure (λ n le. prefixed_good ps y n (as_many_tokens ps i all) g (omega (arith, le)))))

  c10 : Costs 0 (x.e10 room deep) Good
  unfolding x.e10
  c10 = chain_costs 10 (x.e11 room deep) c11

  c9 : Costs 0 (x.e9 room deep) Good
  unfolding x.e9
  c9 = chain_costs 9 (x.e10 room deep) c10

  c8 : Costs 0 (x.e8 room deep) Good
  unfolding x.e8
  c8 = chain_costs 8 (x.e9 room deep) c9

  pub c7 : Costs 0 (x.e7 room deep) Good
  unfolding x.e7
  c7 = chain_costs 7 (x.e8 room deep) c8

  c6 : Costs 0 (x.e6 room deep) Good
  unfolding x.e6
  c6 = k_or c7 (k_then c7 (λ a i ga. k_then (c_one_of relation_op) (λ o j some. k_then c7 (λ b l gb. k_pure (λ n le. good_compare a o b n ga gb (omega (arith, some, le)))))))

  c5 : Costs 0 (x.e5 room deep) Good
  unfolding x.e5
  c5 = k_then (k_many (c_one_of not_sign)) (λ ps i all. k_then c6 (λ y j g. k_pure (λ n le. prefixed_good ps y n (as_many_tokens ps i all) g (omega (arith, le)))))

  c4 : Costs 0 (x.e4 room deep) Good
  unfolding x.e4
  c4 = chain_costs 4 (x.e5 room deep) c5

  c3 : Costs 0 (x.e3 room deep) Good
  unfolding x.e3
  c3 = chain_costs 3 (x.e4 room deep) c4

  c2 : Costs 0 (x.e2 room deep) Good
  unfolding x.e2
  c2 = chain_costs 2 (x.e3 room deep) c3

  pub whole_costs : Costs 0 (x.whole room deep) Good
  unfolding x.whole
  whole_costs = k_or (k_then (c_opening_one_of room quantifier) (λ q i some. k_then (iters_costs (room - 1) deep.source c_source) (λ over j gs. k_past (k_then c_expr (λ y l g. k_pure (λ n le. good_quantified q over y j l n gs g (omega (arith, some, le)))))))) c2

-- expressions and sources that stand one nesting deeper
pub nested_costs : (room : ℕ) → Costs 0 (x.nested room).expr Good × Costs 0 (x.nested room).source Good
unfolding x.nested
nested_costs zero = (k_never, k_never)
nested_costs (suc room) =
    let deep = nested_costs room in
    (whole_costs room (x.nested room) deep.0 deep.1, c7 room (x.nested room) deep.0 deep.1)

pub expr_costs : (room : ℕ) → Costs 0 (x.expr room) Good
unfolding x.expr
expr_costs room = let deep = nested_costs room in whole_costs room (x.nested room) deep.0 deep.1
