-- Each form of an expression's tree: what stands in it agrees with what it becomes.
use Rattle.std.proofs.Common.{◌≡◌, ℕ, ℤ, List, [], ◌∷◌, map, Option, Some, None, option_map, sym, ap, ◌∙◌}
use Rattle.setl_tree.specs.declared.expr.BinaryOp.{BinaryOp}
use Rattle.setl_tree.specs.declared.expr.Relation.{Relation}
use Rattle.setl_tree.specs.declared.expr.Prefix.{Prefix}
use Rattle.setl_tree.specs.declared.expr.Quantifier.{Quantifier}
use Rattle.setl_tree.specs.declared.expr.Bound.{Bound}
use Rattle.setl_tree.specs.declared.expr.Expr.{Expr, fold-roll-Expr}
use Rattle.setl_tree.specs.declared.expr.Expr.TheVariants as e
use Rattle.setl_tree.specs.declared.expr.Expr.TheOpen.{Expr-F, Inner-F, Iter-F, Selector-F}
use Rattle.setl_tree.specs.declared.expr.Inner.{Inner, fold-roll-Inner}
use Rattle.setl_tree.specs.declared.expr.Inner.TheVariants as inn
use Rattle.setl_tree.specs.declared.expr.Iter.{Iter, fold-roll-Iter}
use Rattle.setl_tree.specs.declared.expr.Iter.TheVariants as it
use Rattle.setl_tree.specs.declared.expr.Selector.{Selector, fold-roll-Selector}
use Rattle.setl_tree.specs.declared.expr.Selector.TheVariants as se
use Rattle.setl_names.specs.Names.{Name as Word}
use Rattle.setl_names.specs.Occurrences as n
use Rattle.setl_program.specs.declared.kinds.Collection.TheVariants.{OfSet, OfTuple}
use Rattle.setl_program.specs.Expressions as q
use Rattle.setl_program_laws.proofs.Languages.{Each, SomeEach, Maybe}
use Rattle.setl_program_laws.proofs.Fine.{Context, fine_literal, fine_undefined, fine_newat, fine_eof, fine_ok}
use Rattle.setl_program_laws.proofs.Agreeing.{carried, Agree, AgreeInside, AgreeTurn, AgreeBehind, AllAgree, AgreeOption, AgreeOperands, AgreeTurns, AllBehind}
use Rattle.setl_program_laws.proofs.Parts.{part_agrees, constant_agrees, named_agrees, inside_agrees, chain_fine, comparison_fine, prefixed_fine, choice_fine, over_agrees, image_agrees, quantified_fine, enumerated_agrees, range_agrees, former_agrees, filter_agrees}
use Rattle.setl_program_laws.proofs.Selections.{round_agrees, braces_agree, slice_agrees, selection_fine}

module _ (c : Context) where
  abbrev pub Good : Expr → Type 0
  Good y = Agree c (n.part y) (q.part_of y)

  abbrev pub GoodInner : Inner → Type 0
  GoodInner y = AgreeInside c (n.inner_standing y) (q.inner_of y)

  abbrev pub GoodIter : Iter → Type 0
  GoodIter y = AgreeTurn c (n.turn y) (q.turn_of y)

  abbrev pub GoodSelector : Selector → Type 0
  GoodSelector y = AgreeBehind c (n.behind y) (q.behind_of y)

  -- ---- lists

  pub all_good : (xs : List Expr) → Each Good xs → AllAgree c (map n.part xs) (map q.part_of xs)
  all_good [] h = tt
  all_good (x ∷ xs) h = (h.0, all_good xs h.1)

  pub option_good : (x : Option Expr) → Maybe Good x → AgreeOption c (option_map n.part x) (option_map q.part_of x)
  option_good None h = tt
  option_good (Some x) h = h

  operands_good : (xs : List (BinaryOp × Expr)) → Each (λ p. Good p.1) xs → AgreeOperands c (map (λ p. (p.0, n.part p.1)) xs) (map (λ p. (p.0, q.part_of p.1)) xs)
  operands_good [] h = tt
  operands_good (x ∷ xs) h = (h.0, operands_good xs h.1)

  pub turns_good : (is : List Iter) → Each GoodIter is → AgreeTurns c (map n.turn is) (map q.turn_of is)
  turns_good [] h = tt
  turns_good (i ∷ is) h = (h.0, turns_good is h.1)

  pub selectors_good : (ss : List Selector) → Each GoodSelector ss → AllBehind c (map n.behind ss) (map q.behind_of ss)
  selectors_good [] h = tt
  selectors_good (x ∷ xs) h = (h.0, selectors_good xs h.1)

  -- ---- each form

  pub good_number : (v : ℤ) → Good (e.Number v)
  good_number v = carried (Agree c) (ap n.part (sym (e.rolls-Number v)) ∙ fold-roll-Expr n.Part n.Standing n.Turn n.Behind n.expr_step n.inner_step n.iter_step n.selector_step (Expr-F.Number v)) (ap q.part_of (sym (e.rolls-Number v)) ∙ fold-roll-Expr q.Part q.Inside q.Turn q.Behind q.expr_step q.inner_step q.iter_step q.selector_step (Expr-F.Number v)) (constant_agrees fine_literal)

  pub good_text : (t : List ℕ) → Good (e.Text t)
  good_text t = carried (Agree c) (ap n.part (sym (e.rolls-Text t)) ∙ fold-roll-Expr n.Part n.Standing n.Turn n.Behind n.expr_step n.inner_step n.iter_step n.selector_step (Expr-F.Text t)) (ap q.part_of (sym (e.rolls-Text t)) ∙ fold-roll-Expr q.Part q.Inside q.Turn q.Behind q.expr_step q.inner_step q.iter_step q.selector_step (Expr-F.Text t)) (constant_agrees fine_literal)

  pub good_om : Good e.Om
  good_om = carried (Agree c) (ap n.part (sym e.rolls-Om) ∙ fold-roll-Expr n.Part n.Standing n.Turn n.Behind n.expr_step n.inner_step n.iter_step n.selector_step Expr-F.Om) (ap q.part_of (sym e.rolls-Om) ∙ fold-roll-Expr q.Part q.Inside q.Turn q.Behind q.expr_step q.inner_step q.iter_step q.selector_step Expr-F.Om) (constant_agrees fine_undefined)

  pub good_true : Good e.True
  good_true = carried (Agree c) (ap n.part (sym e.rolls-True) ∙ fold-roll-Expr n.Part n.Standing n.Turn n.Behind n.expr_step n.inner_step n.iter_step n.selector_step Expr-F.True) (ap q.part_of (sym e.rolls-True) ∙ fold-roll-Expr q.Part q.Inside q.Turn q.Behind q.expr_step q.inner_step q.iter_step q.selector_step Expr-F.True) (constant_agrees fine_literal)

  pub good_false : Good e.False
  good_false = carried (Agree c) (ap n.part (sym e.rolls-False) ∙ fold-roll-Expr n.Part n.Standing n.Turn n.Behind n.expr_step n.inner_step n.iter_step n.selector_step Expr-F.False) (ap q.part_of (sym e.rolls-False) ∙ fold-roll-Expr q.Part q.Inside q.Turn q.Behind q.expr_step q.inner_step q.iter_step q.selector_step Expr-F.False) (constant_agrees fine_literal)

  pub good_newat : Good e.Newat
  good_newat = carried (Agree c) (ap n.part (sym e.rolls-Newat) ∙ fold-roll-Expr n.Part n.Standing n.Turn n.Behind n.expr_step n.inner_step n.iter_step n.selector_step Expr-F.Newat) (ap q.part_of (sym e.rolls-Newat) ∙ fold-roll-Expr q.Part q.Inside q.Turn q.Behind q.expr_step q.inner_step q.iter_step q.selector_step Expr-F.Newat) (constant_agrees fine_newat)

  pub good_eof : Good e.Eof
  good_eof = carried (Agree c) (ap n.part (sym e.rolls-Eof) ∙ fold-roll-Expr n.Part n.Standing n.Turn n.Behind n.expr_step n.inner_step n.iter_step n.selector_step Expr-F.Eof) (ap q.part_of (sym e.rolls-Eof) ∙ fold-roll-Expr q.Part q.Inside q.Turn q.Behind q.expr_step q.inner_step q.iter_step q.selector_step Expr-F.Eof) (constant_agrees fine_eof)

  pub good_ok : Good e.Ok
  good_ok = carried (Agree c) (ap n.part (sym e.rolls-Ok) ∙ fold-roll-Expr n.Part n.Standing n.Turn n.Behind n.expr_step n.inner_step n.iter_step n.selector_step Expr-F.Ok) (ap q.part_of (sym e.rolls-Ok) ∙ fold-roll-Expr q.Part q.Inside q.Turn q.Behind q.expr_step q.inner_step q.iter_step q.selector_step Expr-F.Ok) (constant_agrees fine_ok)

  pub good_name : (x : Word) → Good (e.Name x)
  good_name x = carried (Agree c) (ap n.part (sym (e.rolls-Name x)) ∙ fold-roll-Expr n.Part n.Standing n.Turn n.Behind n.expr_step n.inner_step n.iter_step n.selector_step (Expr-F.Name x)) (ap q.part_of (sym (e.rolls-Name x)) ∙ fold-roll-Expr q.Part q.Inside q.Turn q.Behind q.expr_step q.inner_step q.iter_step q.selector_step (Expr-F.Name x)) (named_agrees x)

  pub good_if : (a b d : Expr) → Good a → Good b → Good d → Good (e.If a b d)
  good_if a b d f g h = carried (Agree c) (ap n.part (sym (e.rolls-If a b d)) ∙ fold-roll-Expr n.Part n.Standing n.Turn n.Behind n.expr_step n.inner_step n.iter_step n.selector_step (Expr-F.If a b d)) (ap q.part_of (sym (e.rolls-If a b d)) ∙ fold-roll-Expr q.Part q.Inside q.Turn q.Behind q.expr_step q.inner_step q.iter_step q.selector_step (Expr-F.If a b d)) (part_agrees (choice_fine _ _ _ _ _ _ f g h))

  pub good_set : (y : Inner) → GoodInner y → Good (e.Set y)
  good_set y h = carried (Agree c) (ap n.part (sym (e.rolls-Set y)) ∙ fold-roll-Expr n.Part n.Standing n.Turn n.Behind n.expr_step n.inner_step n.iter_step n.selector_step (Expr-F.Set y)) (ap q.part_of (sym (e.rolls-Set y)) ∙ fold-roll-Expr q.Part q.Inside q.Turn q.Behind q.expr_step q.inner_step q.iter_step q.selector_step (Expr-F.Set y)) (inside_agrees OfSet h)

  pub good_tuple : (y : Inner) → GoodInner y → Good (e.Tuple y)
  good_tuple y h = carried (Agree c) (ap n.part (sym (e.rolls-Tuple y)) ∙ fold-roll-Expr n.Part n.Standing n.Turn n.Behind n.expr_step n.inner_step n.iter_step n.selector_step (Expr-F.Tuple y)) (ap q.part_of (sym (e.rolls-Tuple y)) ∙ fold-roll-Expr q.Part q.Inside q.Turn q.Behind q.expr_step q.inner_step q.iter_step q.selector_step (Expr-F.Tuple y)) (inside_agrees OfTuple h)

  pub good_chain : (x : Expr) (others : List (BinaryOp × Expr)) → Good x → Each (λ p. Good p.1) others → Good (e.Chain x others)
  good_chain x others g h = carried (Agree c) (ap n.part (sym (e.rolls-Chain x others)) ∙ fold-roll-Expr n.Part n.Standing n.Turn n.Behind n.expr_step n.inner_step n.iter_step n.selector_step (Expr-F.Chain x others)) (ap q.part_of (sym (e.rolls-Chain x others)) ∙ fold-roll-Expr q.Part q.Inside q.Turn q.Behind q.expr_step q.inner_step q.iter_step q.selector_step (Expr-F.Chain x others)) (part_agrees (chain_fine _ _ _ _ g (operands_good others h)))

  pub good_compare : (a : Expr) (r : Relation) (b : Expr) → Good a → Good b → Good (e.Compare a r b)
  good_compare a r b g h = carried (Agree c) (ap n.part (sym (e.rolls-Compare a r b)) ∙ fold-roll-Expr n.Part n.Standing n.Turn n.Behind n.expr_step n.inner_step n.iter_step n.selector_step (Expr-F.Compare a r b)) (ap q.part_of (sym (e.rolls-Compare a r b)) ∙ fold-roll-Expr q.Part q.Inside q.Turn q.Behind q.expr_step q.inner_step q.iter_step q.selector_step (Expr-F.Compare a r b)) (part_agrees (comparison_fine _ _ _ _ r g h))

  pub good_prefixed : (ps : List Prefix) (x : Expr) → Good x → Good (e.Prefixed ps x)
  good_prefixed ps x h = carried (Agree c) (ap n.part (sym (e.rolls-Prefixed ps x)) ∙ fold-roll-Expr n.Part n.Standing n.Turn n.Behind n.expr_step n.inner_step n.iter_step n.selector_step (Expr-F.Prefixed ps x)) (ap q.part_of (sym (e.rolls-Prefixed ps x)) ∙ fold-roll-Expr q.Part q.Inside q.Turn q.Behind q.expr_step q.inner_step q.iter_step q.selector_step (Expr-F.Prefixed ps x)) (part_agrees (prefixed_fine ps _ _ h))

  pub good_selected : (x : Expr) (ss : List Selector) → Good x → Each GoodSelector ss → Good (e.Selected x ss)
  good_selected x ss g h = carried (Agree c) (ap n.part (sym (e.rolls-Selected x ss)) ∙ fold-roll-Expr n.Part n.Standing n.Turn n.Behind n.expr_step n.inner_step n.iter_step n.selector_step (Expr-F.Selected x ss)) (ap q.part_of (sym (e.rolls-Selected x ss)) ∙ fold-roll-Expr q.Part q.Inside q.Turn q.Behind q.expr_step q.inner_step q.iter_step q.selector_step (Expr-F.Selected x ss)) (part_agrees (selection_fine _ _ _ _ g (selectors_good ss h)))

  pub good_quantified : (word : Quantifier) (is : List Iter) (x : Expr) → SomeEach GoodIter is → Good x → Good (e.Quantified word is x)
  good_quantified word (i ∷ is) x g h = carried (Agree c) (ap n.part (sym (e.rolls-Quantified word (i ∷ is) x)) ∙ fold-roll-Expr n.Part n.Standing n.Turn n.Behind n.expr_step n.inner_step n.iter_step n.selector_step (Expr-F.Quantified word (i ∷ is) x)) (ap q.part_of (sym (e.rolls-Quantified word (i ∷ is) x)) ∙ fold-roll-Expr q.Part q.Inside q.Turn q.Behind q.expr_step q.inner_step q.iter_step q.selector_step (Expr-F.Quantified word (i ∷ is) x)) (part_agrees (quantified_fine word (n.turn i) (map n.turn is) (map q.turn_of (i ∷ is)) _ _ (turns_good (i ∷ is) g) h))
  good_quantified word [] x g h = absurd g

  pub inner_list : (xs : List Expr) → Each Good xs → GoodInner (inn.List xs)
  inner_list xs h = carried (AgreeInside c) (ap n.inner_standing (sym (inn.rolls-List xs)) ∙ fold-roll-Inner n.Part n.Standing n.Turn n.Behind n.expr_step n.inner_step n.iter_step n.selector_step (Inner-F.List xs)) (ap q.inner_of (sym (inn.rolls-List xs)) ∙ fold-roll-Inner q.Part q.Inside q.Turn q.Behind q.expr_step q.inner_step q.iter_step q.selector_step (Inner-F.List xs)) (enumerated_agrees _ _ (all_good xs h))

  pub inner_range : (a : Expr) (b : Option Expr) (d : Expr) → Good a → Maybe Good b → Good d → GoodInner (inn.Range a b d)
  inner_range a None d f g h = carried (AgreeInside c) (ap n.inner_standing (sym (inn.rolls-Range a None d)) ∙ fold-roll-Inner n.Part n.Standing n.Turn n.Behind n.expr_step n.inner_step n.iter_step n.selector_step (Inner-F.Range a None d)) (ap q.inner_of (sym (inn.rolls-Range a None d)) ∙ fold-roll-Inner q.Part q.Inside q.Turn q.Behind q.expr_step q.inner_step q.iter_step q.selector_step (Inner-F.Range a None d)) (range_agrees _ _ None _ _ None f tt h)
  inner_range a (Some b) d f g h = carried (AgreeInside c) (ap n.inner_standing (sym (inn.rolls-Range a (Some b) d)) ∙ fold-roll-Inner n.Part n.Standing n.Turn n.Behind n.expr_step n.inner_step n.iter_step n.selector_step (Inner-F.Range a (Some b) d)) (ap q.inner_of (sym (inn.rolls-Range a (Some b) d)) ∙ fold-roll-Inner q.Part q.Inside q.Turn q.Behind q.expr_step q.inner_step q.iter_step q.selector_step (Inner-F.Range a (Some b) d)) (range_agrees _ _ (Some (n.part b)) _ _ (Some (q.part_of b)) f g h)

  pub inner_former : (x : Expr) (is : List Iter) (t : Option Expr) → Good x → SomeEach GoodIter is → Maybe Good t → GoodInner (inn.Former x is t)
  inner_former x (i ∷ is) None f g h = carried (AgreeInside c) (ap n.inner_standing (sym (inn.rolls-Former x (i ∷ is) None)) ∙ fold-roll-Inner n.Part n.Standing n.Turn n.Behind n.expr_step n.inner_step n.iter_step n.selector_step (Inner-F.Former x (i ∷ is) None)) (ap q.inner_of (sym (inn.rolls-Former x (i ∷ is) None)) ∙ fold-roll-Inner q.Part q.Inside q.Turn q.Behind q.expr_step q.inner_step q.iter_step q.selector_step (Inner-F.Former x (i ∷ is) None)) (former_agrees _ _ (n.turn i) (map n.turn is) (map q.turn_of (i ∷ is)) None None f (turns_good (i ∷ is) g) tt)
  inner_former x (i ∷ is) (Some t) f g h = carried (AgreeInside c) (ap n.inner_standing (sym (inn.rolls-Former x (i ∷ is) (Some t))) ∙ fold-roll-Inner n.Part n.Standing n.Turn n.Behind n.expr_step n.inner_step n.iter_step n.selector_step (Inner-F.Former x (i ∷ is) (Some t))) (ap q.inner_of (sym (inn.rolls-Former x (i ∷ is) (Some t))) ∙ fold-roll-Inner q.Part q.Inside q.Turn q.Behind q.expr_step q.inner_step q.iter_step q.selector_step (Inner-F.Former x (i ∷ is) (Some t))) (former_agrees _ _ (n.turn i) (map n.turn is) (map q.turn_of (i ∷ is)) (Some (n.part t)) (Some (q.part_of t)) f (turns_good (i ∷ is) g) h)
  inner_former x [] t f g h = absurd g

  pub inner_filter : (b : Bound) (x t : Expr) → Good x → Good t → GoodInner (inn.Filter b x t)
  inner_filter b x t g h = carried (AgreeInside c) (ap n.inner_standing (sym (inn.rolls-Filter b x t)) ∙ fold-roll-Inner n.Part n.Standing n.Turn n.Behind n.expr_step n.inner_step n.iter_step n.selector_step (Inner-F.Filter b x t)) (ap q.inner_of (sym (inn.rolls-Filter b x t)) ∙ fold-roll-Inner q.Part q.Inside q.Turn q.Behind q.expr_step q.inner_step q.iter_step q.selector_step (Inner-F.Filter b x t)) (filter_agrees b _ _ _ _ g h)

  pub iter_over : (b : Bound) (x : Expr) → Good x → GoodIter (it.Over b x)
  iter_over b x h = carried (AgreeTurn c) (ap n.turn (sym (it.rolls-Over b x)) ∙ fold-roll-Iter n.Part n.Standing n.Turn n.Behind n.expr_step n.inner_step n.iter_step n.selector_step (Iter-F.Over b x)) (ap q.turn_of (sym (it.rolls-Over b x)) ∙ fold-roll-Iter q.Part q.Inside q.Turn q.Behind q.expr_step q.inner_step q.iter_step q.selector_step (Iter-F.Over b x)) (over_agrees b _ _ h)

  pub iter_image : (y f x : Word) → GoodIter (it.Image y f x)
  iter_image y f x = carried (AgreeTurn c) (ap n.turn (sym (it.rolls-Image y f x)) ∙ fold-roll-Iter n.Part n.Standing n.Turn n.Behind n.expr_step n.inner_step n.iter_step n.selector_step (Iter-F.Image y f x)) (ap q.turn_of (sym (it.rolls-Image y f x)) ∙ fold-roll-Iter q.Part q.Inside q.Turn q.Behind q.expr_step q.inner_step q.iter_step q.selector_step (Iter-F.Image y f x)) (image_agrees y f x)

  pub selector_round : (xs : List Expr) → Each Good xs → GoodSelector (se.Round xs)
  selector_round xs h = carried (AgreeBehind c) (ap n.behind (sym (se.rolls-Round xs)) ∙ fold-roll-Selector n.Part n.Standing n.Turn n.Behind n.expr_step n.inner_step n.iter_step n.selector_step (Selector-F.Round xs)) (ap q.behind_of (sym (se.rolls-Round xs)) ∙ fold-roll-Selector q.Part q.Inside q.Turn q.Behind q.expr_step q.inner_step q.iter_step q.selector_step (Selector-F.Round xs)) (round_agrees _ _ (all_good xs h))

  pub selector_braces : (xs : List Expr) → Each Good xs → GoodSelector (se.Braces xs)
  selector_braces xs h = carried (AgreeBehind c) (ap n.behind (sym (se.rolls-Braces xs)) ∙ fold-roll-Selector n.Part n.Standing n.Turn n.Behind n.expr_step n.inner_step n.iter_step n.selector_step (Selector-F.Braces xs)) (ap q.behind_of (sym (se.rolls-Braces xs)) ∙ fold-roll-Selector q.Part q.Inside q.Turn q.Behind q.expr_step q.inner_step q.iter_step q.selector_step (Selector-F.Braces xs)) (braces_agree _ _ (all_good xs h))

  pub selector_slice : (a : Expr) (b : Option Expr) → Good a → Maybe Good b → GoodSelector (se.Slice a b)
  selector_slice a None g h = carried (AgreeBehind c) (ap n.behind (sym (se.rolls-Slice a None)) ∙ fold-roll-Selector n.Part n.Standing n.Turn n.Behind n.expr_step n.inner_step n.iter_step n.selector_step (Selector-F.Slice a None)) (ap q.behind_of (sym (se.rolls-Slice a None)) ∙ fold-roll-Selector q.Part q.Inside q.Turn q.Behind q.expr_step q.inner_step q.iter_step q.selector_step (Selector-F.Slice a None)) (slice_agrees _ None _ None g tt)
  selector_slice a (Some b) g h = carried (AgreeBehind c) (ap n.behind (sym (se.rolls-Slice a (Some b))) ∙ fold-roll-Selector n.Part n.Standing n.Turn n.Behind n.expr_step n.inner_step n.iter_step n.selector_step (Selector-F.Slice a (Some b))) (ap q.behind_of (sym (se.rolls-Slice a (Some b))) ∙ fold-roll-Selector q.Part q.Inside q.Turn q.Behind q.expr_step q.inner_step q.iter_step q.selector_step (Selector-F.Slice a (Some b))) (slice_agrees _ (Some (n.part b)) _ (Some (q.part_of b)) g h)
