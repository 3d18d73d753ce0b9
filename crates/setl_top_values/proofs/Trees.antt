-- Each form of an expression's tree becomes a part that has values for literals, where its parts do.
use Rattle.std.proofs.Common.{◌≡◌, ℕ, ℤ, true, false, List, [], ◌∷◌, map, Option, Some, None, option_map, sym, ap, subst, ◌∙◌, arith}
use Rattle.std.specs.List.{AllByRecursion}
use Rattle.setl_value.specs.Datum.{bool, int, text}
use Rattle.setl_value.specs.WellFormed.{IsTextByte, IsWide, IsValue}
use Rattle.setl_tree.specs.declared.expr.BinaryOp.{BinaryOp}
use Rattle.setl_tree.specs.declared.expr.Relation.{Relation}
use Rattle.setl_tree.specs.declared.expr.Prefix.{Prefix}
use Rattle.setl_tree.specs.declared.expr.Quantifier.{Quantifier}
use Rattle.setl_tree.specs.declared.expr.Bound.{Bound}
use Rattle.setl_tree.specs.declared.expr.Expr.{Expr, fold-roll-Expr}
use Rattle.setl_tree.specs.declared.expr.Expr.TheVariants as e
use Rattle.setl_tree.specs.declared.expr.Expr.TheOpen.{Expr-F, Inner-F, Iter-F, Selector-F}
use Rattle.setl_tree.specs.declared.expr.Inner.{Inner, fold-roll-Inner}
use Rattle.setl_tree.specs.declared.expr.Inner.TheVariants as inn
use Rattle.setl_tree.specs.declared.expr.Iter.{Iter, fold-roll-Iter}
use Rattle.setl_tree.specs.declared.expr.Iter.TheVariants as it
use Rattle.setl_tree.specs.declared.expr.Selector.{Selector, fold-roll-Selector}
use Rattle.setl_tree.specs.declared.expr.Selector.TheVariants as se
use Rattle.setl_names.specs.Names.{Name as Word}
use Rattle.setl_program.specs.declared.kinds.Collection.TheVariants.{OfSet, OfTuple}
use Rattle.setl_program.specs.Program.{Literal, Undefined, Newat, Eof, Ok}
use Rattle.setl_program.specs.Expressions as q
use Rattle.setl_top_values.proofs.Languages.{Each, Maybe}
use Rattle.setl_top_values.proofs.Parts.{PartStands, InsideStands, IterStands, BehindStands, constant_stands, name_stands, inside_stands, chain_stands, comparison_stands, prefixed_stands, choice_stands, over_stands, image_stands, quantified_stands, enumerated_stands, range_stands, former_stands, filter_stands}
use Rattle.setl_top_values.proofs.Selections.{round_stands, braces_stand, slice_stands, selection_stands}

abbrev pub Good : Expr → Type 0
Good y = PartStands (q.part_of y)

abbrev pub GoodInner : Inner → Type 0
GoodInner y = InsideStands (q.inner_of y)

abbrev pub GoodIter : Iter → Type 0
GoodIter y = IterStands (q.turn_of y)

abbrev pub GoodSelector : Selector → Type 0
GoodSelector y = BehindStands (q.behind_of y)

-- what holds of a value holds of one that equals it
pub carried : {A : Type 0} (R : A → Type 0) {a b : A} → a ≡ b → R b → R a
carried R p h = subst R (sym p) h

-- ---- lists

pub all_good : (xs : List Expr) → Each Good xs → Each PartStands (map q.part_of xs)
all_good [] h = tt
all_good (x ∷ xs) h = (h.0, all_good xs h.1)

pub option_good : (x : Option Expr) → Maybe Good x → Maybe PartStands (option_map q.part_of x)
option_good None h = tt
option_good (Some x) h = h

operands_good : (xs : List (BinaryOp × Expr)) → Each (λ (p : BinaryOp × Expr). Good p.1) xs → Each (λ (p : BinaryOp × q.Part). PartStands p.1) (map (λ p. (p.0, q.part_of p.1)) xs)
operands_good [] h = tt
operands_good (x ∷ xs) h = (h.0, operands_good xs h.1)

pub turns_good : (is : List Iter) → Each GoodIter is → Each IterStands (map q.turn_of is)
turns_good [] h = tt
turns_good (i ∷ is) h = (h.0, turns_good is h.1)

pub selectors_good : (ss : List Selector) → Each GoodSelector ss → Each BehindStands (map q.behind_of ss)
selectors_good [] h = tt
selectors_good (x ∷ xs) h = (h.0, selectors_good xs h.1)

-- ---- literals

number_is_value : (v : ℤ) → IsWide v → IsValue (int v)
number_is_value v h = (h, omega arith)

text_is_value : (t : List ℕ) → AllByRecursion IsTextByte t → IsValue (text t)
text_is_value t h = (h, omega arith)

-- ---- each form

pub good_number : (v : ℤ) → IsWide v → Good (e.Number v)
good_number v h = carried PartStands (ap q.part_of (sym (e.rolls-Number v)) ∙ fold-roll-Expr q.Part q.Inside q.Turn q.Behind q.expr_step q.inner_step q.iter_step q.selector_step (Expr-F.Number v)) (constant_stands (Literal (int v)) (number_is_value v h))

pub good_text : (t : List ℕ) → AllByRecursion IsTextByte t → Good (e.Text t)
good_text t h = carried PartStands (ap q.part_of (sym (e.rolls-Text t)) ∙ fold-roll-Expr q.Part q.Inside q.Turn q.Behind q.expr_step q.inner_step q.iter_step q.selector_step (Expr-F.Text t)) (constant_stands (Literal (text t)) (text_is_value t h))

pub good_om : Good e.Om
good_om = carried PartStands (ap q.part_of (sym e.rolls-Om) ∙ fold-roll-Expr q.Part q.Inside q.Turn q.Behind q.expr_step q.inner_step q.iter_step q.selector_step Expr-F.Om) (constant_stands Undefined tt)

pub good_true : Good e.True
good_true = carried PartStands (ap q.part_of (sym e.rolls-True) ∙ fold-roll-Expr q.Part q.Inside q.Turn q.Behind q.expr_step q.inner_step q.iter_step q.selector_step Expr-F.True) (constant_stands (Literal (bool true)) (tt, omega arith))

pub good_false : Good e.False
good_false = carried PartStands (ap q.part_of (sym e.rolls-False) ∙ fold-roll-Expr q.Part q.Inside q.Turn q.Behind q.expr_step q.inner_step q.iter_step q.selector_step Expr-F.False) (constant_stands (Literal (bool false)) (tt, omega arith))

pub good_newat : Good e.Newat
good_newat = carried PartStands (ap q.part_of (sym e.rolls-Newat) ∙ fold-roll-Expr q.Part q.Inside q.Turn q.Behind q.expr_step q.inner_step q.iter_step q.selector_step Expr-F.Newat) (constant_stands Newat tt)

pub good_eof : Good e.Eof
good_eof = carried PartStands (ap q.part_of (sym e.rolls-Eof) ∙ fold-roll-Expr q.Part q.Inside q.Turn q.Behind q.expr_step q.inner_step q.iter_step q.selector_step Expr-F.Eof) (constant_stands Eof tt)

pub good_ok : Good e.Ok
good_ok = carried PartStands (ap q.part_of (sym e.rolls-Ok) ∙ fold-roll-Expr q.Part q.Inside q.Turn q.Behind q.expr_step q.inner_step q.iter_step q.selector_step Expr-F.Ok) (constant_stands Ok tt)

pub good_name : (x : Word) → Good (e.Name x)
good_name x = carried PartStands (ap q.part_of (sym (e.rolls-Name x)) ∙ fold-roll-Expr q.Part q.Inside q.Turn q.Behind q.expr_step q.inner_step q.iter_step q.selector_step (Expr-F.Name x)) (name_stands x)

pub good_if : (a b c : Expr) → Good a → Good b → Good c → Good (e.If a b c)
good_if a b c f g h = carried PartStands (ap q.part_of (sym (e.rolls-If a b c)) ∙ fold-roll-Expr q.Part q.Inside q.Turn q.Behind q.expr_step q.inner_step q.iter_step q.selector_step (Expr-F.If a b c)) (choice_stands (q.part_of a) (q.part_of b) (q.part_of c) f g h)

pub good_set : (y : Inner) → GoodInner y → Good (e.Set y)
good_set y h = carried PartStands (ap q.part_of (sym (e.rolls-Set y)) ∙ fold-roll-Expr q.Part q.Inside q.Turn q.Behind q.expr_step q.inner_step q.iter_step q.selector_step (Expr-F.Set y)) (inside_stands (q.inner_of y) OfSet h)

pub good_tuple : (y : Inner) → GoodInner y → Good (e.Tuple y)
good_tuple y h = carried PartStands (ap q.part_of (sym (e.rolls-Tuple y)) ∙ fold-roll-Expr q.Part q.Inside q.Turn q.Behind q.expr_step q.inner_step q.iter_step q.selector_step (Expr-F.Tuple y)) (inside_stands (q.inner_of y) OfTuple h)

pub good_chain : (x : Expr) (others : List (BinaryOp × Expr)) → Good x → Each (λ p. Good p.1) others → Good (e.Chain x others)
good_chain x others g h = carried PartStands (ap q.part_of (sym (e.rolls-Chain x others)) ∙ fold-roll-Expr q.Part q.Inside q.Turn q.Behind q.expr_step q.inner_step q.iter_step q.selector_step (Expr-F.Chain x others)) (chain_stands (q.part_of x) _ g (operands_good others h))

pub good_compare : (a : Expr) (r : Relation) (b : Expr) → Good a → Good b → Good (e.Compare a r b)
good_compare a r b g h = carried PartStands (ap q.part_of (sym (e.rolls-Compare a r b)) ∙ fold-roll-Expr q.Part q.Inside q.Turn q.Behind q.expr_step q.inner_step q.iter_step q.selector_step (Expr-F.Compare a r b)) (comparison_stands (q.part_of a) r (q.part_of b) g h)

pub good_prefixed : (ps : List Prefix) (x : Expr) → Good x → Good (e.Prefixed ps x)
good_prefixed ps x h = carried PartStands (ap q.part_of (sym (e.rolls-Prefixed ps x)) ∙ fold-roll-Expr q.Part q.Inside q.Turn q.Behind q.expr_step q.inner_step q.iter_step q.selector_step (Expr-F.Prefixed ps x)) (prefixed_stands ps (q.part_of x) h)

pub good_selected : (x : Expr) (ss : List Selector) → Good x → Each GoodSelector ss → Good (e.Selected x ss)
good_selected x ss g h = carried PartStands (ap q.part_of (sym (e.rolls-Selected x ss)) ∙ fold-roll-Expr q.Part q.Inside q.Turn q.Behind q.expr_step q.inner_step q.iter_step q.selector_step (Expr-F.Selected x ss)) (selection_stands (q.part_of x) (map q.behind_of ss) g (selectors_good ss h))

pub good_quantified : (w : Quantifier) (is : List Iter) (x : Expr) → Each GoodIter is → Good x → Good (e.Quantified w is x)
good_quantified w is x g h = carried PartStands (ap q.part_of (sym (e.rolls-Quantified w is x)) ∙ fold-roll-Expr q.Part q.Inside q.Turn q.Behind q.expr_step q.inner_step q.iter_step q.selector_step (Expr-F.Quantified w is x)) (quantified_stands w (map q.turn_of is) (q.part_of x) (turns_good is g) h)

pub inner_list : (xs : List Expr) → Each Good xs → GoodInner (inn.List xs)
inner_list xs h = carried InsideStands (ap q.inner_of (sym (inn.rolls-List xs)) ∙ fold-roll-Inner q.Part q.Inside q.Turn q.Behind q.expr_step q.inner_step q.iter_step q.selector_step (Inner-F.List xs)) (enumerated_stands (map q.part_of xs) (all_good xs h))

pub inner_range : (a : Expr) (b : Option Expr) (c : Expr) → Good a → Maybe Good b → Good c → GoodInner (inn.Range a b c)
inner_range a None c f g h = carried InsideStands (ap q.inner_of (sym (inn.rolls-Range a None c)) ∙ fold-roll-Inner q.Part q.Inside q.Turn q.Behind q.expr_step q.inner_step q.iter_step q.selector_step (Inner-F.Range a None c)) (range_stands (q.part_of a) None (q.part_of c) f tt h)
inner_range a (Some b) c f g h = carried InsideStands (ap q.inner_of (sym (inn.rolls-Range a (Some b) c)) ∙ fold-roll-Inner q.Part q.Inside q.Turn q.Behind q.expr_step q.inner_step q.iter_step q.selector_step (Inner-F.Range a (Some b) c)) (range_stands (q.part_of a) (Some (q.part_of b)) (q.part_of c) f g h)

pub inner_former : (x : Expr) (is : List Iter) (t : Option Expr) → Good x → Each GoodIter is → Maybe Good t → GoodInner (inn.Former x is t)
inner_former x is None f g h = carried InsideStands (ap q.inner_of (sym (inn.rolls-Former x is None)) ∙ fold-roll-Inner q.Part q.Inside q.Turn q.Behind q.expr_step q.inner_step q.iter_step q.selector_step (Inner-F.Former x is None)) (former_stands (q.part_of x) (map q.turn_of is) None f (turns_good is g) tt)
inner_former x is (Some t) f g h = carried InsideStands (ap q.inner_of (sym (inn.rolls-Former x is (Some t))) ∙ fold-roll-Inner q.Part q.Inside q.Turn q.Behind q.expr_step q.inner_step q.iter_step q.selector_step (Inner-F.Former x is (Some t))) (former_stands (q.part_of x) (map q.turn_of is) (Some (q.part_of t)) f (turns_good is g) h)

pub inner_filter : (b : Bound) (x t : Expr) → Good x → Good t → GoodInner (inn.Filter b x t)
inner_filter b x t g h = carried InsideStands (ap q.inner_of (sym (inn.rolls-Filter b x t)) ∙ fold-roll-Inner q.Part q.Inside q.Turn q.Behind q.expr_step q.inner_step q.iter_step q.selector_step (Inner-F.Filter b x t)) (filter_stands b (q.part_of x) (q.part_of t) g h)

pub iter_over : (b : Bound) (x : Expr) → Good x → GoodIter (it.Over b x)
iter_over b x h = carried IterStands (ap q.turn_of (sym (it.rolls-Over b x)) ∙ fold-roll-Iter q.Part q.Inside q.Turn q.Behind q.expr_step q.inner_step q.iter_step q.selector_step (Iter-F.Over b x)) (over_stands b (q.part_of x) h)

pub iter_image : (y f x : Word) → GoodIter (it.Image y f x)
iter_image y f x = carried IterStands (ap q.turn_of (sym (it.rolls-Image y f x)) ∙ fold-roll-Iter q.Part q.Inside q.Turn q.Behind q.expr_step q.inner_step q.iter_step q.selector_step (Iter-F.Image y f x)) (image_stands y f x)

pub selector_round : (xs : List Expr) → Each Good xs → GoodSelector (se.Round xs)
selector_round xs h = carried BehindStands (ap q.behind_of (sym (se.rolls-Round xs)) ∙ fold-roll-Selector q.Part q.Inside q.Turn q.Behind q.expr_step q.inner_step q.iter_step q.selector_step (Selector-F.Round xs)) (round_stands (map q.part_of xs) (all_good xs h))

pub selector_braces : (xs : List Expr) → Each Good xs → GoodSelector (se.Braces xs)
selector_braces xs h = carried BehindStands (ap q.behind_of (sym (se.rolls-Braces xs)) ∙ fold-roll-Selector q.Part q.Inside q.Turn q.Behind q.expr_step q.inner_step q.iter_step q.selector_step (Selector-F.Braces xs)) (braces_stand (map q.part_of xs) (all_good xs h))

pub selector_slice : (a : Expr) (b : Option Expr) → Good a → Maybe Good b → GoodSelector (se.Slice a b)
selector_slice a None g h = carried BehindStands (ap q.behind_of (sym (se.rolls-Slice a None)) ∙ fold-roll-Selector q.Part q.Inside q.Turn q.Behind q.expr_step q.inner_step q.iter_step q.selector_step (Selector-F.Slice a None)) (slice_stands (q.part_of a) None g tt)
selector_slice a (Some b) g h = carried BehindStands (ap q.behind_of (sym (se.rolls-Slice a (Some b))) ∙ fold-roll-Selector q.Part q.Inside q.Turn q.Behind q.expr_step q.inner_step q.iter_step q.selector_step (Selector-F.Slice a (Some b))) (slice_stands (q.part_of a) (Some (q.part_of b)) g h)
