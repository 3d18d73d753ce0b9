-- Each form of an expression's tree becomes what is no larger than its tokens are many.
use Rattle.std.proofs.Common.{◌≡◌, ◌≤◌, ℕ, ℤ, suc, ◌+◌, List, map, length, Option, Some, None, sym, ap, subst, ◌∙◌, arith}
use Rattle.setl_tree.specs.declared.expr.BinaryOp.{BinaryOp}
use Rattle.setl_tree.specs.declared.expr.Relation.{Relation}
use Rattle.setl_tree.specs.declared.expr.Prefix.{Prefix}
use Rattle.setl_tree.specs.declared.expr.Quantifier.{Quantifier}
use Rattle.setl_tree.specs.declared.expr.Bound.{Bound}
use Rattle.setl_tree.specs.declared.expr.Expr.{Expr, fold-roll-Expr}
use Rattle.setl_tree.specs.declared.expr.Expr.TheVariants as e
use Rattle.setl_tree.specs.declared.expr.Expr.TheOpen.{Expr-F, Inner-F, Iter-F, Selector-F}
use Rattle.setl_tree.specs.declared.expr.Inner.{Inner, fold-roll-Inner}
use Rattle.setl_tree.specs.declared.expr.Inner.TheVariants as inn
use Rattle.setl_tree.specs.declared.expr.Iter.{Iter, fold-roll-Iter}
use Rattle.setl_tree.specs.declared.expr.Iter.TheVariants as it
use Rattle.setl_tree.specs.declared.expr.Selector.{Selector, fold-roll-Selector}
use Rattle.setl_tree.specs.declared.expr.Selector.TheVariants as se
use Rattle.setl_names.specs.Names.{Name as Word}
use Rattle.setl_program.specs.declared.kinds.Collection.TheVariants.{OfSet, OfTuple}
use Rattle.setl_program.specs.Numbered.{pure}
use Rattle.setl_program.specs.Expressions as q
use Rattle.setl_code_few.proofs.Languages.{Beside, Each, Maybe, mapped}
use Rattle.setl_code_few.proofs.Parts.{PartIn, InsideIn, TurnIn, OperandIn, part_in, inside_part, bound_size, chain_in, comparison_in, prefixed_in, choice_in, over_in, image_in, quantified_in, enumerated_in, range_in, former_in, filter_in}
use Rattle.setl_code_few.proofs.Selections.{BehindIn, round_in, braces_in, slice_in, selection_in}

-- what holds of a value holds of one that equals it
pub carried : {A : Type 0} (P : A → Type 0) {a b : A} → a ≡ b → P b → P a
carried P same h = subst P (sym same) h

abbrev pub Good : Expr → ℕ → Type 0
Good y n = PartIn (q.part_of y) n

abbrev pub GoodInner : Inner → ℕ → Type 0
GoodInner y n = InsideIn (q.inner_of y) n

abbrev pub GoodIter : Iter → ℕ → Type 0
GoodIter y n = TurnIn (q.turn_of y) n

abbrev pub GoodSelector : Selector → ℕ → Type 0
GoodSelector y n = BehindIn (q.behind_of y) n

-- an operator and its right operand
abbrev pub GoodOperand : BinaryOp × Expr → ℕ → Type 0
GoodOperand p n = Beside (Good p.1) n

named_in : (x : Word) {n : ℕ} → 1 ≤ n → PartIn (record (q.part_by (λ s. pure (q.named x s))) { name = Some x }) n
named_in x le = record { term = λ s m. record { at_most = omega (arith, le) }; source = λ s m. record { at_most = omega (arith, le) }; some = le }

pub good_om : (n : ℕ) → 1 ≤ n → Good e.Om n
good_om n le = carried (λ x. PartIn x n) (ap q.part_of (sym e.rolls-Om) ∙ fold-roll-Expr q.Part q.Inside q.Turn q.Behind q.expr_step q.inner_step q.iter_step q.selector_step Expr-F.Om) (part_in {k = 1} (λ s m. record { at_most = omega arith }) le le)

pub good_true : (n : ℕ) → 1 ≤ n → Good e.True n
good_true n le = carried (λ x. PartIn x n) (ap q.part_of (sym e.rolls-True) ∙ fold-roll-Expr q.Part q.Inside q.Turn q.Behind q.expr_step q.inner_step q.iter_step q.selector_step Expr-F.True) (part_in {k = 1} (λ s m. record { at_most = omega arith }) le le)

pub good_false : (n : ℕ) → 1 ≤ n → Good e.False n
good_false n le = carried (λ x. PartIn x n) (ap q.part_of (sym e.rolls-False) ∙ fold-roll-Expr q.Part q.Inside q.Turn q.Behind q.expr_step q.inner_step q.iter_step q.selector_step Expr-F.False) (part_in {k = 1} (λ s m. record { at_most = omega arith }) le le)

pub good_newat : (n : ℕ) → 1 ≤ n → Good e.Newat n
good_newat n le = carried (λ x. PartIn x n) (ap q.part_of (sym e.rolls-Newat) ∙ fold-roll-Expr q.Part q.Inside q.Turn q.Behind q.expr_step q.inner_step q.iter_step q.selector_step Expr-F.Newat) (part_in {k = 1} (λ s m. record { at_most = omega arith }) le le)

pub good_eof : (n : ℕ) → 1 ≤ n → Good e.Eof n
good_eof n le = carried (λ x. PartIn x n) (ap q.part_of (sym e.rolls-Eof) ∙ fold-roll-Expr q.Part q.Inside q.Turn q.Behind q.expr_step q.inner_step q.iter_step q.selector_step Expr-F.Eof) (part_in {k = 1} (λ s m. record { at_most = omega arith }) le le)

pub good_ok : (n : ℕ) → 1 ≤ n → Good e.Ok n
good_ok n le = carried (λ x. PartIn x n) (ap q.part_of (sym e.rolls-Ok) ∙ fold-roll-Expr q.Part q.Inside q.Turn q.Behind q.expr_step q.inner_step q.iter_step q.selector_step Expr-F.Ok) (part_in {k = 1} (λ s m. record { at_most = omega arith }) le le)

pub good_number : (v : ℤ) (n : ℕ) → 1 ≤ n → Good (e.Number v) n
good_number v n le = carried (λ x. PartIn x n) (ap q.part_of (sym (e.rolls-Number v)) ∙ fold-roll-Expr q.Part q.Inside q.Turn q.Behind q.expr_step q.inner_step q.iter_step q.selector_step (Expr-F.Number v)) (part_in {k = 1} (λ s m. record { at_most = omega arith }) le le)

pub good_text : (t : List ℕ) (n : ℕ) → 1 ≤ n → Good (e.Text t) n
good_text t n le = carried (λ x. PartIn x n) (ap q.part_of (sym (e.rolls-Text t)) ∙ fold-roll-Expr q.Part q.Inside q.Turn q.Behind q.expr_step q.inner_step q.iter_step q.selector_step (Expr-F.Text t)) (part_in {k = 1} (λ s m. record { at_most = omega arith }) le le)

pub good_name : (x : Word) (n : ℕ) → 1 ≤ n → Good (e.Name x) n
good_name x n le = carried (λ x. PartIn x n) (ap q.part_of (sym (e.rolls-Name x)) ∙ fold-roll-Expr q.Part q.Inside q.Turn q.Behind q.expr_step q.inner_step q.iter_step q.selector_step (Expr-F.Name x)) (named_in x le)

pub good_if : (a b d : Expr) {i j k : ℕ} (n : ℕ) → Good a i → Good b j → Good d k → suc (i + (j + k)) ≤ n → Good (e.If a b d) n
good_if a b d n f g h le = carried (λ x. PartIn x n) (ap q.part_of (sym (e.rolls-If a b d)) ∙ fold-roll-Expr q.Part q.Inside q.Turn q.Behind q.expr_step q.inner_step q.iter_step q.selector_step (Expr-F.If a b d)) (part_in (choice_in f g h) le (omega (arith, le)))

pub good_set : (y : Inner) {i : ℕ} (n : ℕ) → GoodInner y i → suc i ≤ n → Good (e.Set y) n
good_set y n h le = carried (λ x. PartIn x n) (ap q.part_of (sym (e.rolls-Set y)) ∙ fold-roll-Expr q.Part q.Inside q.Turn q.Behind q.expr_step q.inner_step q.iter_step q.selector_step (Expr-F.Set y)) (inside_part OfSet h le)

pub good_tuple : (y : Inner) {i : ℕ} (n : ℕ) → GoodInner y i → suc i ≤ n → Good (e.Tuple y) n
good_tuple y n h le = carried (λ x. PartIn x n) (ap q.part_of (sym (e.rolls-Tuple y)) ∙ fold-roll-Expr q.Part q.Inside q.Turn q.Behind q.expr_step q.inner_step q.iter_step q.selector_step (Expr-F.Tuple y)) (inside_part OfTuple h le)

pub good_chain : (x : Expr) (others : List (BinaryOp × Expr)) (i j n : ℕ) → Good x i → Each GoodOperand others j → i + j ≤ n → Good (e.Chain x others) n
good_chain x others i j n g h le = carried (λ x. PartIn x n) (ap q.part_of (sym (e.rolls-Chain x others)) ∙ fold-roll-Expr q.Part q.Inside q.Turn q.Behind q.expr_step q.inner_step q.iter_step q.selector_step (Expr-F.Chain x others)) (part_in (chain_in (q.part_of x) i _ j g (mapped (λ (p : BinaryOp × Expr). (p.0, q.part_of p.1)) OperandIn others j h)) le (let some = g.some in omega (arith, some, le)))

pub good_compare : (a : Expr) (r : Relation) (b : Expr) {i j : ℕ} (n : ℕ) → Good a i → Good b j → suc (i + j) ≤ n → Good (e.Compare a r b) n
good_compare a r b n g h le = carried (λ x. PartIn x n) (ap q.part_of (sym (e.rolls-Compare a r b)) ∙ fold-roll-Expr q.Part q.Inside q.Turn q.Behind q.expr_step q.inner_step q.iter_step q.selector_step (Expr-F.Compare a r b)) (part_in (comparison_in r g h) le (omega (arith, le)))

pub good_prefixed : (ps : List Prefix) (x : Expr) {i : ℕ} (n : ℕ) → Good x i → length ps + i ≤ n → Good (e.Prefixed ps x) n
good_prefixed ps x {i} n h le = carried (λ x. PartIn x n) (ap q.part_of (sym (e.rolls-Prefixed ps x)) ∙ fold-roll-Expr q.Part q.Inside q.Turn q.Behind q.expr_step q.inner_step q.iter_step q.selector_step (Expr-F.Prefixed ps x)) (part_in (prefixed_in ps (q.part_of x) i h) le (let some = h.some in omega (arith, some, le)))

pub good_selected : (x : Expr) (ss : List Selector) (i j n : ℕ) → Good x i → Each GoodSelector ss j → i + j ≤ n → Good (e.Selected x ss) n
good_selected x ss i j n g h le = carried (λ x. PartIn x n) (ap q.part_of (sym (e.rolls-Selected x ss)) ∙ fold-roll-Expr q.Part q.Inside q.Turn q.Behind q.expr_step q.inner_step q.iter_step q.selector_step (Expr-F.Selected x ss)) (part_in (selection_in (q.part_of x) (map q.behind_of ss) i j g (mapped q.behind_of BehindIn ss j h)) le (let some = g.some in omega (arith, some, le)))

pub good_quantified : (word : Quantifier) (is : List Iter) (x : Expr) (i j n : ℕ) → Each GoodIter is i → Good x j → suc (i + j) ≤ n → Good (e.Quantified word is x) n
good_quantified word is x i j n g h le = carried (λ x. PartIn x n) (ap q.part_of (sym (e.rolls-Quantified word is x)) ∙ fold-roll-Expr q.Part q.Inside q.Turn q.Behind q.expr_step q.inner_step q.iter_step q.selector_step (Expr-F.Quantified word is x)) (part_in (quantified_in word (map q.turn_of is) i (q.part_of x) (mapped q.turn_of TurnIn is i g) h) le (omega (arith, le)))

pub inner_list : (xs : List Expr) (n : ℕ) → Each Good xs n → GoodInner (inn.List xs) n
inner_list xs n h = carried (λ x. InsideIn x n) (ap q.inner_of (sym (inn.rolls-List xs)) ∙ fold-roll-Inner q.Part q.Inside q.Turn q.Behind q.expr_step q.inner_step q.iter_step q.selector_step (Inner-F.List xs)) (enumerated_in (map q.part_of xs) n (mapped q.part_of PartIn xs n h))

pub inner_range : (a : Expr) (b : Option Expr) (d : Expr) (j : ℕ) {i k : ℕ} (n : ℕ) → Good a i → Maybe Good b j → Good d k → i + (j + k) ≤ n → GoodInner (inn.Range a b d) n
inner_range a None d j n f g h le = carried (λ x. InsideIn x n) (ap q.inner_of (sym (inn.rolls-Range a None d)) ∙ fold-roll-Inner q.Part q.Inside q.Turn q.Behind q.expr_step q.inner_step q.iter_step q.selector_step (Inner-F.Range a None d)) (range_in (q.part_of a) (q.part_of d) None j f tt h le)
inner_range a (Some b) d j n f g h le = carried (λ x. InsideIn x n) (ap q.inner_of (sym (inn.rolls-Range a (Some b) d)) ∙ fold-roll-Inner q.Part q.Inside q.Turn q.Behind q.expr_step q.inner_step q.iter_step q.selector_step (Inner-F.Range a (Some b) d)) (range_in (q.part_of a) (q.part_of d) (Some (q.part_of b)) j f g h le)

pub inner_former : (x : Expr) (is : List Iter) (t : Option Expr) (j k : ℕ) {i : ℕ} (n : ℕ) → Good x i → Each GoodIter is j → Maybe Good t k → i + (j + k) ≤ n → GoodInner (inn.Former x is t) n
inner_former x is None j k n f g h le = carried (λ x. InsideIn x n) (ap q.inner_of (sym (inn.rolls-Former x is None)) ∙ fold-roll-Inner q.Part q.Inside q.Turn q.Behind q.expr_step q.inner_step q.iter_step q.selector_step (Inner-F.Former x is None)) (former_in (q.part_of x) (map q.turn_of is) None j k f (mapped q.turn_of TurnIn is j g) tt le)
inner_former x is (Some t) j k n f g h le = carried (λ x. InsideIn x n) (ap q.inner_of (sym (inn.rolls-Former x is (Some t))) ∙ fold-roll-Inner q.Part q.Inside q.Turn q.Behind q.expr_step q.inner_step q.iter_step q.selector_step (Inner-F.Former x is (Some t))) (former_in (q.part_of x) (map q.turn_of is) (Some (q.part_of t)) j k f (mapped q.turn_of TurnIn is j g) h le)

pub inner_filter : (b : Bound) (x t : Expr) {j k : ℕ} (n : ℕ) → Good x j → Good t k → bound_size b + (j + k) ≤ n → GoodInner (inn.Filter b x t) n
inner_filter b x t n g h le = carried (λ x. InsideIn x n) (ap q.inner_of (sym (inn.rolls-Filter b x t)) ∙ fold-roll-Inner q.Part q.Inside q.Turn q.Behind q.expr_step q.inner_step q.iter_step q.selector_step (Inner-F.Filter b x t)) (filter_in b (q.part_of x) (q.part_of t) g h le)

pub iter_over : (b : Bound) (x : Expr) {j : ℕ} (n : ℕ) → Good x j → suc (bound_size b + j) ≤ n → GoodIter (it.Over b x) n
iter_over b x n h le = carried (λ x. TurnIn x n) (ap q.turn_of (sym (it.rolls-Over b x)) ∙ fold-roll-Iter q.Part q.Inside q.Turn q.Behind q.expr_step q.inner_step q.iter_step q.selector_step (Iter-F.Over b x)) (over_in b (q.part_of x) h le)

pub iter_image : (y f x : Word) (n : ℕ) → 4 ≤ n → GoodIter (it.Image y f x) n
iter_image y f x n le = carried (λ x. TurnIn x n) (ap q.turn_of (sym (it.rolls-Image y f x)) ∙ fold-roll-Iter q.Part q.Inside q.Turn q.Behind q.expr_step q.inner_step q.iter_step q.selector_step (Iter-F.Image y f x)) (image_in y f x le)

pub selector_round : (xs : List Expr) {i : ℕ} (n : ℕ) → Each Good xs i → suc (suc i) ≤ n → GoodSelector (se.Round xs) n
selector_round xs {i} n h le = carried (λ x. BehindIn x n) (ap q.behind_of (sym (se.rolls-Round xs)) ∙ fold-roll-Selector q.Part q.Inside q.Turn q.Behind q.expr_step q.inner_step q.iter_step q.selector_step (Selector-F.Round xs)) (round_in (map q.part_of xs) i (mapped q.part_of PartIn xs i h) le)

pub selector_braces : (xs : List Expr) {i : ℕ} (n : ℕ) → Each Good xs i → suc (suc i) ≤ n → GoodSelector (se.Braces xs) n
selector_braces xs {i} n h le = carried (λ x. BehindIn x n) (ap q.behind_of (sym (se.rolls-Braces xs)) ∙ fold-roll-Selector q.Part q.Inside q.Turn q.Behind q.expr_step q.inner_step q.iter_step q.selector_step (Selector-F.Braces xs)) (braces_in (map q.part_of xs) i (mapped q.part_of PartIn xs i h) le)

pub selector_slice : (a : Expr) (b : Option Expr) (j : ℕ) {i : ℕ} (n : ℕ) → Good a i → Maybe Good b j → suc (i + j) ≤ n → GoodSelector (se.Slice a b) n
selector_slice a None j n g h le = carried (λ x. BehindIn x n) (ap q.behind_of (sym (se.rolls-Slice a None)) ∙ fold-roll-Selector q.Part q.Inside q.Turn q.Behind q.expr_step q.inner_step q.iter_step q.selector_step (Selector-F.Slice a None)) (slice_in (q.part_of a) None j g tt le)
selector_slice a (Some b) j n g h le = carried (λ x. BehindIn x n) (ap q.behind_of (sym (se.rolls-Slice a (Some b))) ∙ fold-roll-Selector q.Part q.Inside q.Turn q.Behind q.expr_step q.inner_step q.iter_step q.selector_step (Selector-F.Slice a (Some b))) (slice_in (q.part_of a) (Some (q.part_of b)) j g h le)
