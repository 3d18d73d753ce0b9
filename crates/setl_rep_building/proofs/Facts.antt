-- Membership, pairs and numbers.
use Rattle.std.proofs.Common.{◌≡◌, Bool, true, false, ◌||◌, cond, List, [], ◌∷◌, ◌++◌, Option, Some, None, option_and_then, Result, Ok, Err, refl, ap, ◌∙◌, subst, ⊎_elim}
use Rattle.std.specs.List.{flat_map}
use Rattle.std.specs.Option.{option_map}
use Rattle.std.specs.Result.{IfOk}
use Rattle.std.specs.Ordering.{is_eq}
use Rattle.std.proofs.lemmas.Bool.{false≢true, or_left, or_right, or_cases}
use Rattle.std.proofs.lemmas.List.Folds.{list_any-append}
use Rattle.setl_value.specs.Datum.{Datum, tuple, part_then, no_part, element_list-elements_of}
use Rattle.setl_value.specs.Order.{datum_cmp, IsRising}
use Rattle.setl_value.specs.OrderLaws.{same_if_eq, eq_iff_same}
use Rattle.setl_value.specs.Pairs.{pair, pair_parts}
use Rattle.setl_value.specs.WellFormed.{IsSetList}
use Rattle.setl_set.specs.Sets.{has_datum}
use Rattle.setl_base.specs.declared.Elt.{Elt}
use Rattle.setl_base.specs.Base.{BaseState, Member, member_at, value_in, value_of}
use Rattle.setl_rep_forms.specs.Stands.{value_at}

pub some_same : {A : Type 0} {x y : A} → Some x ≡ Some y → x ≡ y
some_same p = cc

pub not_both : {A : Type 0} {x : A} → None ≡ Some x → ⊥
not_both p = cc

itself : (d : Datum) → is_eq (datum_cmp d d) ≡ true
itself d = (eq_iff_same d d).1 refl

pub has_append : (x : Datum) (xs ys : List Datum) → has_datum x (xs ++ ys) ≡ (has_datum x xs || has_datum x ys)
has_append x xs ys = list_any-append (λ e. is_eq (datum_cmp x e)) xs ys

pub has_first : (d : Datum) (ds : List Datum) → has_datum d (d ∷ ds) ≡ true
has_first d ds = or_left (is_eq (datum_cmp d d)) (has_datum d ds) (itself d)

pub has_later : (x d : Datum) (ds : List Datum) → has_datum x ds ≡ true → has_datum x (d ∷ ds) ≡ true
has_later x d ds h = or_right (is_eq (datum_cmp x d)) (has_datum x ds) h

-- what a member gives is among what all give
pub given : (p : Datum → List Datum) (ds : List Datum) (d x : Datum) → has_datum d ds ≡ true → has_datum x (p d) ≡ true → has_datum x (flat_map p ds) ≡ true
given p [] d x h g = absurd (false≢true h)
given p (e ∷ es) d x h g =
    has_append x (p e) (flat_map p es)
    ∙ ⊎_elim
    (λ s. or_left _ (has_datum x (flat_map p es)) (subst (λ z. has_datum x (p z) ≡ true) (same_if_eq d e s) g))
    (λ r. or_right (has_datum x (p e)) _ (given p es d x r g))
    (or_cases (is_eq (datum_cmp d e)) (has_datum d es) h)

-- ---- pairs

pub pair_from : (d a b : Datum) → pair_parts d ≡ Some (a, b) → d ≡ pair a b
pair_from (tuple (part_then x (part_then y no_part))) a b h = (λ i. pair (ap (λ (q : Datum × Datum). q.0) (some_same h) i) (ap (λ (q : Datum × Datum). q.1) (some_same h) i))
pair_from d a b h = absurd (not_both h)

-- ---- numbers

pub at_number : (b : BaseState) (e : Elt) (d : Datum) → value_of b e ≡ Some d → value_at b e.block ≡ Some d
at_number b e d p = by (member_at b e.block) p
  where
    if_so : (t : Bool) (x : Datum) → cond t (Some x) None ≡ Some d → Some x ≡ Some d
    if_so true x q = q
    if_so false x q = absurd (not_both q)

    by : (o : Option Member) → option_and_then (value_in e.generation) o ≡ Some d → option_map (λ m. m.value) o ≡ Some d
    by None q = absurd (not_both q)
    by (Some m) q = if_so _ m.value q

pub rising_members : (ds : List Datum) → IsSetList ds → IsRising ds
rising_members ds v = subst (λ l. IsRising l) (element_list-elements_of ds) v.0.1

-- ---- results

pub ok_more : {A E : Type 0} (r : Result A E) (P Q : A → Type 0) → ((x : A) → P x → Q x) → IfOk r P → IfOk r Q
ok_more (Ok x) P Q f h = f x h
ok_more (Err e) P Q f h = h
