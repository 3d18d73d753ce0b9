-- Membership of a list, and lists that rise.
use Rattle.std.specs.Prelude.{◌≡◌, Bool, true, false, ◌||◌, List, [], ◌∷◌, refl}
use Rattle.std.specs.Bool.{Decides}
use Rattle.std.specs.List.{AllByRecursion, Contains}
use Rattle.std.specs.List.Sorted.{IsStrictlySortedBy}
use Rattle.std.specs.declared.cmp.Ordering.{Ordering}
use Rattle.std.specs.declared.cmp.Ordering.TheVariants.{Less, Equal, Greater}
use Rattle.std.specs.Ordering.{is_eq, eq_by_cmp, ordering_reverse}
use Rattle.std.specs.Cmp.{tied_itself, eq_by_cmp_equiv}
use Rattle.std.proofs.Common.{ap, sym, ◌∙◌, subst}
use Rattle.std.proofs.lemmas.Bool.{true≢false, false≢true, or_left, or_from}
use Rattle.std.proofs.lemmas.Map.Views.{Contains-from_any, list_any-from_Contains}
use Rattle.setl_value.specs.Datum.{Datum}
use Rattle.setl_value.specs.Order.{datum_cmp, IsRising}
use Rattle.setl_value.specs.OrderLaws.{datum_cmp_total, same_datum, same_if_eq}
use Rattle.setl_set.specs.Sets.{has_datum}

pub itself : (d : Datum) → is_eq (datum_cmp d d) ≡ true
itself d = ap is_eq (tied_itself datum_cmp_total d)

-- `has_datum` tests whether the list contains the datum
pub has_decides : (d : Datum) (ds : List Datum) → Decides (has_datum d ds) (Contains ds d)
has_decides d ds = (Contains-from_any {eq = eq_by_cmp datum_cmp} same_if_eq d ds, list_any-from_Contains {eq = eq_by_cmp datum_cmp} (eq_by_cmp_equiv datum_cmp_total) d ds)

pub eq_decides : (e d : Datum) → Decides (is_eq (datum_cmp e d)) (e ≡ d)
eq_decides e d = (same_if_eq e d, λ p. subst (λ x. is_eq (datum_cmp e x) ≡ true) p (itself e))

-- d is below each of the list
abbrev pub IsBelow : Datum → List Datum → Type 0
IsBelow d ds = AllByRecursion (λ y. datum_cmp d y ≡ Less) ds

pub turned : (d e : Datum) → datum_cmp d e ≡ Greater → datum_cmp e d ≡ Less
turned d e p = datum_cmp_total.antisymm e d ∙ ap ordering_reverse p

pub turned_back : (d e : Datum) → datum_cmp d e ≡ Less → datum_cmp e d ≡ Greater
turned_back d e p = datum_cmp_total.antisymm e d ∙ ap ordering_reverse p

pub below_trans : (d e : Datum) (es : List Datum) → datum_cmp d e ≡ Less → IsBelow e es → IsBelow d es
below_trans d e [] p a = tt
below_trans d e (f ∷ es) p a = (datum_cmp_total.trans d e f p a.0, below_trans d e es p a.1)

pub below_cons : (d e : Datum) (es : List Datum) → datum_cmp d e ≡ Less → IsRising (e ∷ es) → IsBelow d (e ∷ es)
unfolding IsStrictlySortedBy
below_cons d e es p r = (p, below_trans d e es p r.0)

-- what is below a list isn't in it
pub none_above : (d : Datum) (ds : List Datum) → IsBelow d ds → has_datum d ds ≡ false
none_above d [] a = refl
none_above d (e ∷ es) a = or_from (is_eq (datum_cmp d e)) (has_datum d es) (ap is_eq a.0) (none_above d es a.1)

pub none_of_equal : (d x : Datum) (xs : List Datum) → IsBelow x xs → is_eq (datum_cmp d x) ≡ true → has_datum d xs ≡ false
none_of_equal d x xs b e = subst (λ z. has_datum z xs ≡ false) (sym (same_if_eq d x e)) (none_above x xs b)

-- ---- a rising list is determined by its members

strip : (e p q : Bool) → (e ≡ true → p ≡ false) → (e ≡ true → q ≡ false) → (e || p) ≡ (e || q) → p ≡ q
strip true p q f g h = f refl ∙ sym (g refl)
strip false p q f g h = h

tails_agree : (x : Datum) (xs ys : List Datum) → IsBelow x xs → IsBelow x ys → ((d : Datum) → has_datum d (x ∷ xs) ≡ has_datum d (x ∷ ys)) → (d : Datum) → has_datum d xs ≡ has_datum d ys
tails_agree x xs ys a b h d = strip (is_eq (datum_cmp d x)) (has_datum d xs) (has_datum d ys) (none_of_equal d x xs a) (none_of_equal d x ys b) (h d)

has_first : (x : Datum) (xs : List Datum) → has_datum x (x ∷ xs) ≡ true
has_first x xs = or_left (is_eq (datum_cmp x x)) (has_datum x xs) (itself x)

by_first : (o : Ordering) (x y : Datum) (xs ys : List Datum) → datum_cmp x y ≡ o → IsRising (x ∷ xs) → IsRising (y ∷ ys)
    → ((d : Datum) → has_datum d (x ∷ xs) ≡ has_datum d (y ∷ ys))
    → (((d : Datum) → has_datum d xs ≡ has_datum d ys) → xs ≡ ys)
    → x ∷ xs ≡ y ∷ ys
unfolding IsStrictlySortedBy
by_first Less x y xs ys p r s h more =
    absurd (true≢false (sym (has_first x xs) ∙ h x ∙ none_above x (y ∷ ys) (below_cons x y ys p s)))
by_first Greater x y xs ys p r s h more =
    absurd (true≢false (sym (has_first y ys) ∙ sym (h y) ∙ none_above y (x ∷ xs) (below_cons y x xs (turned x y p) r)))
by_first Equal x y xs ys p r s h more =
    let e : y ≡ x = sym (same_datum x y p) in
    let rest : xs ≡ ys = more (tails_agree x xs ys r.0 (subst (λ z. IsBelow z ys) e s.0) (subst (λ z. (d : Datum) → has_datum d (x ∷ xs) ≡ has_datum d (z ∷ ys)) e h)) in
    ap (λ l. x ∷ l) rest ∙ ap (λ z. z ∷ ys) (sym e)

pub rising_unique : (xs ys : List Datum) → IsRising xs → IsRising ys → ((d : Datum) → has_datum d xs ≡ has_datum d ys) → xs ≡ ys
unfolding IsStrictlySortedBy
rising_unique [] [] r s h = refl
rising_unique [] (y ∷ ys) r s h = absurd (false≢true (h y ∙ has_first y ys))
rising_unique (x ∷ xs) [] r s h = absurd (true≢false (sym (has_first x xs) ∙ h x))
rising_unique (x ∷ xs) (y ∷ ys) r s h = by_first (datum_cmp x y) x y xs ys refl r s h (rising_unique xs ys r.1 s.1)
