-- The test of a subset, member by member.
use Rattle.std.specs.Prelude.{◌≡◌, Bool, true, false, ◌&&◌, ◌||◌, List, [], ◌∷◌, Option, None, Some, refl}
use Rattle.std.specs.Borrow.{Bor}
use Rattle.std.specs.List.Sorted.{IsStrictlySortedBy}
use Rattle.std.specs.declared.cmp.Ordering.{Ordering}
use Rattle.std.specs.declared.cmp.Ordering.TheVariants.{Less, Equal, Greater}
use Rattle.std.specs.Ordering.{is_eq}
use Rattle.std.proofs.Common.{ap, sym, ◌∙◌, subst}
use Rattle.std.proofs.lemmas.Bool.{or_left}
use Rattle.setl_value.specs.Datum.{Datum}
use Rattle.setl_value.specs.Order.{datum_cmp, IsRising}
use Rattle.setl_value.specs.OrderLaws.{same_datum}
use Rattle.setl_value.specs.code.DatumOf.{datum}
use Rattle.setl_value.specs.declared.Value.{Value}
use Rattle.setl_set.specs.code.Merge.{front}
use Rattle.setl_set.specs.Sets.{has_datum, is_subset}
use Rattle.setl_set.proofs.Members.{IsBelow, turned, turned_back, below_cons, none_above}

abbrev included_by : Ordering → Bool → Bool → Bool
included_by Less both right = false
included_by Equal both right = both
included_by Greater both right = right

-- whether x and what `rest` tests are in a list
abbrev included_from : Datum → (List Datum → Bool) → List Datum → Bool
included_from x rest [] = false
included_from x rest (y ∷ ys) = included_by (datum_cmp x y) (rest ys) (included_from x rest ys)

abbrev pub included : List Datum → List Datum → Bool
included [] ys = true
included (x ∷ xs) ys = included_from x (included xs) ys

-- y below all of xs tells nothing of them
without_first : (y : Datum) (xs ys : List Datum) → IsBelow y xs → is_subset xs (y ∷ ys) ≡ is_subset xs ys
without_first y [] ys b = refl
without_first y (x ∷ xs) ys b =
    ap (λ t. (t || has_datum x ys) && is_subset xs (y ∷ ys)) (ap is_eq (turned_back y x b.0))
    ∙ ap (λ t. has_datum x ys && t) (without_first y xs ys b.1)

included_is_by : (o : Ordering) (x y : Datum) (xs ys : List Datum) → datum_cmp x y ≡ o → IsRising (x ∷ xs) → IsRising (y ∷ ys)
    → included xs ys ≡ is_subset xs ys → included (x ∷ xs) ys ≡ is_subset (x ∷ xs) ys
    → included_by o (included xs ys) (included (x ∷ xs) ys) ≡ is_subset (x ∷ xs) (y ∷ ys)
unfolding IsStrictlySortedBy
included_is_by Less x y xs ys p r s a b = sym (ap (λ t. t && is_subset xs (y ∷ ys)) (none_above x (y ∷ ys) (below_cons x y ys p s)))
included_is_by Equal x y xs ys p r s a b =
    a ∙ sym (without_first y xs ys (subst (λ z. IsBelow z xs) (same_datum x y p) r.0))
    ∙ sym (ap (λ t. t && is_subset xs (y ∷ ys)) (or_left (is_eq (datum_cmp x y)) (has_datum x ys) (ap is_eq p)))
included_is_by Greater x y xs ys p r s a b = b ∙ sym (without_first y (x ∷ xs) ys (below_cons y x xs (turned x y p) r))

pub included_is : (xs ys : List Datum) → IsRising xs → IsRising ys → included xs ys ≡ is_subset xs ys
unfolding IsStrictlySortedBy
included_is [] ys r s = refl
included_is (x ∷ xs) [] r s = refl
included_is (x ∷ xs) (y ∷ ys) r s = included_is_by (datum_cmp x y) x y xs ys refl r s (included_is xs ys r.1 s.1) (included_is (x ∷ xs) ys r s.1)

-- ---- the ends of the loop, where x and y are the first of the members that are left

pub none_left : (y : Option (Bor Value)) (x : Option (Bor Value)) (left right : List Datum) (b : Bool) → included (front x left) (front y right) ≡ b → x ≡ None → true ≡ b
none_left y x left right b h p = subst (λ o. included (front o left) (front y right) ≡ b) p h

pub none_right : (v : Bor Value) (x y : Option (Bor Value)) (left right : List Datum) (b : Bool) → included (front x left) (front y right) ≡ b → x ≡ Some v → y ≡ None → false ≡ b
none_right v x y left right b h p q = subst (λ o. included (front (Some v) left) (front o right) ≡ b) q (subst (λ o. included (front o left) (front y right) ≡ b) p h)

pub first_less : (v w : Bor Value) (x y : Option (Bor Value)) (left right : List Datum) (b : Bool) → included (front x left) (front y right) ≡ b → x ≡ Some v → y ≡ Some w
    → datum_cmp (datum v.now) (datum w.now) ≡ Less → false ≡ b
first_less v w x y left right b h p q less =
    let ys = datum w.now ∷ right in
    let e : included (datum v.now ∷ left) ys ≡ b = subst (λ o. included (front (Some v) left) (front o right) ≡ b) q (subst (λ o. included (front o left) (front y right) ≡ b) p h) in
    sym (ap (λ o. included_by o (included left right) (included_from (datum v.now) (included left) right)) less) ∙ e
