-- One image less is one pair less.
use Rattle.std.specs.Prelude.{◌≡◌, ◌⊎◌, Bool, true, false, not, ◌||◌, cond, List, [], ◌∷◌, is_some, map, refl}
use Rattle.std.specs.List.{filter_map}
use Rattle.std.specs.declared.cmp.Ordering.{Ordering}
use Rattle.std.specs.declared.cmp.Ordering.TheVariants.{Less, Equal, Greater}
use Rattle.std.specs.Ordering.{is_eq, ordering_then}
use Rattle.std.proofs.Common.{ap, sym, subst, ◌∙◌, inl, inr}
use Rattle.std.proofs.lemmas.Bool.{false≢true, and_parts}
use Rattle.std.proofs.lemmas.List.Kept.{IsStrictlySortedBy-filter}
use Rattle.setl_value.specs.Datum.{Datum, tuple, part_then, no_part, element_list-elements_of}
use Rattle.setl_value.specs.Order.{datum_cmp, IsRising}
use Rattle.setl_value.specs.OrderLaws.{same_if_eq, equal_iff_same}
use Rattle.setl_value.specs.Pairs.{pair, pair_parts, first_of, second_of, is_datum, is_map, images, pairs_at}
use Rattle.setl_value.specs.WellFormed.{IsSetList}
use Rattle.setl_set.specs.Sets.{has_datum, remove_datum}
use Rattle.setl_set.specs.Laws.{RisingListsAgree, TestsMembership, Unites}
use Rattle.setl_map.specs.Maps.{without_point, put_images}

abbrev is_at : Datum → Datum → Bool
is_at x d = is_datum x (first_of (pair_parts d))

abbrev seconds : List Datum → List Datum
seconds ds = filter_map (λ d. second_of (pair_parts d)) ds

abbrev pub paired : Datum → List Datum → List Datum
paired x ys = map (λ y. pair x y) ys

itself : (d : Datum) → datum_cmp d d ≡ Equal
itself d = (equal_iff_same d d).1 refl

-- ---- how a pair of x stands to the others

pair_of : (d : Datum) → is_some (pair_parts d) ≡ true → (a : Datum) × (b : Datum) × (d ≡ pair a b)
pair_of (tuple (part_then x (part_then y no_part))) h = (x, y, refl)
pair_of d h = absurd (false≢true h)

of_point : (x d : Datum) → is_some (pair_parts d) ≡ true → is_at x d ≡ true → (u : Datum) × (d ≡ pair x u)
of_point x d p h =
    let u = pair_of d p in
    let same : x ≡ u.0 = same_if_eq x u.0 (ap (is_at x) (sym u.2) ∙ h) in
    (u.1, u.2 ∙ ap (λ z. pair z u.1) (sym same))

other_by : (x y d : Datum) (b : Bool) → is_eq (datum_cmp (pair x y) d) ≡ b → is_at x d ≡ false → b ≡ false
other_by x y d false e h = refl
other_by x y d true e h = absurd (false≢true (sym h ∙ ap (is_at x) (sym (same_if_eq (pair x y) d e)) ∙ ap is_eq (itself x)))

then_equal : (o : Ordering) → is_eq (ordering_then o Equal) ≡ is_eq o
then_equal Less = refl
then_equal Equal = refl
then_equal Greater = refl

same_seconds : (x y u : Datum) → is_eq (datum_cmp (pair x y) (pair x u)) ≡ is_eq (datum_cmp y u)
same_seconds x y u = ap (λ o. is_eq (ordering_then o (ordering_then (datum_cmp y u) Equal))) (itself x) ∙ then_equal (datum_cmp y u)

-- ---- member by member

or_grouped : (a b c : Bool) → (a || (b || c)) ≡ ((a || b) || c)
or_grouped true b c = refl
or_grouped false b c = refl

pub or_swapped : (a b c : Bool) → (a || (b || c)) ≡ (b || (a || c))
or_swapped true true c = refl
or_swapped true false c = refl
or_swapped false b c = refl

-- the pair of x and u comes to the rest
with_pair : (d x y u : Datum) (rest others : List Datum) (left : List Datum) (k : Bool) → has_datum d left ≡ (has_datum d rest || has_datum d (paired x (remove_datum y others)))
    → has_datum d (cond (not k) (pair x u ∷ left) left) ≡ (has_datum d rest || has_datum d (paired x (cond (not k) (u ∷ remove_datum y others) (remove_datum y others))))
with_pair d x y u rest others left true h = h
with_pair d x y u rest others left false h =
    let same = is_eq (datum_cmp d (pair x u)) in
    ap (λ b. same || b) h ∙ or_swapped same (has_datum d rest) (has_datum d (paired x (remove_datum y others)))

has_first : (d x y e : Datum) (es : List Datum) (b : Bool) → is_at x e ≡ b → is_some (pair_parts e) ≡ true
    → has_datum d (remove_datum (pair x y) es) ≡ (has_datum d (without_point x es) || has_datum d (paired x (remove_datum y (images x es))))
    → has_datum d (remove_datum (pair x y) (e ∷ es))
    ≡ (has_datum d (cond (not b) (e ∷ without_point x es) (without_point x es)) || has_datum d (paired x (remove_datum y (seconds (cond b (e ∷ pairs_at x es) (pairs_at x es))))))
has_first d x y e es false f p h =
    let left = remove_datum (pair x y) es in
    let same = is_eq (datum_cmp d e) in
    ap (λ b. has_datum d (cond (not b) (e ∷ left) left)) (other_by x y e (is_eq (datum_cmp (pair x y) e)) refl f)
    ∙ ap (λ b. same || b) h ∙ or_grouped same (has_datum d (without_point x es)) (has_datum d (paired x (remove_datum y (images x es))))
has_first d x y e es true f p h =
    let u = of_point x e p f in
    let left = remove_datum (pair x y) es in
    let rest = without_point x es in
    let ys = images x es in
    ap (λ z. has_datum d (cond (not (is_eq (datum_cmp (pair x y) z))) (z ∷ left) left)) u.1
    ∙ ap (λ b. has_datum d (cond (not b) (pair x u.0 ∷ left) left)) (same_seconds x y u.0)
    ∙ with_pair d x y u.0 rest ys left (is_eq (datum_cmp y u.0)) h
    ∙ ap (λ z. has_datum d rest || has_datum d (paired x (remove_datum y (seconds (z ∷ pairs_at x es))))) (sym u.1)

has_removed : (d x y : Datum) (f : List Datum) → is_map f ≡ true
    → has_datum d (remove_datum (pair x y) f) ≡ (has_datum d (without_point x f) || has_datum d (paired x (remove_datum y (images x f))))
has_removed d x y [] m = refl
has_removed d x y (e ∷ es) m =
    let p = and_parts (is_some (pair_parts e)) (is_map es) m in
    has_first d x y e es (is_at x e) refl p.0 (has_removed d x y es p.1)

-- ---- the lists

into : {P Q : Type 0} (a b : Bool) → (a ≡ true → P) → (b ≡ true → Q) → (a || b) ≡ true → P ⊎ Q
into true b f g h = inl (f refl)
into false b f g h = inr (g h)

or_second : (a b : Bool) → b ≡ true → (a || b) ≡ true
or_second true b h = refl
or_second false b h = h

out_of : {P Q : Type 0} (a b : Bool) → (P → a ≡ true) → (Q → b ≡ true) → P ⊎ Q → (a || b) ≡ true
out_of a b f g (inl p) = ap (λ c. c || b) (f p)
out_of a b f g (inr q) = or_second a b (g q)

pub rising_from_set : (ds : List Datum) → IsSetList ds → IsRising ds
rising_from_set ds h = subst IsRising (element_list-elements_of ds) h.0.1

pub removed_is : RisingListsAgree → TestsMembership → Unites → (x y : Datum) (f : List Datum) → is_map f ≡ true → IsRising f → remove_datum (pair x y) f ≡ put_images x (remove_datum y (images x f)) f
removed_is agree tests unites x y f m r =
    let left = remove_datum (pair x y) f in
    let rest = without_point x f in
    let more = paired x (remove_datum y (images x f)) in
    let united = unites rest more in
    agree left (put_images x (remove_datum y (images x f)) f) (IsStrictlySortedBy-filter datum_cmp (λ e. not (is_eq (datum_cmp (pair x y) e))) f r) united.rising (λ d. (
      λ c. (united.members d).1 (into (has_datum d rest) (has_datum d more) (λ h. (tests d rest).0 h) (λ h. (tests d more).0 h) (sym (has_removed d x y f m) ∙ (tests d left).1 c)),
      λ c. (tests d left).0 (has_removed d x y f m ∙ out_of (has_datum d rest) (has_datum d more) (λ h. (tests d rest).1 h) (λ h. (tests d more).1 h) ((united.members d).0 c)),
    ))
