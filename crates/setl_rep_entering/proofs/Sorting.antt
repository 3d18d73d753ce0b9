-- Places that were sorted, each once.
use Rattle.std.proofs.Common.{◌≡◌, ◌∙◌, Bool, true, false, ◌&&◌, ◌||◌, cond, nat_eq, List, [], ◌∷◌, refl, sym, ap}
use Rattle.std.proofs.lemmas.Bool.{and_parts}
use Rattle.std.proofs.lemmas.List.Kept.{IsStrictlySortedBy-dedup}
use Rattle.std.proofs.lemmas.List.Sorted.{list_any-IsPermutation}
use Rattle.std.specs.List.{list_any, dedup}
use Rattle.std.specs.List.Sorted.{IsStrictlySortedBy, IsSorted, IsPermutation}
use Rattle.std.specs.Cmp.{IsTotalOrder, then_total, on_total, nat_cmp_total, unsigned_tied, both_tied, tied_itself}
use Rattle.std.specs.Ordering.{is_eq, nat_cmp, ordering_then, eq_by_cmp}
use Rattle.std.specs.declared.cmp.Ordering.TheVariants.{Equal}
use Rattle.setl_value.specs.code.DatumOf.{datum}
use Rattle.setl_value.specs.Order.{datum_cmp}
use Rattle.setl_value.specs.OrderLaws.{datum_cmp_total, same_if_eq}
use Rattle.setl_rep_bases.specs.declared.BaseId.{BaseId}
use Rattle.setl_rep_bases.specs.BaseId.{id_cmp, is_id}
use Rattle.setl_rep_bases.specs.Reading.{NamesAreExact}
use Rattle.setl_rep_entering.specs.declared.places.Place.{Place}
use Rattle.setl_rep_entering.specs.code.Finding.{place_cmp, HaveSamePlaces}
use Rattle.setl_rep_entering.proofs.Appended.{GoesByValue}

-- ---- the order of places

id_total : IsTotalOrder id_cmp
id_total = then_total (on_total (λ (i : BaseId). i.base) nat_cmp_total) (on_total (λ (i : BaseId). i.instance) nat_cmp_total)

place_total : IsTotalOrder place_cmp
place_total = then_total (on_total (λ (p : Place). p.base) id_total) (on_total (λ (p : Place). datum p.value) datum_cmp_total)

abbrev pub same_place : Place → Place → Bool
same_place p q = is_id p.base q.base && eq_by_cmp datum_cmp (datum p.value) (datum q.value)

tied_id : (i j : BaseId) → is_id i j ≡ eq_by_cmp id_cmp i j
tied_id i j = both_tied (nat_eq i.base j.base) (nat_eq i.instance j.instance) (nat_cmp i.base j.base) (nat_cmp i.instance j.instance) (sym (unsigned_tied i.base j.base)) (sym (unsigned_tied i.instance j.instance))

tied_place : (p q : Place) → same_place p q ≡ eq_by_cmp place_cmp p q
tied_place p q =
    both_tied (is_id p.base q.base) (eq_by_cmp datum_cmp (datum p.value) (datum q.value)) (id_cmp p.base q.base) (datum_cmp (datum p.value) (datum q.value)) (tied_id p.base q.base) refl

pub goes_by_value : GoesByValue place_cmp
goes_by_value p q h l =
    let e : id_cmp p.base q.base ≡ Equal = ap (id_cmp p.base) (sym h) ∙ tied_itself id_total p.base in
    ap (λ o. ordering_then o (datum_cmp (datum p.value) (datum q.value))) (sym e) ∙ l

-- ---- what `dedup` keeps

or_itself : (a c : Bool) → (a || c) ≡ (a || (a || c))
or_itself true c = refl
or_itself false c = refl

any_step : {X : Type 0} (p : X → Bool) (k x : X) (rest merged parted : List X) (b : Bool) → (b ≡ true → p x ≡ p k)
    → list_any p merged ≡ (p k || list_any p rest) → list_any p parted ≡ (p x || list_any p rest)
    → list_any p (cond b merged (k ∷ parted)) ≡ (p k || (p x || list_any p rest))
any_step p k x rest merged parted true same m q = m ∙ or_itself (p k) (list_any p rest) ∙ ap (λ b. p k || (b || list_any p rest)) (sym (same refl))
any_step p k x rest merged parted false same m q = ap (λ b. p k || b) q

any_dedup_from : {X : Type 0} (p : X → Bool) (E : X → X → Bool) → ((x k : X) → E x k ≡ true → p x ≡ p k) → (k : X) (xs : List X) → list_any p (dedup E (k ∷ xs)) ≡ (p k || list_any p xs)
any_dedup_from p E same k [] = refl
any_dedup_from p E same k (x ∷ xs) = any_step p k x xs (dedup E (k ∷ xs)) (dedup E (x ∷ xs)) (E x k) (same x k) (any_dedup_from p E same k xs) (any_dedup_from p E same x xs)

any_dedup : {X : Type 0} (p : X → Bool) (E : X → X → Bool) → ((x k : X) → E x k ≡ true → p x ≡ p k) → (xs : List X) → list_any p (dedup E xs) ≡ list_any p xs
any_dedup p E same [] = refl
any_dedup p E same (x ∷ xs) = any_dedup_from p E same x xs

-- ---- both

pub have_same_places : NamesAreExact → (ps qs : List Place) → IsPermutation ps qs → HaveSamePlaces ps (dedup same_place qs)
have_same_places exact ps qs h i x =
    let test = λ (p : Place). is_id i p.base && is_eq (datum_cmp x (datum p.value)) in
    any_dedup test same_place (λ p q e.
    let both = and_parts (is_id p.base q.base) (eq_by_cmp datum_cmp (datum p.value) (datum q.value)) e in
    let base : p.base ≡ q.base = (exact p.base q.base).0 both.0 in
    let value : datum p.value ≡ datum q.value = same_if_eq (datum p.value) (datum q.value) both.1 in
    λ k. is_id i (base k) && is_eq (datum_cmp x (value k))) qs
    ∙ sym (list_any-IsPermutation test ps qs h)

pub places_sorted : (qs : List Place) → IsSorted place_cmp qs → IsStrictlySortedBy place_cmp (dedup same_place qs)
places_sorted qs h = IsStrictlySortedBy-dedup place_total tied_place qs h
