-- Bases gain by a value what they gain by the part of it that has all places that are no members yet.
use Rattle.std.proofs.Common.{◌≡◌, ◌∙◌, Bool, true, false, not, ◌&&◌, ◌⊎◌, inl, inr, List, ◌++◌, map, Option, None, Some, IsSome, refl, sym, ap, subst}
use Rattle.std.proofs.Math.Bool.{and-false}
use Rattle.std.proofs.lemmas.Bool.{false≢true}
use Rattle.std.proofs.lemmas.List.Kept.{IsStrictlySortedBy-filter}
use Rattle.std.specs.List.{filter}
use Rattle.std.specs.Option.{option_map, option_map_or}
use Rattle.setl_value.specs.Datum.{Datum}
use Rattle.setl_value.specs.Order.{datum_cmp}
use Rattle.setl_set.specs.Sets.{has_datum}
use Rattle.setl_set.specs.Laws.{RisingListsAgree, TestsMembership, Gathers}
use Rattle.setl_modes_places.specs.Places.{elements_at}
use Rattle.setl_base.specs.Base.{empty, find}
use Rattle.setl_rep_bases.specs.declared.BaseId.{BaseId}
use Rattle.setl_rep_bases.specs.declared.tables.Instance.{Instance}
use Rattle.setl_rep_bases.specs.Bases.{instance_at, base_at, named}
use Rattle.setl_rep_bases.specs.Reading.{NamesAreExact}
use Rattle.setl_rep_entering.specs.Entering.{values_in, with_values, lengthened_by, is_named, places_in}
use Rattle.setl_rep_entering.specs.Laws.{PartsLengthenAlike}
use Rattle.setl_rep_entering.proofs.Entered.{found}
use Rattle.setl_rep_entering.proofs.Appended.{has_left, rising_same, has_places_in, places_rise}

-- two tests that hold of the same but for members
alike_but_members : (named part whole member : Bool) → (part ≡ true → whole ≡ true) → (named ≡ true → whole ≡ true → (part ≡ true) ⊎ (member ≡ true))
    → ((named && part) && not member) ≡ ((named && whole) && not member)
alike_but_members false part whole member f g = refl
alike_but_members true part whole true f g = and-false part ∙ sym (and-false whole)
alike_but_members true true true false f g = refl
alike_but_members true true false false f g = absurd (false≢true (f refl))
alike_but_members true false true false f g = elim (g refl refl) [ inl e ↦ absurd (false≢true e) | inr e ↦ absurd (false≢true e) ]
alike_but_members true false false false f g = refl

pub parts_lengthen_alike : RisingListsAgree → TestsMembership → Gathers → NamesAreExact → PartsLengthenAlike
parts_lengthen_alike agree tests gathers exact m k d e n bs cs within rest l = record {
  count = l.count;
  instances = λ i. l.instances i ∙ by i (instance_at bs i) refl;
}
  where
    is_member : (i : BaseId) (x : Datum) → is_named bs n i ≡ true → IsSome (find (base_at bs (named bs n i.base)) x) → has_datum x (values_in (base_at bs i)) ≡ true
    is_member i x h s = sym (found (base_at bs i) x) ∙ subst (λ j. IsSome (find (base_at bs j) x)) (sym ((exact i (named bs n i.base)).0 h)) s

    new_of : BaseId → List Datum → List Datum
    new_of i ds = filter (λ z. not (has_datum z (values_in (base_at bs i)))) ds

    same : (i : BaseId) → new_of i (places_in bs n k e i) ≡ new_of i (places_in bs n m d i)
    same i =
        let vs = values_in (base_at bs i) in
        let xs = places_in bs n k e i in
        let ys = places_in bs n m d i in
        rising_same agree tests (new_of i xs) (new_of i ys) (IsStrictlySortedBy-filter datum_cmp (λ z. not (has_datum z vs)) xs (places_rise gathers bs n k e i)) (IsStrictlySortedBy-filter datum_cmp (λ z. not (has_datum z vs)) ys (places_rise gathers bs n m d i)) (λ x.
        has_left x vs xs
        ∙ ap (λ a. a && not (has_datum x vs)) (has_places_in tests gathers bs n k e i x)
        ∙ alike_but_members (is_named bs n i) (has_datum x (elements_at i.base k e)) (has_datum x (elements_at i.base m d)) (has_datum x vs) (within i.base x)
        (λ h w. elim (rest i.base x w) [ inl p ↦ inl p | inr s ↦ inr (is_member i x h s) ])
        ∙ ap (λ a. a && not (has_datum x vs)) (sym (has_places_in tests gathers bs n m d i x))
        ∙ sym (has_left x vs ys))

    grown : (i : BaseId) → with_values (base_at bs i) (places_in bs n k e i) ≡ with_values (base_at bs i) (places_in bs n m d i)
    grown i = ap (λ l. record (base_at bs i) { members = (base_at bs i).members ++ map (λ z. record { value = z; generation = (base_at bs i).cuts }) l }) (same i)

    by : (i : BaseId) (o : Option Instance) → instance_at bs i ≡ o → option_map (lengthened_by (places_in bs n k e i)) o ≡ option_map (lengthened_by (places_in bs n m d i)) o
    by i None p = refl
    by i (Some y) p =
        let b : base_at bs i ≡ y.base = ap (λ o. option_map_or (λ z. z.base) o empty) p in
        ap (λ c. Some (record y { base = c })) (subst (λ c. with_values c (places_in bs n k e i) ≡ with_values c (places_in bs n m d i)) b (grown i))
