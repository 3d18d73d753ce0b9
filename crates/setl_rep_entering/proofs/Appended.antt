-- Each base gains the values at its places.
use Rattle.std.proofs.Common.{◌≡◌, ◌∙◌, ℕ, Bool, true, false, not, cond, ◌&&◌, ◌||◌, List, [], ◌∷◌, ◌++◌, map, Option, None, Some, refl, sym, ap, subst}
use Rattle.std.proofs.Math.Bool.{and-false}
use Rattle.std.proofs.lemmas.Bool.{false≢true, or_left, or_right, and_parts}
use Rattle.std.proofs.lemmas.List.Kept.{IsStrictlySortedBy-filter}
use Rattle.std.specs.Bool.{if◌then◌else◌}
use Rattle.std.specs.List.{filter, AllByRecursion}
use Rattle.std.specs.List.Sorted.{IsStrictlySortedBy}
use Rattle.std.specs.Option.{option_map, option_map_or}
use Rattle.std.specs.declared.cmp.Ordering.{Ordering}
use Rattle.std.specs.declared.cmp.Ordering.TheVariants.{Less}
use Rattle.std.specs.Ordering.{is_eq}
use Rattle.setl_value.specs.Datum.{Datum}
use Rattle.setl_value.specs.code.DatumOf.{datum}
use Rattle.setl_value.specs.Order.{datum_cmp, IsRising}
use Rattle.setl_value.specs.OrderLaws.{same_if_eq}
use Rattle.setl_set.specs.Sets.{has_datum, set_from}
use Rattle.setl_set.specs.Laws.{RisingListsAgree, TestsMembership, Gathers}
use Rattle.setl_modes.specs.Modes.{Mode}
use Rattle.setl_modes_places.specs.Places.{elements_at, names, places_of, PlacesAreNamed}
use Rattle.setl_base.specs.Base.{empty}
use Rattle.setl_rep_bases.specs.declared.BaseId.{BaseId}
use Rattle.setl_rep_bases.specs.declared.tables.Instance.{Instance}
use Rattle.setl_rep_bases.specs.BaseId.{is_id}
use Rattle.setl_rep_bases.specs.Bases.{BasesState, instance_at, base_at, named, IsThere}
use Rattle.setl_rep_bases.specs.Reading.{InstancesArePut, NamesAreExact}
use Rattle.setl_rep_entering.specs.declared.places.Place.{Place}
use Rattle.setl_rep_entering.specs.Entering.{values_in, with_values, lengthened_by, is_named, places_in, AreLengthened, BasesAreThere}
use Rattle.setl_rep_entering.specs.code.Finding.{has_place, is_new, Gains}
use Rattle.setl_rep_entering.specs.code.Growing.{all_placed, is_placed, ArePlacesThere}
use Rattle.setl_rep_entering.proofs.Entered.{itself, entering_appends, values_at, grown_by, placed_instance, placed_count}

-- ---- the values of one instance

-- the order of places, where it goes by value in one instance
abbrev pub GoesByValue : (Place → Place → Ordering) → Type 0
GoesByValue cmp = (p q : Place) → p.base ≡ q.base → cmp p q ≡ Less → datum_cmp (datum p.value) (datum q.value) ≡ Less

module _ (names_exact : NamesAreExact) (cmp : Place → Place → Ordering) (go : GoesByValue cmp) (i : BaseId) where
  above : (p : Place) (ps : List Place) → is_id i p.base ≡ true → AllByRecursion (λ q. cmp p q ≡ Less) ps → AllByRecursion (λ e. datum_cmp (datum p.value) e ≡ Less) (values_at i ps)
  above p [] e a = tt
  above p (q ∷ qs) e a = by (is_id i q.base) refl (above p qs e a.1)
    where
      by : (t : Bool) → is_id i q.base ≡ t → AllByRecursion (λ e. datum_cmp (datum p.value) e ≡ Less) (values_at i qs) → AllByRecursion (λ e. datum_cmp (datum p.value) e ≡ Less) (if t then datum q.value ∷ values_at i qs else values_at i qs)
      by true f rest = (go p q (sym ((names_exact i p.base).0 e) ∙ (names_exact i q.base).0 f) a.0, rest)
      by false f rest = rest

  pub values_rise : (ps : List Place) → IsStrictlySortedBy cmp ps → IsRising (values_at i ps)
  unfolding IsStrictlySortedBy
  values_rise [] h = tt
  values_rise (p ∷ ps) h = by (is_id i p.base) refl (values_rise ps h.1)
    where
      by : (t : Bool) → is_id i p.base ≡ t → IsRising (values_at i ps) → IsRising (if t then datum p.value ∷ values_at i ps else values_at i ps)
      by true e rest = (above p ps e h.0, rest)
      by false e rest = rest

pub has_values : (i : BaseId) (x : Datum) (ps : List Place) → has_datum x (values_at i ps) ≡ has_place i x ps
has_values i x [] = refl
has_values i x (p ∷ ps) = by (is_id i p.base) (has_values i x ps)
  where
    by : (t : Bool) → has_datum x (values_at i ps) ≡ has_place i x ps
        → has_datum x (if t then datum p.value ∷ values_at i ps else values_at i ps) ≡ ((t && is_eq (datum_cmp x (datum p.value))) || has_place i x ps)
    by true h = ap (λ a. is_eq (datum_cmp x (datum p.value)) || a) h
    by false h = h

-- ---- lists with the same new values

pub same_truth : (a b : Bool) → (a ≡ true → b ≡ true) → (b ≡ true → a ≡ true) → a ≡ b
same_truth true b f g = sym (f refl)
same_truth false true f g = g refl
same_truth false false f g = refl

pub has_left : (x : Datum) (vs ds : List Datum) → has_datum x (filter (λ d. not (has_datum d vs)) ds) ≡ (has_datum x ds && not (has_datum x vs))
has_left x vs [] = refl
has_left x vs (d ∷ ds) = by (has_datum d vs) (is_eq (datum_cmp x d)) refl refl (has_left x vs ds)
  where
    rest : List Datum
    rest = filter (λ d. not (has_datum d vs)) ds

    by : (t u : Bool) → has_datum d vs ≡ t → is_eq (datum_cmp x d) ≡ u → has_datum x rest ≡ (has_datum x ds && not (has_datum x vs)) → has_datum x (cond (not t) (d ∷ rest) rest) ≡ ((u || has_datum x ds) && not (has_datum x vs))
    by true true e f h =
        let in_it : has_datum x vs ≡ true = ap (λ z. has_datum z vs) (same_if_eq x d f) ∙ e in
        h ∙ ap (λ a. has_datum x ds && not a) in_it ∙ and-false (has_datum x ds) ∙ ap not (sym in_it)
    by true false e f h = h
    by false true e f h =
        let out : has_datum x vs ≡ false = ap (λ z. has_datum z vs) (same_if_eq x d f) ∙ e in
        ap (λ a. a || has_datum x rest) f ∙ ap not (sym out)
    by false false e f h = ap (λ a. a || has_datum x rest) f ∙ h

pub rising_same : RisingListsAgree → TestsMembership → (xs ys : List Datum) → IsRising xs → IsRising ys → ((x : Datum) → has_datum x xs ≡ has_datum x ys) → xs ≡ ys
rising_same agree tests xs ys r s h = agree xs ys r s (λ x. (λ c. (tests x ys).0 (sym (h x) ∙ (tests x xs).1 c), λ c. (tests x xs).0 (h x ∙ (tests x ys).1 c)))

pub has_set : TestsMembership → Gathers → (x : Datum) (ds : List Datum) → has_datum x (set_from ds) ≡ has_datum x ds
has_set tests gathers x ds =
    same_truth (has_datum x (set_from ds)) (has_datum x ds) (λ e. (tests x ds).1 (((gathers ds).members x).0 ((tests x (set_from ds)).0 e))) (λ e. (tests x (set_from ds)).1 (((gathers ds).members x).1 ((tests x ds).0 e)))

pub has_places_in : TestsMembership → Gathers → (bs : BasesState) (n : ℕ) (m : Mode) (d : Datum) (i : BaseId) (x : Datum) → has_datum x (places_in bs n m d i) ≡ (is_named bs n i && has_datum x (elements_at i.base m d))
has_places_in tests gathers bs n m d i x = by (is_named bs n i)
  where
    by : (t : Bool) → has_datum x (if t then places_of i.base m d else []) ≡ (t && has_datum x (elements_at i.base m d))
    by true = has_set tests gathers x (elements_at i.base m d)
    by false = refl

pub places_rise : Gathers → (bs : BasesState) (n : ℕ) (m : Mode) (d : Datum) (i : BaseId) → IsRising (places_in bs n m d i)
unfolding IsStrictlySortedBy
places_rise gathers bs n m d i = by (is_named bs n i)
  where
    by : (t : Bool) → IsRising (if t then places_of i.base m d else [])
    by true = (gathers (elements_at i.base m d)).rising
    by false = tt

without : (a v e : Bool) → (((a && not v) && e) && not v) ≡ ((a && e) && not v)
without true true e = sym (and-false e)
without true false e = refl
without false v e = refl

-- ---- all of them

module _ (agree : RisingListsAgree) (tests : TestsMembership) (gathers : Gathers) (m : Mode) (d : Datum) (n : ℕ) (bs : BasesState) (ps : List Place)
    (found : Gains bs n (λ b. elements_at b m d) [] ps) where
  new_values : (i : BaseId) → IsRising (values_at i ps) → with_values (base_at bs i) (values_at i ps) ≡ with_values (base_at bs i) (places_in bs n m d i)
  new_values i r =
      let vs = values_in (base_at bs i) in
      let left : List Datum → List Datum = filter (λ d. not (has_datum d vs)) in
      let xs = values_at i ps in
      let ys = places_in bs n m d i in
      let same : left xs ≡ left ys =
      rising_same agree tests (left xs) (left ys) (IsStrictlySortedBy-filter datum_cmp (λ d. not (has_datum d vs)) xs r) (IsStrictlySortedBy-filter datum_cmp (λ d. not (has_datum d vs)) ys (places_rise gathers bs n m d i)) (λ x.
      has_left x vs xs
      ∙ ap (λ a. a && not (has_datum x vs)) (has_values i x ps ∙ found i x)
      ∙ without (is_named bs n i) (has_datum x vs) (has_datum x (elements_at i.base m d))
      ∙ ap (λ a. a && not (has_datum x vs)) (sym (has_places_in tests gathers bs n m d i x))
      ∙ sym (has_left x vs ys))
      in
      ap (λ l. record (base_at bs i) { members = (base_at bs i).members ++ map (λ d. record { value = d; generation = (base_at bs i).cuts }) l }) same

  pub are_lengthened : InstancesArePut → NamesAreExact → ((i : BaseId) → IsRising (values_at i ps)) → ArePlacesThere bs ps → AreLengthened m d n bs (all_placed bs ps)
  are_lengthened put names_exact rise there = record {
    count = placed_count ps bs;
    instances = λ i. placed_instance put names_exact ps bs there i ∙ by i (instance_at bs i) refl;
  }
    where
      by : (i : BaseId) (o : Option Instance) → instance_at bs i ≡ o → option_map (grown_by (values_at i ps)) o ≡ option_map (lengthened_by (places_in bs n m d i)) o
      by i None e = refl
      by i (Some x) e =
          let b : base_at bs i ≡ x.base = ap (λ o. option_map_or (λ y. y.base) o empty) e in
          let same : with_values x.base (values_at i ps) ≡ with_values x.base (places_in bs n m d i) = subst (λ c. with_values c (values_at i ps) ≡ with_values c (places_in bs n m d i)) b (new_values i (rise i)) in
          ap (λ c. Some (record x { base = c })) (entering_appends x.base (values_at i ps) (rise i) ∙ same)

  -- ---- where they are

  named_place : PlacesAreNamed → (i : BaseId) (x : Datum) → has_place i x ps ≡ true → (is_named bs n i ≡ true) × (names i.base m ≡ true)
  named_place no_places i x h = (by.0.0, named_base (names i.base m) refl)
    where
      by : ((is_named bs n i ≡ true) × (not (has_datum x (values_in (base_at bs i))) ≡ true)) × (has_datum x (elements_at i.base m d) ≡ true)
      by =
          let both = and_parts (is_new bs n i x) (has_datum x (elements_at i.base m d)) (sym (found i x) ∙ h) in
          (and_parts (is_named bs n i) (not (has_datum x (values_in (base_at bs i)))) both.0, both.1)

      named_base : (t : Bool) → names i.base m ≡ t → names i.base m ≡ true
      named_base true e = e
      named_base false e = absurd (false≢true (sym (ap (has_datum x) (no_places i.base m d e)) ∙ by.1))

  pub places_there : PlacesAreNamed → NamesAreExact → BasesAreThere bs n m → ArePlacesThere bs ps
  places_there no_places names_exact there = all ps (λ i x h. h)
    where
      one : (i : BaseId) (x : Datum) → has_place i x ps ≡ true → IsThere bs i
      one i x h = let p = named_place no_places i x h in subst (IsThere bs) (sym ((names_exact i (named bs n i.base)).0 p.0)) (there i.base p.1)

      all : (qs : List Place) → ((i : BaseId) (x : Datum) → has_place i x qs ≡ true → has_place i x ps ≡ true) → ArePlacesThere bs qs
      all [] h = tt
      all (q ∷ qs) h = (
        one q.base (datum q.value) (h q.base (datum q.value) (or_left (is_id q.base q.base && is_eq (datum_cmp (datum q.value) (datum q.value))) (has_place q.base (datum q.value) qs)
            ((λ k. (names_exact q.base q.base).1 refl k && itself (datum q.value) k)))),
        all qs (λ i x k. h i x (or_right (is_id i q.base && is_eq (datum_cmp x (datum q.value))) (has_place i x qs) k)),
      )

  placed : (i : BaseId) (qs : List Place) → is_placed i qs ≡ true → (x : Datum) × (has_place i x qs ≡ true)
  placed i [] h = absurd (false≢true h)
  placed i (q ∷ qs) h = by (is_id i q.base) refl h (placed i qs)
    where
      by : (t : Bool) → is_id i q.base ≡ t → (t || is_placed i qs) ≡ true → (is_placed i qs ≡ true → (x : Datum) × (has_place i x qs ≡ true))
          → (x : Datum) × (((is_id i q.base && is_eq (datum_cmp x (datum q.value))) || has_place i x qs) ≡ true)
      by true e k rest = (datum q.value, or_left (is_id i q.base && is_eq (datum_cmp (datum q.value) (datum q.value))) (has_place i (datum q.value) qs) (λ j. e j && itself (datum q.value) j))
      by false e k rest = let r = rest k in (r.0, or_right (is_id i q.base && is_eq (datum_cmp r.0 (datum q.value))) (has_place i r.0 qs) r.1)

  pub places_marked : PlacesAreNamed → (i : BaseId) → is_placed i ps ≡ true → (is_named bs n i && names i.base m) ≡ true
  places_marked no_places i h = let f = placed i ps h in let p = named_place no_places i f.0 f.1 in λ k. p.0 k && p.1 k
