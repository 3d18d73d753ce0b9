-- A map with another content at one number.
use Rattle.std.proofs.Common.{◌≡◌, ◌∙◌, ◌⊎◌, inl, inr, ⊎_elim, ℕ, ◌==◌, Bool, true, false, not, cond, List, [], ◌∷◌, map, Option, None, Some, option_and_then, refl, sym, ap, subst, eqb-true, eq-eqb}
use Rattle.std.proofs.lemmas.Bool.{false≢true, or_left, or_cases}
use Rattle.std.proofs.lemmas.List.Kept.{IsStrictlySortedBy-filter}
use Rattle.std.specs.List.{Contains}
use Rattle.std.specs.Option.{is_some}
use Rattle.std.specs.Ordering.{is_eq}
use Rattle.setl_value.specs.Datum.{Datum}
use Rattle.setl_value.specs.Order.{datum_cmp, IsRising}
use Rattle.setl_value.specs.OrderLaws.{same_if_eq, eq_iff_same}
use Rattle.setl_value.specs.Pairs.{pair, pair_parts, first_of, is_datum}
use Rattle.setl_set.specs.Sets.{has_datum, insert_datum}
use Rattle.setl_set.specs.Laws.{RisingListsAgree, TestsMembership, Gathers, Unites, Inserts}
use Rattle.setl_map.specs.Maps.{without_point, put_image, put_images}
use Rattle.setl_base.specs.Base.{BaseState, IsBase}
use Rattle.setl_rep_bases.specs.Bases.{BasesState, base_at, IsThere}
use Rattle.setl_rep_forms.specs.Form.{Form, Entries, table}
use Rattle.setl_rep_forms.specs.Stands.{value_at, stands, pairs_in, AreOver, IsContent, IsOver}
use Rattle.setl_rep_tables.specs.Tables.{content_in, IsKeyed, images_of, table_pairs, MembersOfTables}
use Rattle.setl_rep_maps.specs.Contents.{MayHave}
use Rattle.setl_rep_maps.specs.Laws.{PutsAreImages, SinglePutsAreImages}
use Rattle.setl_rep_maps.proofs.Members.{some_same, not_both, itself, has_kept, was_kept, of_pairs, in_pairs, one_number}
use Rattle.setl_rep_maps.proofs.Tabled.{IsContentOver, content_over, over_from, many_of}

-- whether a pair isn't one of x
abbrev other : Datum → Datum → Bool
other x d = not (is_datum x (first_of (pair_parts d)))

not_itself : (x z y : Datum) → (z ≡ x → ⊥) → other x (pair z y) ≡ true
not_itself x z y h = by (is_eq (datum_cmp x z)) refl
  where
    by : (t : Bool) → is_eq (datum_cmp x z) ≡ t → not (is_eq (datum_cmp x z)) ≡ true
    by true e = absurd (h (sym (same_if_eq x z e)))
    by false e = ap not e

is_other : (x z y : Datum) → other x (pair z y) ≡ true → z ≡ x → ⊥
is_other x z y h e = false≢true (sym (ap (λ w. not (is_eq (datum_cmp x w))) e ∙ ap not (itself x)) ∙ h)

module _ (agree : RisingListsAgree) (tests : TestsMembership) (gathers : Gathers) (unites : Unites) (members : MembersOfTables) where
  -- ---- the pairs with those of one point put

  module _ (bs : BasesState) (b : BaseState) (many : Bool) (es fs : Entries) (n : ℕ) (c : Option Form) (x : Datum) (base : IsBase b) (keyed : IsKeyed es) (keyed_then : IsKeyed fs) (point : value_at b n ≡ Some x)
      (put : (q : ℕ) → content_in fs q ≡ cond (n == q) c (content_in es q)) where
    abbrev ys : List Datum
    ys = images_of many (option_and_then (stands bs) c)

    abbrev before : List Datum
    before = table_pairs bs b many es

    abbrev after : List Datum
    after = table_pairs bs b many fs

    at_number : content_in fs n ≡ c
    at_number = put n ∙ ap (λ t. cond t c (content_in es n)) (eq-eqb n n refl)

    elsewhere : (q : ℕ) → (n ≡ q → ⊥) → content_in fs q ≡ content_in es q
    elsewhere q h = put q ∙ by (n == q) refl
      where
        by : (t : Bool) → (n == q) ≡ t → cond t c (content_in es q) ≡ content_in es q
        by true e = absurd (h (eqb-true n q e))
        by false e = refl

    not_here : (q : ℕ) (z : Datum) → value_at b q ≡ Some z → (z ≡ x → ⊥) → n ≡ q → ⊥
    not_here q z v h e = h (some_same (sym v ∙ ap (value_at b) (sym e) ∙ point))

    not_x : (q : ℕ) (z : Datum) → value_at b q ≡ Some z → (n ≡ q → ⊥) → z ≡ x → ⊥
    not_x q z v h e = h (one_number b base n q x point (v ∙ ap (λ w. Some w) e))

    forth : (p : Datum) → Contains after p → Contains (without_point x before) p ⊎ Contains (map (pair x) ys) p
    forth p h = by (n == m.0) refl
      where
        m : (q : ℕ) × (k : Form) × (z : Datum) × (y : Datum) × (content_in fs q ≡ Some k) × (value_at b q ≡ Some z) × (has_datum y (images_of many (stands bs k)) ≡ true) × (p ≡ pair z y)
        m = (members bs b many fs p keyed_then).0 h

        by : (t : Bool) → (n == m.0) ≡ t → Contains (without_point x before) p ⊎ Contains (map (pair x) ys) p
        by true e =
            let same : n ≡ m.0 = eqb-true n m.0 e in
            let is : c ≡ Some m.1 = sym at_number ∙ ap (content_in fs) same ∙ m.4 in
            let first : m.2 ≡ x = some_same (sym m.5 ∙ ap (value_at b) (sym same) ∙ point) in
            let there : has_datum m.3 ys ≡ true = ap (λ o. has_datum m.3 (images_of many (option_and_then (stands bs) o))) is ∙ m.6 in
            inr ((tests p (map (pair x) ys)).0 (ap (λ d. has_datum d (map (pair x) ys)) (m.7 ∙ ap (λ z. pair z m.3) first) ∙ in_pairs x ys m.3 there))
        by false e =
            let differ : n ≡ m.0 → ⊥ = λ r. false≢true (sym e ∙ eq-eqb n m.0 r) in
            let old : Contains before p = (members bs b many es p keyed).1 (m.0, m.1, m.2, m.3, sym (elsewhere m.0 differ) ∙ m.4, m.5, m.6, m.7) in
            let apart : other x p ≡ true = ap (other x) m.7 ∙ not_itself x m.2 m.3 (not_x m.0 m.2 m.5 differ) in
            inl ((tests p (without_point x before)).0 (has_kept (other x) p before ((tests p before).1 old) apart))

    back : (p : Datum) → Contains (without_point x before) p ⊎ Contains (map (pair x) ys) p → Contains after p
    back p (inl k) =
        let w = was_kept (other x) p before ((tests p (without_point x before)).1 k) in
        let m = (members bs b many es p keyed).0 ((tests p before).0 w.0) in
        let apart : m.2 ≡ x → ⊥ = is_other x m.2 m.3 (sym (ap (other x) m.7) ∙ w.1) in
        (members bs b many fs p keyed_then).1 (m.0, m.1, m.2, m.3, elsewhere m.0 (not_here m.0 m.2 m.5 apart) ∙ m.4, m.5, m.6, m.7)
    back p (inr k) =
        let w = of_pairs x ys p ((tests p (map (pair x) ys)).1 k) in
        by w.0 w.1 w.2 c refl
      where
        none : (s : Bool) (w : Datum) → has_datum w (images_of s None) ≡ true → ⊥
        none true w h = false≢true h
        none false w h = false≢true h

        by : (w : Datum) → has_datum w ys ≡ true → p ≡ pair x w → (o : Option Form) → c ≡ o → Contains after p
        by w h is None e = absurd (none many w (sym (ap (λ o. has_datum w (images_of many (option_and_then (stands bs) o))) e) ∙ h))
        by w h is (Some k) e =
            (members bs b many fs p keyed_then).1 (n, k, x, w, at_number ∙ e, point, sym (ap (λ o. has_datum w (images_of many (option_and_then (stands bs) o))) e) ∙ h, is)

    pub put_pairs : after ≡ put_images x ys before
    put_pairs =
        let both = unites (without_point x before) (map (pair x) ys) in
        agree after (put_images x ys before) (gathers (pairs_in bs b many fs)).rising both.rising (λ p. (λ h. (both.members p).1 (forth p h), λ h. back p ((both.members p).0 h)))

  -- the same for one image
  pub image_as_images : Inserts → (x : Datum) (o : Option Datum) (f : List Datum) → IsRising f → put_image x o f ≡ put_images x (images_of false o) f
  image_as_images inserts x None f r =
      let both = unites (without_point x f) [] in
      agree (without_point x f) (put_images x [] f) (IsStrictlySortedBy-filter datum_cmp (other x) f r) both.rising (λ p. (λ h. (both.members p).1 (inl h), λ h. only p ((both.members p).0 h)))
    where
      only : (p : Datum) → Contains (without_point x f) p ⊎ Contains [] p → Contains (without_point x f) p
      only p (inl h) = h
      only p (inr h) = absurd (false≢true ((tests p []).1 h))
  image_as_images inserts x (Some y) f r =
      let rest = without_point x f in
      let both = unites rest (pair x y ∷ []) in
      let put = inserts (pair x y) rest (IsStrictlySortedBy-filter datum_cmp (other x) f r) in
      agree (insert_datum (pair x y) rest) (put_images x (y ∷ []) f) put.rising both.rising (λ p. (
        λ h. (both.members p).1 (⊎_elim (λ e. inr (is_one p e)) (λ k. inl k) ((put.members p).0 h)),
        λ h. (put.members p).1 (⊎_elim (λ k. inr k) (λ k. inl (one_is p k)) ((both.members p).0 h)),
      ))
    where
      is_one : (p : Datum) → p ≡ pair x y → Contains (pair x y ∷ []) p
      is_one p e = (tests p (pair x y ∷ [])).0 (or_left (is_eq (datum_cmp p (pair x y))) false ((eq_iff_same p (pair x y)).1 e))

      one_is : (p : Datum) → Contains (pair x y ∷ []) p → p ≡ pair x y
      one_is p h = ⊎_elim (λ s. same_if_eq p (pair x y) s) (λ r. absurd (false≢true r)) (or_cases (is_eq (datum_cmp p (pair x y))) false ((tests p (pair x y ∷ [])).1 h))

-- ---- what is put is over the bases

over_then : (bs : BasesState) (b : BaseState) (many : Bool) (es fs : Entries) (n : ℕ) (c : Option Form) (x : Datum) → AreOver bs b many es → IsKeyed fs → value_at b n ≡ Some x
    → ((k : Form) → c ≡ Some k → IsOver bs k × IsContent many (stands bs k)) → ((q : ℕ) → content_in fs q ≡ cond (n == q) c (content_in es q)) → AreOver bs b many fs
over_then bs b many es fs n c x over keyed point may put = over_from bs b many fs keyed (λ q k h. by q k h (n == q) refl)
  where
    by : (q : ℕ) (k : Form) → content_in fs q ≡ Some k → (t : Bool) → (n == q) ≡ t → IsContentOver bs b many q k
    by q k h true e =
        let same : n ≡ q = eqb-true n q e in
        let m = may k (sym (ap (λ t. cond t c (content_in es q)) e) ∙ sym (put q) ∙ h) in
        (ap is_some (ap (value_at b) (sym same) ∙ point), m.0, m.1)
    by q k h false e = content_over bs b many es q k over (sym (ap (λ t. cond t c (content_in es q)) e) ∙ sym (put q) ∙ h)

-- ---- maps

pub puts_are_images : RisingListsAgree → TestsMembership → Gathers → Unites → MembersOfTables → PutsAreImages
puts_are_images agree tests gathers unites members bs (table k b many es) (table l d some fs) n c x over keyed keyed_then base point may put =
    ((there, areas), λ i. pairs i)
  where
    is_over : AreOver bs (base_at bs b) many fs
    is_over = over_then bs (base_at bs b) many es fs n c x over.1 keyed_then point (has c may) put.3
      where
        has : (c : Option Form) → MayHave bs (table k b many es) c → (f : Form) → c ≡ Some f → IsOver bs f × IsContent many (stands bs f)
        has None m f e = absurd (not_both e)
        has (Some g) m f e = subst (λ h. IsOver bs h × IsContent many (stands bs h)) (some_same e) m

    there : IsThere bs d
    there = subst (IsThere bs) (sym put.1) over.0

    areas : AreOver bs (base_at bs d) some fs
    areas = subst (λ i. AreOver bs (base_at bs i) some fs) (sym put.1) (subst (λ s. AreOver bs (base_at bs b) s fs) (sym put.2) is_over)

    pairs : table_pairs bs (base_at bs d) some fs ≡ put_images x (images_of many (option_and_then (stands bs) c)) (table_pairs bs (base_at bs b) many es)
    pairs = (λ i. table_pairs bs (base_at bs (put.1 i)) (put.2 i) fs) ∙ put_pairs agree tests gathers unites members bs (base_at bs b) many es fs n c x base keyed keyed_then point put.3
puts_are_images agree tests gathers unites members bs (table k b many es) g n c x over keyed keyed_then base point may put = absurd put
puts_are_images agree tests gathers unites members bs f g n c x over keyed keyed_then base point may put = absurd point

pub single_puts : Inserts → RisingListsAgree → TestsMembership → Gathers → Unites → MembersOfTables → SinglePutsAreImages
single_puts inserts agree tests gathers unites members bs (table k b many es) g e n c x t over keyed keyed_then base point may put =
    (puts_are_images agree tests gathers unites members bs (table k b many es) g n c x over keyed keyed_then base point may put).1
    ∙ ap (λ s. put_images x (images_of s (option_and_then (stands bs) c)) (table_pairs bs (base_at bs b) many es)) (many_of bs (table k b many es) e false t).1
    ∙ sym (image_as_images agree tests gathers unites members inserts x (option_and_then (stands bs) c) (table_pairs bs (base_at bs b) many es) (gathers (pairs_in bs (base_at bs b) many es)).rising)
single_puts inserts agree tests gathers unites members bs f g e n c x t over keyed keyed_then base point may put = absurd point
