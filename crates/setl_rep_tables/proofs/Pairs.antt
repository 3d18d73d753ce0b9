-- The pairs of tables, and their images.
use Rattle.std.proofs.Common.{◌≡◌, ℕ, Bool, true, false, ◌||◌, ◌==◌, cond, List, [], ◌∷◌, ◌++◌, map, Option, Some, None, option_and_then, refl, ap, sym, ◌∙◌, subst, eqb-true, eq-eqb, ⊎_elim}
use Rattle.std.specs.Prelude.{is_some, ◌↔◌}
use Rattle.std.specs.List.{AllByRecursion, Contains}
use Rattle.std.specs.List.Sorted.{IsStrictlySortedBy}
use Rattle.std.specs.Option.{option_map, unwrap_or}
use Rattle.std.specs.Ordering.{is_eq}
use Rattle.std.proofs.lemmas.Bool.{false≢true, or_left, or_right, or_cases}
use Rattle.std.proofs.lemmas.List.Folds.{list_any-append}
use Rattle.setl_value.specs.Datum.{Datum}
use Rattle.setl_value.specs.Order.{datum_cmp, IsRising}
use Rattle.setl_value.specs.OrderLaws.{same_if_eq, eq_iff_same}
use Rattle.setl_value.specs.Pairs.{pair, pair_parts, images}
use Rattle.setl_set.specs.Sets.{has_datum}
use Rattle.setl_set.specs.Laws.{RisingListsAgree, TestsMembership, Gathers}
use Rattle.setl_map.specs.Maps.{image, only}
use Rattle.setl_map.specs.Laws.{ImagesByPairs}
use Rattle.setl_base.specs.declared.Elt.{Elt}
use Rattle.setl_base.specs.Base.{BaseState, Member, IsBase, handle, member_at, value_in, value_of}
use Rattle.setl_rep_bases.specs.Bases.{BasesState}
use Rattle.setl_rep_forms.specs.Form.{Form, Entries, no_entry, entry_then}
use Rattle.setl_rep_forms.specs.Stands.{value_at, stands, pairs_in, pairs_of}
use Rattle.setl_rep_tables.specs.Tables.{content_in, IsKeyed, table_pairs, single_pairs, images_of, MembersOfTables, PairsOfTables, AllImagesOfTables, ImagesOfTables, NoImagesElsewhere}
use Rattle.setl_rep_tables.proofs.Seconds.{IsPair, rising_images}

some_same : {A : Type 0} {x y : A} → Some x ≡ Some y → x ≡ y
some_same p = cc

not_both : {A : Type 0} {x : A} → None ≡ Some x → ⊥
not_both p = cc

itself : (d : Datum) → is_eq (datum_cmp d d) ≡ true
itself d = (eq_iff_same d d).1 refl

has_append : (x : Datum) (xs ys : List Datum) → has_datum x (xs ++ ys) ≡ (has_datum x xs || has_datum x ys)
has_append x xs ys = list_any-append (λ e. is_eq (datum_cmp x e)) xs ys

-- ---- numbers of members

handle_at : (b : BaseState) (n : ℕ) (d : Datum) → value_at b n ≡ Some d → (e : Elt) × (e.block ≡ n) × (value_of b e ≡ Some d)
handle_at b n d p = by (member_at b n) refl p
  where
    by : (o : Option Member) → member_at b n ≡ o → option_map (λ m. m.value) o ≡ Some d → (e : Elt) × (e.block ≡ n) × (value_of b e ≡ Some d)
    by None q r = absurd (not_both r)
    by (Some m) q r = (handle n m, refl, ap (option_and_then (value_in m.generation)) q ∙ ap (λ t. cond t (Some m.value) None) (eq-eqb m.generation m.generation refl) ∙ r)

one_number : (b : BaseState) → IsBase b → (n k : ℕ) (d : Datum) → value_at b n ≡ Some d → value_at b k ≡ Some d → n ≡ k
one_number b base n k d p q =
    let e = handle_at b n d p in
    let f = handle_at b k d q in
    let same : e.0 ≡ f.0 = some_same (sym (base.found e.0 d e.2) ∙ base.found f.0 d f.2) in
    sym e.1 ∙ ap (λ (x : Elt). x.block) same ∙ f.1

-- ---- pairs

first_same : (x y a b : Datum) → pair x y ≡ pair a b → x ≡ a
first_same x y a b p = ap (λ d. unwrap_or (option_map (λ (q : Datum × Datum). q.0) (pair_parts d)) x) p

second_same : (x y a b : Datum) → pair x y ≡ pair a b → y ≡ b
second_same x y a b p = ap (λ d. unwrap_or (option_map (λ (q : Datum × Datum). q.1) (pair_parts d)) y) p

-- the pairs of x with each of these
of_map : (x : Datum) (ys : List Datum) (p : Datum) → has_datum p (map (pair x) ys) ≡ true → (w : Datum) × (has_datum w ys ≡ true) × (p ≡ pair x w)
of_map x [] p h = absurd (false≢true h)
of_map x (y ∷ ys) p h =
    ⊎_elim
    (λ e. (y, or_left (is_eq (datum_cmp y y)) (has_datum y ys) (itself y), same_if_eq p (pair x y) e))
    (λ r. let w = of_map x ys p r in (w.0, or_right (is_eq (datum_cmp w.0 y)) (has_datum w.0 ys) w.1, w.2))
    (or_cases (is_eq (datum_cmp p (pair x y))) (has_datum p (map (pair x) ys)) h)

in_map : (x : Datum) (ys : List Datum) (w : Datum) → has_datum w ys ≡ true → has_datum (pair x w) (map (pair x) ys) ≡ true
in_map x [] w h = absurd (false≢true h)
in_map x (y ∷ ys) w h =
    ⊎_elim
    (λ e. or_left (is_eq (datum_cmp (pair x w) (pair x y))) (has_datum (pair x w) (map (pair x) ys)) ((eq_iff_same (pair x w) (pair x y)).1 (ap (pair x) (same_if_eq w y e))))
    (λ r. or_right (is_eq (datum_cmp (pair x w) (pair x y))) (has_datum (pair x w) (map (pair x) ys)) (in_map x ys w r))
    (or_cases (is_eq (datum_cmp w y)) (has_datum w ys) h)

pairs_are : (many : Bool) (x : Datum) (y : Option Datum) → pairs_of many (Some x) y ≡ map (pair x) (images_of many y)
pairs_are false x None = refl
pairs_are true x None = refl
pairs_are false x (Some y) = refl
pairs_are true x (Some y) = refl

no_pairs : (many : Bool) (y : Option Datum) → pairs_of many None y ≡ []
no_pairs false y = refl
no_pairs true y = refl

-- a pair comes of an entry
record Comes (bs : BasesState) (b : BaseState) (many : Bool) (es : Entries) (p : Datum) : Type 0 where
  number : ℕ
  content : Form
  first : Datum
  second : Datum
  there : content_in es number ≡ Some content
  member : value_at b number ≡ Some first
  image : has_datum second (images_of many (stands bs content)) ≡ true
  is : p ≡ pair first second

-- what the pair of an entry is
of_entry : (many : Bool) (o y : Option Datum) (p : Datum) → has_datum p (pairs_of many o y) ≡ true → (z : Datum) × (w : Datum) × (o ≡ Some z) × (has_datum w (images_of many y) ≡ true) × (p ≡ pair z w)
of_entry many None y p h = absurd (false≢true (sym (ap (has_datum p) (no_pairs many y)) ∙ h))
of_entry many (Some z) y p h = let w = of_map z (images_of many y) p (sym (ap (has_datum p) (pairs_are many z y)) ∙ h) in (z, w.0, refl, w.1, w.2)

later : (es : Entries) (k n : ℕ) (c f : Form) → content_in es k ≡ None → content_in es n ≡ Some f → content_in (entry_then k c es) n ≡ Some f
later es k n c f none h = by (n == k) refl
  where
    by : (t : Bool) → (n == k) ≡ t → cond t (Some c) (content_in es n) ≡ Some f
    by true e = absurd (not_both (sym none ∙ ap (content_in es) (sym (eqb-true n k e)) ∙ h))
    by false e = h

comes : (bs : BasesState) (b : BaseState) (many : Bool) (es : Entries) (p : Datum) → IsKeyed es → has_datum p (pairs_in bs b many es) ≡ true → Comes bs b many es p
comes bs b many no_entry p k h = absurd (false≢true h)
comes bs b many (entry_then n c es) p k h =
    ⊎_elim
    (λ q. let e = of_entry many (value_at b n) (stands bs c) p q in
    record { number = n; content = c; first = e.0; second = e.1; there = ap (λ t. cond t (Some c) (content_in es n)) (eq-eqb n n refl); member = e.2; image = e.3; is = e.4 })
    (λ q. let r = comes bs b many es p k.1 q in
    record { number = r.number; content = r.content; first = r.first; second = r.second; there = later es n r.number c r.content k.0 r.there; member = r.member; image = r.image; is = r.is })
    (or_cases _ _ (sym (has_append p (pairs_of many (value_at b n) (stands bs c)) (pairs_in bs b many es)) ∙ h))

goes : (bs : BasesState) (b : BaseState) (many : Bool) (es : Entries) (n : ℕ) (f : Form) (z y : Datum) → content_in es n ≡ Some f → value_at b n ≡ Some z → has_datum y (images_of many (stands bs f)) ≡ true → has_datum (pair z y) (pairs_in bs b many es) ≡ true
goes bs b many no_entry n f z y c v s = absurd (not_both c)
goes bs b many (entry_then k e es) n f z y c v s = by (n == k) refl c (λ q. goes bs b many es n f z y q v s)
  where
    here : n ≡ k → e ≡ f → has_datum (pair z y) (pairs_of many (value_at b k) (stands bs e)) ≡ true
    here p q =
        ap (has_datum (pair z y)) ((λ i. pairs_of many ((ap (value_at b) (sym p) ∙ v) i) (stands bs (q i))) ∙ pairs_are many z (stands bs f))
        ∙ in_map z (images_of many (stands bs f)) y s

    by : (t : Bool) → (n == k) ≡ t → cond t (Some e) (content_in es n) ≡ Some f → (content_in es n ≡ Some f → has_datum (pair z y) (pairs_in bs b many es) ≡ true) → has_datum (pair z y) (pairs_of many (value_at b k) (stands bs e) ++ pairs_in bs b many es) ≡ true
    by true p q more = has_append (pair z y) (pairs_of many (value_at b k) (stands bs e)) (pairs_in bs b many es) ∙ or_left _ (has_datum (pair z y) (pairs_in bs b many es)) (here (eqb-true n k p) (some_same q))
    by false p q more = has_append (pair z y) (pairs_of many (value_at b k) (stands bs e)) (pairs_in bs b many es) ∙ or_right (has_datum (pair z y) (pairs_of many (value_at b k) (stands bs e))) _ (more q)

-- the one image in a content
one_image : (o : Option Datum) (y : Datum) → has_datum y (images_of false o) ≡ true → o ≡ Some y
one_image None y h = absurd (false≢true h)
one_image (Some z) y h = ⊎_elim (λ e. ap (λ d. Some d) (sym (same_if_eq y z e))) (λ f. absurd (false≢true f)) (or_cases (is_eq (datum_cmp y z)) false h)

has_one : (o : Option Datum) (y : Datum) → o ≡ Some y → has_datum y (images_of false o) ≡ true
has_one o y p = ap (λ q. has_datum y (images_of false q)) p ∙ or_left (is_eq (datum_cmp y y)) false (itself y)

only_one : (o : Option Datum) → only (images_of false o) ≡ o
only_one None = refl
only_one (Some y) = refl

module _ (alike : RisingListsAgree) (tests : TestsMembership) (gathers : Gathers) where
  in_table : (bs : BasesState) (b : BaseState) (many : Bool) (es : Entries) (p : Datum) → IsKeyed es → Contains (table_pairs bs b many es) p → Comes bs b many es p
  in_table bs b many es p k h = comes bs b many es p k ((tests p (pairs_in bs b many es)).1 (((gathers (pairs_in bs b many es)).members p).0 h))

  table_has : (bs : BasesState) (b : BaseState) (many : Bool) (es : Entries) (n : ℕ) (f : Form) (z y : Datum) → content_in es n ≡ Some f → value_at b n ≡ Some z → has_datum y (images_of many (stands bs f)) ≡ true → Contains (table_pairs bs b many es) (pair z y)
  table_has bs b many es n f z y c v s = ((gathers (pairs_in bs b many es)).members (pair z y)).1 ((tests (pair z y) (pairs_in bs b many es)).0 (goes bs b many es n f z y c v s))

  pub members_of_tables : MembersOfTables
  members_of_tables bs b many es p k = (
    λ h. let c = in_table bs b many es p k h in (c.number, c.content, c.first, c.second, c.there, c.member, c.image, c.is),
    λ h. subst (Contains (table_pairs bs b many es)) (sym h.7) (table_has bs b many es h.0 h.1 h.2 h.3 h.4 h.5 h.6),
  )

  pub pairs_of_tables : PairsOfTables
  pairs_of_tables bs b es p k = (
    λ h. let c = in_table bs b false es p k h in (c.number, c.content, c.first, c.second, c.there, c.member, one_image (stands bs c.content) c.second c.image, c.is),
    λ h. subst (Contains (single_pairs bs b es)) (sym h.7) (table_has bs b false es h.0 h.1 h.2 h.3 h.4 h.5 (has_one (stands bs h.1) h.3 h.6)),
  )

  -- all are pairs
  each_pair : (P : Datum → Type 0) (ds : List Datum) → ((d : Datum) → has_datum d ds ≡ true → P d) → AllByRecursion P ds
  each_pair P [] h = tt
  each_pair P (d ∷ ds) h = (h d (or_left (is_eq (datum_cmp d d)) (has_datum d ds) (itself d)), each_pair P ds (λ e r. h e (or_right (is_eq (datum_cmp e d)) (has_datum e ds) r)))

  are_pairs : (bs : BasesState) (b : BaseState) (many : Bool) (es : Entries) → IsKeyed es → AllByRecursion IsPair (table_pairs bs b many es)
  are_pairs bs b many es k = each_pair IsPair (table_pairs bs b many es) (λ d h. let c = in_table bs b many es d k ((tests d (table_pairs bs b many es)).0 h) in ap (λ p. is_some (pair_parts p)) c.is)

  rising_table : (bs : BasesState) (b : BaseState) (many : Bool) (es : Entries) (x : Datum) → IsKeyed es → IsRising (images x (table_pairs bs b many es))
  rising_table bs b many es x k = rising_images x (table_pairs bs b many es) (are_pairs bs b many es k) (gathers (pairs_in bs b many es)).rising

  no_rise : IsRising []
  unfolding IsStrictlySortedBy
  no_rise = tt

  one_rises : (o : Option Datum) → IsRising (images_of false o)
  unfolding IsStrictlySortedBy
  one_rises None = tt
  one_rises (Some y) = (tt, tt)

  none_contained : (d : Datum) → Contains [] d → ⊥
  none_contained d c = false≢true ((tests d []).1 c)

  module _ (by_pairs : ImagesByPairs) where
    pub all_images_of_tables : AllImagesOfTables
    all_images_of_tables bs b many es x n base k v rises =
        alike (images x (table_pairs bs b many es)) (images_of many (option_and_then (stands bs) (content_in es n))) (rising_table bs b many es x k) rises (λ z. (here z, there z (content_in es n) refl))
      where
        here : (z : Datum) → Contains (images x (table_pairs bs b many es)) z → Contains (images_of many (option_and_then (stands bs) (content_in es n))) z
        here z c =
            let e = in_table bs b many es (pair x z) k ((by_pairs x z (table_pairs bs b many es)).0 c) in
            let same : x ≡ e.first = first_same x z e.first e.second e.is in
            let number : e.number ≡ n = one_number b base e.number n x (e.member ∙ ap (λ d. Some d) (sym same)) v in
            let content : content_in es n ≡ Some e.content = ap (content_in es) (sym number) ∙ e.there in
            (tests z (images_of many (option_and_then (stands bs) (content_in es n)))).0
            (ap (λ o. has_datum z (images_of many (option_and_then (stands bs) o))) content
            ∙ ap (λ d. has_datum d (images_of many (stands bs e.content))) (second_same x z e.first e.second e.is)
            ∙ e.image)

        there : (z : Datum) (o : Option Form) → content_in es n ≡ o → Contains (images_of many (option_and_then (stands bs) o)) z → Contains (images x (table_pairs bs b many es)) z
        there z None p c = absurd (false≢true ((tests z []).1 c))
        there z (Some f) p c = (by_pairs x z (table_pairs bs b many es)).1 (table_has bs b many es n f x z p v ((tests z (images_of many (stands bs f))).1 c))

    pub images_of_tables : ImagesOfTables
    images_of_tables bs b es x n base k over v =
        let o = option_and_then (stands bs) (content_in es n) in
        ap only (all_images_of_tables bs b false es x n base k v (one_rises o)) ∙ only_one o

    pub no_images_elsewhere : NoImagesElsewhere
    no_images_elsewhere bs b many es x base k none = alike (images x (table_pairs bs b many es)) [] (rising_table bs b many es x k) no_rise (λ z. (
      λ c.
          let e = in_table bs b many es (pair x z) k ((by_pairs x z (table_pairs bs b many es)).0 c) in
          let same : x ≡ e.first = first_same x z e.first e.second e.is in
          let h = handle_at b e.number x (e.member ∙ ap (λ d. Some d) (sym same)) in
          absurd (not_both (sym none ∙ base.found h.0 x h.2)),
      λ c. absurd (none_contained z c),
    ))
