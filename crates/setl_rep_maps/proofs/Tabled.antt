-- The contents of tables, and the images in them.
use Rattle.std.proofs.Common.{◌≡◌, ◌∙◌, ℕ, ◌==◌, Bool, true, false, cond, [], Option, None, Some, IsSome, option_and_then, refl, sym, ap, subst, eqb-true, eq-eqb}
use Rattle.std.proofs.lemmas.Bool.{or_left}
use Rattle.std.specs.List.Sorted.{IsStrictlySortedBy}
use Rattle.std.specs.Ordering.{is_eq}
use Rattle.setl_value.specs.Datum.{Datum, set, element_then, element_list}
use Rattle.setl_value.specs.Order.{datum_cmp, IsRising}
use Rattle.setl_set.specs.Sets.{has_datum}
use Rattle.setl_map.specs.Maps.{image}
use Rattle.setl_base.specs.Base.{BaseState, IsBase, find}
use Rattle.setl_rep_bases.specs.declared.BaseId.{BaseId}
use Rattle.setl_rep_bases.specs.Bases.{BasesState, base_at, IsThere}
use Rattle.setl_rep_forms.specs.Form.{Form, Entries, no_entry, entry_then, table}
use Rattle.setl_rep_forms.specs.Stands.{value_at, stands, IsOver, AreOver, IsContent}
use Rattle.setl_rep_tables.specs.Tables.{content_in, IsKeyed, images_of, AllImagesOfTables, ImagesOfTables, NoImagesElsewhere as NothingOfTables}
use Rattle.setl_rep_maps.specs.Contents.{table_of, HasBase, IsPoint, map_pairs, images_from}
use Rattle.setl_rep_maps.specs.Laws.{StandsForPairs, ContentsStandForImages, SingleContentsStandForImages, NoImagesElsewhere}
use Rattle.setl_rep_maps.proofs.Members.{some_same, not_both, itself}

pub stands_for_pairs : StandsForPairs
stands_for_pairs bs (table layout b many es) t = refl
stands_for_pairs bs f t = absurd t

-- ---- a content is over the bases

abbrev pub IsContentOver : BasesState → BaseState → Bool → ℕ → Form → Type 0
IsContentOver bs b many n c = IsSome (value_at b n) × IsOver bs c × IsContent many (stands bs c)

pub content_over : (bs : BasesState) (b : BaseState) (many : Bool) (es : Entries) (n : ℕ) (c : Form) → AreOver bs b many es → content_in es n ≡ Some c → IsContentOver bs b many n c
content_over bs b many no_entry n c o h = absurd (not_both h)
content_over bs b many (entry_then k f es) n c o h = by (n == k) refl h (content_over bs b many es n c o.3)
  where
    by : (t : Bool) → (n == k) ≡ t → cond t (Some f) (content_in es n) ≡ Some c → (content_in es n ≡ Some c → IsContentOver bs b many n c) → IsContentOver bs b many n c
    by true e q rest =
        let same : k ≡ n = sym (eqb-true n k e) in
        subst (IsContentOver bs b many n) (some_same q) (subst (λ j. IsContentOver bs b many j f) same (o.0, o.1, o.2))
    by false e q rest = rest q

pub later : (es : Entries) (k n : ℕ) (c f : Form) → content_in es k ≡ None → content_in es n ≡ Some f → content_in (entry_then k c es) n ≡ Some f
later es k n c f none h = by (n == k) refl
  where
    by : (t : Bool) → (n == k) ≡ t → cond t (Some c) (content_in es n) ≡ Some f
    by true e = absurd (not_both (sym none ∙ ap (content_in es) (sym (eqb-true n k e)) ∙ h))
    by false e = h

pub over_from : (bs : BasesState) (b : BaseState) (many : Bool) (es : Entries) → IsKeyed es → ((n : ℕ) (c : Form) → content_in es n ≡ Some c → IsContentOver bs b many n c) → AreOver bs b many es
over_from bs b many no_entry k h = tt
over_from bs b many (entry_then n c es) k h =
    let first = h n c (ap (λ t. cond t (Some c) (content_in es n)) (eq-eqb n n refl)) in
    (first.0, first.1, first.2, over_from bs b many es k.1 (λ q f e. h q f (later es n q c f k.0 e)))

-- ---- the images of a content

pub images_rise : (many : Bool) (o : Option Datum) → IsContent many o → IsRising (images_of many o)
unfolding IsStrictlySortedBy
images_rise many None h = absurd h
images_rise false (Some d) h = (tt, tt)
images_rise true (Some (set (element_then d ms))) h = h
images_rise true (Some d) h = absurd h

-- a content has an image
pub has_image : (many : Bool) (o : Option Datum) → IsContent many o → (y : Datum) × (has_datum y (images_of many o) ≡ true)
has_image many None h = absurd h
has_image false (Some d) h = (d, or_left (is_eq (datum_cmp d d)) false (itself d))
has_image true (Some (set (element_then d ms))) h = (d, or_left (is_eq (datum_cmp d d)) (has_datum d (element_list ms)) (itself d))
has_image true (Some d) h = absurd h

none_rise : (many : Bool) → IsRising (images_of many None)
unfolding IsStrictlySortedBy
none_rise false = tt
none_rise true = tt

pub contents_rise : (bs : BasesState) (b : BaseState) (many : Bool) (es : Entries) (n : ℕ) → AreOver bs b many es → IsRising (images_of many (option_and_then (stands bs) (content_in es n)))
contents_rise bs b many es n o = by (content_in es n) refl
  where
    by : (c : Option Form) → content_in es n ≡ c → IsRising (images_of many (option_and_then (stands bs) c))
    by None e = none_rise many
    by (Some c) e = images_rise many (stands bs c) (content_over bs b many es n c o e).2

abbrev pub IsTableOn : Form → BaseId → Bool → Type 0
IsTableOn (table layout b many es) c s = (b ≡ c) × (many ≡ s)
IsTableOn f c s = ⊥

pub contents_stand : AllImagesOfTables → ContentsStandForImages
contents_stand all bs (table layout b many es) n x o k base p = all bs (base_at bs b) many es x n base k p (contents_rise bs (base_at bs b) many es n o.1)
contents_stand all bs f n x o k base p = absurd p

pub many_of : (bs : BasesState) (f : Form) (c : BaseId) (s : Bool) → table_of f ≡ Some (c, s) → IsTableOn f c s
many_of bs (table layout b many es) c s h = (ap (λ (q : BaseId × Bool). q.0) (some_same h), ap (λ (q : BaseId × Bool). q.1) (some_same h))
many_of bs f c s h = absurd (not_both h)

pub single_contents_stand : ImagesOfTables → SingleContentsStandForImages
single_contents_stand all bs (table layout b many es) c n x t o k base p =
    let m : many ≡ false = (many_of bs (table layout b many es) c false t).1 in
    ap (λ s. image x (map_pairs bs (table layout b s es))) m ∙ all bs (base_at bs b) es x n base k (subst (λ s. AreOver bs (base_at bs b) s es) m o.1) p
single_contents_stand all bs f c n x t o k base p = absurd p

pub none_elsewhere : NothingOfTables → NoImagesElsewhere
none_elsewhere all bs (table layout b many es) c s x t k base h =
    let same : b ≡ c = (many_of bs (table layout b many es) c s t).0 in
    all bs (base_at bs b) many es x base k (ap (λ i. find (base_at bs i) x) same ∙ h)
none_elsewhere all bs f c s x t k base h = absurd (not_both t)

-- ---- a map on a base

pub base_there : (bs : BasesState) (f : Form) (c : BaseId) (s : Bool) → table_of f ≡ Some (c, s) → IsOver bs f → IsThere bs c
base_there bs (table layout b many es) c s t o = subst (IsThere bs) (many_of bs (table layout b many es) c s t).0 o.0
base_there bs f c s t o = absurd (not_both t)

pub has_base : (bs : BasesState) (f : Form) (c : BaseId) (s : Bool) → table_of f ≡ Some (c, s) → IsBase (base_at bs c) → HasBase bs f
has_base bs (table layout b many es) c s t h = subst (λ i. IsBase (base_at bs i)) (sym (many_of bs (table layout b many es) c s t).0) h
has_base bs f c s t h = absurd (not_both t)

pub is_point : (bs : BasesState) (f : Form) (c : BaseId) (s : Bool) (n : ℕ) (x : Datum) → table_of f ≡ Some (c, s) → value_at (base_at bs c) n ≡ Some x → IsPoint bs f n x
is_point bs (table layout b many es) c s n x t h = ap (λ i. value_at (base_at bs i) n) (many_of bs (table layout b many es) c s t).0 ∙ h
is_point bs f c s n x t h = absurd (not_both t)

pub no_images : (bs : BasesState) (f : Form) → [] ≡ images_from bs f None
no_images bs (table layout b true es) = refl
no_images bs (table layout b false es) = refl
no_images bs f = refl
