-- Tables under construction.
use Rattle.std.proofs.Common.{◌≡◌, ℕ, Bool, true, false, ◌==◌, nat_eq, cond, List, [], ◌∷◌, Option, Some, None, refl, ap, sym, ◌∙◌, subst, eqb-true, eq-eqb, ⊎_elim, inl, inr, ◌⊎◌}
use Rattle.std.specs.List.{Contains}
use Rattle.std.specs.Option.{IsSome, is_some}
use Rattle.std.specs.Ordering.{is_eq}
use Rattle.std.proofs.lemmas.Bool.{false≢true, or_cases, and_parts}
use Rattle.setl_value.specs.Datum.{Datum, set_of}
use Rattle.setl_value.specs.Order.{datum_cmp, IsRising}
use Rattle.setl_value.specs.OrderLaws.{same_if_eq}
use Rattle.setl_value.specs.Pairs.{pair, pair_parts, is_map, images}
use Rattle.setl_set.specs.Sets.{has_datum}
use Rattle.setl_set.specs.Laws.{RisingListsAgree, TestsMembership, Gathers}
use Rattle.setl_map.specs.Laws.{ImagesByPairs}
use Rattle.setl_map.specs.Maps.{domain_of}
use Rattle.setl_modes.specs.Modes.{Mode, General, Integers, Strings, Booleans, Atoms, Elements, Sets, Tuples, SingleMaps, MultiMaps}
use Rattle.setl_base.specs.Base.{BaseState}
use Rattle.setl_rep_bases.specs.declared.BaseId.{BaseId}
use Rattle.setl_rep_bases.specs.Bases.{BasesState, base_at, IsThere}
use Rattle.setl_rep_forms.specs.Form.{Form, Layout, Entries, no_entry, entry_then, table}
use Rattle.setl_rep_forms.specs.Stands.{value_at, stands, pairs_in, AreOver, IsOver, IsContent}
use Rattle.setl_rep_tables.specs.Tables.{content_in, images_of, table_pairs, IsKeyed, MembersOfTables}
use Rattle.setl_rep_building.specs.Contents.{IsContentOf, PutsEntry}
use Rattle.setl_rep_building.specs.HasForm.{HasForm, HaveForms, IsMapForm, keeps_sets, content_mode, table_of}
use Rattle.setl_rep_building.proofs.Facts.{some_same, not_both, has_first, has_later, pair_from}
use Rattle.setl_rep_building.proofs.Fitting.{to_domain, to_images, from_images}

-- ---- keyed entries

later : (es : Entries) (k n : ℕ) (c f : Form) → content_in es k ≡ None → content_in es n ≡ Some f → content_in (entry_then k c es) n ≡ Some f
later es k n c f none h = by (n == k) refl
  where
    by : (t : Bool) → (n == k) ≡ t → cond t (Some c) (content_in es n) ≡ Some f
    by true e = absurd (not_both (sym none ∙ ap (content_in es) (sym (eqb-true n k e)) ∙ h))
    by false e = h

first : (es : Entries) (n : ℕ) (c : Form) → content_in (entry_then n c es) n ≡ Some c
first es n c = ap (λ t. cond t (Some c) (content_in es n)) (eq-eqb n n refl)

-- what is true of each content is true of all entries
over_all : (bs : BasesState) (b : BaseState) (many : Bool) (es : Entries) → IsKeyed es → ((n : ℕ) (f : Form) → content_in es n ≡ Some f → IsSome (value_at b n) × IsOver bs f × IsContent many (stands bs f)) → AreOver bs b many es
over_all bs b many no_entry k h = tt
over_all bs b many (entry_then n c es) k h =
    let here = h n c (first es n c) in
    (here.0, here.1, here.2, over_all bs b many es k.1 (λ m f p. h m f (later es n m c f k.0 p)))

form_all : (P : Form → Type 0) (es : Entries) → IsKeyed es → ((n : ℕ) (f : Form) → content_in es n ≡ Some f → P f) → HaveForms P es
form_all P no_entry k h = tt
form_all P (entry_then n c es) k h = (h n c (first es n c), form_all P es k.1 (λ m f p. h m f (later es n m c f k.0 p)))

-- ---- a table under construction

-- the number n has the content f, which is one for the point of that number
pub record IsFilled (bs : BasesState) (name : ℕ → BaseId) (b : BaseState) (m : Mode) (ds : List Datum) (n : ℕ) (f : Form) : Type 0 where
  pub point : Datum
  pub there : has_datum point (domain_of ds) ≡ true
  pub member : value_at b n ≡ Some point
  pub is : IsContentOf bs name m ds point f

abbrev HasContent : BaseState → Entries → Datum → Type 0
HasContent b es x = (n : ℕ) × (f : Form) × (content_in es n ≡ Some f) × (value_at b n ≡ Some x)

-- the table has a content for each point of the map ds that isn't still to come
pub record IsTabled (bs : BasesState) (name : ℕ → BaseId) (b : BaseState) (m : Mode) (ds : List Datum) (es : Entries) (rest : List Datum) : Type 0 where
  pub from : (n : ℕ) (f : Form) → content_in es n ≡ Some f → IsFilled bs name b m ds n f
  pub to : (x : Datum) → has_datum x (domain_of ds) ≡ true → (has_datum x rest ≡ true) ⊎ HasContent b es x
  pub within : (x : Datum) → has_datum x rest ≡ true → has_datum x (domain_of ds) ≡ true

pub starts : (bs : BasesState) (name : ℕ → BaseId) (b : BaseState) (m : Mode) (ds : List Datum) → IsTabled bs name b m ds no_entry (domain_of ds)
starts bs name b m ds = record { from = λ n f p. absurd (not_both p); to = λ x h. inl h; within = λ x h. h }

pub goes_on : (bs : BasesState) (name : ℕ → BaseId) (b : BaseState) (m : Mode) (ds : List Datum) (x : Datum) (n : ℕ) (f : Form) (old new : Entries) (rest : List Datum)
    → value_at b n ≡ Some x → IsContentOf bs name m ds x f → PutsEntry n f old new → IsTabled bs name b m ds old (x ∷ rest) → IsTabled bs name b m ds new rest
goes_on bs name b m ds x n f old new rest at content put h = record {
  from = λ k g q. come k g (nat_eq n k) refl q;
  to = λ y q. ⊎_elim (λ l. this y (or_cases (is_eq (datum_cmp y x)) (has_datum y rest) l)) (λ e. inr (kept y e (nat_eq n e.0) refl)) (h.to y q);
  within = λ y q. h.within y (has_later y x rest q);
}
  where
    new_content : content_in new n ≡ Some f
    new_content = put n ∙ ap (λ t. cond t (Some f) (content_in old n)) (eq-eqb n n refl)

    come : (k : ℕ) (g : Form) (t : Bool) → nat_eq n k ≡ t → content_in new k ≡ Some g → IsFilled bs name b m ds k g
    come k g true e q =
        let same : f ≡ g = some_same (sym (put k ∙ ap (λ t. cond t (Some f) (content_in old k)) e) ∙ q) in
        record { point = x; there = h.within x (has_first x rest); member = ap (value_at b) (sym (eqb-true n k e)) ∙ at; is = subst (λ c. IsContentOf bs name m ds x c) same content }
    come k g false e q = h.from k g (sym (put k ∙ ap (λ t. cond t (Some f) (content_in old k)) e) ∙ q)

    this : (y : Datum) → (is_eq (datum_cmp y x) ≡ true) ⊎ (has_datum y rest ≡ true) → (has_datum y rest ≡ true) ⊎ HasContent b new y
    this y (inl e) = inr (n, f, new_content, at ∙ ap (λ d. Some d) (sym (same_if_eq y x e)))
    this y (inr l) = inl l

    kept : (y : Datum) → (e : HasContent b old y) → (t : Bool) → nat_eq n e.0 ≡ t → HasContent b new y
    kept y e true p = (n, f, new_content, ap (value_at b) (eqb-true n e.0 p) ∙ e.3)
    kept y e false p = (e.0, e.1, put e.0 ∙ ap (λ t. cond t (Some f) (content_in old e.0)) p ∙ e.2, e.3)

-- ---- a table that is done

pub contents_over : (bs : BasesState) (name : ℕ → BaseId) (b : BaseState) (m : Mode) (ds : List Datum) (es : Entries) (rest : List Datum) → IsTabled bs name b m ds es rest → IsKeyed es → AreOver bs b (keeps_sets m) es
contents_over bs name b m ds es rest h k = over_all bs b (keeps_sets m) es k (λ n f p. let s = h.from n f p in
    (subst (λ o. IsSome o) (sym s.member) refl, s.is.over, subst (λ o. IsContent (keeps_sets m) o) (sym s.is.is) s.is.content))

pub contents_formed : (bs : BasesState) (name : ℕ → BaseId) (b : BaseState) (m : Mode) (ds : List Datum) (es : Entries) (rest : List Datum) → IsTabled bs name b m ds es rest → IsKeyed es → HaveForms (HasForm name (content_mode m)) es
contents_formed bs name b m ds es rest h k = form_all (HasForm name (content_mode m)) es k (λ n f p. (h.from n f p).is.form)

pair_there : (ds : List Datum) (p : Datum) → is_map ds ≡ true → has_datum p ds ≡ true → (x : Datum) × (y : Datum) × (p ≡ pair x y)
pair_there [] p m h = absurd (false≢true h)
pair_there (d ∷ ds) p m h =
    let parts = and_parts (is_some (pair_parts d)) (is_map ds) m in
    ⊎_elim (λ s. by (pair_parts p) refl (ap (λ q. is_some (pair_parts q)) (same_if_eq p d s) ∙ parts.0)) (λ r. pair_there ds p parts.1 r) (or_cases (is_eq (datum_cmp p d)) (has_datum p ds) h)
  where
    by : (o : Option (Datum × Datum)) → pair_parts p ≡ o → is_some o ≡ true → (x : Datum) × (y : Datum) × (p ≡ pair x y)
    by None e s = absurd (false≢true s)
    by (Some q) e s = (q.0, q.1, pair_from p q.0 q.1 e)

pub ends : RisingListsAgree → TestsMembership → Gathers → ImagesByPairs → MembersOfTables → (bs : BasesState) (name : ℕ → BaseId) (b : BaseState) (m : Mode) (ds : List Datum) (es : Entries) (rest : List Datum)
    → rest ≡ [] → IsRising ds → is_map ds ≡ true → IsTabled bs name b m ds es rest → IsKeyed es → table_pairs bs b (keeps_sets m) es ≡ ds
ends alike tests gathers by_pairs members bs name b m ds es rest none rising pairs h k =
    alike (table_pairs bs b (keeps_sets m) es) ds (gathers (pairs_in bs b (keeps_sets m) es)).rising rising (λ p. (λ c. comes p ((members bs b (keeps_sets m) es p k).0 c), λ c. goes p ((tests p ds).1 c) (pair_there ds p pairs ((tests p ds).1 c))))
  where
    images_at : (x : Datum) (f : Form) → IsContentOf bs name m ds x f → images_of (keeps_sets m) (stands bs f) ≡ images x ds
    images_at x f c = ap (images_of (keeps_sets m)) c.is ∙ c.images

    comes : (p : Datum) → ((n : ℕ) × (c : Form) × (z : Datum) × (y : Datum) × (content_in es n ≡ Some c) × (value_at b n ≡ Some z) × (has_datum y (images_of (keeps_sets m) (stands bs c)) ≡ true) × (p ≡ pair z y)) → Contains ds p
    comes p e =
        let s = h.from e.0 e.1 e.4 in
        let same : s.point ≡ e.2 = some_same (sym s.member ∙ e.5) in
        let there : has_datum (pair s.point e.3) ds ≡ true = from_images tests by_pairs s.point e.3 ds (ap (has_datum e.3) (sym (images_at s.point e.1 s.is)) ∙ e.6) in
        (tests p ds).0 (subst (λ d. has_datum d ds ≡ true) (ap (λ z. pair z e.3) same ∙ sym e.7) there)

    goes : (p : Datum) → has_datum p ds ≡ true → ((x : Datum) × (y : Datum) × (p ≡ pair x y)) → Contains (table_pairs bs b (keeps_sets m) es) p
    goes p q e =
        let there : has_datum (pair e.0 e.1) ds ≡ true = subst (λ d. has_datum d ds ≡ true) e.2 q in
        ⊎_elim
        (λ l. absurd (false≢true (ap (has_datum e.0) (sym none) ∙ l)))
        (λ c.
        let s = h.from c.0 c.1 c.2 in
        let same : s.point ≡ e.0 = some_same (sym s.member ∙ c.3) in
        (members bs b (keeps_sets m) es p k).1 (c.0, c.1, e.0, e.1, c.2, c.3, ap (has_datum e.1) (images_at s.point c.1 s.is ∙ ap (λ z. images z ds) same) ∙ to_images tests by_pairs e.0 e.1 ds there, e.2))
        (h.to e.0 (to_domain tests gathers e.0 e.1 ds there))

-- ---- the form of a table

pub table_formed : (name : ℕ → BaseId) (m : Mode) (l : Layout) (b : ℕ) (es : Entries) → table_of m ≡ Some (l, b) → HaveForms (HasForm name (content_mode m)) es → HasForm name m (table l (name b) (keeps_sets m) es)
table_formed name (SingleMaps a d r) l b es p h = subst (λ o. IsMapForm name o false (HasForm name r) (table l (name b) false es)) (sym p) (refl, refl, refl, h)
table_formed name (MultiMaps a d s) l b es p h = subst (λ o. IsMapForm name o true (HasForm name s) (table l (name b) true es)) (sym p) (refl, refl, refl, h)
table_formed name General l b es p h = absurd (not_both p)
table_formed name Integers l b es p h = absurd (not_both p)
table_formed name Strings l b es p h = absurd (not_both p)
table_formed name Booleans l b es p h = absurd (not_both p)
table_formed name Atoms l b es p h = absurd (not_both p)
table_formed name (Elements c m) l b es p h = absurd (not_both p)
table_formed name (Sets a m) l b es p h = absurd (not_both p)
table_formed name (Tuples m) l b es p h = absurd (not_both p)

pub table_done : (bs : BasesState) (name : ℕ → BaseId) (m : Mode) (l : Layout) (b : ℕ) (ds : List Datum) (es : Entries) (f : Form)
    → f ≡ table l (name b) (keeps_sets m) es → table_of m ≡ Some (l, b) → IsThere bs (name b) → AreOver bs (base_at bs (name b)) (keeps_sets m) es
    → table_pairs bs (base_at bs (name b)) (keeps_sets m) es ≡ ds → HaveForms (HasForm name (content_mode m)) es
    → IsOver bs f × (stands bs f ≡ Some (set_of ds)) × HasForm name m f
table_done bs name m l b ds es f e t there over pairs forms = (
  subst (IsOver bs) (sym e) (there, over),
  ap (stands bs) e ∙ ap (λ ps. Some (set_of ps)) pairs,
  subst (HasForm name m) (sym e) (table_formed name m l b es t forms),
)

-- the form that is made of a table that is done
pub table_ends : RisingListsAgree → TestsMembership → Gathers → ImagesByPairs → MembersOfTables → (bs : BasesState) (name : ℕ → BaseId) (m : Mode) (l : Layout) (b : ℕ) (ds : List Datum) (es : Entries) (rest : List Datum)
    → rest ≡ [] → IsRising ds → is_map ds ≡ true → IsTabled bs name (base_at bs (name b)) m ds es rest → IsKeyed es → table_of m ≡ Some (l, b) → IsThere bs (name b)
    → (k : Layout) (i : BaseId) (many : Bool) → k ≡ l → i ≡ name b → many ≡ keeps_sets m → (f : Form) → f ≡ table k i many es
    → IsOver bs f × (stands bs f ≡ Some (set_of ds)) × HasForm name m f
table_ends alike tests gathers by_pairs members bs name m l b ds es rest none rising pairs h keyed t there k i many p q r f e =
    table_done bs name m l b ds es f (e ∙ (λ j. table (p j) (q j) (r j) es)) t there (contents_over bs name (base_at bs (name b)) m ds es rest h keyed)
    (ends alike tests gathers by_pairs members bs name (base_at bs (name b)) m ds es rest none rising pairs h keyed)
    (contents_formed bs name (base_at bs (name b)) m ds es rest h keyed)
