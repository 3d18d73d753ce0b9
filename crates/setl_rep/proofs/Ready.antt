-- Sets that are held in the form of a mode already.
use Rattle.std.proofs.Common.{◌≡◌, ◌∙◌, ℕ, zero, suc, ◌≤◌, length, drop, arith, Bool, true, false, ◌&&◌, ◌||◌, ◌==◌, inr, cond, List, [], ◌∷◌, ◌++◌, Option, None, Some, IsSome, refl, sym, ap, subst, eqb-true}
use Rattle.std.specs.Bool.{if◌then◌else◌}
use Rattle.std.specs.List.{flat_map, filter_map, list_all}
use Rattle.std.specs.Option.{option_map}
use Rattle.std.specs.Ordering.{nat_cmp, is_eq}
use Rattle.std.specs.declared.cmp.Ordering.{Ordering}
use Rattle.std.specs.declared.cmp.Ordering.TheVariants.{Less, Equal, Greater}
use Rattle.std.specs.FinSet as set
use Rattle.std.proofs.lemmas.Bool.{false≢true, and_parts, and_from}
use Rattle.setl_value.specs.Datum.{Datum, bool, set_of, element_list-elements_of}
use Rattle.setl_value.specs.Order.{datum_cmp}
use Rattle.setl_set.specs.Sets.{has_datum, insert_datum, insert_by, set_from}
use Rattle.setl_modes.specs.declared.mode.Form.{Form as Attribute}
use Rattle.setl_modes.specs.Fits.{datum_fits}
use Rattle.setl_modes.specs.Modes.{Mode, General, Elements, Sets}
use Rattle.setl_modes_places.specs.Places.{elements_at}
use Rattle.setl_base.specs.Base.{BaseState, IsBase, find}
use Rattle.setl_rep_bases.specs.declared.BaseId.{BaseId}
use Rattle.setl_rep_bases.specs.declared.tables.Instance.{Instance}
use Rattle.setl_rep_bases.specs.Bases.{BasesState, base_at, instance_at, named}
use Rattle.setl_rep_forms.specs.Form.{Layout, numbers}
use Rattle.setl_rep_forms.specs.Laws.{MembersAreTestedByNumber, MembersOfLists}
use Rattle.setl_rep_forms.specs.Stands.{members_at, value_at}
use Rattle.setl_rep_building.specs.HasForm.{layout_of, placed, IsSetForm}
use Rattle.setl_rep_entering.specs.Entering.{AreLengthened, is_named, places_in, with_values, lengthened_by}
use Rattle.setl_rep_entering.specs.Laws.{PlacesAreFound, PartsLengthenAlike}
use Rattle.setl_rep.specs.OwnForm.{IsReady}

-- ---- all members

all_inserted : (p : Datum → Bool) (d : Datum) (es : List Datum) → p d ≡ true → list_all p es ≡ true → list_all p (insert_datum d es) ≡ true
all_inserted p d [] h a = and_from (p d) true h refl
all_inserted p d (e ∷ es) h a = by (datum_cmp d e) (all_inserted p d es h (and_parts (p e) (list_all p es) a).1)
  where
    by : (o : Ordering) → list_all p (insert_datum d es) ≡ true → list_all p (insert_by o d e es (insert_datum d es)) ≡ true
    by Less r = and_from (p d) (list_all p (e ∷ es)) h a
    by Equal r = a
    by Greater r = and_from (p e) (list_all p (insert_datum d es)) (and_parts (p e) (list_all p es) a).0 r

all_gathered : (p : Datum → Bool) (ds : List Datum) → list_all p ds ≡ true → list_all p (set_from ds) ≡ true
all_gathered p [] h = refl
all_gathered p (d ∷ ds) h = let q = and_parts (p d) (list_all p ds) h in all_inserted p d (set_from ds) q.0 (all_gathered p ds q.1)

-- the members at the numbers of a list, where those of the list pass a test
pub all_in_set : MembersOfLists → (p : Datum → Bool) (b : BaseState) (ns : List ℕ) → list_all p (filter_map (value_at b) ns) ≡ true → list_all p (members_at b (set.from_list ns)) ≡ true
all_in_set lists p b ns h = ap (list_all p) (lists b ns) ∙ all_gathered p (filter_map (value_at b) ns) h

-- ---- places

has_elements : (b c : ℕ) (k : Mode) (x : Datum) (ds : List Datum) → has_datum x (flat_map (elements_at b (Elements c k)) ds) ≡ ((c == b) && has_datum x ds)
has_elements b c k x ds = by (c == b) ds
  where
    by : (t : Bool) (ds : List Datum) → has_datum x (flat_map (λ d. cond t (d ∷ []) []) ds) ≡ (t && has_datum x ds)
    by true [] = refl
    by true (d ∷ ds) = ap (λ a. is_eq (datum_cmp x d) || a) (by true ds)
    by false [] = refl
    by false (d ∷ ds) = by false ds

has_place : (b : ℕ) (a : Attribute) (c : ℕ) (k : Mode) (x : Datum) (ds : List Datum) → has_datum x (elements_at b (Sets a (Elements c k)) (set_of ds)) ≡ ((c == b) && has_datum x ds)
has_place b a c k x ds = ap (λ l. has_datum x (flat_map (elements_at b (Elements c k)) l)) (element_list-elements_of ds) ∙ has_elements b c k x ds

-- a member of a set of numbers is a member of the base
is_member : MembersAreTestedByNumber → (b : BaseState) (ns : set.FinSet nat_cmp) (x : Datum) → IsBase b → has_datum x (members_at b ns) ≡ true → IsSome (find b x)
is_member tested b ns x base h = by (find b x) refl
  where
    by : (o : _) → find b x ≡ o → IsSome (find b x)
    by None e = absurd (false≢true (sym ((tested b ns x base).1 e) ∙ h))
    by (Some y) e = subst (λ o. IsSome o) (sym e) refl

-- ---- the form

pub ready_set : MembersAreTestedByNumber → (bs : BasesState) (n : ℕ) (m k : Mode) (a : Attribute) (c : ℕ) (l : Layout) (b : BaseId) (ns : set.FinSet nat_cmp) → IsBase (base_at bs b) → m ≡ Sets a (Elements c k) → layout_of a ≡ Some l → named bs n c ≡ b
    → list_all (datum_fits k) (members_at (base_at bs b) ns) ≡ true → IsReady bs n m (numbers l b ns)
ready_set tested bs n m k a c l b ns base e lies is fit = subst (λ z. IsReady bs n z (numbers l b ns)) (sym e) (record {
  form = subst (λ o. IsSetForm (named bs n) (placed o (Elements c k)) (numbers l b ns)) (sym lies) (refl, sym is);
  value = set_of (members_at (base_at bs b) ns);
  stood = refl;
  fits = ap (list_all (datum_fits k)) (element_list-elements_of (members_at (base_at bs b) ns)) ∙ fit;
  found = there;
})
  where
    there : PlacesAreFound bs n (Sets a (Elements c k)) (set_of (members_at (base_at bs b) ns))
    there i x h =
        let q = and_parts (c == i) (has_datum x (members_at (base_at bs b) ns)) (sym (has_place i a c k x (members_at (base_at bs b) ns)) ∙ h) in
        let same : c ≡ i = eqb-true c i q.0 in
        subst (λ j. IsSome (find (base_at bs j) x)) (sym is ∙ ap (named bs n) same) (is_member tested (base_at bs b) ns x base q.1)

-- ---- nothing is entered

append_nothing : {X : Type 0} (xs : List X) → xs ++ [] ≡ xs
append_nothing [] = refl
append_nothing (x ∷ xs) = ap (λ l. x ∷ l) (append_nothing xs)

with_nothing : (b : BaseState) → with_values b [] ≡ b
with_nothing b = ap (λ l. record b { members = l }) (append_nothing b.members)

abbrev no_places : Datum
no_places = bool true

nothing_in : (bs : BasesState) (n : ℕ) (i : BaseId) → places_in bs n General no_places i ≡ []
nothing_in bs n i = by (is_named bs n i)
  where
    by : (t : Bool) → ◌≡◌ {A = List Datum} (if t then [] else []) []
    by true = refl
    by false = refl

not_lengthened : (n : ℕ) (bs : BasesState) → AreLengthened General no_places n bs bs
not_lengthened n bs = record { count = refl; instances = λ i. by i (instance_at bs i) }
  where
    by : (i : BaseId) (o : Option Instance) → o ≡ option_map (lengthened_by (places_in bs n General no_places i)) o
    by i None = refl
    by i (Some x) = ap (λ z. Some z) (sym (ap (λ l. lengthened_by l x) (nothing_in bs n i) ∙ ap (λ c. record x { base = c }) (with_nothing x.base)))

-- bases in which all places are found are lengthened by nothing
pub stay_as_they_are : PartsLengthenAlike → (m : Mode) (d : Datum) (n : ℕ) (bs : BasesState) → PlacesAreFound bs n m d → AreLengthened m d n bs bs
stay_as_they_are alike m d n bs found = alike m General d no_places n bs bs (λ i z q. absurd (false≢true q)) (λ i z q. inr (found i z q)) (not_lengthened n bs)

-- ---- the numbers of a list, one after the other

drop_past : {X : Type 0} (xs : List X) (n : ℕ) → length xs ≤ n → drop n xs ≡ []
drop_past [] zero h = refl
drop_past [] (suc n) h = refl
drop_past (x ∷ xs) zero h = absurd (omega arith)
drop_past (x ∷ xs) (suc n) h = drop_past xs n (omega arith)

-- behind the end of a list, no member fails
pub none_left : (p : Datum → Bool) (b : BaseState) (ns : List ℕ) (i : ℕ) → length ns ≤ i → list_all p (filter_map (value_at b) (drop i ns)) ≡ true
none_left p b ns i h = ap (λ l. list_all p (filter_map (value_at b) l)) (drop_past ns i h)
