-- The texts of values by their modes.
use Rattle.std.proofs.Common.{◌≡◌, ◌∙◌, ℕ, suc, ◌+◌, true, false, cond, List, [], ◌∷◌, ◌++◌, length, map, codes, decimal, Option, Some, None, refl, ap, sym, subst, arith}
use Rattle.std.specs.Prelude.{slice_get}
use Rattle.std.specs.FinSet as set
use Rattle.std.specs.Option.{option_map}
use Rattle.std.specs.Ordering.{nat_cmp}
use Rattle.setl_value.specs.Datum as datum
use Rattle.setl_value.specs.Datum.{Datum, set_of, tuple_of, element_list-elements_of, part_list-parts_of}
use Rattle.setl_value.specs.Pairs.{images}
use Rattle.setl_set.specs.Sets.{has_datum}
use Rattle.setl_base.specs.Base.{BaseState, IsBase}
use Rattle.setl_modes_dump.specs.Dump.{Bases, block_number, component, digits_of, digits_or_none, form_word, image_text, images_from as texts_from, listed, map_text, numbers_from, part_text, plain_text, set_text}
use Rattle.setl_modes.specs.declared.mode.Form.{Form as Attribute}
use Rattle.setl_modes.specs.declared.mode.Form.TheVariants.{Plain, Sparse}
use Rattle.setl_modes.specs.declared.mode.Mode.{Mode as ModeCode, fold-roll-Mode}
use Rattle.setl_modes.specs.declared.mode.Mode.TheOpen.{Mode-F}
use Rattle.setl_modes.specs.declared.mode.Mode.TheVariants as code
use Rattle.setl_modes.specs.Modes.{mode_of, Mode, General, Integers, Strings, Booleans, Atoms, Elements as Element, Sets, Tuples, SingleMaps, MultiMaps}
use Rattle.setl_rep_bases.specs.BaseId.{main}
use Rattle.setl_rep_bases.specs.Bases.{BasesState, base_at}
use Rattle.setl_rep_building.specs.HasForm.{base_of}
use Rattle.setl_rep_forms.specs.Laws.{TestedAtNumber}
use Rattle.setl_rep_forms.specs.Stands.{value_at, members_at}
use Rattle.setl_rep_layout.specs.Found.{images_at, keys, pairs_in, AreNumbersOf}
use Rattle.setl_rep_layout.specs.Laid.{attribute_of}
use Rattle.setl_rep_layout.specs.Listing.{ListsExactly}
use Rattle.setl_rep_layout.specs.Members.{values_of, members_by}
use Rattle.setl_rep_layout.specs.Texts.{after_blanks}
use Rattle.setl_rep_layout.specs.Values.{based_text, images_by, point_text, point_texts, table_text, text_base, tuple_text, IsBaseOf}
use Rattle.setl_rep_layout.proofs.Finding.{has_images, images_of_pairs, is_there, keys_all}
use Rattle.setl_rep_layout.proofs.Members.{at_value, living_within}
use Rattle.setl_rep_layout.proofs.Modes.{plain_tuple}
use Rattle.setl_rep_layout.proofs.Tables.{texts_walk}
use Rattle.setl_rep_layout.proofs.Walks.{one, rise_within, walk_list}
use Rattle.setl_rep_layout.proofs.Words.{spaced_after}

-- ---- what modes stand for

pub of_tuple : (m : ModeCode) → mode_of (code.Tuple m) ≡ Tuples (mode_of m)
of_tuple m = ap mode_of (sym (code.rolls-Tuple m)) ∙ fold-roll-Mode Mode _ (Mode-F.Tuple m)

pub of_smap : (form : Attribute) (d r : ModeCode) → mode_of (code.Smap form d r) ≡ SingleMaps form (mode_of d) (mode_of r)
of_smap form d r = ap mode_of (sym (code.rolls-Smap form d r)) ∙ fold-roll-Mode Mode _ (Mode-F.Smap form d r)

pub of_mmap : (form : Attribute) (d s : ModeCode) → mode_of (code.Mmap form d s) ≡ MultiMaps form (mode_of d) (mode_of s)
of_mmap form d s = ap mode_of (sym (code.rolls-Mmap form d s)) ∙ fold-roll-Mode Mode _ (Mode-F.Mmap form d s)

-- ---- modes without a base

bare_set : (bases : Bases) (a : Attribute) (m : Mode) (d : Datum) → base_of m ≡ None → part_text bases (Sets a m) d ≡ plain_text d
bare_set bases a General d e = refl
bare_set bases a Integers d e = refl
bare_set bases a Strings d e = refl
bare_set bases a Booleans d e = refl
bare_set bases a Atoms d e = refl
bare_set bases a (Element b m) d e = absurd (cc)
bare_set bases a (Sets x m) d e = refl
bare_set bases a (Tuples m) d e = refl
bare_set bases a (SingleMaps x y r) d e = refl
bare_set bases a (MultiMaps x y s) d e = refl

bare_single : (bases : Bases) (a : Attribute) (k r : Mode) (d : Datum) → base_of k ≡ None → part_text bases (SingleMaps a k r) d ≡ plain_text d
bare_single bases a General r d e = refl
bare_single bases a Integers r d e = refl
bare_single bases a Strings r d e = refl
bare_single bases a Booleans r d e = refl
bare_single bases a Atoms r d e = refl
bare_single bases a (Element b m) r d e = absurd (cc)
bare_single bases a (Sets x m) r d e = refl
bare_single bases a (Tuples m) r d e = refl
bare_single bases a (SingleMaps x y z) r d e = refl
bare_single bases a (MultiMaps x y z) r d e = refl

bare_multi : (bases : Bases) (a : Attribute) (k s : Mode) (d : Datum) → base_of k ≡ None → part_text bases (MultiMaps a k s) d ≡ plain_text d
bare_multi bases a General s d e = refl
bare_multi bases a Integers s d e = refl
bare_multi bases a Strings s d e = refl
bare_multi bases a Booleans s d e = refl
bare_multi bases a Atoms s d e = refl
bare_multi bases a (Element b m) s d e = absurd (cc)
bare_multi bases a (Sets x m) s d e = refl
bare_multi bases a (Tuples m) s d e = refl
bare_multi bases a (SingleMaps x y z) s d e = refl
bare_multi bases a (MultiMaps x y z) s d e = refl

pub without_base : (bases : Bases) (m : Mode) (d : Datum) → text_base m ≡ None → plain_text d ≡ part_text bases m d
without_base bases General d e = refl
without_base bases Integers d e = refl
without_base bases Strings d e = refl
without_base bases Booleans d e = refl
without_base bases Atoms d e = refl
without_base bases (Element b m) d e = absurd (cc)
without_base bases (Sets a m) d e = sym (bare_set bases a m d e)
without_base bases (Tuples m) d e = sym (plain_tuple bases m d e)
without_base bases (SingleMaps a k r) d e = sym (bare_single bases a k r d e)
without_base bases (MultiMaps a k s) d e = sym (bare_multi bases a k s d e)

-- ---- modes on a base

-- the base of a mode of elements, and that it is this one
record OnElement (bs : BasesState) (k : Mode) (b : BaseState) : Type 0 where
  pub number : ℕ
  pub inner : Mode
  pub mode : k ≡ Element number inner
  pub base : base_at bs (main number) ≡ b

some_same : {A : Type 0} {x y : A} → Some x ≡ Some y → x ≡ y
some_same p = cc

on_element : (bs : BasesState) (k : Mode) (b : BaseState) → option_map (λ n. base_at bs (main n)) (base_of k) ≡ Some b → OnElement bs k b
on_element bs General b e = absurd (cc)
on_element bs Integers b e = absurd (cc)
on_element bs Strings b e = absurd (cc)
on_element bs Booleans b e = absurd (cc)
on_element bs Atoms b e = absurd (cc)
on_element bs (Element n m) b e = record { number = n; inner = m; mode = refl; base = some_same e }
on_element bs (Sets x m) b e = absurd (cc)
on_element bs (Tuples m) b e = absurd (cc)
on_element bs (SingleMaps x y r) b e = absurd (cc)
on_element bs (MultiMaps x y s) b e = absurd (cc)

-- what is so of the members of a mode's base, by the mode of elements
by_element : (bs : BasesState) (k : Mode) (b : BaseState) (P : Mode → List Datum → Type 0) → option_map (λ n. base_at bs (main n)) (base_of k) ≡ Some b
    → ((n : ℕ) (i : Mode) → P (Element n i) (members_by bs n)) → P k (values_of b)
by_element bs k b P e h =
    let on = on_element bs k b e in
    subst (λ m. P m (values_of b)) (sym on.mode) (subst (λ c. P (Element on.number on.inner) (values_of c)) on.base (h on.number on.inner))

pub element_text_is : (bs : BasesState) (m : Mode) (n : ℕ) (k : Mode) (b : BaseState) (d : Datum) → m ≡ Element n k → IsBaseOf bs m b → codes "elmt " ++ decimal (block_number d (values_of b)) ≡ part_text (members_by bs) m d
element_text_is bs m n k b d q e =
    subst (λ m. IsBaseOf bs m b → codes "elmt " ++ decimal (block_number d (values_of b)) ≡ part_text (members_by bs) m d) (sym q) (λ e. ap (λ c. codes "elmt " ++ decimal (block_number d (values_of c))) (sym (some_same e))) e

tuple_on : (bases : Bases) (n : ℕ) (i : Mode) (d : Datum) → tuple_text (bases n) d ≡ part_text bases (Tuples (Element n i)) d
tuple_on bases n i (datum.tuple ps) = sym (spaced_after (codes "tuple") _)
tuple_on bases n i (datum.bool z) = refl
tuple_on bases n i (datum.int z) = refl
tuple_on bases n i (datum.text z) = refl
tuple_on bases n i (datum.atom z) = refl
tuple_on bases n i (datum.set z) = refl

pub tuple_text_is : (bs : BasesState) (m k : Mode) (b : BaseState) (d : Datum) → m ≡ Tuples k → IsBaseOf bs m b → tuple_text (values_of b) d ≡ part_text (members_by bs) m d
tuple_text_is bs m k b d q e =
    subst (λ m. IsBaseOf bs m b → tuple_text (values_of b) d ≡ part_text (members_by bs) m d) (sym q)
    (λ e. by_element bs k b (λ k vs. tuple_text vs d ≡ part_text (members_by bs) (Tuples k) d) e (λ n i. tuple_on (members_by bs) n i d)) e

set_on : (bases : Bases) (a : Attribute) (n : ℕ) (i : Mode) (d : Datum) → based_text a (bases n) d ≡ part_text bases (Sets a (Element n i)) d
set_on bases a n i (datum.set ms) = refl
set_on bases a n i (datum.bool z) = refl
set_on bases a n i (datum.int z) = refl
set_on bases a n i (datum.text z) = refl
set_on bases a n i (datum.atom z) = refl
set_on bases a n i (datum.tuple z) = refl

pub set_text_is : (bs : BasesState) (m : Mode) (a : Attribute) (k : Mode) (b : BaseState) (d : Datum) → m ≡ Sets a k → IsBaseOf bs m b → based_text a (values_of b) d ≡ part_text (members_by bs) m d
set_text_is bs m a k b d q e =
    subst (λ m. IsBaseOf bs m b → based_text a (values_of b) d ≡ part_text (members_by bs) m d) (sym q)
    (λ e. by_element bs k b (λ k vs. based_text a vs d ≡ part_text (members_by bs) (Sets a k) d) e (λ n i. set_on (members_by bs) a n i d)) e

single_on : (bs : BasesState) (a : Attribute) (n : ℕ) (i r : Mode) (d : Datum) → table_text bs (SingleMaps a (Element n i) r) (members_by bs n) d ≡ part_text (members_by bs) (SingleMaps a (Element n i) r) d
single_on bs a n i r (datum.set ms) = refl
single_on bs a n i r (datum.bool z) = refl
single_on bs a n i r (datum.int z) = refl
single_on bs a n i r (datum.text z) = refl
single_on bs a n i r (datum.atom z) = refl
single_on bs a n i r (datum.tuple z) = refl

pub single_text_is : (bs : BasesState) (m : Mode) (a : Attribute) (k r : Mode) (b : BaseState) (d : Datum) → m ≡ SingleMaps a k r → IsBaseOf bs m b → table_text bs m (values_of b) d ≡ part_text (members_by bs) m d
single_text_is bs m a k r b d q e =
    subst (λ m. IsBaseOf bs m b → table_text bs m (values_of b) d ≡ part_text (members_by bs) m d) (sym q)
    (λ e. by_element bs k b (λ k vs. table_text bs (SingleMaps a k r) vs d ≡ part_text (members_by bs) (SingleMaps a k r) d) e (λ n i. single_on bs a n i r d)) e

multi_on : (bs : BasesState) (a : Attribute) (n : ℕ) (i s : Mode) (d : Datum) → table_text bs (MultiMaps a (Element n i) s) (members_by bs n) d ≡ part_text (members_by bs) (MultiMaps a (Element n i) s) d
multi_on bs a n i s (datum.set ms) = refl
multi_on bs a n i s (datum.bool z) = refl
multi_on bs a n i s (datum.int z) = refl
multi_on bs a n i s (datum.text z) = refl
multi_on bs a n i s (datum.atom z) = refl
multi_on bs a n i s (datum.tuple z) = refl

pub multi_text_is : (bs : BasesState) (m : Mode) (a : Attribute) (k s : Mode) (b : BaseState) (d : Datum) → m ≡ MultiMaps a k s → IsBaseOf bs m b → table_text bs m (values_of b) d ≡ part_text (members_by bs) m d
multi_text_is bs m a k s b d q e =
    subst (λ m. IsBaseOf bs m b → table_text bs m (values_of b) d ≡ part_text (members_by bs) m d) (sym q)
    (λ e. by_element bs k b (λ k vs. table_text bs (MultiMaps a k s) vs d ≡ part_text (members_by bs) (MultiMaps a k s) d) e (λ n i. multi_on bs a n i s d)) e

-- ---- tuples

pub tuple_by : (members : List Datum) (ps : List (Option Datum)) → codes "tuple" ++ after_blanks (listed (map (component members) ps)) ≡ tuple_text members (tuple_of ps)
tuple_by members ps = ap (λ l. codes "tuple" ++ after_blanks (listed (map (component members) l))) (sym (part_list-parts_of ps))

-- ---- sets

-- the text of a set by digits
abbrev pub numbered : Attribute → (members s : List Datum) → List ℕ
numbered a members s = form_word a ++ 32 ∷ digits_or_none s members

abbrev HaveSame : (xs ys vs : List Datum) → Type 0
HaveSame xs ys vs = (i : ℕ) (d : Datum) → slice_get vs i ≡ Some d → has_datum d xs ≡ has_datum d ys

digits_same : (xs ys vs : List Datum) → HaveSame xs ys vs → digits_of xs vs ≡ digits_of ys vs
digits_same xs ys [] h = refl
digits_same xs ys (v ∷ vs) h = (λ j. cond (h 0 v refl j) 49 48 ∷ digits_same xs ys vs (λ i d p. h (suc i) d p) j)

none_same : (xs ys vs : List Datum) → HaveSame xs ys vs → digits_or_none xs vs ≡ digits_or_none ys vs
none_same xs ys [] h = refl
none_same xs ys (v ∷ vs) h = digits_same xs ys (v ∷ vs) h

numbers_same : (xs ys : List Datum) (n : ℕ) (vs : List Datum) → HaveSame xs ys vs → numbers_from n xs vs ≡ numbers_from n ys vs
numbers_same xs ys n [] h = refl
numbers_same xs ys n (v ∷ vs) h =
    (λ j. cond (h 0 v refl j) (decimal n ∷ numbers_same xs ys (suc n) vs (λ i d p. h (suc i) d p) j) (numbers_same xs ys (suc n) vs (λ i d p. h (suc i) d p) j))

have_same : TestedAtNumber → (b : BaseState) (ns : set.FinSet nat_cmp) (ds : List Datum) → IsBase b → AreNumbersOf b ns (keys false ds) → HaveSame (members_at b ns) ds (values_of b)
have_same law b ns ds k is i d h = law b ns d (suc i) k (at_value b i ∙ h) ∙ is.exact (suc i) d (at_value b i ∙ h) ∙ ap (has_datum d) (keys_all ds)

pub digits_of_set : TestedAtNumber → (b : BaseState) (ns : set.FinSet nat_cmp) (ds : List Datum) → IsBase b → AreNumbersOf b ns (keys false ds)
    → digits_or_none (members_at b ns) (values_of b) ≡ digits_or_none ds (values_of b)
digits_of_set law b ns ds k is = none_same (members_at b ns) ds (values_of b) (have_same law b ns ds k is)

pub sparse_of_set : TestedAtNumber → (b : BaseState) (ns : set.FinSet nat_cmp) (ds : List Datum) → IsBase b → AreNumbersOf b ns (keys false ds)
    → codes "sparse" ++ after_blanks (listed (numbers_from 1 (members_at b ns) (values_of b))) ≡ set_text Sparse (values_of b) ds
sparse_of_set law b ns ds k is =
    ap (λ l. codes "sparse" ++ after_blanks (listed l)) (numbers_same (members_at b ns) ds 1 (values_of b) (have_same law b ns ds k is)) ∙ sym (spaced_after (codes "sparse") _)

pub plain_of_set : (members ds : List Datum) → plain_text (set_of ds) ≡ based_text Plain members (set_of ds)
plain_of_set members ds = ap (λ l. plain_text (set_of l)) (sym (element_list-elements_of ds))

pub set_by : (a : Attribute) (members ds : List Datum) → set_text a members ds ≡ based_text a members (set_of ds)
set_by a members ds = ap (set_text a members) (sym (element_list-elements_of ds))

-- ---- maps

text_of_images : (text : List Datum → List ℕ) (n : ℕ) (ys : List Datum) → image_text text n ys ≡ one (cond (is_there ys) (Some (decimal n ++ 40 ∷ text ys ++ 41 ∷ [])) None)
text_of_images text n [] = refl
text_of_images text n (y ∷ ys) = refl

-- the text at a number, if its member has images
abbrev text_at : BasesState → Mode → List Datum → BaseState → set.FinSet nat_cmp → ℕ → Option (List ℕ)
text_at bs m f b ns n = cond (set.contains ns n) (Some (point_text bs m f b n)) None

at_member : (bs : BasesState) (m : Mode) (f : List Datum) (b : BaseState) (ns : set.FinSet nat_cmp) → AreNumbersOf b ns (keys true (pairs_in f)) → (n : ℕ) (d : Datum) → value_at b n ≡ Some d
    → image_text (images_by bs m) n (images d f) ≡ one (text_at bs m (pairs_in f) b ns n)
at_member bs m f b ns is n d h =
    text_of_images (images_by bs m) n (images d f)
    ∙ ap (λ ys. one (cond (is_there ys) (Some (decimal n ++ 40 ∷ images_by bs m ys ++ 41 ∷ [])) None)) (sym (images_of_pairs d f))
    ∙ ap (λ t. one (cond t (Some (decimal n ++ 40 ∷ images_by bs m (images d (pairs_in f)) ++ 41 ∷ [])) None)) (sym (is.exact n d h ∙ has_images d (pairs_in f)))
    ∙ ap (λ o. one (cond (set.contains ns n) (Some (decimal n ++ 40 ∷ images_by bs m (images_at o (pairs_in f)) ++ 41 ∷ [])) None)) (sym h)

points_listed : (bs : BasesState) (m : Mode) (f : List Datum) (b : BaseState) (ns : set.FinSet nat_cmp) (list : List ℕ) → AreNumbersOf b ns (keys true (pairs_in f)) → ListsExactly (λ n. set.contains ns n) list
    → texts_from (images_by bs m) 1 f (values_of b) ≡ point_texts bs m (pairs_in f) b list
points_listed bs m f b ns list is exact =
    texts_walk (images_by bs m) f (text_at bs m (pairs_in f) b ns) 1 (values_of b) (λ i d p.
    let e : suc i ≡ 1 + i = omega arith in
    subst (λ k. image_text (images_by bs m) k (images d f) ≡ one (text_at bs m (pairs_in f) b ns k)) e (at_member bs m f b ns is (suc i) d (at_value b i ∙ p)))
    ∙ walk_list (text_at bs m (pairs_in f) b ns) (point_text bs m (pairs_in f) b) 1 (length (values_of b)) list
    (rise_within 1 (1 + length (values_of b)) list exact.rising (λ n h. living_within b n (is.living n (sym (exact.members n) ∙ h))))
    (λ n l. ap (λ x. cond x (Some (point_text bs m (pairs_in f) b n)) None) (sym (exact.members n)))

pub table_by : (bs : BasesState) (m : Mode) (f : List Datum) (b : BaseState) (ns : set.FinSet nat_cmp) (list : List ℕ) → AreNumbersOf b ns (keys true (pairs_in f)) → ListsExactly (λ n. set.contains ns n) list
    → form_word (attribute_of m) ++ after_blanks (listed (point_texts bs m (pairs_in f) b list)) ≡ table_text bs m (values_of b) (set_of f)
table_by bs m f b ns list is exact =
    ap (λ t. form_word (attribute_of m) ++ after_blanks (listed t)) (sym (points_listed bs m f b ns list is exact))
    ∙ sym (spaced_after (form_word (attribute_of m)) (listed (texts_from (images_by bs m) 1 f (values_of b))))
    ∙ ap (map_text (attribute_of m) (images_by bs m) (values_of b)) (sym (element_list-elements_of f))
