-- The text of a value by its mode, from each form that the mode may have.
use Rattle.std.proofs.Common.{◌≡◌, ◌∙◌, ℕ, Bool, true, false, List, ◌∷◌, ◌++◌, map, codes, decimal, Option, Some, None, refl, ap, sym, subst}
use Rattle.std.specs.Prelude.{IsSome}
use Rattle.std.specs.Ordering.{nat_cmp}
use Rattle.std.specs.FinSet as set
use Rattle.std.proofs.lemmas.Bool.{false≢true}
use Rattle.setl_value.specs.Datum as datum
use Rattle.setl_value.specs.Datum.{Datum, Elements, no_element, element_then, Parts, no_part, om_then, part_then, set_of, tuple_of, element_list, part_list, elements_of, element_list-elements_of}
use Rattle.setl_text.specs.Texts.{spaced}
use Rattle.setl_base.specs.declared.Elt.{Elt}
use Rattle.setl_base.specs.Base.{BaseState, IsBase, value_of}
use Rattle.setl_modes_dump.specs.Dump.{Bases, part_text, plain_text, set_text, map_text, images_from as texts_from, form_word, listed, digits_or_none, numbers_from, component}
use Rattle.setl_modes.specs.declared.mode.Form.{Form as Attribute}
use Rattle.setl_modes.specs.declared.mode.Form.TheVariants.{Plain, Local, Remote, Sparse}
use Rattle.setl_modes.specs.Modes.{Mode, General, Integers, Strings, Booleans, Atoms, Elements as Element, Sets, Tuples, SingleMaps, MultiMaps}
use Rattle.setl_rep_bases.specs.declared.BaseId.{BaseId}
use Rattle.setl_rep_bases.specs.BaseId.{main}
use Rattle.setl_rep_bases.specs.Bases.{BasesState, base_at}
use Rattle.setl_rep_building.specs.HasForm.{layout_of, placed, place_of, base_of, content_mode, HasForm, IsSetForm, IsTupleForm, IsMapForm, HaveForms}
use Rattle.setl_rep_forms.specs.Form.{Layout, Form, om, plain, element, numbers, table, handles, Entries, remote, sparse}
use Rattle.setl_rep_forms.specs.Stands.{stands, members_at, parts_at, IsOver, AreOver, AreHandles}
use Rattle.setl_rep_maps.specs.Contents.{content_of, HasBase, IsKeyedForm, IsTable}
use Rattle.setl_rep_maps.specs.Laws.{ContentsStandForImages}
use Rattle.setl_rep_tables.specs.Tables.{content_in, table_pairs}
use Rattle.setl_rep_layout.specs.Listing.{has_content, ListsExactly}
use Rattle.setl_rep_layout.specs.Laid.{attribute_of, IsAttributed, IsLaid, AreContentsLaid}
use Rattle.setl_rep_layout.specs.Members.{values_of, members_by}
use Rattle.setl_rep_layout.specs.Texts.{after_blanks, held_text, element_text, handle_texts, entry_texts}
use Rattle.setl_rep_layout.proofs.Members.{components, element_number}
use Rattle.setl_rep_layout.proofs.Tables.{images_text, content_has, texts_listed, IsMapOver}
use Rattle.setl_rep_layout.proofs.Words.{spaced_after}

-- ---- plain values

pub plain_tuple : (bases : Bases) (m : Mode) (d : Datum) → base_of m ≡ None → part_text bases (Tuples m) d ≡ plain_text d
plain_tuple bases General d e = refl
plain_tuple bases Integers d e = refl
plain_tuple bases Strings d e = refl
plain_tuple bases Booleans d e = refl
plain_tuple bases Atoms d e = refl
plain_tuple bases (Element b m) d e = absurd (cc)
plain_tuple bases (Sets a m) d e = refl
plain_tuple bases (Tuples m) d e = refl
plain_tuple bases (SingleMaps a x r) d e = refl
plain_tuple bases (MultiMaps a x s) d e = refl

plain_set : (bases : Bases) (a : Attribute) (m : Mode) (d : Datum) → place_of a m ≡ None → part_text bases (Sets a m) d ≡ plain_text d
plain_set bases a General d e = refl
plain_set bases a Integers d e = refl
plain_set bases a Strings d e = refl
plain_set bases a Booleans d e = refl
plain_set bases a Atoms d e = refl
plain_set bases Plain (Element b m) d e = plain_element b m d
  where
    plain_element : (b : ℕ) (m : Mode) (d : Datum) → part_text bases (Sets Plain (Element b m)) d ≡ plain_text d
    plain_element b m (datum.set ms) = ap (λ l. plain_text (datum.set l)) (datum.elements_of-element_list ms)
    plain_element b m (datum.bool z) = refl
    plain_element b m (datum.int z) = refl
    plain_element b m (datum.text z) = refl
    plain_element b m (datum.atom z) = refl
    plain_element b m (datum.tuple z) = refl
plain_set bases Local (Element b m) d e = absurd (cc)
plain_set bases Remote (Element b m) d e = absurd (cc)
plain_set bases Sparse (Element b m) d e = absurd (cc)
plain_set bases a (Sets x m) d e = refl
plain_set bases a (Tuples m) d e = refl
plain_set bases a (SingleMaps x y r) d e = refl
plain_set bases a (MultiMaps x y s) d e = refl

-- what is held plain by a tuple's mode has no base
bare_tuple : (o : Option ℕ) (d : Datum) → IsTupleForm main o (plain d) → o ≡ None
bare_tuple None d h = refl
bare_tuple (Some b) d h = absurd h

bare_set : (o : Option (Layout × ℕ)) (d : Datum) → IsSetForm main o (plain d) → o ≡ None
bare_set None d h = refl
bare_set (Some p) d h = absurd h

bare_map : (o : Option (Layout × ℕ)) (many : Bool) (P : Form → Type 0) (d : Datum) → IsMapForm main o many P (plain d) → o ≡ None
bare_map None many P d h = refl
bare_map (Some p) many P d h = absurd h

plain_single : (bases : Bases) (a : Attribute) (k r : Mode) (d : Datum) → place_of a k ≡ None → IsAttributed (SingleMaps a k r) → part_text bases (SingleMaps a k r) d ≡ plain_text d
plain_single bases a General r d e h = refl
plain_single bases a Integers r d e h = refl
plain_single bases a Strings r d e h = refl
plain_single bases a Booleans r d e h = refl
plain_single bases a Atoms r d e h = refl
plain_single bases Plain (Element b m) r d e h = absurd h.0
plain_single bases Local (Element b m) r d e h = absurd (cc)
plain_single bases Remote (Element b m) r d e h = absurd (cc)
plain_single bases Sparse (Element b m) r d e h = absurd (cc)
plain_single bases a (Sets x m) r d e h = refl
plain_single bases a (Tuples m) r d e h = refl
plain_single bases a (SingleMaps x y z) r d e h = refl
plain_single bases a (MultiMaps x y z) r d e h = refl

plain_multi : (bases : Bases) (a : Attribute) (k s : Mode) (d : Datum) → place_of a k ≡ None → IsAttributed (MultiMaps a k s) → part_text bases (MultiMaps a k s) d ≡ plain_text d
plain_multi bases a General s d e h = refl
plain_multi bases a Integers s d e h = refl
plain_multi bases a Strings s d e h = refl
plain_multi bases a Booleans s d e h = refl
plain_multi bases a Atoms s d e h = refl
plain_multi bases Plain (Element b m) s d e h = absurd h.0
plain_multi bases Local (Element b m) s d e h = absurd (cc)
plain_multi bases Remote (Element b m) s d e h = absurd (cc)
plain_multi bases Sparse (Element b m) s d e h = absurd (cc)
plain_multi bases a (Sets x m) s d e h = refl
plain_multi bases a (Tuples m) s d e h = refl
plain_multi bases a (SingleMaps x y z) s d e h = refl
plain_multi bases a (MultiMaps x y z) s d e h = refl

pub of_plain : (bs : BasesState) (m : Mode) (d : Datum) → HasForm main m (plain d) → IsAttributed m → plain_text d ≡ held_text bs m (Some d)
of_plain bs General d h a = refl
of_plain bs Integers d h a = refl
of_plain bs Strings d h a = refl
of_plain bs Booleans d h a = refl
of_plain bs Atoms d h a = refl
of_plain bs (Element b m) d h a = absurd h
of_plain bs (Sets x m) d h a = sym (plain_set (members_by bs) x m d (bare_set (place_of x m) d h))
of_plain bs (Tuples m) d h a = sym (plain_tuple (members_by bs) m d (bare_tuple (base_of m) d h))
of_plain bs (SingleMaps x k r) d h a = sym (plain_single (members_by bs) x k r d (bare_map (place_of x k) false (HasForm main r) d h) a)
of_plain bs (MultiMaps x k s) d h a = sym (plain_multi (members_by bs) x k s d (bare_map (place_of x k) true (HasForm main s) d h) a)

-- ---- elements

no_tuple : (o : Option ℕ) (b : BaseId) (e : Elt) → IsTupleForm main o (element b e) → ⊥
no_tuple None b e h = h
no_tuple (Some c) b e h = h

no_set : (o : Option (Layout × ℕ)) (b : BaseId) (e : Elt) → IsSetForm main o (element b e) → ⊥
no_set None b e h = h
no_set (Some p) b e h = h

no_map : (o : Option (Layout × ℕ)) (many : Bool) (P : Form → Type 0) (b : BaseId) (e : Elt) → IsMapForm main o many P (element b e) → ⊥
no_map None many P b e h = h
no_map (Some p) many P b e h = h

element_held : (bs : BasesState) (c : ℕ) (m : Mode) (e : Elt) (o : Option Datum) → IsBase (base_at bs (main c)) → value_of (base_at bs (main c)) e ≡ o → IsSome o → element_text e ≡ held_text bs (Element c m) o
element_held bs c m e None k is s = absurd (false≢true s)
element_held bs c m e (Some d) k is s = ap (λ n. codes "elmt " ++ decimal n) (sym (element_number (base_at bs (main c)) e d k is))

pub of_element : (bs : BasesState) (m : Mode) (b : BaseId) (e : Elt) → IsBase (base_at bs b) → HasForm main m (element b e) → IsOver bs (element b e) → element_text e ≡ held_text bs m (stands bs (element b e))
of_element bs General b e k h o = absurd h
of_element bs Integers b e k h o = absurd h
of_element bs Strings b e k h o = absurd h
of_element bs Booleans b e k h o = absurd h
of_element bs Atoms b e k h o = absurd h
of_element bs (Element c m) b e k h o =
    subst (λ i. IsBase (base_at bs i) → IsSome (value_of (base_at bs i) e) → element_text e ≡ held_text bs (Element c m) (value_of (base_at bs i) e)) (sym h)
    (λ base some. element_held bs c m e (value_of (base_at bs (main c)) e) base refl some) k o.1
of_element bs (Sets x m) b e k h o = absurd (no_set (place_of x m) b e h)
of_element bs (Tuples m) b e k h o = absurd (no_tuple (base_of m) b e h)
of_element bs (SingleMaps x y r) b e k h o = absurd (no_map (place_of x y) false (HasForm main r) b e h)
of_element bs (MultiMaps x y s) b e k h o = absurd (no_map (place_of x y) true (HasForm main s) b e h)

-- ---- tuples of elements

record OfHandles (m : Mode) (b : BaseId) : Type 0 where
  pub number : ℕ
  pub inner : Mode
  pub mode : m ≡ Element number inner
  pub base : b ≡ main number

tuple_base : (m : Mode) (b : BaseId) (es : List (Option Elt)) → IsTupleForm main (base_of m) (handles b es) → OfHandles m b
tuple_base General b es h = absurd h
tuple_base Integers b es h = absurd h
tuple_base Strings b es h = absurd h
tuple_base Booleans b es h = absurd h
tuple_base Atoms b es h = absurd h
tuple_base (Element c m) b es h = record { number = c; inner = m; mode = refl; base = h }
tuple_base (Sets x m) b es h = absurd h
tuple_base (Tuples m) b es h = absurd h
tuple_base (SingleMaps x k r) b es h = absurd h
tuple_base (MultiMaps x k s) b es h = absurd h

handles_of_set : (o : Option (Layout × ℕ)) (b : BaseId) (es : List (Option Elt)) → IsSetForm main o (handles b es) → ⊥
handles_of_set None b es h = h
handles_of_set (Some p) b es h = h

handles_of_map : (o : Option (Layout × ℕ)) (many : Bool) (P : Form → Type 0) (b : BaseId) (es : List (Option Elt)) → IsMapForm main o many P (handles b es) → ⊥
handles_of_map None many P b es h = h
handles_of_map (Some p) many P b es h = h

pub of_handles : (bs : BasesState) (m : Mode) (b : BaseId) (es : List (Option Elt)) → IsBase (base_at bs b) → HasForm main m (handles b es) → IsOver bs (handles b es)
    → codes "tuple" ++ after_blanks (listed (handle_texts es)) ≡ held_text bs m (stands bs (handles b es))
of_handles bs General b es k h o = absurd h
of_handles bs Integers b es k h o = absurd h
of_handles bs Strings b es k h o = absurd h
of_handles bs Booleans b es k h o = absurd h
of_handles bs Atoms b es k h o = absurd h
of_handles bs (Element c m) b es k h o = absurd h
of_handles bs (Sets x m) b es k h o = absurd (handles_of_set (place_of x m) b es h)
of_handles bs (Tuples m) b es k h o =
    let on = tuple_base m b es h in
    subst
    (λ n. codes "tuple" ++ after_blanks (listed (handle_texts es)) ≡ held_text bs (Tuples n) (stands bs (handles b es)))
    (sym on.mode)
    (
    subst
    (λ i. AreHandles (base_at bs i) es → IsBase (base_at bs i) → codes "tuple" ++ after_blanks (listed (handle_texts es)) ≡ held_text bs (Tuples (Element on.number on.inner)) (stands bs (handles i es)))
    (sym on.base)
    (λ living base.
    ap (λ l. codes "tuple" ++ after_blanks (listed l)) (components (base_at bs (main on.number)) es base living)
    ∙ sym (spaced_after (codes "tuple") (listed (map (component (values_of (base_at bs (main on.number)))) (parts_at (base_at bs (main on.number)) es))))
    ∙ ap (λ l. spaced (codes "tuple" ∷ listed (map (component (values_of (base_at bs (main on.number)))) l))) (sym (datum.part_list-parts_of (parts_at (base_at bs (main on.number)) es))))
    o.1
    k
    )
of_handles bs (SingleMaps x y r) b es k h o = absurd (handles_of_map (place_of x y) false (HasForm main r) b es h)
of_handles bs (MultiMaps x y s) b es k h o = absurd (handles_of_map (place_of x y) true (HasForm main s) b es h)

-- ---- sets on a base

record OnBase (x : Option Layout) (k : Mode) (l : Layout) (b : BaseId) : Type 0 where
  pub number : ℕ
  pub inner : Mode
  pub mode : k ≡ Element number inner
  pub layout : x ≡ Some l
  pub base : b ≡ main number

set_base : (x : Option Layout) (k : Mode) (l : Layout) (b : BaseId) (ns : set.FinSet nat_cmp) → IsSetForm main (placed x k) (numbers l b ns) → OnBase x k l b
set_base None k l b ns h = absurd h
set_base (Some x) General l b ns h = absurd h
set_base (Some x) Integers l b ns h = absurd h
set_base (Some x) Strings l b ns h = absurd h
set_base (Some x) Booleans l b ns h = absurd h
set_base (Some x) Atoms l b ns h = absurd h
set_base (Some x) (Element c m) l b ns h = record { number = c; inner = m; mode = refl; layout = ap Some (sym h.0); base = h.1 }
set_base (Some x) (Sets y m) l b ns h = absurd h
set_base (Some x) (Tuples m) l b ns h = absurd h
set_base (Some x) (SingleMaps y z r) l b ns h = absurd h
set_base (Some x) (MultiMaps y z s) l b ns h = absurd h

numbers_of_tuple : (o : Option ℕ) (l : Layout) (b : BaseId) (ns : set.FinSet nat_cmp) → IsTupleForm main o (numbers l b ns) → ⊥
numbers_of_tuple None l b ns h = h
numbers_of_tuple (Some c) l b ns h = h

numbers_of_map : (o : Option (Layout × ℕ)) (many : Bool) (P : Form → Type 0) (l : Layout) (b : BaseId) (ns : set.FinSet nat_cmp) → IsMapForm main o many P (numbers l b ns) → ⊥
numbers_of_map None many P l b ns h = h
numbers_of_map (Some p) many P l b ns h = h

remote_text : (a : Attribute) (members s : List Datum) → layout_of a ≡ Some remote → form_word a ++ 32 ∷ digits_or_none s members ≡ set_text a members s
remote_text Plain members s e = absurd (cc)
remote_text Local members s e = refl
remote_text Remote members s e = refl
remote_text Sparse members s e = absurd (cc)

sparse_text : (a : Attribute) (members s : List Datum) → layout_of a ≡ Some sparse → form_word a ++ after_blanks (listed (numbers_from 1 s members)) ≡ set_text a members s
sparse_text Plain members s e = absurd (cc)
sparse_text Local members s e = absurd (cc)
sparse_text Remote members s e = absurd (cc)
sparse_text Sparse members s e = sym (spaced_after (codes "sparse") (listed (numbers_from 1 s members)))

-- the text of a set of a mode with members on a base
abbrev text_with : (Layout → List Datum → List Datum → List ℕ)
text_with remote members s = 32 ∷ digits_or_none s members
text_with sparse members s = after_blanks (listed (numbers_from 1 s members))

text_by : (l : Layout) (a : Attribute) (members s : List Datum) → layout_of a ≡ Some l → form_word a ++ text_with l members s ≡ set_text a members s
text_by remote a members s e = remote_text a members s e
text_by sparse a members s e = sparse_text a members s e

of_numbers : (bs : BasesState) (m : Mode) (l : Layout) (b : BaseId) (ns : set.FinSet nat_cmp) → HasForm main m (numbers l b ns)
    → form_word (attribute_of m) ++ text_with l (values_of (base_at bs b)) (members_at (base_at bs b) ns) ≡ held_text bs m (stands bs (numbers l b ns))
of_numbers bs General l b ns h = absurd h
of_numbers bs Integers l b ns h = absurd h
of_numbers bs Strings l b ns h = absurd h
of_numbers bs Booleans l b ns h = absurd h
of_numbers bs Atoms l b ns h = absurd h
of_numbers bs (Element c m) l b ns h = absurd h
of_numbers bs (Sets a k) l b ns h =
    let on = set_base (layout_of a) k l b ns h in
    subst
    (λ m. form_word a ++ text_with l (values_of (base_at bs b)) (members_at (base_at bs b) ns) ≡ held_text bs (Sets a m) (stands bs (numbers l b ns)))
    (sym on.mode)
    (
    subst
    (λ i. form_word a ++ text_with l (values_of (base_at bs i)) (members_at (base_at bs i) ns) ≡ held_text bs (Sets a (Element on.number on.inner)) (stands bs (numbers l i ns)))
    (sym on.base)
    (
    text_by l a (values_of (base_at bs (main on.number))) (members_at (base_at bs (main on.number)) ns) on.layout
    ∙ ap (set_text a (values_of (base_at bs (main on.number)))) (sym (element_list-elements_of (members_at (base_at bs (main on.number)) ns)))
    )
    )
of_numbers bs (Tuples m) l b ns h = absurd (numbers_of_tuple (base_of m) l b ns h)
of_numbers bs (SingleMaps a k r) l b ns h = absurd (numbers_of_map (place_of a k) false (HasForm main r) l b ns h)
of_numbers bs (MultiMaps a k s) l b ns h = absurd (numbers_of_map (place_of a k) true (HasForm main s) l b ns h)

pub of_remote_set : (bs : BasesState) (m : Mode) (b : BaseId) (ns : set.FinSet nat_cmp) → HasForm main m (numbers remote b ns)
    → form_word (attribute_of m) ++ 32 ∷ digits_or_none (members_at (base_at bs b) ns) (values_of (base_at bs b)) ≡ held_text bs m (stands bs (numbers remote b ns))
of_remote_set bs m b ns h = of_numbers bs m remote b ns h

pub of_sparse_set : (bs : BasesState) (m : Mode) (b : BaseId) (ns : set.FinSet nat_cmp) → HasForm main m (numbers sparse b ns)
    → form_word (attribute_of m) ++ after_blanks (listed (numbers_from 1 (members_at (base_at bs b) ns) (values_of (base_at bs b)))) ≡ held_text bs m (stands bs (numbers sparse b ns))
of_sparse_set bs m b ns h = of_numbers bs m sparse b ns h

-- ---- maps on a base

record MapOnBase (x : Option Layout) (k : Mode) (many : Bool) (P : Form → Type 0) (l : Layout) (b : BaseId) (has : Bool) (es : Entries) : Type 0 where
  pub on : OnBase x k l b
  pub kind : has ≡ many
  pub contents : HaveForms P es

map_base : (x : Option Layout) (k : Mode) (many : Bool) (P : Form → Type 0) (l : Layout) (b : BaseId) (has : Bool) (es : Entries) → IsMapForm main (placed x k) many P (table l b has es) → MapOnBase x k many P l b has es
map_base None k many P l b has es h = absurd h
map_base (Some x) General many P l b has es h = absurd h
map_base (Some x) Integers many P l b has es h = absurd h
map_base (Some x) Strings many P l b has es h = absurd h
map_base (Some x) Booleans many P l b has es h = absurd h
map_base (Some x) Atoms many P l b has es h = absurd h
map_base (Some x) (Element c m) many P l b has es h = record { on = record { number = c; inner = m; mode = refl; layout = ap Some (sym h.0); base = h.1 }; kind = h.2; contents = h.3 }
map_base (Some x) (Sets y m) many P l b has es h = absurd h
map_base (Some x) (Tuples m) many P l b has es h = absurd h
map_base (Some x) (SingleMaps y z r) many P l b has es h = absurd h
map_base (Some x) (MultiMaps y z s) many P l b has es h = absurd h

table_of_tuple : (o : Option ℕ) (l : Layout) (b : BaseId) (has : Bool) (es : Entries) → IsTupleForm main o (table l b has es) → ⊥
table_of_tuple None l b has es h = h
table_of_tuple (Some c) l b has es h = h

table_of_set : (o : Option (Layout × ℕ)) (l : Layout) (b : BaseId) (has : Bool) (es : Entries) → IsSetForm main o (table l b has es) → ⊥
table_of_set None l b has es h = h
table_of_set (Some p) l b has es h = h

-- the text of a map of either kind, with points in a base
abbrev map_mode : (many : Bool) → Attribute → Mode → Mode → Mode
map_mode false a k m = SingleMaps a k m
map_mode true a k m = MultiMaps a k m

map_held : (bs : BasesState) (many : Bool) (a : Attribute) (c : ℕ) (k m : Mode) (pairs : List Datum)
    → held_text bs (map_mode many a (Element c k) m) (Some (set_of pairs)) ≡ form_word a ++ after_blanks (listed (texts_from (images_text bs many m) 1 pairs (values_of (base_at bs (main c)))))
map_held bs false a c k m pairs =
    ap (map_text a (images_text bs false m) (values_of (base_at bs (main c)))) (element_list-elements_of pairs)
    ∙ spaced_after (form_word a) (listed (texts_from (images_text bs false m) 1 pairs (values_of (base_at bs (main c)))))
map_held bs true a c k m pairs =
    ap (map_text a (images_text bs true m) (values_of (base_at bs (main c)))) (element_list-elements_of pairs)
    ∙ spaced_after (form_word a) (listed (texts_from (images_text bs true m) 1 pairs (values_of (base_at bs (main c)))))

of_map : ContentsStandForImages → (bs : BasesState) (many : Bool) (a : Attribute) (k m : Mode) (l : Layout) (b : BaseId) (has : Bool) (es : Entries) (list : List ℕ)
    → MapOnBase (layout_of a) k many (HasForm main m) l b has es → IsMapOver bs l b has es → ListsExactly (has_content (table l b has es)) list
    → form_word a ++ after_blanks (listed (entry_texts bs m (table l b has es) list)) ≡ held_text bs (map_mode many a k m) (stands bs (table l b has es))
of_map law bs many a k m l b has es list is over exact =
    subst
    (λ n. form_word a ++ after_blanks (listed (entry_texts bs m (table l b has es) list)) ≡ held_text bs (map_mode many a n m) (stands bs (table l b has es)))
    (sym is.on.mode)
    (
    subst
    (λ (w : Bool). IsMapOver bs l b w es → ListsExactly (has_content (table l b w es)) list → form_word a ++ after_blanks (listed (entry_texts bs m (table l b w es) list)) ≡ held_text bs (map_mode many a (Element is.on.number is.on.inner) m) (stands bs (table l b w es)))
    (sym is.kind)
    (
    subst
    (λ i. IsMapOver bs l i many es → ListsExactly (has_content (table l i many es)) list → form_word a ++ after_blanks (listed (entry_texts bs m (table l i many es) list)) ≡ held_text bs (map_mode many a (Element is.on.number is.on.inner) m) (stands bs (table l i many es)))
    (sym is.on.base)
    (λ o x.
    ap (λ t. form_word a ++ after_blanks (listed t)) (sym (texts_listed law bs l (main is.on.number) many es m list o x))
    ∙ sym (map_held bs many a is.on.number is.on.inner m (table_pairs bs (base_at bs (main is.on.number)) many es)))
    )
    over
    exact
    )

pub of_table : ContentsStandForImages → (bs : BasesState) (m : Mode) (l : Layout) (b : BaseId) (has : Bool) (es : Entries) (list : List ℕ) → HasForm main m (table l b has es)
    → IsMapOver bs l b has es → ListsExactly (has_content (table l b has es)) list
    → form_word (attribute_of m) ++ after_blanks (listed (entry_texts bs (content_mode m) (table l b has es) list)) ≡ held_text bs m (stands bs (table l b has es))
of_table law bs General l b has es list h o x = absurd h
of_table law bs Integers l b has es list h o x = absurd h
of_table law bs Strings l b has es list h o x = absurd h
of_table law bs Booleans l b has es list h o x = absurd h
of_table law bs Atoms l b has es list h o x = absurd h
of_table law bs (Element c m) l b has es list h o x = absurd h
of_table law bs (Sets a k) l b has es list h o x = absurd (table_of_set (place_of a k) l b has es h)
of_table law bs (Tuples m) l b has es list h o x = absurd (table_of_tuple (base_of m) l b has es h)
of_table law bs (SingleMaps a k r) l b has es list h o x = of_map law bs false a k r l b has es list (map_base (layout_of a) k false (HasForm main r) l b has es h) o x
of_table law bs (MultiMaps a k s) l b has es list h o x = of_map law bs true a k s l b has es list (map_base (layout_of a) k true (HasForm main s) l b has es h) o x

-- ---- contents

has_each : (P : Form → Type 0) (es : Entries) (n : ℕ) (c : Form) → HaveForms P es → content_of (table remote (main 0) false es) n ≡ Some c → P c
has_each P es n c h e = content_has (λ k d. P d) (HaveForms P) (λ k d fs q. q) es n c h e

over_each : (bs : BasesState) (b : BaseState) (many : Bool) (es : Entries) (n : ℕ) (c : Form) → AreOver bs b many es → content_in es n ≡ Some c → IsOver bs c
over_each bs b many es n c h e = content_has (λ k d. IsOver bs d) (AreOver bs b many) (λ k d fs q. (q.1, q.3)) es n c h e

attributed_inside : (many : Bool) (a : Attribute) (c : ℕ) (k m : Mode) → IsAttributed (map_mode many a (Element c k) m) → IsAttributed m
attributed_inside false a c k m h = h.1
attributed_inside true a c k m h = h.1

laid_inside : (bs : BasesState) (many : Bool) (a : Attribute) (k m : Mode) (l : Layout) (b : BaseId) (has : Bool) (es : Entries)
    → MapOnBase (layout_of a) k many (HasForm main m) l b has es → IsOver bs (table l b has es) → IsAttributed (map_mode many a k m) → AreContentsLaid bs m (table l b has es)
laid_inside bs many a k m l b has es is over h n c e = record {
  over = over_each bs (base_at bs b) has es n c over.1 e;
  form = has_each (HasForm main m) es n c is.contents e;
  attributed = attributed_inside many a is.on.number is.on.inner m (subst (λ x. IsAttributed (map_mode many a x m)) is.on.mode h);
}

pub contents_laid : (bs : BasesState) (m : Mode) (l : Layout) (b : BaseId) (has : Bool) (es : Entries) → IsLaid bs m (table l b has es) → AreContentsLaid bs (content_mode m) (table l b has es)
contents_laid bs General l b has es h = absurd h.form
contents_laid bs Integers l b has es h = absurd h.form
contents_laid bs Strings l b has es h = absurd h.form
contents_laid bs Booleans l b has es h = absurd h.form
contents_laid bs Atoms l b has es h = absurd h.form
contents_laid bs (Element c m) l b has es h = absurd h.form
contents_laid bs (Sets a k) l b has es h = absurd (table_of_set (place_of a k) l b has es h.form)
contents_laid bs (Tuples m) l b has es h = absurd (table_of_tuple (base_of m) l b has es h.form)
contents_laid bs (SingleMaps a k r) l b has es h = laid_inside bs false a k r l b has es (map_base (layout_of a) k false (HasForm main r) l b has es h.form) h.over h.attributed
contents_laid bs (MultiMaps a k s) l b has es h = laid_inside bs true a k s l b has es (map_base (layout_of a) k true (HasForm main s) l b has es h.form) h.over h.attributed

pub contents_laid_in : (bs : BasesState) (m : Mode) (f : Form) → IsTable f → IsLaid bs m f → AreContentsLaid bs (content_mode m) f
contents_laid_in bs m (table l b has es) t h = contents_laid bs m l b has es h
contents_laid_in bs m om t h = absurd t
contents_laid_in bs m (plain d) t h = absurd t
contents_laid_in bs m (element b e) t h = absurd t
contents_laid_in bs m (numbers l b ns) t h = absurd t
contents_laid_in bs m (handles b es) t h = absurd t

pub of_map_form : ContentsStandForImages → (bs : BasesState) (m : Mode) (f : Form) (list : List ℕ) → IsTable f → HasForm main m f → IsOver bs f → IsKeyedForm f → HasBase bs f → ListsExactly (has_content f) list
    → form_word (attribute_of m) ++ after_blanks (listed (entry_texts bs (content_mode m) f list)) ≡ held_text bs m (stands bs f)
of_map_form law bs m (table l b has es) list t h o k base x = of_table law bs m l b has es list h (record { over = o; keyed = k; base = base }) x
of_map_form law bs m om list t h o k base x = absurd t
of_map_form law bs m (plain d) list t h o k base x = absurd t
of_map_form law bs m (element b e) list t h o k base x = absurd t
of_map_form law bs m (numbers l b ns) list t h o k base x = absurd t
of_map_form law bs m (handles b es) list t h o k base x = absurd t
