-- The texts of maps by their contents.
use Rattle.std.proofs.Common.{◌≡◌, ◌∙◌, ℕ, suc, ◌+◌, ◌≤◌, ◌==◌, Bool, true, false, cond, List, [], ◌∷◌, ◌++◌, length, map, decimal, Option, Some, None, option_and_then, refl, ap, sym, subst, arith}
use Rattle.std.specs.Prelude.{slice_get, IsSome, is_some}
use Rattle.std.proofs.lemmas.Bool.{false≢true, eqb-true}
use Rattle.setl_value.specs.Datum as datum
use Rattle.setl_value.specs.Datum.{Datum, Elements, no_element, element_then, set_of, element_list, elements_of, elements_of-element_list}
use Rattle.setl_value.specs.Pairs.{images}
use Rattle.setl_base.specs.Base.{IsBase}
use Rattle.setl_modes_dump.specs.Dump.{part_text, only_text, image_text, images_from as texts_from}
use Rattle.setl_modes.specs.Modes.{Mode}
use Rattle.setl_rep_bases.specs.declared.BaseId.{BaseId}
use Rattle.setl_rep_bases.specs.Bases.{BasesState, base_at}
use Rattle.setl_rep_forms.specs.Form.{Layout, Form, table, Entries, no_entry, entry_then}
use Rattle.setl_rep_forms.specs.Stands.{stands, value_at, IsOver, AreOver, IsContent}
use Rattle.setl_rep_maps.specs.Contents.{content_of}
use Rattle.setl_rep_maps.specs.Laws.{ContentsStandForImages}
use Rattle.setl_rep_tables.specs.Tables.{content_in, images_of, table_pairs, IsKeyed}
use Rattle.setl_rep_layout.specs.Listing.{has_content, ListsExactly}
use Rattle.setl_rep_layout.specs.Members.{values_of, members_by}
use Rattle.setl_rep_layout.specs.Texts.{entry_text, held_text}
use Rattle.setl_rep_layout.proofs.Members.{at_value, living_within}
use Rattle.setl_rep_layout.proofs.Walks.{one, walk, walk_list, rise_within}

-- ---- what a content is

some_same : {A : Type 0} {x y : A} → Some x ≡ Some y → x ≡ y
some_same p = cc

content_by : (P : ℕ → Form → Type 0) (k : ℕ) (d : Form) (es : Entries) (n : ℕ) (c : Form) (b : Bool) → (b ≡ true → n ≡ k) → P k d → (content_in es n ≡ Some c → P n c)
    → cond b (Some d) (content_in es n) ≡ Some c → P n c
content_by P k d es n c true e here rest p = subst (λ f. P n f) (some_same p) (subst (λ m. P m d) (sym (e refl)) here)
content_by P k d es n c false e here rest p = rest p

-- what each entry has, the content of a number has
pub content_has : (P : ℕ → Form → Type 0) (Q : Entries → Type 0) → ((k : ℕ) (d : Form) (es : Entries) → Q (entry_then k d es) → P k d × Q es)
    → (es : Entries) (n : ℕ) (c : Form) → Q es → content_in es n ≡ Some c → P n c
content_has P Q split no_entry n c q h = absurd (cc)
content_has P Q split (entry_then k d es) n c q h =
    content_by P k d es n c (n == k) (eqb-true n k) (split k d es q).0 (content_has P Q split es n c (split k d es q).1) h

-- ---- the text of an entry

set_again : (e : Datum) (es : Elements) → set_of (e ∷ element_list es) ≡ datum.set (element_then e es)
set_again e es = ap (λ l. datum.set (element_then e l)) (elements_of-element_list es)

-- the text of the images of a point, where they are kept as a set or not
abbrev pub images_text : BasesState → (many : Bool) → Mode → List Datum → List ℕ
images_text bs false m ys = only_text (part_text (members_by bs) m) ys
images_text bs true m ys = part_text (members_by bs) m (set_of ys)

of_content : (bs : BasesState) (many : Bool) (m : Mode) (n : ℕ) (y : Option Datum) → IsContent many y
    → image_text (images_text bs many m) n (images_of many y) ≡ (decimal n ++ 40 ∷ held_text bs m y ++ 41 ∷ []) ∷ []
of_content bs many m n None c = absurd c
of_content bs false m n (Some y) c = refl
of_content bs true m n (Some (datum.set (element_then e es))) c = ap (λ d. (decimal n ++ 40 ∷ part_text (members_by bs) m d ++ 41 ∷ []) ∷ []) (set_again e es)
of_content bs true m n (Some (datum.set no_element)) c = absurd c
of_content bs true m n (Some (datum.bool z)) c = absurd c
of_content bs true m n (Some (datum.int z)) c = absurd c
of_content bs true m n (Some (datum.text z)) c = absurd c
of_content bs true m n (Some (datum.atom z)) c = absurd c
of_content bs true m n (Some (datum.tuple z)) c = absurd c

-- the text at a number, if it has a content
abbrev pub text_at : BasesState → Mode → Form → ℕ → Option (List ℕ)
text_at bs m f n = cond (has_content f n) (Some (entry_text bs m f n)) None

of_number : (bs : BasesState) (many : Bool) (m : Mode) (f : Form) (n : ℕ) (o : Option Form) → content_of f n ≡ o → ((c : Form) → o ≡ Some c → IsContent many (stands bs c))
    → image_text (images_text bs many m) n (images_of many (option_and_then (stands bs) (content_of f n))) ≡ one (text_at bs m f n)
of_number bs many m f n None e h =
    ap (λ p. image_text (images_text bs many m) n (images_of many (option_and_then (stands bs) p))) e
    ∙ ap (λ p. one (cond (is_some p) (Some (entry_text bs m f n)) None)) (sym e)
of_number bs many m f n (Some c) e h =
    ap (λ p. image_text (images_text bs many m) n (images_of many (option_and_then (stands bs) p))) e
    ∙ of_content bs many m n (stands bs c) (h c refl)
    ∙ ap (λ p. (decimal n ++ 40 ∷ held_text bs m (option_and_then (stands bs) p) ++ 41 ∷ []) ∷ []) (sym e)
    ∙ ap (λ p. one (cond (is_some p) (Some (entry_text bs m f n)) None)) (sym e)

-- ---- all of them

pub texts_walk : (text : List Datum → List ℕ) (pairs : List Datum) (g : ℕ → Option (List ℕ)) (n : ℕ) (es : List Datum)
    → ((i : ℕ) (d : Datum) → slice_get es i ≡ Some d → image_text text (n + i) (images d pairs) ≡ one (g (n + i))) → texts_from text n pairs es ≡ walk g n (length es)
texts_walk text pairs g n [] h = refl
texts_walk text pairs g n (e ∷ es) h =
    let at : n + 0 ≡ n = omega arith in
    ap (λ l. l ++ texts_from text (suc n) pairs es) (subst (λ k. image_text text k (images e pairs) ≡ one (g k)) at (h 0 e refl))
    ∙ ap (λ l. one (g n) ++ l) (texts_walk text pairs g (suc n) es (λ i d p. let up : n + suc i ≡ suc n + i = omega arith in subst (λ k. image_text text k (images d pairs) ≡ one (g k)) up (h (suc i) d p)))

pub record IsMapOver (bs : BasesState) (layout : Layout) (b : BaseId) (many : Bool) (es : Entries) : Type 0 where
  pub over : IsOver bs (table layout b many es)
  pub keyed : IsKeyed es
  pub base : IsBase (base_at bs b)

content_is : (bs : BasesState) (layout : Layout) (b : BaseId) (many : Bool) (es : Entries) → IsOver bs (table layout b many es) → (n : ℕ) (c : Form) → content_in es n ≡ Some c → IsSome (value_at (base_at bs b) n) × IsOver bs c × IsContent many (stands bs c)
content_is bs layout b many es o n c h =
    content_has (λ k d. IsSome (value_at (base_at bs b) k) × IsOver bs d × IsContent many (stands bs d)) (AreOver bs (base_at bs b) many) (λ k d fs q. ((q.0, q.1, q.2), q.3)) es n c o.1 h

pub texts_listed : ContentsStandForImages → (bs : BasesState) (layout : Layout) (b : BaseId) (many : Bool) (es : Entries) (m : Mode) (list : List ℕ)
    → IsMapOver bs layout b many es → ListsExactly (has_content (table layout b many es)) list
    → texts_from (images_text bs many m) 1 (table_pairs bs (base_at bs b) many es) (values_of (base_at bs b)) ≡ map (entry_text bs m (table layout b many es)) list
texts_listed law bs layout b many es m list is exact =
    texts_walk (images_text bs many m) (table_pairs bs (base_at bs b) many es) (text_at bs m f) 1 (values_of (base_at bs b)) (λ i d p.
    let e : suc i ≡ 1 + i = omega arith in
    subst
    (λ k. image_text (images_text bs many m) k (images d (table_pairs bs (base_at bs b) many es)) ≡ one (text_at bs m f k))
    e
    (
    ap (image_text (images_text bs many m) (suc i)) (law bs f (suc i) d is.over is.keyed is.base (at_value (base_at bs b) i ∙ p))
    ∙ of_number bs many m f (suc i) (content_of f (suc i)) refl (λ c q. (content_is bs layout b many es is.over (suc i) c q).2)
    ))
    ∙ walk_list (text_at bs m f) (entry_text bs m f) 1 (length (values_of (base_at bs b))) list
    (rise_within 1 (1 + length (values_of (base_at bs b))) list exact.rising (λ n h. living_within (base_at bs b) n (there n (content_of f n) refl (sym (exact.members n) ∙ h))))
    (λ n l. ap (λ x. cond x (Some (entry_text bs m f n)) None) (sym (exact.members n)))
  where
    f : Form
    f = table layout b many es

    there : (n : ℕ) (o : Option Form) → content_of f n ≡ o → is_some (content_of f n) ≡ true → IsSome (value_at (base_at bs b) n)
    there n None e h = absurd (false≢true (ap is_some (sym e) ∙ h))
    there n (Some c) e h = (content_is bs layout b many es is.over n c e).0

-- ---- sizes

abbrev mutual
  pub size : Form → ℕ
  size (table layout base many es) = sizes es + 6
  size f = 0

  pub sizes : Entries → ℕ
  sizes no_entry = 0
  sizes (entry_then n c es) = size c + sizes es

-- the sizes of a map's contents
abbrev pub inside : Form → ℕ
inside (table layout base many es) = sizes es
inside f = 0

pub content_size : (f : Form) (n : ℕ) (c : Form) → content_of f n ≡ Some c → size c ≤ inside f
content_size (table layout b many es) n c h = content_has (λ k d. size d ≤ sizes es) (λ fs. sizes fs ≤ sizes es) (λ k d fs q. (omega (arith, q), omega (arith, q))) es n c (omega arith) h
content_size f n c h = absurd (cc)
