-- The depths of pairs and contents.
use Rattle.std.proofs.Common.{◌≡◌, ℕ, Bool, true, false, ◌≤◌, List, [], ◌∷◌, ◌++◌, map, Option, Some, None, ⊎_elim, refl, ap, ◌∙◌, arith}
use Rattle.std.specs.Option.{IsSome}
use Rattle.std.specs.Ordering.{is_eq}
use Rattle.std.proofs.lemmas.Bool.{false≢true, or_left, or_right, or_cases}
use Rattle.setl_value.specs.Datum.{Datum, bool, int, text, atom, tuple, set, Elements, no_element, element_then, set_of, elements_of, element_list, element_list-elements_of, depth, elements_depth, part_depth}
use Rattle.setl_value.specs.Order.{datum_cmp}
use Rattle.setl_value.specs.OrderLaws.{same_if_eq, eq_iff_same}
use Rattle.setl_value.specs.Pairs.{pair}
use Rattle.setl_set.specs.Sets.{has_datum, set_from}
use Rattle.setl_set.specs.Laws.{TestsMembership, Gathers}
use Rattle.setl_base.specs.Base.{BaseState}
use Rattle.setl_rep_bases.specs.Bases.{BasesState}
use Rattle.setl_rep_forms.specs.Form.{Form, Entries, no_entry, entry_then}
use Rattle.setl_rep_forms.specs.Stands.{stands, pairs_in, pairs_of, value_at, IsContent}
use Rattle.setl_rep_plain.proofs.Sizes.{IsEntry}

-- ---- lists

left_depth : (xs ys : List Datum) → elements_depth (elements_of xs) ≤ elements_depth (elements_of (xs ++ ys))
left_depth [] ys = omega arith
left_depth (x ∷ xs) ys = omega (arith, left_depth xs ys)

right_depth : (xs ys : List Datum) → elements_depth (elements_of ys) ≤ elements_depth (elements_of (xs ++ ys))
right_depth [] ys = omega arith
right_depth (x ∷ xs) ys = omega (arith, right_depth xs ys)

deep_member : (xs : List Datum) (d : Datum) → has_datum d xs ≡ true → depth d ≤ elements_depth (elements_of xs)
deep_member [] d h = absurd (false≢true h)
deep_member (x ∷ xs) d h =
    ⊎_elim (λ e. omega (arith, ap depth (same_if_eq d x e))) (λ r. omega (arith, deep_member xs d r)) (or_cases (is_eq (datum_cmp d x)) (has_datum d xs) h)

within_depth : (ds xs : List Datum) → ((d : Datum) → has_datum d ds ≡ true → has_datum d xs ≡ true) → elements_depth (elements_of ds) ≤ elements_depth (elements_of xs)
within_depth [] xs h = omega arith
within_depth (d ∷ ds) xs h =
    omega (
      arith,
      deep_member xs d (h d (or_left (is_eq (datum_cmp d d)) (has_datum d ds) ((eq_iff_same d d).1 refl))),
      within_depth ds xs (λ e r. h e (or_right (is_eq (datum_cmp e d)) (has_datum e ds) r)),
    )

-- a list is no deeper than the set of it
pub gathered_depth : TestsMembership → Gathers → (ds : List Datum) → depth (set_of ds) ≤ depth (set_of (set_from ds))
gathered_depth tests gathers ds =
    omega (arith, within_depth ds (set_from ds) (λ d h. (tests d (set_from ds)).1 (((gathers ds).members d).1 ((tests d ds).0 h))))

-- ---- pairs

pub first_depth : (d : Datum) (ds : List Datum) → depth (set_of (d ∷ ds)) ≤ 500 → depth d ≤ 500
first_depth d ds h = omega arith

images_depth : (x : Datum) (ms : Elements) → elements_depth ms ≤ elements_depth (elements_of (map (pair x) (element_list ms)))
images_depth x no_element = omega arith
images_depth x (element_then y ms) = omega (arith, images_depth x ms)

content_depth : (many : Bool) (x y : Datum) → IsContent many (Some y) → depth (set_of (pairs_of many (Some x) (Some y))) ≤ 500 → depth y ≤ 500
content_depth false x y c h = omega arith
content_depth true x (set ms) c h = omega (arith, images_depth x ms)
content_depth true x (bool z) c h = absurd c
content_depth true x (int z) c h = absurd c
content_depth true x (text z) c h = absurd c
content_depth true x (atom z) c h = absurd c
content_depth true x (tuple z) c h = absurd c

-- the content of a member is no deeper than its pairs
pub image_depth : (many : Bool) (x y : Option Datum) → IsSome x → IsContent many y → depth (set_of (pairs_of many x y)) ≤ 500 → part_depth y ≤ 500
image_depth many None y s c h = absurd (false≢true s)
image_depth many (Some x) None s c h = omega arith
image_depth many (Some x) (Some y) s c h = content_depth many x y c h

-- the pairs of an entry are no deeper than all
pub entry_depth : (bs : BasesState) (b : BaseState) (many : Bool) (es : Entries) (n : ℕ) (c : Form) → IsEntry es n c → depth (set_of (pairs_of many (value_at b n) (stands bs c))) ≤ depth (set_of (pairs_in bs b many es))
entry_depth bs b many no_entry n c e = absurd e
entry_depth bs b many (entry_then k d es) n c e =
    let here = pairs_of many (value_at b k) (stands bs d) in
    ⊎_elim
    (λ s. omega (arith, left_depth here (pairs_in bs b many es), ap (λ m. depth (set_of (pairs_of many (value_at b m) (stands bs d)))) s.0, ap (λ f. depth (set_of (pairs_of many (value_at b n) (stands bs f)))) s.1))
    (λ r. omega (arith, right_depth here (pairs_in bs b many es), entry_depth bs b many es n c r))
    e

-- the pairs of a point with the members of a set
pub set_pairs : (many : Bool) (x y : Datum) (ds : List Datum) → many ≡ true → y ≡ set_of ds → pairs_of many (Some x) (Some y) ≡ map (pair x) ds
set_pairs many x y ds e f = (λ i. pairs_of (e i) (Some x) (Some (f i))) ∙ ap (map (pair x)) (element_list-elements_of ds)
