-- Rows of the table over the lists of bodies.
use Rattle.std.specs.Prelude.{◌≡◌, ℕ, ℤ, pos, ◌≤◌, ◌<◌, ◌≤ℤ◌, Bool, true, false, List, [], ◌∷◌, Option, Some, None, length, slice_get, int_le, refl}
use Rattle.std.specs.Bool.{if◌then◌else◌}
use Rattle.std.proofs.Common.{ap, sym, ◌∙◌, arith}
use Rattle.std.proofs.lemmas.Int.{ints}
use Rattle.setl_value.specs.Datum.{Datum, int, depth, elements_of, element_list, element_list-elements_of, parts_of, part_list, part_list-parts_of, set_of, tuple_of}
use Rattle.setl_value.specs.Pairs.{is_map}
use Rattle.setl_tuple.specs.Tuples.{index_of}
use Rattle.setl_operators_table.specs.Outcome.{Outcome, Gives, Fails, DeepFault, KindFault, RangeFault, adding, charging, value, within_depth}
use Rattle.setl_operators_table.specs.OutcomeLaws.{paid, too_deep}
use Rattle.setl_operators_table.specs.Collections.{on_map, least, least_member}
use Rattle.setl_operators_table.specs.Puts.{put_part, put_value}

-- a body's list is what the table reads of its datum
pub members_back : (ds : List Datum) → element_list (elements_of ds) ≡ ds
members_back ds = element_list-elements_of ds

pub parts_back : (ps : List (Option Datum)) → part_list (parts_of ps) ≡ ps
parts_back ps = part_list-parts_of ps

-- ---- maps

true_if_not_false : (b : Bool) → (b ≡ false → ⊥) → b ≡ true
true_if_not_false true h = refl
true_if_not_false false h = absurd (h refl)

pub map_row : (make : List Datum → Outcome) (xs : List Datum) → (is_map xs ≡ false → ⊥) → make xs ≡ on_map make (element_list (elements_of xs))
map_row make xs h = ap (λ b. if b then make xs else Fails KindFault) (sym (true_if_not_false (is_map xs) h)) ∙ ap (on_map make) (sym (members_back xs))

pub no_map_row : (make : List Datum → Outcome) (xs : List Datum) → is_map xs ≡ false → on_map make (element_list (elements_of xs)) ≡ Fails KindFault
no_map_row make xs h = ap (on_map make) (members_back xs) ∙ ap (λ b. if b then make xs else Fails KindFault) h

-- ---- the least member

least_first : (xs : List Datum) (d : Datum) → slice_get xs 0 ≡ Some d → least xs ≡ Some d
least_first [] d h = h
least_first (x ∷ xs) d h = h

least_none : (xs : List Datum) → length xs ≡ 0 → least xs ≡ None
least_none [] h = refl
least_none (x ∷ xs) h = absurd (omega arith)

pub least_of_some : (xs : List Datum) (d : Datum) → slice_get xs 0 ≡ Some d → value d ≡ least_member (set_of xs)
least_of_some xs d h = ap (λ o. Gives o 0) (sym (least_first xs d h)) ∙ ap (λ l. Gives (least l) 0) (sym (members_back xs))

pub least_of_none : (xs : List Datum) → length xs ≡ 0 → least_member (set_of xs) ≡ Gives None 0
least_of_none xs h = ap (λ l. Gives (least l) 0) (members_back xs) ∙ ap (λ o. Gives o 0) (least_none xs h)

-- ---- a place of a tuple

pub place_row : (left : ℕ) (i : ℤ) (p : Option Datum) (ps : List (Option Datum)) → pos 1 ≤ℤ i → put_part left (index_of i) p ps ≡ put_value left (tuple_of ps) (int i) p
place_row left i p ps h =
    let there : int_le (pos 1) i ≡ true = grind (arith, ints) in
    ap (put_part left (index_of i) p) (sym (parts_back ps)) ∙ ap (λ b. if b then put_part left (index_of i) p (part_list (parts_of ps)) else Fails RangeFault) (sym there)

-- ---- depth and charge

pub paid_deep : (n left : ℕ) (d : Datum) → n ≤ left → 500 < depth d → charging n left (within_depth d) ≡ Fails DeepFault
paid_deep n left d h k = paid n left (within_depth d) h ∙ ap (adding n) (too_deep d k)
