-- Outcomes with a charge and outcomes of sets and tuples.
use Rattle.std.specs.Prelude.{◌≡◌, ℕ, ◌+◌, ◌^◌, ◌<◌, ◌≤◌, List, [], ◌∷◌, Option, Some, map, ℤ, pos, negsuc, ◌<ℤ◌, length, refl}
use Rattle.std.proofs.Common.{ap, sym, ◌∙◌, arith}
use Rattle.std.proofs.lemmas.Int.{ints}
use Rattle.setl_value.specs.declared.Value.{Value}
use Rattle.setl_value.specs.code.DatumOf.{datum, part}
use Rattle.setl_value.specs.Datum.{Datum, int, depth, elements_depth, elements_of, parts_depth, parts_of, set_of, tuple_of, element_list-elements_of}
use Rattle.setl_value.specs.WellFormed.{trim}
use Rattle.setl_set.specs.Sets.{set_from}
use Rattle.setl_set.specs.Subsets.{pow_of, npow_of, subsets_of_size}
use Rattle.setl_operators_table.specs.Collections.{all_subsets, some_subsets}
use Rattle.setl_operators_enumerations.specs.Counts.{choose}
use Rattle.setl_operators_enumerations.proofs.Binomials.{none_above}
use Rattle.setl_operators_enumerations.proofs.Sizes.{subset_number, none_larger}
use Rattle.setl_operators_table.specs.RangeRows.{as_set, as_tuple}
use Rattle.setl_operators_table.specs.Outcome.{Gives, Fails, Overspends, DeepFault, adding, charging, within_depth}
use Rattle.setl_operators_table.specs.OutcomeLaws.{paid, spent, too_deep}

-- the components of a tuple without `om`
pub depth_all : (ds : List Datum) → parts_depth (parts_of (map Some ds)) ≡ elements_depth (elements_of ds)
depth_all [] = refl
depth_all (d ∷ ds) = omega (arith, depth_all ds)

pub trim_all : (ds : List Datum) → trim (map Some ds) ≡ map Some ds
trim_all [] = refl
trim_all (d ∷ ds) = ap (λ ps. Some d ∷ ps) (trim_all ds)

-- ---- subsets

pub all_row : (left : ℕ) (xs : List Datum) → all_subsets left (set_of xs) ≡ charging (2 ^ length xs) left (within_depth (set_of (pow_of xs)))
all_row left xs = ap (λ l. charging (2 ^ length l) left (within_depth (set_of (pow_of l)))) (element_list-elements_of xs)

pub some_row : (left n : ℕ) (xs : List Datum) → some_subsets left (int (pos n)) (set_of xs) ≡ charging (length (subsets_of_size n xs)) left (within_depth (set_of (npow_of n xs)))
some_row left n xs = ap (λ l. charging (length (subsets_of_size n l)) left (within_depth (set_of (npow_of n l)))) (element_list-elements_of xs)

-- ---- what was made, with its charge

pub set_charged : (n : ℕ) (ds es ms : List Datum) → es ≡ ds → ms ≡ set_from es → adding n (as_set ds) ≡ Gives (Some (set_of ms)) n
set_charged n ds es ms p q =
    ap (λ l. Gives (Some (set_of (set_from l))) (n + 0)) (sym p) ∙ ap (λ l. Gives (Some (set_of l)) (n + 0)) (sym q) ∙ ap (Gives (Some (set_of ms))) {x = n + 0} {y = n} (omega arith)

pub tuple_charged : (n : ℕ) (ds es : List Datum) (ps qs : List (Option Datum)) → es ≡ ds → ps ≡ map Some es → qs ≡ trim ps → adding n (as_tuple ds) ≡ Gives (Some (tuple_of qs)) n
tuple_charged n ds es ps qs p q r =
    ap (λ l. Gives (Some (tuple_of (map Some l))) (n + 0)) (sym p) ∙ ap (λ l. Gives (Some (tuple_of l)) (n + 0)) (sym (r ∙ ap trim q ∙ trim_all es)) ∙ ap (Gives (Some (tuple_of qs))) {x = n + 0} {y = n} (omega arith)

-- what `all_subsets` and `some_subsets` make of a set
pub all_spent : (left : ℕ) (xs : List Datum) → left < 2 ^ length xs → all_subsets left (set_of xs) ≡ Overspends
all_spent left xs h = all_row left xs ∙ spent (2 ^ length xs) left (within_depth (set_of (pow_of xs))) h

pub all_paid : (left n : ℕ) (xs ms : List Datum) → n ≡ 2 ^ length xs → 2 ^ length xs ≤ left → ms ≡ pow_of xs → adding n (within_depth (set_of ms)) ≡ all_subsets left (set_of xs)
all_paid left n xs ms e h p = ap (λ k. adding k (within_depth (set_of ms))) e ∙ ap (λ l. adding (2 ^ length xs) (within_depth (set_of l))) p ∙ sym (all_row left xs ∙ paid (2 ^ length xs) left (within_depth (set_of (pow_of xs))) h)

pub all_deep : (left : ℕ) (xs : List Datum) → 2 ^ length xs ≤ left → 500 < depth (set_of (pow_of xs)) → all_subsets left (set_of xs) ≡ Fails DeepFault
all_deep left xs h d = all_row left xs ∙ paid (2 ^ length xs) left (within_depth (set_of (pow_of xs))) h ∙ ap (adding (2 ^ length xs)) (too_deep (set_of (pow_of xs)) d)

pub some_spent : (left n : ℕ) (xs : List Datum) → left < choose (length xs) n → some_subsets left (int (pos n)) (set_of xs) ≡ Overspends
some_spent left n xs h = some_row left n xs ∙ spent (length (subsets_of_size n xs)) left (within_depth (set_of (npow_of n xs))) (omega (arith, h, subset_number n xs))

pub some_paid : (left n k : ℕ) (xs ms : List Datum) → k ≡ choose (length xs) n → choose (length xs) n ≤ left → ms ≡ npow_of n xs → adding k (within_depth (set_of ms)) ≡ some_subsets left (int (pos n)) (set_of xs)
some_paid left n k xs ms e h p =
    ap (λ j. adding j (within_depth (set_of ms))) (e ∙ sym (subset_number n xs)) ∙ ap (λ l. adding (length (subsets_of_size n xs)) (within_depth (set_of l))) p
    ∙ sym (some_row left n xs ∙ paid (length (subsets_of_size n xs)) left (within_depth (set_of (npow_of n xs))) (omega (arith, h, subset_number n xs)))

pub some_deep : (left n : ℕ) (xs : List Datum) → choose (length xs) n ≤ left → 500 < depth (set_of (npow_of n xs)) → some_subsets left (int (pos n)) (set_of xs) ≡ Fails DeepFault
some_deep left n xs h d =
    some_row left n xs ∙ paid (length (subsets_of_size n xs)) left (within_depth (set_of (npow_of n xs))) (omega (arith, h, subset_number n xs)) ∙ ap (adding (length (subsets_of_size n xs))) (too_deep (set_of (npow_of n xs)) d)

-- no subset is larger than its set
pub some_none : (left n : ℕ) (xs : List Datum) → length xs < n → within_depth (set_of []) ≡ some_subsets left (int (pos n)) (set_of xs)
some_none left n xs h =
    let none : length (subsets_of_size n xs) ≡ 0 = subset_number n xs ∙ none_above (length xs) n h in
    sym (some_row left n xs ∙ paid (length (subsets_of_size n xs)) left (within_depth (set_of (npow_of n xs))) (omega (arith, none)) ∙ ap (λ k. adding k (within_depth (set_of (npow_of n xs)))) none ∙ ap (λ l. adding 0 (within_depth (set_of l))) (none_larger n xs h))

pub some_none_of : (left : ℕ) (n : ℤ) (xs : List Datum) → pos (length xs) <ℤ n → within_depth (set_of []) ≡ some_subsets left (int n) (set_of xs)
some_none_of left (pos n) xs h = some_none left n xs (omega (arith, ints))
some_none_of left (negsuc n) xs h = absurd (omega (arith, ints))

-- values as components
pub some_data : (vs : List Value) → map part (map Some vs) ≡ map Some (map datum vs)
some_data [] = refl
some_data (v ∷ vs) = ap (λ l. Some (datum v) ∷ l) (some_data vs)
