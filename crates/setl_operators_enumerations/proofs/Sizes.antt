-- The numbers of subsets.
use Rattle.std.specs.Prelude.{◌≡◌, ◌==◌, ℕ, zero, suc, ◌<◌, Bool, true, false, List, [], ◌∷◌, ◌++◌, length, map, refl}
use Rattle.std.specs.List.{filter}
use Rattle.std.proofs.Common.{ap, ◌∙◌, arith, cond}
use Rattle.std.proofs.lemmas.List.{length-append}
use Rattle.std.proofs.lemmas.List.Elements.{filter-append}
use Rattle.std.proofs.lemmas.Bool.Decides.{nat_tests}
use Rattle.setl_value.specs.Datum.{Datum}
use Rattle.setl_set.specs.Subsets.{subsets, subsets_of_size, npow_of, set_of_sets}
use Rattle.setl_operators_enumerations.specs.Counts.{choose}
use Rattle.setl_operators_enumerations.proofs.Binomials.{none_above}

longer_none : (d : Datum) (ls : List (List Datum)) → filter (λ xs. length xs == 0) (map (λ xs. d ∷ xs) ls) ≡ []
longer_none d [] = refl
longer_none d (l ∷ ls) =
    let none : (length (d ∷ l) == 0) ≡ false = grind (arith, nat_tests) in ap (λ b. cond b ((d ∷ l) ∷ filter (λ xs. length xs == 0) (map (λ xs. d ∷ xs) ls)) (filter (λ xs. length xs == 0) (map (λ xs. d ∷ xs) ls))) none ∙ longer_none d ls

kept_alike : (b c : Bool) (X Y : Type 0) (x : X) (y : Y) (xs : List X) (ys : List Y) → b ≡ c → length xs ≡ length ys → length (cond b (x ∷ xs) xs) ≡ length (cond c (y ∷ ys) ys)
kept_alike true true X Y x y xs ys e h = ap (λ k. suc k) h
kept_alike false false X Y x y xs ys e h = h
kept_alike true false X Y x y xs ys e h = cc
kept_alike false true X Y x y xs ys e h = cc

one_longer : (d : Datum) (n : ℕ) (ls : List (List Datum)) → length (filter (λ xs. length xs == suc n) (map (λ xs. d ∷ xs) ls)) ≡ length (filter (λ xs. length xs == n) ls)
one_longer d n [] = refl
one_longer d n (l ∷ ls) =
    kept_alike (length (d ∷ l) == suc n) (length l == n) (List Datum) (List Datum) (d ∷ l) l (filter (λ xs. length xs == suc n) (map (λ xs. d ∷ xs) ls)) (filter (λ xs. length xs == n) ls) (grind (arith, nat_tests)) (one_longer d n ls)

pub subset_number : (n : ℕ) (ds : List Datum) → length (subsets_of_size n ds) ≡ choose (length ds) n
subset_number zero [] = refl
subset_number (suc n) [] = let none : (0 == suc n) ≡ false = grind (arith, nat_tests) in ap (λ b. length (cond {A = List (List Datum)} b ([] ∷ []) [])) none
subset_number zero (d ∷ ds) = ap length (filter-append (λ xs. length xs == 0) (map (λ xs. d ∷ xs) (subsets ds)) (subsets ds) ∙ ap (λ l. l ++ subsets_of_size 0 ds) (longer_none d (subsets ds))) ∙ subset_number zero ds
subset_number (suc n) (d ∷ ds) =
    ap length (filter-append (λ xs. length xs == suc n) (map (λ xs. d ∷ xs) (subsets ds)) (subsets ds))
    ∙ length-append (filter (λ xs. length xs == suc n) (map (λ xs. d ∷ xs) (subsets ds))) (subsets_of_size (suc n) ds)
    ∙ omega (arith, one_longer d n (subsets ds), subset_number n ds, subset_number (suc n) ds)

no_length : {X : Type 0} (xs : List X) → length xs ≡ 0 → xs ≡ []
no_length [] h = refl
no_length (x ∷ xs) h = absurd (omega arith)

-- no subset has more members than its set
pub none_larger : (n : ℕ) (ds : List Datum) → length ds < n → npow_of n ds ≡ []
none_larger n ds h = ap set_of_sets (no_length (subsets_of_size n ds) (subset_number n ds ∙ none_above (length ds) n h))
