-- Lists from an index on.
use Rattle.std.specs.Prelude.{◌≡◌, ℕ, zero, suc, ◌+◌, ◌<◌, ◌==◌, nat_le, List, [], ◌∷◌, length, drop, slice_get, Option, Some, None, ℤ, pos, refl}
use Rattle.std.specs.Option.{unwrap_or}
use Rattle.std.specs.Borrow.{Bor}
use Rattle.std.proofs.Common.{ap, sym, ◌∙◌, arith, inl, inr, ◌⊎◌, MatchOption}
use Rattle.std.proofs.lemmas.Option.{slice_get-get_or}
use Rattle.std.proofs.Math.Seq.{drop-nil}
use Rattle.std.proofs.lemmas.Bool.Decides.{nat_tests}
use Rattle.setl_value.specs.Datum.{Datum, int}
use Rattle.setl_value.specs.declared.Value.{Value}
use Rattle.setl_value.specs.code.DatumOf.{datum, lent}
use Rattle.setl_model.specs.Core.{Two}
use Rattle.setl_model.specs.Iterations.{members, singles, letters, place_points}

some_same : {X : Type 0} (x y : X) → Some x ≡ Some y → x ≡ y
some_same x y p = ap (λ o. unwrap_or o x) p

pub drop_at : {X : Type 0} (xs : List X) (i j : ℕ) (x : X) → j ≡ i + 1 → slice_get xs i ≡ Some x → drop i xs ≡ x ∷ drop j xs
drop_at [] i j x e h = cc
drop_at (y ∷ ys) zero zero x e h = absurd (omega (arith, e))
drop_at (y ∷ ys) zero (suc zero) x e h = ap (λ z. z ∷ ys) (some_same y x h)
drop_at (y ∷ ys) zero (suc (suc j)) x e h = absurd (omega (arith, e))
drop_at (y ∷ ys) (suc i) zero x e h = absurd (omega (arith, e))
drop_at (y ∷ ys) (suc i) (suc j) x e h = drop_at ys i j x (omega (arith, e)) h

-- nothing is left exactly where the index is past the end
pub none_left : {X : Type 0} (xs : List X) (i : ℕ) → nat_le (length xs) i ≡ (length (drop i xs) == 0)
none_left {X} [] i = grind (arith, nat_tests, ap length (drop-nil {A = X} i))
none_left (x ∷ xs) zero = grind (arith, nat_tests)
none_left (x ∷ xs) (suc i) = nat_suc (length xs) i ∙ none_left xs i
  where
    nat_suc : (m n : ℕ) → nat_le (suc m) (suc n) ≡ nat_le m n
    nat_suc m n = grind (arith, nat_tests)

pub length_singles : (vs : List (Option Datum)) → length (singles vs) ≡ length vs
length_singles [] = refl
length_singles (v ∷ vs) = ap (λ n. suc n) (length_singles vs)

pub length_members : (ds : List Datum) → length (members ds) ≡ length ds
length_members [] = refl
length_members (d ∷ ds) = ap (λ n. suc n) (length_members ds)

pub length_letters : (bs : List ℕ) → length (letters bs) ≡ length bs
length_letters [] = refl
length_letters (b ∷ bs) = ap (λ n. suc n) (length_letters bs)

pub length_places : (n : ℕ) (vs : List (Option Datum)) → length (place_points n vs) ≡ length vs
length_places n [] = refl
length_places n (v ∷ vs) = ap (λ k. suc k) (length_places (suc n) vs)

-- a component that is lent
pub component_at : (ps : List (Option Datum)) (i : ℕ) (o : Option (Bor Value)) → i < length ps → MatchOption o ((slice_get ps i ≡ Some None) ⊎ (slice_get ps i ≡ None)) (λ v. slice_get ps i ≡ Some (Some (datum v.now))) → slice_get ps i ≡ Some (lent o)
component_at ps i (Some v) l h = h
component_at ps i None l (inl h) = h
component_at ps i None l (inr h) = let g = slice_get-get_or ps i None l in cc

pub place_at : (ps : List (Option Datum)) (i : ℕ) (z : ℤ) (v w : Option Datum) → slice_get ps i ≡ Some v → w ≡ v → z ≡ pos (i + 1) → place_points (i + 1) (drop i ps) ≡ Two (Some (int z)) w ∷ place_points (i + 1 + 1) (drop (i + 1) ps)
place_at ps i z v w g e h =
    ap (place_points (i + 1)) (drop_at ps i (i + 1) v refl g)
    ∙ (λ k. Two (Some (int (sym h k))) (sym e k) ∷ place_points (suc (i + 1)) (drop (i + 1) ps))
    ∙ ap (λ n. Two (Some (int z)) w ∷ place_points n (drop (i + 1) ps)) {x = suc (i + 1)} {y = i + 1 + 1} (omega arith)

-- ---- at the end

pub no_members : (ds : List Datum) (n i : ℕ) → n ≡ length ds → nat_le n i ≡ (length (members (drop i ds)) == 0)
no_members ds n i e = ap (λ k. nat_le k i) e ∙ none_left ds i ∙ ap (λ k. k == 0) (sym (length_members (drop i ds)))

pub no_components : (ps : List (Option Datum)) (n i : ℕ) → n ≡ length ps → nat_le n i ≡ (length (singles (drop i ps)) == 0)
no_components ps n i e = ap (λ k. nat_le k i) e ∙ none_left ps i ∙ ap (λ k. k == 0) (sym (length_singles (drop i ps)))

pub no_letters : (bs : List ℕ) (n i : ℕ) → n ≡ length bs → nat_le n i ≡ (length (singles (letters (drop i bs))) == 0)
no_letters bs n i e = ap (λ k. nat_le k i) e ∙ none_left bs i ∙ ap (λ k. k == 0) (sym (length_singles (letters (drop i bs)) ∙ length_letters (drop i bs)))

pub no_places : (ps : List (Option Datum)) (n i m : ℕ) → n ≡ length ps → nat_le n i ≡ (length (place_points m (drop i ps)) == 0)
no_places ps n i m e = ap (λ k. nat_le k i) e ∙ none_left ps i ∙ ap (λ k. k == 0) (sym (length_places m (drop i ps)))

pub no_letter_places : (bs : List ℕ) (n i m : ℕ) → n ≡ length bs → nat_le n i ≡ (length (place_points m (letters (drop i bs))) == 0)
no_letter_places bs n i m e = ap (λ k. nat_le k i) e ∙ none_left bs i ∙ ap (λ k. k == 0) (sym (length_places m (letters (drop i bs)) ∙ length_letters (drop i bs)))

-- an index inside has an element
pub is_there : {X : Type 0} (xs : List X) (i : ℕ) → i < length xs → None ≡ slice_get xs i → ⊥
is_there [] i h e = absurd (omega (arith, h))
is_there (x ∷ xs) zero h e = cc
is_there (x ∷ xs) (suc i) h e = is_there xs i (omega (arith, h)) e
