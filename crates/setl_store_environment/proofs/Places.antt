-- A place of a list and the content that was there.
use Rattle.std.proofs.Common.{◌≡◌, ℕ, zero, suc, ◌+◌, ◌-◌, ◌<◌, ◌≤◌, Bool, true, false, cond, ◌||◌, is_some, ltb, min, List, [], ◌∷◌, ◌++◌, length, set, take, drop, get_or, refl, sym, ap, ◌∙◌, subst, arith, Some, None}
use Rattle.std.specs.Prelude.{slice_get, eqb}
use Rattle.std.specs.Option.{unwrap_or}
use Rattle.std.proofs.lemmas.Bool.{ltb-true, ltb-false, eqb-true, eqb-false, true≢false}
use Rattle.std.proofs.lemmas.Option.{none-some}
use Rattle.std.proofs.lemmas.List.{length-append, length-take, length-drop, length-set, take_all, take-take, set_split, get_or_past, get_or-set_same, get_or-set_other}
use Rattle.setl_store_environment.specs.Stack.{placed_at}

-- what a stamp reads after one was put back
read_at : (b : Bool) (stamps : List ℕ) (at stamp p : ℕ) → eqb at p ≡ b → get_or (set stamps at stamp) p 0 ≤ unwrap_or (cond b (Some stamp) None) (get_or stamps p 0)
read_at true stamps at stamp p is = subst (λ x. get_or (set stamps at stamp) x 0 ≤ stamp) (eqb-true at p is) (read_here (ltb at (length stamps)) refl)
  where
    read_here : (b : Bool) → ltb at (length stamps) ≡ b → get_or (set stamps at stamp) at 0 ≤ stamp
    read_here true low = omega (arith, get_or-set_same stamps at stamp 0 (ltb-true at (length stamps) low))
    read_here false low = omega (arith, get_or_past (set stamps at stamp) at 0 (omega (arith, length-set stamps at stamp, ltb-false at (length stamps) low)))
read_at false stamps at stamp p is = omega (arith, get_or-set_other stamps at p stamp 0 (λ same. eqb-false at p is (sym same)))

pub set_read : (stamps : List ℕ) (at stamp p : ℕ) → get_or (set stamps at stamp) p 0 ≤ unwrap_or (cond (eqb at p) (Some stamp) None) (get_or stamps p 0)
set_read stamps at stamp p = read_at (eqb at p) stamps at stamp p refl

-- and where a zero more is there
pub zero_added : (stamps : List ℕ) (p : ℕ) → get_or (stamps ++ 0 ∷ []) p 0 ≡ get_or stamps p 0
zero_added [] zero = refl
zero_added [] (suc p) = refl
zero_added (x ∷ stamps) zero = refl
zero_added (x ∷ stamps) (suc p) = zero_added stamps p

module _ {T : Type 0} where
  pub some_same : (x y : T) → Some x ≡ Some y → x ≡ y
  some_same x y e = ap (λ o. unwrap_or o x) e

  -- what stood in a place leads back
  pub set_undone : (xs : List T) (at : ℕ) (value before : T) → at < length xs → Some before ≡ slice_get xs at → placed_at (set xs at value) at before ≡ xs
  set_undone [] at value before h e = absurd (omega (arith, h))
  set_undone (x ∷ xs) zero value before h e = ap (λ y. y ∷ xs) (some_same before x e)
  set_undone (x ∷ xs) (suc at) value before h e = ap (λ ys. x ∷ ys) (set_undone xs at value before (omega (arith, h)) e)

  -- the lowest k with one of them put back, and with another
  pub over_placed : (k at : ℕ) (x : T) (xs : List T) → at < k → at ≤ length xs → placed_at (take k xs) at x ≡ take k (placed_at xs at x)
  over_placed zero at x xs low near = absurd (omega (arith, low))
  over_placed (suc k) zero x [] low near = ap (λ l. x ∷ l) (sym (take_all k [] (omega arith)))
  over_placed (suc k) zero x (y ∷ xs) low near = refl
  over_placed (suc k) (suc at) x [] low near = absurd (omega (arith, near))
  over_placed (suc k) (suc at) x (y ∷ xs) low near = ap (λ l. y ∷ l) (over_placed k at x xs (omega (arith, low)) (omega (arith, near)))

  pub past_placed : (k at : ℕ) (x : T) (xs : List T) → k ≤ at → at ≤ length xs → take k (placed_at xs at x) ≡ take k xs
  past_placed zero at x xs past near = refl
  past_placed (suc k) zero x xs past near = absurd (omega (arith, past))
  past_placed (suc k) (suc at) x [] past near = absurd (omega (arith, near))
  past_placed (suc k) (suc at) x (y ∷ xs) past near = ap (λ l. y ∷ l) (past_placed k at x xs (omega (arith, past)) (omega (arith, near)))

  -- the lowest values up to the lower of two numbers
  take_lower_by : (b : Bool) (n k : ℕ) (xs : List T) → ltb n k ≡ b → take (min n k) xs ≡ take k (take n xs)
  take_lower_by true n k xs is =
      let lower : min n k ≡ n = omega (arith, ltb-true n k is) in
      let few : length (take n xs) ≤ k = omega (arith, ltb-true n k is, length-take n xs) in
      ap (λ m. take m xs) lower ∙ sym (take_all k (take n xs) few)
  take_lower_by false n k xs is =
      let lower : min n k ≡ k = omega (arith, ltb-false n k is) in
      ap (λ m. take m xs) lower ∙ sym (take-take k n xs (omega (arith, ltb-false n k is)))

  pub take_lower : (n k : ℕ) (xs : List T) → take (min n k) xs ≡ take k (take n xs)
  take_lower n k xs = take_lower_by (ltb n k) n k xs refl

  -- what reads the same is the same
  same_values : (xs ys : List T) → ((at : ℕ) → slice_get xs at ≡ slice_get ys at) → xs ≡ ys
  same_values [] [] h = refl
  same_values [] (y ∷ ys) h = absurd (none-some y (h 0))
  same_values (x ∷ xs) [] h = absurd (none-some x (sym (h 0)))
  same_values (x ∷ xs) (y ∷ ys) h = ap (λ z. z ∷ xs) (some_same x y (h 0)) ∙ ap (λ l. y ∷ l) (same_values xs ys (λ at. h (suc at)))

  placed_here : (xs : List T) (at : ℕ) (x : T) → at ≤ length xs → slice_get (placed_at xs at x) at ≡ Some x
  placed_here xs zero x near = refl
  placed_here [] (suc at) x near = absurd (omega (arith, near))
  placed_here (y ∷ xs) (suc at) x near = placed_here xs at x (omega (arith, near))

  placed_elsewhere : (xs : List T) (at p : ℕ) (x : T) → at ≤ length xs → (at ≡ p → ⊥) → slice_get (placed_at xs at x) p ≡ slice_get xs p
  placed_elsewhere xs zero zero x near apart = absurd (apart refl)
  placed_elsewhere [] zero (suc p) x near apart = refl
  placed_elsewhere (y ∷ xs) zero (suc p) x near apart = refl
  placed_elsewhere [] (suc at) p x near apart = absurd (omega (arith, near))
  placed_elsewhere (y ∷ xs) (suc at) zero x near apart = refl
  placed_elsewhere (y ∷ xs) (suc at) (suc p) x near apart = placed_elsewhere xs at p x (omega (arith, near)) (λ same. apart (ap suc same))

  pub placed_length : (xs : List T) (at : ℕ) (x : T) → length (placed_at xs at x) ≡ min at (length xs) + suc (length xs - suc at)
  placed_length xs at x = omega (arith, length-append (take at xs) (x ∷ drop (suc at) xs), length-take at xs, length-drop (suc at) xs)

  -- as many values, and the same ones but at noted places
  pub record Similar (noted : ℕ → Bool) (xs ys : List T) : Type 0 where
    pub long : length xs ≡ length ys
    pub same : (at : ℕ) → noted at ≡ false → slice_get xs at ≡ slice_get ys at

  pub similar_same : (noted : ℕ → Bool) (xs ys : List T) → xs ≡ ys → Similar noted xs ys
  similar_same noted xs ys is = record { long = ap length is; same = λ at unnoted. ap (λ l. slice_get l at) is }

  pub similar_all : (xs ys : List T) → Similar (λ at. false) xs ys → xs ≡ ys
  similar_all xs ys s = same_values xs ys (λ at. s.same at refl)

  placed_same : (b : Bool) (noted : ℕ → Bool) (xs ys : List T) (at stamp p : ℕ) (x : T) → eqb at p ≡ b → at ≤ length xs → at ≤ length ys → ((is_some (cond b (Some stamp) None) || noted p) ≡ false → slice_get xs p ≡ slice_get ys p) → noted p ≡ false →
      slice_get (placed_at xs at x) p ≡ slice_get (placed_at ys at x) p
  placed_same true noted xs ys at stamp p x is near near_too same unnoted =
      subst (λ q. slice_get (placed_at xs at x) q ≡ slice_get (placed_at ys at x) q) (eqb-true at p is) (placed_here xs at x near ∙ sym (placed_here ys at x near_too))
  placed_same false noted xs ys at stamp p x is near near_too same unnoted =
      placed_elsewhere xs at p x near (eqb-false at p is) ∙ same unnoted ∙ sym (placed_elsewhere ys at p x near_too (eqb-false at p is))

  -- once a noted one is put back into both
  pub similar_placed : (noted : ℕ → Bool) (xs ys : List T) (at stamp : ℕ) (x : T) → at ≤ length xs → Similar (λ p. is_some (cond (eqb at p) (Some stamp) None) || noted p) xs ys → Similar noted (placed_at xs at x) (placed_at ys at x)
  similar_placed noted xs ys at stamp x near s = record {
    long = omega (arith, placed_length xs at x, placed_length ys at x, s.long);
    same = λ p unnoted. placed_same (eqb at p) noted xs ys at stamp p x refl near (omega (arith, near, s.long)) (s.same p) unnoted;
  }

  -- or into one of them, where it is still noted
  pub similar_past : (noted : ℕ → Bool) (xs ys : List T) (at : ℕ) (x : T) → at < length xs → noted at ≡ true → Similar noted xs ys → Similar noted (placed_at xs at x) ys
  similar_past noted xs ys at x there is s = record {
    long = omega (arith, placed_length xs at x, s.long, there);
    same = λ p unnoted. placed_elsewhere xs at p x (omega (arith, there)) (λ same. true≢false (sym is ∙ ap noted same ∙ unnoted)) ∙ s.same p unnoted;
  }

  pub similar_set : (noted : ℕ → Bool) (xs : List T) (at : ℕ) (x : T) → at < length xs → noted at ≡ true → Similar noted xs (set xs at x)
  similar_set noted xs at x there is =
      let s = similar_past noted xs xs at x there is (similar_same noted xs xs refl) in
      record { long = sym (length-set xs at x); same = λ p unnoted. sym (ap (λ l. slice_get l p) (set_split xs at x there) ∙ s.same p unnoted) }
