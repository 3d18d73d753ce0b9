-- One byte of a string.
use Rattle.std.specs.Prelude.{◌≡◌, ℕ, ℤ, pos, negsuc, zero, suc, ◌-◌, ◌<◌, ◌≤ℤ◌, ◌<ℤ◌, true, List, [], ◌∷◌, Some, None, Ok, Err, length, slice_get, slice_range, take, drop, int_le, refl}
use Rattle.std.specs.Bool.{if◌then◌else◌}
use Rattle.std.specs.Option.{option_map}
use Rattle.std.proofs.Common.{ap, sym, ◌∙◌, arith}
use Rattle.std.proofs.lemmas.Int.{ints}
use Rattle.std.proofs.lemmas.Option.{slice_get_past}
use Rattle.setl_value.specs.Datum.{int, text}
use Rattle.setl_scalar.specs.declared.ScalarFault.TheVariants.{Range}
use Rattle.setl_value.specs.Copies.{are_places}
use Rattle.setl_operators_table.specs.Outcome.{Gives, Fails, RangeFault, value}
use Rattle.setl_operators_table.specs.Selections.{get, slice, letter, part_of_text}

-- the slice of one byte
one_byte : (t : List ℕ) (k : ℕ) → k < length t → (b : ℕ) × (slice_get t k ≡ Some b) × (take (suc k - k) (drop k t) ≡ b ∷ [])
one_byte [] k h = absurd (omega arith)
one_byte (b ∷ t) zero h = (b, refl, refl)
one_byte (b ∷ t) (suc k) h = let r = one_byte t k (omega arith) in (r.0, r.1, ap (λ n. take n (drop k t)) {x = suc (suc k) - suc k} {y = suc k - k} (omega arith) ∙ r.2)

within : (t : List ℕ) (k : ℕ) → k < length t → slice (text t) (int (pos (suc k))) (int (pos (suc k))) ≡ letter t (pos (suc k))
within t k h =
    let b = one_byte t k h in
    let i = pos (suc k) in
    let there : are_places i i (length t) ≡ true = grind (arith, ints) in
    let least : int_le (pos 1) i ≡ true = grind (arith, ints) in
    let at : suc k - 1 ≡ k = omega arith in
    ap (λ c. part_of_text (if c then Ok (slice_range t (suc k - 1) (suc k)) else Err Range)) there
    ∙ ap (λ j. value (text (take (suc k - j) (drop j t)))) at ∙ ap (λ l. value (text l)) b.2
    ∙ sym (ap (λ o. Gives (option_map (λ c. text (c ∷ [])) o) 0) (ap (slice_get t) at ∙ b.1))
    ∙ ap (λ c. if c then Gives (option_map (λ c. text (c ∷ [])) (slice_get t (suc k - 1))) 0 else Fails RangeFault) (sym least)

-- up to the end, a byte is a slice
pub letter_row : (t : List ℕ) (i : ℤ) → i ≤ℤ pos (length t) → slice (text t) (int i) (int i) ≡ get (text t) (int i)
letter_row t (negsuc n) h = refl
letter_row t (pos zero) h = refl
letter_row t (pos (suc k)) h = within t k (omega (arith, ints))

-- past it there is none
pub past_row : (t : List ℕ) (i : ℤ) → pos (length t) <ℤ i → get (text t) (int i) ≡ Gives None 0
past_row t (negsuc n) h = absurd (omega (arith, ints))
past_row t (pos zero) h = absurd (omega (arith, ints))
past_row t (pos (suc k)) h =
    let least : int_le (pos 1) (pos (suc k)) ≡ true = grind (arith, ints) in
    ap (λ c. if c then Gives (option_map (λ c. text (c ∷ [])) (slice_get t (suc k - 1))) 0 else Fails RangeFault) least
    ∙ ap (λ o. Gives (option_map (λ c. text (c ∷ [])) o) 0) (slice_get_past t (suc k - 1) (omega (arith, ints)))
