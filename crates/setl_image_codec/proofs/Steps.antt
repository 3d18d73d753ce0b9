-- Steps of the functions that read and write.
use Rattle.std.proofs.Common.{◌≡◌, ℕ, zero, suc, ◌+◌, ◌-◌, ◌/◌, ◌%◌, ◌≤◌, true, List, [], ◌∷◌, ◌++◌, inl, inr, arith}
use Rattle.std.specs.Prelude.{nat_le, nat_eq, ◌&&◌, ◌||◌}
use Rattle.std.specs.List.{AllByRecursion}
use Rattle.std.proofs.lemmas.List.{append_assoc}
use Rattle.std.proofs.lemmas.Bool.{le-ltb, and_parts, or_cases, eqb-true, leb-true, not-true, eqb-false}
use Rattle.setl_tree.specs.Texts.{IsTextByte}
use Rattle.setl_image_codec.specs.Numbers.{groups}
use Rattle.setl_image_codec.specs.Texts.{all_are, is_text_byte, is_name, is_name_byte, is_letter}

-- all groups but the last
pub groups_more : (most n : ℕ) (old : List ℕ) → 1 ≤ most → 128 ≤ n → (old ++ (128 + n % 128) ∷ []) ++ groups (most - 1) (n / 128) ≡ old ++ groups most n
groups_more zero n old some large = absurd (omega (arith, some))
groups_more (suc most) n old some large = let less : suc most - 1 ≡ most = omega arith in rw less (rw (le-ltb n 128 large) (append_assoc old ((128 + n % 128) ∷ []) (groups most (n / 128))))

-- a text has no byte 10
pub text_bytes : (bs : List ℕ) → all_are is_text_byte bs ≡ true → AllByRecursion IsTextByte bs
text_bytes [] so = tt
text_bytes (b ∷ bs) so =
    let parts = and_parts _ _ so in
    (eqb-false b 10 (not-true _ parts.0), text_bytes bs parts.1)

letter_is_text : (b : ℕ) → is_letter b ≡ true → IsTextByte b
letter_is_text b so is = omega (arith, is, leb-true 97 b (and_parts _ _ so).0)

name_byte_is_text : (b : ℕ) → is_name_byte b ≡ true → IsTextByte b
name_byte_is_text b so = elim (or_cases (is_letter b || (nat_le 48 b && nat_le b 57)) (nat_eq b 95) so) [
  | inl left ↦ elim (or_cases (is_letter b) (nat_le 48 b && nat_le b 57) left) [
    | inl letter ↦ letter_is_text b letter
    | inr digit ↦ λ is. omega (arith, is, leb-true 48 b (and_parts (nat_le 48 b) (nat_le b 57) digit).0)
  ]
  | inr line ↦ λ is. omega (arith, is, eqb-true b 95 line)
]

name_bytes : (bs : List ℕ) → all_are is_name_byte bs ≡ true → AllByRecursion IsTextByte bs
name_bytes [] so = tt
name_bytes (b ∷ bs) so = let parts = and_parts _ _ so in (name_byte_is_text b parts.0, name_bytes bs parts.1)

-- a name has none either
pub name_is_text : (bs : List ℕ) → is_name bs ≡ true → AllByRecursion IsTextByte bs
name_is_text [] so = tt
name_is_text (b ∷ bs) so = let parts = and_parts _ _ so in (letter_is_text b parts.0, name_bytes bs parts.1)
