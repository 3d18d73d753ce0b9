-- The codec of own names is exact.
use Rattle.std.proofs.Common.{◌≡◌, ◌≢◌, ℕ, zero, suc, rules, ◌+◌, ◌-◌, ◌*◌, ◌^◌, ◌<◌, ◌≤◌, true, false, List, [], ◌∷◌, ◌++◌, length, Option, Some, None, refl, sym, ap, ◌∙◌, subst, inl, inr, arith}
use Rattle.std.specs.Prelude.{nat_eq, nat_le, nat_lt, ◌&&◌, ◌||◌, get_or, decimal}
use Rattle.std.proofs.lemmas.Option.{same_Some, none-some, cond_some, option_and_then_some}
use Rattle.std.proofs.lemmas.Bool.{cases_Bool, cases_lt, cases_eq, lt-ltb, le-ltb, ltb-true, ne_eqb, eq-eqb, and_parts, or_cases, leb-true, eqb-true}
use Rattle.std.proofs.lemmas.Str.Parse.{IsNumeralModel, numerals_by_fold}
use Rattle.std.proofs.lemmas.Fmt.{digits_decimal, digits_value-decimal, decimal-digits_value, first_decimal, decimal_digit}
use Rattle.setl_code.specs.declared.code.OwnName.{OwnName}
use Rattle.setl_code.specs.declared.code.OwnName.TheVariants as own
use Rattle.setl_image_codec.specs.Codec.{IsExact}
use Rattle.setl_image_codec.specs.Texts.{all_are, counted, is_letter, is_name, is_name_byte}
use Rattle.setl_image_format.specs.OwnNames.{own_text, IsOwnName, split, is_digit, with_digit, numeral_behind, numeral, former_of, own_of, own_name}
use Rattle.setl_image_format.proofs.Combined.{through_exact}
use Rattle.setl_image_format.proofs.Exact.{counted_exact}

-- ---- numerals

abbrev read_on : ℕ → List ℕ → ℕ
read_on n [] = n
read_on n (b ∷ bs) = read_on (10 * n + (b - 48)) bs

digits : IsNumeralModel (λ ds. all_are is_digit ds ≡ true) (read_on 0)
digits = numerals_by_fold _ (search rules) read_on (search rules)

grows : (n : ℕ) (bs : List ℕ) → n ≤ read_on n bs
grows n [] = omega arith
grows n (b ∷ bs) = omega (arith, grows (10 * n + (b - 48)) bs)

behind_some : (n : ℕ) (bs : List ℕ) (k : ℕ) → n < 2 ^ 32 → numeral_behind n bs ≡ Some k → (all_are is_digit bs ≡ true) × (k ≡ read_on n bs) × (k < 2 ^ 32)
behind_some n [] k below is = let same = same_Some n k is in (refl, sym same, omega (arith, below, same))
behind_some n (b ∷ bs) k below is = option_and_then_some (λ m. numeral_behind m bs) (with_digit n b) k is (λ m found rest.
    let it = cond_some (is_digit b && nat_lt (10 * n + (b - 48)) (2 ^ 32)) (10 * n + (b - 48)) m found in
    let parts = and_parts (is_digit b) (nat_lt (10 * n + (b - 48)) (2 ^ 32)) it.0 in
    let less : m < 2 ^ 32 = omega (arith, it.1, ltb-true (10 * n + (b - 48)) (2 ^ 32) parts.1) in
    let inner = behind_some m bs k less rest in
    (rw parts.0 inner.0, subst (λ t. k ≡ read_on t bs) (sym it.1) inner.1, inner.2))

behind_there : (n : ℕ) (bs : List ℕ) → all_are is_digit bs ≡ true → read_on n bs < 2 ^ 32 → numeral_behind n bs ≡ Some (read_on n bs)
behind_there n [] are below = refl
behind_there n (b ∷ bs) are below =
    let parts = and_parts (is_digit b) (all_are is_digit bs) are in
    rw parts.0
    (rw (lt-ltb (10 * n + (b - 48)) (2 ^ 32) (omega (arith, below, grows (10 * n + (b - 48)) bs)))
    (behind_there (10 * n + (b - 48)) bs parts.1 below))

numeral_there : (ds : List ℕ) (k : ℕ) → 48 < get_or ds 0 0 → all_are is_digit ds ≡ true → read_on 0 ds ≡ k → k < 2 ^ 32 → numeral ds ≡ Some k
numeral_there [] k more are value below = absurd (omega (arith, more))
numeral_there (b ∷ bs) k more are value below =
    rw (ne_eqb b 48 (λ e. omega (arith, e, more)))
    (behind_there 0 (b ∷ bs) are (omega (arith, value, below)) ∙ ap Some value)

numeral_of_decimal : (k : ℕ) → 1 ≤ k → k < 2 ^ 32 → numeral (decimal k) ≡ Some k
numeral_of_decimal k some below =
    let wide : k < 2 ^ 64 = omega (arith, below) in
    numeral_there (decimal k) k (first_decimal k (omega (arith, some)) wide) (digits_decimal digits k wide) (digits_value-decimal digits k wide) below

not_zero : (b : ℕ) (bs : List ℕ) (k : ℕ) → b ≢ 48 → b ∷ bs ≡ decimal k → 1 ≤ k
not_zero b bs zero other is = absurd (other (ap (λ t. get_or t 0 0) (is ∙ decimal_digit 0 (omega arith))))
not_zero b bs (suc k) other is = omega arith

numeral_only : (ds : List ℕ) (k : ℕ) → numeral ds ≡ Some k → (ds ≡ decimal k) × (1 ≤ k) × (k < 2 ^ 32)
numeral_only [] k is = absurd (none-some k is)
numeral_only (b ∷ bs) k is = elim (cases_eq b 48) [
  | inl is_zero ↦ absurd (none-some k (rw (eq-eqb b 48 is_zero) at is))
  | inr other ↦
      let some = behind_some 0 (b ∷ bs) k (omega arith) (rw (ne_eqb b 48 other) at is) in
      let again : decimal (read_on 0 (b ∷ bs)) ≡ b ∷ bs = decimal-digits_value digits (b ∷ bs) some.0 (omega arith) (λ e. absurd (other e)) (omega (arith, some.1, some.2)) in
      let text : b ∷ bs ≡ decimal k = sym again ∙ ap decimal (sym some.1) in
      (text, not_zero b bs k other text, some.2)
]

-- ---- before and behind the first `.`

name_byte_is_no_dot : (b : ℕ) → is_name_byte b ≡ true → b ≢ 46
name_byte_is_no_dot b so is = elim (or_cases (is_letter b || (nat_le 48 b && nat_le b 57)) (nat_eq b 95) so) [
  | inl left ↦ elim (or_cases (is_letter b) (nat_le 48 b && nat_le b 57) left) [
    | inl letter ↦ omega (arith, is, leb-true 97 b (and_parts _ _ letter).0)
    | inr digit ↦ omega (arith, is, leb-true 48 b (and_parts (nat_le 48 b) (nat_le b 57) digit).0)
  ]
  | inr line ↦ omega (arith, is, eqb-true b 95 line)
]

split_there : (x ds : List ℕ) → all_are is_name_byte x ≡ true → split (x ++ 46 ∷ ds) ≡ (x, ds)
split_there [] ds are = refl
split_there (b ∷ x) ds are =
    let parts = and_parts (is_name_byte b) (all_are is_name_byte x) are in
    rw (ne_eqb b 46 (name_byte_is_no_dot b parts.0)) (rw (split_there x ds parts.1) refl)

split_only : (t : List ℕ) → 0 < length (split t).1 → t ≡ (split t).0 ++ 46 ∷ (split t).1
split_only [] more = absurd (omega (arith, more))
split_only (b ∷ bs) more = elim (cases_eq b 46) [
  | inl dot ↦ rw (eq-eqb b 46 dot) (ap (λ t. t ∷ bs) dot)
  | inr other ↦ rw (ne_eqb b 46 other) (ap (λ t. b ∷ t) (split_only bs (rw (ne_eqb b 46 other) at more)))
]

-- ---- own names

letter_is_name_byte : (b : ℕ) → is_letter b ≡ true → is_name_byte b ≡ true
letter_is_name_byte b is = rw is refl

name_bytes : (x : List ℕ) → is_name x ≡ true → all_are is_name_byte x ≡ true
name_bytes [] is = refl
name_bytes (b ∷ bs) is = let parts = and_parts (is_letter b) (all_are is_name_byte bs) is in rw (letter_is_name_byte b parts.0) parts.1

dotted_bytes : (x ds : List ℕ) → all_are is_name_byte (x ++ 46 ∷ ds) ≡ false
dotted_bytes [] ds = refl
dotted_bytes (b ∷ x) ds = elim (cases_Bool (is_name_byte b)) [
  | inl so ↦ rw so (dotted_bytes x ds)
  | inr not ↦ rw not refl
]

dotted_is_no_name : (x ds : List ℕ) → is_name (x ++ 46 ∷ ds) ≡ false
dotted_is_no_name [] ds = refl
dotted_is_no_name (b ∷ x) ds = elim (cases_Bool (is_letter b)) [
  | inl so ↦ rw so (dotted_bytes x ds)
  | inr not ↦ rw not refl
]

own_there : (a : OwnName) → IsOwnName a → own_of (own_text a) ≡ Some a
own_there (own.Body x) fits = rw fits refl
own_there (own.Former k x) fits =
    rw (dotted_is_no_name x (decimal k))
    (rw (split_there x (decimal k) (name_bytes x fits.0))
    (rw (numeral_of_decimal k fits.1 fits.2) (rw fits.0 refl)))

some_digits : (ds : List ℕ) (k : ℕ) → numeral ds ≡ Some k → 0 < length ds
some_digits [] k is = absurd (none-some k is)
some_digits (b ∷ bs) k is = omega arith

former_only : (t : List ℕ) (o : Option ℕ) (a : OwnName) → numeral (split t).1 ≡ o → former_of (split t).0 o ≡ Some a → IsOwnName a × (t ≡ own_text a)
former_only t None a number is = absurd (none-some a is)
former_only t (Some k) a number is =
    let it = cond_some (is_name (split t).0) (own.Former k (split t).0) a is in
    let only = numeral_only (split t).1 k number in
    subst (λ own. IsOwnName own × (t ≡ own_text own)) it.1
    ((it.0, only.1, only.2), split_only t (some_digits (split t).1 k number) ∙ ap (λ ds. (split t).0 ++ 46 ∷ ds) only.0)

own_only : (t : List ℕ) (a : OwnName) → own_of t ≡ Some a → IsOwnName a × (t ≡ own_text a)
own_only t a is = elim (cases_Bool (is_name t)) [
  | inl so ↦ let same = same_Some (own.Body t) a (rw so at is) in subst (λ it. IsOwnName it × (t ≡ own_text it)) same (so, refl)
  | inr not ↦ former_only t (numeral (split t).1) a refl (rw not at is)
]

pub the_own_name : IsExact own_name
the_own_name = through_exact own_text IsOwnName own_of counted (record {
  back = own_there;
  made = λ t a fits is. own_only t a is;
}) counted_exact
