-- A string holds what stood in it before its apostrophes were doubled.
use Rattle.std.proofs.Common.{◌≡◌, ℕ, ◌-◌, ◌==◌, Bool, true, false, cond, List, [], ◌∷◌, ◌++◌, length, refl, ap, ◌∙◌, arith, length-append}
use Rattle.std.proofs.lemmas.Bool.Decides.{nat_tests}
use Rattle.std.proofs.lemmas.List.{take_at}
use Rattle.setl_token.specs.Form.{IsStringText, doubled}
use Rattle.setl_parse_cursor.specs.Plain.{undoubled, inside}

-- a byte that is no apostrophe stands alone
alone : (b : ℕ) (xs : List ℕ) → (b == 39) ≡ false → undoubled (b ∷ xs) ≡ b ∷ undoubled xs
alone b [] e = refl
alone b (c ∷ xs) e = rw e refl

is_apostrophe : (b : ℕ) → (b == 39) ≡ true → 39 ≡ b
is_apostrophe b e = grind (arith, nat_tests)

by_byte : (b : ℕ) (body : List ℕ) (t : Bool) → (b == 39) ≡ t → undoubled (doubled body) ≡ body → undoubled (cond t (39 ∷ 39 ∷ doubled body) (b ∷ doubled body)) ≡ b ∷ body
by_byte b body true e h = ap (λ (xs : List ℕ). 39 ∷ xs) h ∙ ap (λ (n : ℕ). n ∷ body) (is_apostrophe b e)
by_byte b body false e h = alone b (doubled body) e ∙ ap (λ (xs : List ℕ). b ∷ xs) h

undoubled-doubled : (body : List ℕ) → undoubled (doubled body) ≡ body
undoubled-doubled [] = refl
undoubled-doubled (b ∷ body) = by_byte b body (b == 39) refl (undoubled-doubled body)

between : (ds : List ℕ) → inside (39 ∷ (ds ++ 39 ∷ [])) ≡ ds
between ds = take_at ds (39 ∷ []) (length (39 ∷ (ds ++ 39 ∷ [])) - 2) (omega (arith, length-append ds (39 ∷ [])))

pub holds_body : (text behind : List ℕ) (s : IsStringText text behind) → undoubled (inside text) ≡ s.body
holds_body text behind s = ap (λ (t : List ℕ). undoubled (inside t)) s.text_is ∙ ap undoubled (between (doubled s.body)) ∙ undoubled-doubled s.body
