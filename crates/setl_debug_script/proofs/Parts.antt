-- A line is what its parts are.
use Rattle.std.proofs.Common.{◌≡◌, ◌≢◌, ◌<◌, ◌≤◌, ◌^◌, ◌∙◌, ℕ, Bool, true, false, List, [], ◌∷◌, ◌++◌, Option, Some, None, Result, Ok, Err, IfOk, MatchOption, cond, nat_eq, codes, decimal, refl, sym, ap, arith, rules}
use Rattle.std.specs.Option.{unwrap_or}
use Rattle.std.proofs.lemmas.Bool.Decides.{nat_tests}
use Rattle.std.proofs.lemmas.Fmt.{decimal_injective}
use Rattle.std.proofs.lemmas.Option.{none-some}
use Rattle.setl_debug_script.specs.Scripts.{IsCommand, IsFaulty, IsInRange, line_of}
use Rattle.setl_debug_script.specs.code.Parts.{split, SpellsNone, SpellsOne}
use Rattle.setl_debug_script.specs.declared.command.Command.{Command}
use Rattle.setl_debug_script.specs.declared.command.Command.TheVariants.{Input, Go, On, Back, Until, Show, Out, Profile, Nothing}

-- a line from its parts
abbrev joined : List ℕ → Option (List ℕ) → List ℕ
joined word None = word
joined word (Some value) = word ++ 32 ∷ value

joined_more : (b : ℕ) (word : List ℕ) (value : Option (List ℕ)) → joined (b ∷ word) value ≡ b ∷ joined word value
joined_more b word None = refl
joined_more b word (Some value) = refl

one_byte : (b : ℕ) (bs : List ℕ) (t : Bool) → nat_eq b 32 ≡ t → joined (split bs).0 (split bs).1 ≡ bs → let p = cond {A = List ℕ × Option (List ℕ)} t ([], Some bs) (b ∷ (split bs).0, (split bs).1) in joined p.0 p.1 ≡ b ∷ bs
one_byte b bs true e h = ap (λ x. x ∷ bs) (let s : 32 ≡ b = grind (arith, nat_tests, e) in s)
one_byte b bs false e h = joined_more b (split bs).0 (split bs).1 ∙ ap (λ l. b ∷ l) h

joined_split : (z : List ℕ) → joined (split z).0 (split z).1 ≡ z
joined_split [] = refl
joined_split (b ∷ bs) = one_byte b bs (nat_eq b 32) refl (joined_split bs)

same_line : (y z : List ℕ) → split y ≡ split z → y ≡ z
same_line y z e = sym (joined_split y) ∙ ap (λ p. joined p.0 p.1) e ∙ joined_split z

-- the parts of a line spell what the line spells
pub one_command : (line word : List ℕ) (value : Option (List ℕ)) (c : Command) → split line ≡ (word, value) → SpellsOne word value c → IsCommand line c
one_command line word value c e s = record { spelled = same_line line (line_of c) (e ∙ sym s.spelled); in_range = s.in_range }

pub no_command : (line word : List ℕ) (value : Option (List ℕ)) → split line ≡ (word, value) → SpellsNone word value → IsFaulty line
no_command line word value e none c s = none c (record { spelled = ap split (sym s.spelled) ∙ e; in_range = s.in_range })

-- what the parts of a line give
pub by_parts : {E : Type 0} (r : Result (Option Command) E) (line word : List ℕ) (value : Option (List ℕ)) → split line ≡ (word, value) → IfOk r (λ o. MatchOption o (SpellsNone word value) (SpellsOne word value)) → IfOk r (λ o. MatchOption o (IsFaulty line) (IsCommand line))
by_parts (Ok None) line word value e h = no_command line word value e h
by_parts (Ok (Some c)) line word value e h = one_command line word value c e h
by_parts (Err x) line word value e h = tt

-- ---- words and numbers

word_is : (word x : List ℕ) (value y : Option (List ℕ)) → let p : List ℕ × Option (List ℕ) = (x, y) in p ≡ (word, value) → word ≡ x
word_is word x value y e = sym (ap (λ (p : List ℕ × Option (List ℕ)). p.0) e)

value_is : (word x value y : List ℕ) → let p : List ℕ × Option (List ℕ) = (x, Some y) in p ≡ (word, Some value) → y ≡ value
value_is word x value y e = ap (λ (p : List ℕ × Option (List ℕ)). unwrap_or p.1 []) e

no_value : (word x value : List ℕ) → let p : List ℕ × Option (List ℕ) = (x, None) in p ≡ (word, Some value) → ⊥
no_value word x value e = none-some value (ap (λ (p : List ℕ × Option (List ℕ)). p.1) e)

-- digits that spell no number
pub none_without_number : (word value : List ℕ) → word ≢ codes "input" → ((n : ℕ) → n < 2 ^ 63 → value ≢ decimal n) → SpellsNone word (Some value)
none_without_number word value other none (Input text) s = other (word_is word _ (Some value) _ s.spelled)
none_without_number word value other none (Go n) s = none n s.in_range (sym (value_is word _ value _ s.spelled))
none_without_number word value other none (On n) s = none n s.in_range (sym (value_is word _ value _ s.spelled))
none_without_number word value other none (Back n) s = none n s.in_range (sym (value_is word _ value _ s.spelled))
none_without_number word value other none (Until n) s = none n (omega (arith, s.in_range.1)) (sym (value_is word _ value _ s.spelled))
none_without_number word value other none Show s = no_value word _ value s.spelled
none_without_number word value other none Out s = no_value word _ value s.spelled
none_without_number word value other none Profile s = no_value word _ value s.spelled
none_without_number word value other none Nothing s = no_value word _ value s.spelled

-- a number behind another word, or one that is no line of a source
pub none_with_number : (word value : List ℕ) (n : ℕ) → word ≢ codes "input" → value ≡ decimal n → n < 2 ^ 63 → word ≢ codes "go" → word ≢ codes "on" → word ≢ codes "back" → (word ≡ codes "until" → 1 ≤ n → n < 2 ^ 32 → ⊥) → SpellsNone word (Some value)
none_with_number word value n other number small go on back until (Input text) s = other (word_is word _ (Some value) _ s.spelled)
none_with_number word value n other number small go on back until (Go m) s = go (word_is word _ (Some value) _ s.spelled)
none_with_number word value n other number small go on back until (On m) s = on (word_is word _ (Some value) _ s.spelled)
none_with_number word value n other number small go on back until (Back m) s = back (word_is word _ (Some value) _ s.spelled)
none_with_number word value n other number small go on back until (Until m) s =
    let same : m ≡ n = decimal_injective m n (omega (arith, s.in_range.1)) (omega (arith, small)) (value_is word _ value _ s.spelled ∙ number) in
    until (word_is word _ (Some value) _ s.spelled) (omega (arith, same, s.in_range.0)) (omega (arith, same, s.in_range.1))
none_with_number word value n other number small go on back until Show s = no_value word _ value s.spelled
none_with_number word value n other number small go on back until Out s = no_value word _ value s.spelled
none_with_number word value n other number small go on back until Profile s = no_value word _ value s.spelled
none_with_number word value n other number small go on back until Nothing s = no_value word _ value s.spelled
