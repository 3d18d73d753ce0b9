-- Plain tokens by their index.
use Rattle.std.proofs.Common.{◌≡◌, ℕ, zero, suc, ◌+◌, ◌-◌, ◌<◌, ◌≤◌, Bool, true, false, List, [], ◌∷◌, length, map, drop, Option, Some, Ok, Err, refl, ap, arith, add-one, length-drop}
use Rattle.std.proofs.lemmas.List.{drop-drop, length-map}
use Rattle.std.specs.List.{slice_get}
use Rattle.setl_tree.specs.Tokens.{Token, Tokens}
use Rattle.setl_token.specs.declared.Token.{Token as Lexeme}
use Rattle.setl_token.specs.Text.{Lexed}
use Rattle.setl_tree.specs.declared.kind.Kind.{Kind}
use Rattle.setl_tree.specs.declared.kind.Kind.TheVariants.{SourceEnd}
use Rattle.setl_parse_reading.specs.declared.fault.Fault.TheVariants.{Syntax, Nesting}
use Rattle.setl_parse_reading.specs.code.Reading.{next_kind, rest_of, sees, take_if, expect, opening}
use Rattle.setl_parse_cursor.specs.Plain.{plain_token, plain_tokens, next_token}

abbrev some_lexeme : Lexeme → Option Lexeme
some_lexeme t = Some t

lexeme_is : (t u : Lexeme) → some_lexeme t ≡ some_lexeme u → t ≡ u
lexeme_is t u e = cc

drop_map : (f : Lexeme → Token) (ts : List Lexeme) (i : ℕ) (t : Lexeme) → slice_get ts i ≡ Some t → drop i (map f ts) ≡ f t ∷ drop (suc i) (map f ts)
drop_map f [] zero t e = absurd (cc)
drop_map f [] (suc i) t e = absurd (cc)
drop_map f (u ∷ us) zero t e = ap (λ (v : Lexeme). f v ∷ map f us) (lexeme_is u t e)
drop_map f (u ∷ us) (suc i) t e = drop_map f us i t e

drop_past : (f : Lexeme → Token) (ts : List Lexeme) (i : ℕ) → length ts ≤ i → drop i (map f ts) ≡ []
drop_past f [] zero e = refl
drop_past f [] (suc i) e = refl
drop_past f (u ∷ us) zero e = absurd (omega (arith, e))
drop_past f (u ∷ us) (suc i) e = drop_past f us i (omega (arith, e))

drop_rest : (xs : Tokens) (i : ℕ) → rest_of (drop i xs) ≡ drop (suc i) xs
drop_rest [] zero = refl
drop_rest [] (suc i) = refl
drop_rest (x ∷ xs) zero = refl
drop_rest (x ∷ xs) (suc i) = drop_rest xs i

-- the tokens from an index on, where a token stands there
pub token_at : (l : Lexed) (i : ℕ) (t : Lexeme) → slice_get l.tokens i ≡ Some t → drop i (plain_tokens l) ≡ plain_token l.source t ∷ drop (i + 1) (plain_tokens l)
token_at l i t e = rw add-one (drop_map (plain_token l.source) l.tokens i t e)

-- and behind the last one
pub none_at : (l : Lexed) (i : ℕ) → length l.tokens ≤ i → drop i (plain_tokens l) ≡ []
none_at l i e = drop_past (plain_token l.source) l.tokens i e

pub rest_at : (xs : Tokens) (i : ℕ) → rest_of (drop i xs) ≡ drop (i + 1) xs
rest_at xs i = rw add-one (drop_rest xs i)

-- behind the last token
past : (n : ℕ) (toks : Tokens) → length toks ≤ n → SourceEnd ≡ next_kind (drop n toks)
past zero [] e = refl
past zero (t ∷ toks) e = absurd (omega (arith, e))
past (suc n) [] e = refl
past (suc n) (t ∷ toks) e = past n toks (omega (arith, e))

pub kind_past : (n at : ℕ) (l : Lexed) → length l.tokens - at ≤ n → SourceEnd ≡ next_kind (drop n (drop at (plain_tokens l)))
kind_past n at l e = past n (drop at (plain_tokens l)) (omega (arith, e, length-drop at (plain_tokens l), length-map l.tokens (plain_token l.source)))

pub kind_further : (n at : ℕ) (toks : Tokens) → next_kind (drop n (drop at toks)) ≡ next_kind (drop (at + n) toks)
kind_further n at toks = ap next_kind (drop-drop n at toks)

-- ---- one token by its kind

pub took : (kind : Kind) (toks : Tokens) → sees kind toks ≡ true → 0 < length toks → expect kind toks ≡ Ok (next_token toks, rest_of toks)
unfolding expect
took kind [] e some = absurd (omega (arith, some))
took kind (t ∷ toks) e some = rw e refl

pub refused : (kind : Kind) (toks : Tokens) → sees kind toks ≡ false → expect kind toks ≡ Err (Syntax (length toks))
unfolding expect
refused kind toks e = rw e refl

none_if : (b : Bool) → take_if b [] ≡ Err (Syntax 0)
none_if true = refl
none_if false = refl

pub ended : (kind : Kind) (toks : Tokens) → length toks ≡ 0 → expect kind toks ≡ Err (Syntax (length toks))
unfolding expect
ended kind [] e = none_if (sees kind [])
ended kind (t ∷ toks) e = absurd (omega (arith, e))

pub too_deep_at : (kind : Kind) (toks : Tokens) → sees kind toks ≡ true → opening 0 kind toks ≡ Err (Nesting (length toks))
unfolding opening
too_deep_at kind toks e = rw e refl

pub no_room : (kind : Kind) (toks : Tokens) → sees kind toks ≡ false → opening 0 kind toks ≡ Err (Syntax (length toks))
unfolding opening
no_room kind toks e = rw e refl

pub opens : (room : ℕ) (kind : Kind) (toks : Tokens) → 0 < room → opening room kind toks ≡ expect kind toks
unfolding opening expect
opens zero kind toks some = absurd (omega (arith, some))
opens (suc room) kind toks some = refl
