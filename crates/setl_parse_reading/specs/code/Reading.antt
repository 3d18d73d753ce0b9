-- Reading from left to right with one token of look-ahead. Readers are written with the words of the grammar.
use Rattle.std.specs.Prelude.{◌≡◌, ◌≢◌, ℕ, zero, suc, Bool, true, false, not, if◌then◌else◌, List, [], ◌∷◌, ◌++◌, length, Option, Some, None, Result, Ok, Err}
use denote.Enum.Bare.{sameb}
use Rattle.setl_tree.specs.declared.kind.Kind.{Kind}
use Rattle.setl_tree.specs.declared.kind.Kind.TheVariants as k
use Rattle.setl_tree.specs.contracts.kind.Kind.{the_type}
use Rattle.setl_tree.specs.Tokens.{Token, Tokens}
use Rattle.setl_tree.specs.Lang.{line_of}
use Rattle.setl_parse_reading.specs.declared.fault.Fault.{Fault}
use Rattle.setl_parse_reading.specs.declared.fault.Fault.TheVariants.{Memory, Syntax, Nesting}

abbrev pub Outcome : Type 0 → Type 0
Outcome A = Result (A × Tokens) Fault

abbrev pub Reader : Type 0 → Type 0
Reader A = Tokens → Outcome A

-- the kind of the next token
abbrev pub next_kind : Tokens → Kind
next_kind [] = k.SourceEnd
next_kind (t ∷ toks) = t.kind

unfoldable pub same_kind : Kind → Kind → Bool
same_kind = sameb the_type

abbrev pub rest_of : Tokens → Tokens
rest_of [] = []
rest_of (t ∷ toks) = toks

abbrev pub and_then : {A B : Type 0} → Outcome A → (A → Reader B) → Outcome B
and_then (Ok p) f = f p.0 p.1
and_then (Err e) f = Err e

infixl 10 ◌>>=◌
abbrev pub ◌>>=◌ : {A B : Type 0} → Reader A → (A → Reader B) → Reader B
p >>= f = λ i. and_then (p i) f

infixl 10 ◌>>◌
abbrev pub ◌>>◌ : {A B : Type 0} → Reader A → Reader B → Reader B
p >> q = p >>= (λ _. q)

abbrev pub pure : {A : Type 0} → A → Reader A
pure a = λ i. Ok (a, i)

abbrev pub refuse : {A : Type 0} → Reader A
refuse = λ i. Err (Syntax (length i))

-- one nesting too many
abbrev pub too_deep : {A : Type 0} → Reader A
too_deep = λ i. Err (Nesting (length i))

abbrev pub peek : Reader Kind
peek = λ i. Ok (next_kind i, i)

abbrev pub sees : Kind → Tokens → Bool
sees k i = same_kind (next_kind i) k

-- the token of this kind
abbrev pub take_if : Bool → Reader Token
take_if true (t ∷ toks) = Ok (t, toks)
take_if true [] = Err (Syntax 0)
take_if false toks = Err (Syntax (length toks))

unfoldable pub expect : Kind → Reader Token
expect k = λ i. take_if (sees k i) i

-- the token of this kind, which opens a nesting, where so many nestings may still open
abbrev pub open_if : ℕ → Bool → Reader Token
open_if (suc room) here = take_if here
open_if zero true = too_deep
open_if zero false = refuse

unfoldable pub opening : ℕ → Kind → Reader Token
opening room k = λ i. open_if room (sees k i) i

abbrev pub meant : {A : Type 0} → Option A → Reader A
meant (Some a) = λ i. Ok (a, rest_of i)
meant None = refuse

-- the token that means something
unfoldable pub one_of : {A : Type 0} → (Kind → Option A) → Reader A
one_of meaning = λ i. meant (meaning (next_kind i)) i

abbrev pub open_meant : {A : Type 0} → ℕ → Option A → Reader A
open_meant (suc room) meaning = meant meaning
open_meant zero (Some a) = too_deep
open_meant zero None = refuse

-- the token that means something and opens a nesting
unfoldable pub opening_one_of : {A : Type 0} → ℕ → (Kind → Option A) → Reader A
opening_one_of room meaning = λ i. open_meant room (meaning (next_kind i)) i

abbrev pub is_some : {A : Type 0} → Option A → Bool
is_some (Some a) = true
is_some None = false

-- a token that means something
abbrev pub begins_as : {A : Type 0} → (Kind → Option A) → Kind → Bool
begins_as meaning kind = is_some (meaning kind)

-- a token of this kind
abbrev pub is : Kind → Kind → Bool
is k kind = same_kind kind k

-- a token of another kind
abbrev pub but : Kind → Kind → Bool
but k kind = not (is k kind)

-- parts, while a next one begins; the number bounds the turns
unfoldable pub many_from : {A : Type 0} → (Kind → Bool) → Reader A → ℕ → List A → Reader (List A)
many_from begins item zero found = pure found
many_from begins item (suc n) found = do
  kind ← peek
  if begins kind then (do x ← item; many_from begins item n (found ++ x ∷ [])) else pure found

abbrev pub many : {A : Type 0} → (Kind → Bool) → Reader A → Reader (List A)
many begins item = λ i. many_from begins item (length i) [] i

-- a part, if it begins here
abbrev pub optional : {A : Type 0} → (Kind → Bool) → Reader A → Reader (Option A)
optional begins item = do
  kind ← peek
  if begins kind then (do x ← item; pure (Some x)) else pure None

-- more parts, each behind a comma
unfoldable pub more : {A : Type 0} → Reader A → Reader (List A)
more item = many (is k.Comma) (expect k.Comma >> item)

-- one or more parts with commas between
unfoldable pub separated : {A : Type 0} → Reader A → Reader (List A)
separated item = do first ← item; others ← more item; pure (first ∷ others)

-- parts with commas between up to the token that closes them, or nothing
unfoldable pub listed : {A : Type 0} → Kind → Reader A → Reader (List A)
listed close item = do
  kind ← peek
  if is close kind then pure [] else separated item

-- a name
unfoldable pub name : Reader (List ℕ)
name = do t ← expect k.Name; pure t.text

-- the line of the next token
abbrev pub peek_line : Reader ℕ
peek_line = λ i. Ok (line_of i, i)

-- a part with the line of its first token
abbrev pub lined : {A : Type 0} → Reader A → Reader (ℕ × A)
lined part = do line ← peek_line; a ← part; pure (line, a)

-- What a function that reads ensures: the outcome of reading, unless memory ran out.
abbrev pub Reads : {A : Type 0} → Outcome A → Result A Fault → Tokens → Type 0
Reads outcome (Ok a) new = outcome ≡ Ok (a, new)
Reads outcome (Err e) new = e ≢ Memory → outcome ≡ Err e
