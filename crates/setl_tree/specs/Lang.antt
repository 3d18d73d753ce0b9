-- Languages: which lists of tokens spell which value. The grammar is written with these words.
use Rattle.std.specs.Prelude.{◌≡◌, ℕ, zero, suc, List, [], ◌∷◌, ◌++◌, ◌⊎◌, Option, Some, None}
use Rattle.setl_tree.specs.Tokens.{Token, Tokens}
use Rattle.setl_tree.specs.declared.kind.Kind.{Kind}
use Rattle.setl_tree.specs.declared.kind.Kind.TheVariants as k

abbrev pub Lang : Type 0 → Type 1
Lang A = Tokens → A → Type 0

-- no tokens
abbrev pub pure : {A : Type 0} → A → Lang A
pure a toks b = (toks ≡ []) × (a ≡ b)

-- tokens of the first language, then tokens of the second, which may look at the first value
pub record Then {A B : Type 0} (L : Tokens → A → Type 0) (M : A → Tokens → B → Type 0) (toks : Tokens) (b : B) : Type 0 where
  pub front : Tokens
  pub back : Tokens
  pub value : A
  pub parts : toks ≡ front ++ back
  pub first : L front value
  pub second : M value back b

infixl 10 ◌>>=◌
abbrev pub ◌>>=◌ : {A B : Type 0} → Lang A → (A → Lang B) → Lang B
L >>= M = λ toks b. Then L M toks b

infixl 10 ◌>>◌
abbrev pub ◌>>◌ : {A B : Type 0} → Lang A → Lang B → Lang B
L >> M = λ toks b. Then L (λ _. M) toks b

-- one or the other
infixr 8 ◌∣◌
abbrev pub ◌∣◌ : {A : Type 0} → Lang A → Lang A → Lang A
L ∣ M = λ toks a. L toks a ⊎ M toks a

-- nothing
abbrev pub never : {A : Type 0} → Lang A
never toks a = ⊥

-- one token of this kind
pub record IsToken (k : Kind) (toks : Tokens) (t : Token) : Type 0 where
  pub alone : toks ≡ t ∷ []
  pub kind : t.kind ≡ k

abbrev pub token : Kind → Lang Token
token k toks t = IsToken k toks t

-- one token that stands for something
pub record Means {A : Type 0} (meaning : Kind → Option A) (toks : Tokens) (a : A) : Type 0 where
  pub it : Token
  pub alone : toks ≡ it ∷ []
  pub means : meaning it.kind ≡ Some a

abbrev pub one_of : {A : Type 0} → (Kind → Option A) → Lang A
one_of meaning toks a = Means meaning toks a

-- a token that opens a nesting, where so many nestings may still open
abbrev pub opening : ℕ → Kind → Lang Token
opening zero k = never
opening (suc room) k = token k

abbrev pub opening_one_of : {A : Type 0} → ℕ → (Kind → Option A) → Lang A
opening_one_of zero meaning = never
opening_one_of (suc room) meaning = one_of meaning

-- tokens that meet the first, then tokens that meet the second
pub record Split (P Q : Tokens → Type 0) (toks : Tokens) : Type 0 where
  pub front : Tokens
  pub back : Tokens
  pub parts : toks ≡ front ++ back
  pub first : P front
  pub second : Q back

-- { part }: any number of parts
abbrev pub many : {A : Type 0} → Lang A → Lang (List A)
many L toks [] = toks ≡ []
many L toks (x ∷ xs) = Split (λ front. L front x) (λ back. many L back xs) toks

-- [ part ]: the part or nothing
abbrev pub optional : {A : Type 0} → Lang A → Lang (Option A)
optional L toks None = toks ≡ []
optional L toks (Some x) = L toks x

-- part { "," part }
abbrev pub separated : {A : Type 0} → Lang A → Lang (List A)
separated L = L >>= λ first. many (token k.Comma >> L) >>= λ others. pure (first ∷ others)

-- [ part { "," part } ]
abbrev pub listed : {A : Type 0} → Lang A → Lang (List A)
listed L = pure [] ∣ separated L

-- a name
abbrev pub name : Lang (List ℕ)
name = token k.Name >>= λ t. pure t.text

-- the line of the first token
abbrev pub line_of : Tokens → ℕ
line_of [] = 0
line_of (t ∷ toks) = t.line

-- a part with the line of its first token
abbrev pub lined : {A : Type 0} → Lang A → Lang (ℕ × A)
lined L toks p = (line_of toks ≡ p.0) × L toks p.1
