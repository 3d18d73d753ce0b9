-- What holds of all values that a language spells, by the number of their tokens, for each way to make a larger language
-- of smaller ones.
use Rattle.std.proofs.Common.{◌≡◌, ◌≤◌, ℕ, zero, suc, ◌+◌, List, [], ◌∷◌, map, length, length-append, Option, Some, None, option_map, ap, subst, ◌∙◌, ◌⊎◌, inl, inr, arith}
use Rattle.setl_tree.specs.declared.kind.Kind.{Kind}
use Rattle.setl_tree.specs.Tokens.{Tokens}
use Rattle.setl_tree.specs.Lang.{Lang, Then, Split}
use Rattle.setl_tree.specs.Lang as lang

-- ---- shares of a number

-- two parts that share a number
pub record Share (P Q : ℕ → Type 0) (n : ℕ) : Type 0 where
  pub one : ℕ
  pub two : ℕ
  pub fits : one + two ≤ n
  pub first : P one
  pub second : Q two

-- a part and one token more
pub record Beside (P : ℕ → Type 0) (n : ℕ) : Type 0 where
  pub less : ℕ
  pub fits : suc less ≤ n
  pub part : P less

-- all members share a number
abbrev pub Each : {A : Type 0} → (A → ℕ → Type 0) → List A → ℕ → Type 0
Each P [] n = Unit {0}
Each P (x ∷ xs) n = Share (P x) (Each P xs) n

abbrev pub Maybe : {A : Type 0} → (A → ℕ → Type 0) → Option A → ℕ → Type 0
Maybe P None n = Unit {0}
Maybe P (Some x) n = P x n

-- a part of at least one token
abbrev pub SomeToken : {A : Type 0} → A → ℕ → Type 0
SomeToken x n = 1 ≤ n

abbrev pub Anything : {A : Type 0} → A → ℕ → Type 0
Anything x n = Unit {0}

-- each member has a token of its own
pub as_many_tokens : {A : Type 0} (xs : List A) (n : ℕ) → Each SomeToken xs n → length xs ≤ n
as_many_tokens [] n h = omega arith
as_many_tokens (x ∷ xs) n h =
    let here : 1 ≤ h.one = h.first in
    let later = as_many_tokens xs h.two h.second in
    let both = h.fits in
    omega (arith, here, later, both)

pub mapped : {A B : Type 0} (f : A → B) (P : B → ℕ → Type 0) (xs : List A) (n : ℕ) → Each (λ x. P (f x)) xs n → Each P (map f xs) n
mapped f P [] n h = tt
mapped f P (x ∷ xs) n h = record { one = h.one; two = h.two; fits = h.fits; first = h.first; second = mapped f P xs h.two h.second }

pub option_mapped : {A B : Type 0} (f : A → B) (P : B → ℕ → Type 0) (x : Option A) (n : ℕ) → Maybe (λ y. P (f y)) x n → Maybe P (option_map f x) n
option_mapped f P None n h = tt
option_mapped f P (Some x) n h = h

pub each_within : {A : Type 0} (P : A → ℕ → Type 0) (xs : List A) {m n : ℕ} → Each P xs m → m ≤ n → Each P xs n
each_within P [] h le = tt
each_within P (x ∷ xs) h le = let both = h.fits in record { one = h.one; two = h.two; fits = omega (arith, both, le); first = h.first; second = h.second }

-- ---- languages

-- each value of the language has the property at each number from that of its tokens and some more on
pub record Costs {A : Type 0} (k : ℕ) (L : Tokens → A → Type 0) (P : A → ℕ → Type 0) : Type 0 where
  pub at : (toks : Tokens) (a : A) (n : ℕ) → L toks a → k + length toks ≤ n → P a n

pub k_any : {A : Type 0} {k : ℕ} {L : Tokens → A → Type 0} → Costs k L Anything
k_any = record { at = λ toks a n s le. tt }

pub k_pure : {A : Type 0} {k : ℕ} {P : A → ℕ → Type 0} {a : A} → ((n : ℕ) → k ≤ n → P a n) → Costs k (lang.pure a) P
k_pure {k = k} {P = P} p = record { at = λ toks b n s le. let less : k ≤ n = omega (arith, le) in subst (λ x. P x n) s.1 (p n less) }

pub k_never : {A : Type 0} {k : ℕ} {P : A → ℕ → Type 0} → Costs k lang.never P
k_never = record { at = λ toks a n s le. absurd s }

pub k_then : {A B : Type 0} {k : ℕ} {L : Tokens → A → Type 0} {M : A → Tokens → B → Type 0} {P : A → ℕ → Type 0} {Q : B → ℕ → Type 0}
    → Costs 0 L P → ((a : A) (m : ℕ) → P a m → Costs (k + m) (M a) Q) → Costs k (Then L M) Q
k_then {k = k} one two = record {
  at = λ toks b n s le.
      let here : 0 + length s.front ≤ length s.front = omega arith in
      let both : length toks ≡ length s.front + length s.back = ap length s.parts ∙ length-append s.front s.back in
      let rest : k + length s.front + length s.back ≤ n = omega (arith, both, le) in
      (two s.value (length s.front) (one.at s.front s.value (length s.front) s.first here)).at s.back b n s.second rest;
}

pub k_or : {A : Type 0} {k : ℕ} {L M : Tokens → A → Type 0} {P : A → ℕ → Type 0} → Costs k L P → Costs k M P → Costs k (λ toks a. L toks a ⊎ M toks a) P
k_or one two = record { at = λ toks a n s le. elim s [ inl l ↦ one.at toks a n l le | inr m ↦ two.at toks a n m le ] }

-- more tokens before
k_more : {A : Type 0} {k m : ℕ} {L : Tokens → A → Type 0} {P : A → ℕ → Type 0} → k ≤ m → Costs k L P → Costs m L P
k_more {k = k} {m = m} less one = record { at = λ toks a n s le. one.at toks a n s (omega (arith, less, le)) }

-- a part that isn't looked at, then another
pub k_past : {A B : Type 0} {k : ℕ} {L : Tokens → A → Type 0} {M : Tokens → B → Type 0} {Q : B → ℕ → Type 0} → Costs k M Q → Costs k (Then L (λ _. M)) Q
k_past {k = k} {L = L} two = k_then {L = L} {P = Anything} k_any (λ a m _. k_more (omega arith) two)

-- ---- tokens

-- each value has a token at least
pub c_token : {k : Kind} → Costs 0 (lang.token k) SomeToken
c_token = record { at = λ toks a n s le. let one = ap length s.alone in omega (arith, one, le) }

pub c_opening : (room : ℕ) (k : Kind) → Costs 0 (lang.opening room k) SomeToken
c_opening zero k = k_never
c_opening (suc room) k = c_token

pub c_one_of : {A : Type 0} (meaning : Kind → Option A) → Costs 0 (lang.one_of meaning) SomeToken
c_one_of meaning = record { at = λ toks a n s le. let one = ap length s.alone in omega (arith, one, le) }

pub c_opening_one_of : {A : Type 0} (room : ℕ) (meaning : Kind → Option A) → Costs 0 (lang.opening_one_of room meaning) SomeToken
c_opening_one_of zero meaning = k_never
c_opening_one_of (suc room) meaning = c_one_of meaning

-- a part of at least one token, then another
pub k_counted : {A B : Type 0} {k : ℕ} {L : Tokens → A → Type 0} {M : Tokens → B → Type 0} {Q : B → ℕ → Type 0} → Costs 0 L SomeToken → Costs (suc k) M Q → Costs k (Then L (λ _. M)) Q
k_counted one two = k_then one (λ a m less. let some : 1 ≤ m = less in k_more (omega (arith, some)) two)

pub k_token : {B : Type 0} {k : ℕ} {w : Kind} {M : Tokens → B → Type 0} {Q : B → ℕ → Type 0} → Costs (suc k) M Q → Costs k (Then (lang.token w) (λ _. M)) Q
k_token two = k_counted c_token two

pub k_opening : {B : Type 0} {k : ℕ} {M : Tokens → B → Type 0} {Q : B → ℕ → Type 0} (room : ℕ) (w : Kind) → Costs (suc k) M Q → Costs k (Then (lang.opening room w) (λ _. M)) Q
k_opening room w two = k_counted (c_opening room w) two

pub c_name : Costs 0 lang.name SomeToken
c_name = k_then c_token (λ t i some. k_pure (λ n le. omega (arith, some, le)))

-- a token that stands for a good value
pub k_one_of : {A : Type 0} {P : A → ℕ → Type 0} (meaning : Kind → Option A) → ((kind : Kind) (n : ℕ) → 1 ≤ n → Maybe P (meaning kind) n) → Costs 0 (lang.one_of meaning) P
k_one_of {P = P} meaning all = record {
  at = λ toks a n s le.
      let one = ap length s.alone in
      let some : 1 ≤ n = omega (arith, one, le) in
      subst (λ o. Maybe P o n) s.means (all s.it.kind n some);
}

-- ---- lists

many_each : {A : Type 0} (L : Tokens → A → Type 0) (P : A → ℕ → Type 0) → Costs 0 L P → (xs : List A) (toks : Tokens) (n : ℕ) → lang.many L toks xs → length toks ≤ n → Each P xs n
many_each L P one [] toks n s le = tt
many_each L P one (x ∷ xs) toks n s le =
    let both : length toks ≡ length s.front + length s.back = ap length s.parts ∙ length-append s.front s.back in
    let here : 0 + length s.front ≤ length s.front = omega arith in
    let later : length s.back ≤ length s.back = omega arith in
    record {
      one = length s.front;
      two = length s.back;
      fits = omega (arith, both, le);
      first = one.at s.front x (length s.front) s.first here;
      second = many_each L P one xs s.back (length s.back) s.second later;
    }

pub k_many : {A : Type 0} {L : Tokens → A → Type 0} {P : A → ℕ → Type 0} → Costs 0 L P → Costs 0 (lang.many L) (Each P)
k_many {L = L} {P = P} one = record { at = λ toks xs n s le. many_each L P one xs toks n s (omega (arith, le)) }

optional_maybe : {A : Type 0} (L : Tokens → A → Type 0) (P : A → ℕ → Type 0) → Costs 0 L P → (o : Option A) (toks : Tokens) (n : ℕ) → lang.optional L toks o → 0 + length toks ≤ n → Maybe P o n
optional_maybe L P one None toks n s le = tt
optional_maybe L P one (Some x) toks n s le = one.at toks x n s le

pub k_optional : {A : Type 0} {L : Tokens → A → Type 0} {P : A → ℕ → Type 0} → Costs 0 L P → Costs 0 (lang.optional L) (Maybe P)
k_optional {L = L} {P = P} one = record { at = λ toks o n s le. optional_maybe L P one o toks n s le }

pub k_separated : {A : Type 0} {L : Tokens → A → Type 0} {P : A → ℕ → Type 0} → Costs 0 L P → Costs 0 (lang.separated L) (Each P)
k_separated one = k_then one (λ x i p. k_then (k_many (k_past one)) (λ xs j ps. k_pure (λ n le. record { one = i; two = j; fits = omega (arith, le); first = p; second = ps })))

pub k_listed : {A : Type 0} {L : Tokens → A → Type 0} {P : A → ℕ → Type 0} → Costs 0 L P → Costs 0 (lang.listed L) (Each P)
k_listed one = k_or (k_pure (λ n le. tt)) (k_separated one)

pub k_lined : {A : Type 0} {L : Tokens → A → Type 0} {P : A → ℕ → Type 0} → Costs 0 L P → Costs 0 (lang.lined L) (λ p n. P p.1 n)
k_lined one = record { at = λ toks p n s le. one.at toks p.1 n s.1 le }
