-- Tokens with other lines spell the same but for lines, for each way to make a larger language of smaller ones.
use Rattle.std.proofs.Common.{◌≡◌, ℕ, zero, suc, List, [], ◌∷◌, ◌++◌, map, Option, Some, None, refl, sym, ap, subst, ◌∙◌, ◌⊎◌, inl, inr}
use Rattle.setl_tree.specs.declared.kind.Kind.{Kind}
use Rattle.setl_tree.specs.declared.kind.Kind.TheVariants as k
use Rattle.setl_tree.specs.Tokens.{Token, Tokens}
use Rattle.setl_tree.specs.Lang.{Lang, Then, Split, IsToken, Means, line_of}
use Rattle.setl_tree.specs.Lang as lang
use Rattle.setl_show_laws.specs.Lines.{SameToken, SameTokens}

-- ---- lists of tokens

pub record Halves (front back other : Tokens) : Type 0 where
  pub first : Tokens
  pub second : Tokens
  pub parts : other ≡ first ++ second
  pub same_front : SameTokens front first
  pub same_back : SameTokens back second

halves : (front back other : Tokens) → SameTokens (front ++ back) other → Halves front back other
halves [] back other h = record { first = []; second = other; parts = refl; same_front = tt; same_back = h }
halves (t ∷ front) back [] h = absurd h
halves (t ∷ front) back (u ∷ other) h =
    let r = halves front back other h.1 in
    record { first = u ∷ r.first; second = r.second; parts = ap (λ (z : Tokens). u ∷ z) r.parts; same_front = (h.0, r.same_front); same_back = r.same_back }

none_other : (other : Tokens) → SameTokens [] other → other ≡ []
none_other [] h = refl
none_other (u ∷ other) h = absurd h

pub record OneOther (t : Token) (other : Tokens) : Type 0 where
  pub it : Token
  pub alone : other ≡ it ∷ []
  pub same : SameToken t it

one_other : (t : Token) (other : Tokens) → SameTokens (t ∷ []) other → OneOther t other
one_other t [] h = absurd h
one_other t (u ∷ other) h = record { it = u; alone = ap (λ (z : Tokens). u ∷ z) (none_other other h.1); same = h.0 }

-- ---- values

abbrev pub Eq : {A : Type 0} → A → A → Type 0
Eq a b = a ≡ b

abbrev pub any_two : {A : Type 0} → A → A → Type 0
any_two a b = Unit {0}

abbrev pub EachTwo : {A : Type 0} → (A → A → Type 0) → List A → List A → Type 0
EachTwo R [] [] = Unit {0}
EachTwo R [] (y ∷ ys) = ⊥
EachTwo R (x ∷ xs) [] = ⊥
EachTwo R (x ∷ xs) (y ∷ ys) = R x y × EachTwo R xs ys

abbrev pub MaybeTwo : {A : Type 0} → (A → A → Type 0) → Option A → Option A → Type 0
MaybeTwo R None None = Unit {0}
MaybeTwo R None (Some y) = ⊥
MaybeTwo R (Some x) None = ⊥
MaybeTwo R (Some x) (Some y) = R x y

pub lists_same : {A : Type 0} (xs ys : List A) → EachTwo Eq xs ys → xs ≡ ys
lists_same [] [] h = refl
lists_same [] (y ∷ ys) h = absurd h
lists_same (x ∷ xs) [] h = absurd h
lists_same (x ∷ xs) (y ∷ ys) h = let e = lists_same xs ys h.1 in λ i. h.0 i ∷ e i

pub options_same : {A : Type 0} (o p : Option A) → MaybeTwo Eq o p → o ≡ p
options_same None None h = refl
options_same None (Some y) h = absurd h
options_same (Some x) None h = absurd h
options_same (Some x) (Some y) h = λ i. Some (h i)

-- lists that are the same once each part is changed
pub maps_same : {A : Type 0} (f : A → A) (xs ys : List A) → EachTwo (λ x y. f x ≡ f y) xs ys → map f xs ≡ map f ys
maps_same f [] [] h = refl
maps_same f [] (y ∷ ys) h = absurd h
maps_same f (x ∷ xs) [] h = absurd h
maps_same f (x ∷ xs) (y ∷ ys) h = let e = maps_same f xs ys h.1 in λ i. h.0 i ∷ e i

-- ---- languages

pub record Moved {A : Type 0} (M : Tokens → A → Type 0) (R : A → A → Type 0) (toks : Tokens) (a : A) : Type 0 where
  pub value : A
  pub spelled : M toks value
  pub same : R a value

-- what tokens spell in the first language, tokens with other lines spell in the second, up to R
pub record Moves {A : Type 0} (L M : Tokens → A → Type 0) (R : A → A → Type 0) : Type 0 where
  pub at : (toks other : Tokens) (a : A) → SameTokens toks other → L toks a → Moved M R other a

pub m_as : {A : Type 0} {L M : Tokens → A → Type 0} {R S : A → A → Type 0} → ((a b : A) → R a b → S a b) → Moves L M R → Moves L M S
m_as f one = record { at = λ toks other a h s. let r = one.at toks other a h s in record { value = r.value; spelled = r.spelled; same = f a r.value r.same } }

pub m_weak : {A : Type 0} {L M : Tokens → A → Type 0} {R : A → A → Type 0} → Moves L M R → Moves L M any_two
m_weak one = m_as (λ a b r. tt) one

pub m_pure : {A : Type 0} {R : A → A → Type 0} {a b : A} → R a b → Moves (lang.pure a) (lang.pure b) R
m_pure {R = R} {b = b} r = record {
  at = λ toks other c h s.
      record { value = b; spelled = (none_other other (subst (λ (z : Tokens). SameTokens z other) s.0 h), refl); same = subst (λ z. R z b) s.1 r };
}

pub m_never : {A : Type 0} {R : A → A → Type 0} → Moves lang.never lang.never R
m_never = record { at = λ toks other a h s. absurd s }

pub m_then : {A B : Type 0} {L K : Tokens → A → Type 0} {M N : A → Tokens → B → Type 0} {P : A → A → Type 0} {Q : B → B → Type 0}
    → Moves L K P → ((a b : A) → P a b → Moves (M a) (N b) Q) → Moves (Then L M) (Then K N) Q
m_then one two = record {
  at = λ toks other c h s.
      let w = subst (λ (z : Tokens). SameTokens z other) s.parts h in
      let v = halves s.front s.back other w in
      let x = one.at s.front v.first s.value v.same_front s.first in
      let y = (two s.value x.value x.same).at s.back v.second c v.same_back s.second in
      record { value = y.value; spelled = record { front = v.first; back = v.second; value = x.value; parts = v.parts; first = x.spelled; second = y.spelled }; same = y.same };
}

-- where the first value stays the same
pub s_then : {A B : Type 0} {L K : Tokens → A → Type 0} {M N : A → Tokens → B → Type 0} {Q : B → B → Type 0}
    → Moves L K Eq → ((a : A) → Moves (M a) (N a) Q) → Moves (Then L M) (Then K N) Q
s_then {M = M} {N = N} {Q = Q} one two = m_then one (λ a b e. subst (λ z. Moves (M a) (N z) Q) e (two a))

-- where the first value isn't used
pub m_past : {A B : Type 0} {L K : Tokens → A → Type 0} {M N : Tokens → B → Type 0} {P : A → A → Type 0} {Q : B → B → Type 0}
    → Moves L K P → Moves M N Q → Moves (Then L (λ _. M)) (Then K (λ _. N)) Q
m_past one two = m_then one (λ _ _ _. two)

pub m_or : {A : Type 0} {L K M N : Tokens → A → Type 0} {R : A → A → Type 0} → Moves L K R → Moves M N R → Moves (λ toks a. L toks a ⊎ M toks a) (λ toks a. K toks a ⊎ N toks a) R
m_or one two = record {
  at = λ toks other a h s. elim s [
    | inl l ↦ (let r = one.at toks other a h l in record { value = r.value; spelled = inl r.spelled; same = r.same })
    | inr m ↦ (let r = two.at toks other a h m in record { value = r.value; spelled = inr r.spelled; same = r.same })
  ];
}

-- the same text and value
abbrev pub SameParts : Token → Token → Type 0
SameParts t u = (t.text ≡ u.text) × (t.value ≡ u.value)

pub m_token : (kind : Kind) → Moves (lang.token kind) (lang.token kind) SameParts
m_token kind = record {
  at = λ toks other t h s.
      let u = one_other t other (subst (λ (z : Tokens). SameTokens z other) s.alone h) in
      record { value = u.it; spelled = record { alone = u.alone; kind = sym u.same.kind ∙ s.kind }; same = (u.same.text, u.same.value) };
}

pub m_one_of : {A : Type 0} (meaning : Kind → Option A) → Moves (lang.one_of meaning) (lang.one_of meaning) Eq
m_one_of meaning = record {
  at = λ toks other a h s.
      let u = one_other s.it other (subst (λ (z : Tokens). SameTokens z other) s.alone h) in
      record { value = a; spelled = record { it = u.it; alone = u.alone; means = ap meaning (sym u.same.kind) ∙ s.means }; same = refl };
}

pub m_opening : (room : ℕ) (kind : Kind) → Moves (lang.opening room kind) (lang.opening room kind) any_two
m_opening zero kind = m_never
m_opening (suc room) kind = m_weak (m_token kind)

pub m_opening_one_of : {A : Type 0} (room : ℕ) (meaning : Kind → Option A) → Moves (lang.opening_one_of room meaning) (lang.opening_one_of room meaning) Eq
m_opening_one_of zero meaning = m_never
m_opening_one_of (suc room) meaning = m_one_of meaning

pub m_name : Moves lang.name lang.name Eq
m_name = m_then (m_token k.Name) (λ t u h. m_pure h.0)

many_moved : {A : Type 0} (L K : Tokens → A → Type 0) (R : A → A → Type 0) → Moves L K R → (xs : List A) (toks other : Tokens) → SameTokens toks other → lang.many L toks xs → Moved (lang.many K) (EachTwo R) other xs
many_moved L K R one [] toks other h s = record { value = []; spelled = none_other other (subst (λ (z : Tokens). SameTokens z other) s h); same = tt }
many_moved L K R one (x ∷ xs) toks other h s =
    let v = halves s.front s.back other (subst (λ (z : Tokens). SameTokens z other) s.parts h) in
    let a = one.at s.front v.first x v.same_front s.first in
    let b = many_moved L K R one xs s.back v.second v.same_back s.second in
    record { value = a.value ∷ b.value; spelled = record { front = v.first; back = v.second; parts = v.parts; first = a.spelled; second = b.spelled }; same = (a.same, b.same) }

pub m_many : {A : Type 0} {L K : Tokens → A → Type 0} {R : A → A → Type 0} → Moves L K R → Moves (lang.many L) (lang.many K) (EachTwo R)
m_many {L = L} {K = K} {R = R} one = record { at = λ toks other xs h s. many_moved L K R one xs toks other h s }

optional_moved : {A : Type 0} (L K : Tokens → A → Type 0) (R : A → A → Type 0) → Moves L K R → (o : Option A) (toks other : Tokens) → SameTokens toks other → lang.optional L toks o → Moved (lang.optional K) (MaybeTwo R) other o
optional_moved L K R one None toks other h s = record { value = None; spelled = none_other other (subst (λ (z : Tokens). SameTokens z other) s h); same = tt }
optional_moved L K R one (Some x) toks other h s = let r = one.at toks other x h s in record { value = Some r.value; spelled = r.spelled; same = r.same }

pub m_optional : {A : Type 0} {L K : Tokens → A → Type 0} {R : A → A → Type 0} → Moves L K R → Moves (lang.optional L) (lang.optional K) (MaybeTwo R)
m_optional {L = L} {K = K} {R = R} one = record { at = λ toks other o h s. optional_moved L K R one o toks other h s }

pub m_separated : {A : Type 0} {L K : Tokens → A → Type 0} {R : A → A → Type 0} → Moves L K R → Moves (lang.separated L) (lang.separated K) (EachTwo R)
m_separated one = m_then one (λ x y r. m_then (m_many (m_past (m_token k.Comma) one)) (λ xs ys rs. m_pure (r, rs)))

pub m_listed : {A : Type 0} {L K : Tokens → A → Type 0} {R : A → A → Type 0} → Moves L K R → Moves (lang.listed L) (lang.listed K) (EachTwo R)
m_listed one = m_or (m_pure tt) (m_separated one)

pub m_lined : {A : Type 0} {L K : Tokens → A → Type 0} {R : A → A → Type 0} → Moves L K R → Moves (lang.lined L) (lang.lined K) (λ p q. R p.1 q.1)
m_lined one = record { at = λ toks other p h s. let r = one.at toks other p.1 h s.1 in record { value = (line_of other, r.value); spelled = (refl, r.spelled); same = r.same } }

-- where each part stays the same

pub s_many : {A : Type 0} {L K : Tokens → A → Type 0} → Moves L K Eq → Moves (lang.many L) (lang.many K) Eq
s_many one = m_as lists_same (m_many one)

pub s_optional : {A : Type 0} {L K : Tokens → A → Type 0} → Moves L K Eq → Moves (lang.optional L) (lang.optional K) Eq
s_optional one = m_as options_same (m_optional one)

pub s_separated : {A : Type 0} {L K : Tokens → A → Type 0} → Moves L K Eq → Moves (lang.separated L) (lang.separated K) Eq
s_separated one = m_as lists_same (m_separated one)

pub s_listed : {A : Type 0} {L K : Tokens → A → Type 0} → Moves L K Eq → Moves (lang.listed L) (lang.listed K) Eq
s_listed one = m_as lists_same (m_listed one)
