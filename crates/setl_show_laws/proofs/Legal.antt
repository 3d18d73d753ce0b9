-- What holds of values whose tokens bytes can spell, for each way to make a larger language of smaller ones.
use Rattle.std.proofs.Common.{ℕ, ℤ, pos, List, [], ◌∷◌, ◌++◌, map, Option, Some, None, refl, subst, ◌⊎◌, inl, inr}
use Rattle.setl_tree.specs.declared.kind.Kind.{Kind}
use Rattle.setl_tree.specs.declared.kind.Kind.TheVariants as k
use Rattle.setl_tree.specs.Tokens.{Token, Tokens}
use Rattle.setl_tree.specs.Lang.{Lang, Then, Split, IsToken, Means}
use Rattle.setl_tree.specs.Lang as lang
use Rattle.setl_tree.specs.Canonical.{sign, sign_at, name_at, all_of, behind_commas, with_commas}
use Rattle.setl_token.specs.Spellings.{IsSpelled}
use Rattle.setl_show_laws.specs.Reading.{IsNameText, IsLegal, AllLegal, AreLegal}

-- ---- lists of tokens

pub none : AreLegal []
none = record { all = tt }

all_both : (a b : Tokens) → AllLegal a → AllLegal b → AllLegal (a ++ b)
all_both [] b x y = y
all_both (t ∷ a) b x y = (x.0, all_both a b x.1 y)

pub both : {a b : Tokens} → AreLegal a → AreLegal b → AreLegal (a ++ b)
both {a = a} {b = b} x y = record { all = all_both a b x.all y.all }

all_front : (a b : Tokens) → AllLegal (a ++ b) → AllLegal a
all_front [] b h = tt
all_front (t ∷ a) b h = (h.0, all_front a b h.1)

all_back : (a b : Tokens) → AllLegal (a ++ b) → AllLegal b
all_back [] b h = h
all_back (t ∷ a) b h = all_back a b h.1

pub front_of : (a b : Tokens) → AreLegal (a ++ b) → AreLegal a
front_of a b h = record { all = all_front a b h.all }

pub back_of : (a b : Tokens) → AreLegal (a ++ b) → AreLegal b
back_of a b h = record { all = all_back a b h.all }

sign_ok : (kind : Kind) → IsSpelled kind → IsLegal kind [] (pos 0)
unfolding IsLegal
sign_ok k.SourceEnd h = absurd h
sign_ok k.Name h = absurd h
sign_ok k.Number h = absurd h
sign_ok k.StringLiteral h = absurd h
sign_ok _ h = (refl, refl)

pub word_at : {rest : Tokens} (line : ℕ) (kind : Kind) → IsSpelled kind → AreLegal rest → AreLegal (sign_at line kind ∷ rest)
word_at line kind h r = record { all = (sign_ok kind h, r.all) }

pub word : {rest : Tokens} (kind : Kind) → IsSpelled kind → AreLegal rest → AreLegal (sign kind ∷ rest)
word kind h r = word_at 0 kind h r

name_ok : (x : List ℕ) → IsNameText x → IsLegal k.Name x (pos 0)
unfolding IsLegal
name_ok x h = (h, refl)

pub named_at : {x : List ℕ} {rest : Tokens} (line : ℕ) → IsNameText x → AreLegal rest → AreLegal (name_at line x ∷ rest)
named_at {x = x} line h r = record { all = (name_ok x h, r.all) }

pub named : {x : List ℕ} {rest : Tokens} → IsNameText x → AreLegal rest → AreLegal (name_at 0 x ∷ rest)
named h r = named_at 0 h r

pub literal : (kind : Kind) (text : List ℕ) (value : ℤ) → IsLegal kind text value → AreLegal (record { kind = kind; text = text; value = value; line = 0 } ∷ [])
literal kind text value h = record { all = (h, tt) }

-- ---- lists of values

abbrev pub Each : {A : Type 0} → (A → Type 0) → List A → Type 0
Each P [] = Unit {0}
Each P (x ∷ xs) = P x × Each P xs

abbrev pub Maybe : {A : Type 0} → (A → Type 0) → Option A → Type 0
Maybe P None = Unit {0}
Maybe P (Some x) = P x

pub all_legal : {A : Type 0} (f : A → Tokens) (xs : List A) → Each (λ x. AreLegal (f x)) xs → AreLegal (all_of (map f xs))
all_legal f [] h = none
all_legal f (x ∷ xs) h = both h.0 (all_legal f xs h.1)

pub behind_legal : {A : Type 0} (f : A → Tokens) (xs : List A) → Each (λ x. AreLegal (f x)) xs → AreLegal (behind_commas (map f xs))
behind_legal f [] h = none
behind_legal f (x ∷ xs) h = word k.Comma tt (both h.0 (behind_legal f xs h.1))

pub commas : {A : Type 0} (f : A → Tokens) (xs : List A) → Each (λ x. AreLegal (f x)) xs → AreLegal (with_commas (map f xs))
commas f [] h = none
commas f (x ∷ xs) h = both h.0 (behind_legal f xs h.1)

-- ---- languages

-- what legal tokens of the language spell, has the property
pub record Keeps {A : Type 0} (L : Tokens → A → Type 0) (P : A → Type 0) : Type 0 where
  pub at : (toks : Tokens) (a : A) → L toks a → AreLegal toks → P a

abbrev pub anything : {A : Type 0} → A → Type 0
anything a = Unit {0}

pub k_any : {A : Type 0} {L : Tokens → A → Type 0} → Keeps L anything
k_any = record { at = λ toks a s h. tt }

pub k_pure : {A : Type 0} {P : A → Type 0} {a : A} → P a → Keeps (lang.pure a) P
k_pure {P = P} p = record { at = λ toks b s h. subst P s.1 p }

pub k_never : {A : Type 0} {P : A → Type 0} → Keeps lang.never P
k_never = record { at = λ toks b s h. absurd s }

pub k_then : {A B : Type 0} {L : Tokens → A → Type 0} {M : A → Tokens → B → Type 0} {P : A → Type 0} {Q : B → Type 0}
    → Keeps L P → ((a : A) → P a → Keeps (M a) Q) → Keeps (Then L M) Q
k_then one two = record {
  at = λ toks b s h.
      let w = subst AreLegal s.parts h in
      (two s.value (one.at s.front s.value s.first (front_of s.front s.back w))).at s.back b s.second (back_of s.front s.back w);
}

pub k_or : {A : Type 0} {L M : Tokens → A → Type 0} {P : A → Type 0} → Keeps L P → Keeps M P → Keeps (λ toks a. L toks a ⊎ M toks a) P
k_or one two = record { at = λ toks a s h. elim s [ inl l ↦ one.at toks a l h | inr m ↦ two.at toks a m h ] }

first_legal : (t : Token) → AreLegal (t ∷ []) → IsLegal t.kind t.text t.value
first_legal t h = h.all.0

pub k_token : (kind : Kind) → Keeps (lang.token kind) (λ t. IsLegal kind t.text t.value)
k_token kind = record { at = λ toks t s h. subst (λ (z : Kind). IsLegal z t.text t.value) s.kind (first_legal t (subst AreLegal s.alone h)) }

pub name_of : (x : List ℕ) (v : ℤ) → IsLegal k.Name x v → IsNameText x
unfolding IsLegal
name_of x v h = h.0

pub k_name : Keeps lang.name IsNameText
k_name = k_then (k_token k.Name) (λ t h. k_pure (name_of t.text t.value h))

-- what a token stands for
pub k_one_of : {A : Type 0} {P : A → Type 0} (meaning : Kind → Option A) → ((kind : Kind) → Maybe P (meaning kind)) → Keeps (lang.one_of meaning) P
k_one_of {P = P} meaning all = record { at = λ toks a s h. subst (Maybe P) s.means (all s.it.kind) }

many_each : {A : Type 0} (L : Tokens → A → Type 0) (P : A → Type 0) → Keeps L P → (xs : List A) (toks : Tokens) → lang.many L toks xs → AreLegal toks → Each P xs
many_each L P one [] toks s h = tt
many_each L P one (x ∷ xs) toks s h =
    let w = subst AreLegal s.parts h in
    (one.at s.front x s.first (front_of s.front s.back w), many_each L P one xs s.back s.second (back_of s.front s.back w))

pub k_many : {A : Type 0} {L : Tokens → A → Type 0} {P : A → Type 0} → Keeps L P → Keeps (lang.many L) (Each P)
k_many {L = L} {P = P} one = record { at = λ toks xs s h. many_each L P one xs toks s h }

optional_maybe : {A : Type 0} (L : Tokens → A → Type 0) (P : A → Type 0) → Keeps L P → (o : Option A) (toks : Tokens) → lang.optional L toks o → AreLegal toks → Maybe P o
optional_maybe L P one None toks s h = tt
optional_maybe L P one (Some x) toks s h = one.at toks x s h

pub k_optional : {A : Type 0} {L : Tokens → A → Type 0} {P : A → Type 0} → Keeps L P → Keeps (lang.optional L) (Maybe P)
k_optional {L = L} {P = P} one = record { at = λ toks o s h. optional_maybe L P one o toks s h }

-- a token, then a part
pub k_past : {A B : Type 0} {L : Tokens → A → Type 0} {M : Tokens → B → Type 0} {Q : B → Type 0} → Keeps M Q → Keeps (Then L (λ _. M)) Q
k_past two = k_then k_any (λ _ _. two)

pub k_separated : {A : Type 0} {L : Tokens → A → Type 0} {P : A → Type 0} → Keeps L P → Keeps (lang.separated L) (Each P)
k_separated one = k_then one (λ x p. k_then (k_many (k_past one)) (λ xs ps. k_pure (p, ps)))

pub k_listed : {A : Type 0} {L : Tokens → A → Type 0} {P : A → Type 0} → Keeps L P → Keeps (lang.listed L) (Each P)
k_listed one = k_or (k_pure tt) (k_separated one)

pub k_lined : {A : Type 0} {L : Tokens → A → Type 0} {P : A → Type 0} → Keeps L P → Keeps (lang.lined L) (λ p. P p.1)
k_lined one = record { at = λ toks p s h. one.at toks p.1 s.1 h }
