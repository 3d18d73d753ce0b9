-- What holds of all values that tokens spell whose literals hold values, for each way to make a larger language of smaller
-- ones.
use Rattle.std.proofs.Common.{List, [], ◌∷◌, ◌++◌, Option, Some, None, subst, ◌⊎◌, inl, inr}
use Rattle.setl_tree.specs.declared.kind.Kind.{Kind}
use Rattle.setl_tree.specs.Tokens.{Token, Tokens}
use Rattle.setl_tree.specs.Lang.{Then}
use Rattle.setl_tree.specs.Lang as lang
use Rattle.setl_top_values.proofs.Literals.{LiteralStands, AllStand}

pub record TokensStand (toks : Tokens) : Type 0 where
  pub all : AllStand toks

front_stands : (a b : Tokens) → AllStand (a ++ b) → AllStand a
front_stands [] b h = tt
front_stands (t ∷ a) b h = (h.0, front_stands a b h.1)

back_stands : (a b : Tokens) → AllStand (a ++ b) → AllStand b
back_stands [] b h = h
back_stands (t ∷ a) b h = back_stands a b h.1

front_of : (a b : Tokens) → TokensStand (a ++ b) → TokensStand a
front_of a b h = record { all = front_stands a b h.all }

back_of : (a b : Tokens) → TokensStand (a ++ b) → TokensStand b
back_of a b h = record { all = back_stands a b h.all }

abbrev pub Each : {A : Type 0} → (A → Type 0) → List A → Type 0
Each P [] = Unit {0}
Each P (x ∷ xs) = P x × Each P xs

abbrev pub Maybe : {A : Type 0} → (A → Type 0) → Option A → Type 0
Maybe P None = Unit {0}
Maybe P (Some x) = P x

-- each value that such tokens of the language spell has the property
pub record Keeps {A : Type 0} (L : Tokens → A → Type 0) (P : A → Type 0) : Type 0 where
  pub at : (toks : Tokens) (a : A) → L toks a → TokensStand toks → P a

abbrev pub anything : {A : Type 0} → A → Type 0
anything a = Unit {0}

pub k_any : {A : Type 0} {L : Tokens → A → Type 0} → Keeps L anything
k_any = record { at = λ toks a s h. tt }

pub k_pure : {A : Type 0} {P : A → Type 0} {a : A} → P a → Keeps (lang.pure a) P
k_pure {P = P} p = record { at = λ toks b s h. subst P s.1 p }

pub k_never : {A : Type 0} {P : A → Type 0} → Keeps lang.never P
k_never = record { at = λ toks b s h. absurd s }

pub k_then : {A B : Type 0} {L : Tokens → A → Type 0} {M : A → Tokens → B → Type 0} {P : A → Type 0} {Q : B → Type 0}
    → Keeps L P → ((a : A) → P a → Keeps (M a) Q) → Keeps (Then L M) Q
k_then one two = record {
  at = λ toks b s h.
      let w = subst TokensStand s.parts h in
      (two s.value (one.at s.front s.value s.first (front_of s.front s.back w))).at s.back b s.second (back_of s.front s.back w);
}

pub k_or : {A : Type 0} {L M : Tokens → A → Type 0} {P : A → Type 0} → Keeps L P → Keeps M P → Keeps (λ toks a. L toks a ⊎ M toks a) P
k_or one two = record { at = λ toks a s h. elim s [ inl l ↦ one.at toks a l h | inr m ↦ two.at toks a m h ] }

first_stands : (t : Token) → TokensStand (t ∷ []) → LiteralStands t.kind t.text t.value
first_stands t h = h.all.0

pub k_token : (kind : Kind) → Keeps (lang.token kind) (λ t. LiteralStands kind t.text t.value)
k_token kind = record { at = λ toks t s h. subst (λ (z : Kind). LiteralStands z t.text t.value) s.kind (first_stands t (subst TokensStand s.alone h)) }

-- what a token stands for
pub k_one_of : {A : Type 0} {P : A → Type 0} (meaning : Kind → Option A) → ((kind : Kind) → Maybe P (meaning kind)) → Keeps (lang.one_of meaning) P
k_one_of {P = P} meaning all = record { at = λ toks a s h. subst (Maybe P) s.means (all s.it.kind) }

many_each : {A : Type 0} (L : Tokens → A → Type 0) (P : A → Type 0) → Keeps L P → (xs : List A) (toks : Tokens) → lang.many L toks xs → TokensStand toks → Each P xs
many_each L P one [] toks s h = tt
many_each L P one (x ∷ xs) toks s h =
    let w = subst TokensStand s.parts h in
    (one.at s.front x s.first (front_of s.front s.back w), many_each L P one xs s.back s.second (back_of s.front s.back w))

pub k_many : {A : Type 0} {L : Tokens → A → Type 0} {P : A → Type 0} → Keeps L P → Keeps (lang.many L) (Each P)
k_many {L = L} {P = P} one = record { at = λ toks xs s h. many_each L P one xs toks s h }

optional_maybe : {A : Type 0} (L : Tokens → A → Type 0) (P : A → Type 0) → Keeps L P → (o : Option A) (toks : Tokens) → lang.optional L toks o → TokensStand toks → Maybe P o
optional_maybe L P one None toks s h = tt
optional_maybe L P one (Some x) toks s h = one.at toks x s h

pub k_optional : {A : Type 0} {L : Tokens → A → Type 0} {P : A → Type 0} → Keeps L P → Keeps (lang.optional L) (Maybe P)
k_optional {L = L} {P = P} one = record { at = λ toks o s h. optional_maybe L P one o toks s h }

-- a token, then a part
pub k_past : {A B : Type 0} {L : Tokens → A → Type 0} {M : Tokens → B → Type 0} {Q : B → Type 0} → Keeps M Q → Keeps (Then L (λ _. M)) Q
k_past two = k_then k_any (λ _ _. two)

pub k_separated : {A : Type 0} {L : Tokens → A → Type 0} {P : A → Type 0} → Keeps L P → Keeps (lang.separated L) (Each P)
k_separated one = k_then one (λ x p. k_then (k_many (k_past one)) (λ xs ps. k_pure (p, ps)))

pub k_listed : {A : Type 0} {L : Tokens → A → Type 0} {P : A → Type 0} → Keeps L P → Keeps (lang.listed L) (Each P)
k_listed one = k_or (k_pure tt) (k_separated one)

pub k_lined : {A : Type 0} {L : Tokens → A → Type 0} {P : A → Type 0} → Keeps L P → Keeps (lang.lined L) (λ p. P p.1)
k_lined one = record { at = λ toks p s h. one.at toks p.1 s.1 h }
