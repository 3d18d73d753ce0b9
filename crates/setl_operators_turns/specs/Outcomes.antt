-- What an operator gives with some turns left, beside what it gives with more of them.
use Rattle.std.proofs.lemmas.Bool.Decides.{nat_tests}
use Rattle.std.proofs.Common.{arith, ◌≡◌, refl, ap, ℕ, zero, suc, Bool, true, false, List, [], ◌∷◌, Option, Some, None}
use Rattle.std.specs.Prelude.{◌≤◌, ◌<◌, ◌+◌, ◌-◌, nat_le, if◌then◌else◌}
use Rattle.setl_value.specs.Datum.{Datum}
use Rattle.setl_operators_table.specs.Outcome.{Outcome, Gives, Fails, Overspends, adding, charging, then_with, unary, binary, ternary}
use Rattle.setl_operators_table.specs.OutcomeLaws.{paid, spent}

-- The second is the first, which charges no more than was left; or the first lacks turns, and the second charges more than
-- were left.
abbrev pub Keeps : (left : ℕ) → Outcome → Outcome → Type 0
Keeps left (Gives v n) o = (o ≡ Gives v n) × (n ≤ left)
Keeps left (Fails f) o = o ≡ Fails f
Keeps left Overspends o = (v : Option Datum) (n : ℕ) → o ≡ Gives v n → left < n

-- it charges nothing
abbrev pub IsFree : Outcome → Type 0
IsFree (Gives v zero) = Unit {0}
IsFree (Gives v (suc n)) = ⊥
IsFree (Fails f) = Unit {0}
IsFree Overspends = ⊥

pub free_keeps : (left : ℕ) (o : Outcome) → IsFree o → Keeps left o o
free_keeps left (Gives v zero) h = (refl, omega arith)
free_keeps left (Gives v (suc n)) h = absurd h
free_keeps left (Fails f) h = refl
free_keeps left Overspends h = absurd h

-- what is given after a charge
adding_gives : (n : ℕ) (o : Outcome) (v : Option Datum) (m : ℕ) → adding n o ≡ Gives v m → (k : ℕ) × (o ≡ Gives v k) × (m ≡ n + k)
adding_gives n (Gives w k) v m h = let value : w ≡ v = cc in let charge : n + k ≡ m = cc in (k, ap (λ u. Gives u k) value, omega (arith, charge))
adding_gives n (Fails f) v m h = absurd (cc)
adding_gives n Overspends v m h = absurd (cc)

adding_keeps : (n few : ℕ) (o o' : Outcome) → n ≤ few → Keeps (few - n) o o' → Keeps few (adding n o) (adding n o')
adding_keeps n few (Gives v m) o' le h = (ap (adding n) h.0, omega (arith, le, h.1))
adding_keeps n few (Fails f) o' le h = ap (adding n) h
adding_keeps n few Overspends o' le h = λ v m e. let r = adding_gives n o' v m e in let more = h v r.0 r.1 in omega (arith, le, more, r.2)

pub charging_keeps : (n few many : ℕ) (o : Outcome) → few ≤ many → IsFree o → Keeps few (charging n few o) (charging n many o)
charging_keeps n few many o h free = go (nat_le n few) refl
  where
    both : n ≤ few → Keeps few (charging n few o) (charging n many o)
    both k = rw (paid n few o k, paid n many o (omega arith)) (adding_keeps n few o o k (free_keeps (few - n) o free))

    lacks : few < n → Keeps few (charging n few o) (charging n many o)
    lacks k = rw (spent n few o k) (λ v m e. split v m k (nat_le n many) e)
      where
        split : (v : Option Datum) (m : ℕ) → few < n → (b : Bool) → (if b then adding n o else Overspends) ≡ Gives v m → few < m
        split v m k true e = let r = adding_gives n o v m e in omega (arith, k, r.2)
        split v m k false e = absurd (cc)

    go : (b : Bool) → nat_le n few ≡ b → Keeps few (charging n few o) (charging n many o)
    go true e = both (grind (arith, nat_tests))
    go false e = lacks (grind (arith, nat_tests))

pub then_keeps : (o o' : Outcome) (few many : ℕ) (next : Option Datum → ℕ → Outcome) → few ≤ many → Keeps few o o' → ((v : Option Datum) (a b : ℕ) → a ≤ b → Keeps a (next v a) (next v b)) → Keeps few (then_with o few next) (then_with o' many next)
then_keeps (Gives v n) o' few many next h k later = rw (k.0) (adding_keeps n few (next v (few - n)) (next v (many - n)) k.1 (later v (few - n) (many - n) (omega arith)))
then_keeps (Fails f) o' few many next h k later = rw k
then_keeps Overspends o' few many next h k later = λ v m e. lacking o' v m k e
  where
    lacking : (p : Outcome) (v : Option Datum) (m : ℕ) → ((w : Option Datum) (n : ℕ) → p ≡ Gives w n → few < n) → then_with p many next ≡ Gives v m → few < m
    lacking (Gives w n) v m k e = let r = adding_gives n (next w (many - n)) v m e in let more = k w n refl in omega (arith, more, r.2)
    lacking (Fails f) v m k e = absurd (cc)
    lacking Overspends v m k e = absurd (cc)

pub unary_keeps : (left : ℕ) (f g : Datum → Outcome) (vs : Option (List Datum)) → ((a : Datum) → Keeps left (f a) (g a)) → Keeps left (unary f vs) (unary g vs)
unary_keeps left f g None h = refl
unary_keeps left f g (Some []) h = refl
unary_keeps left f g (Some (a ∷ [])) h = h a
unary_keeps left f g (Some (a ∷ b ∷ ds)) h = refl

pub binary_keeps : (left : ℕ) (f g : Datum → Datum → Outcome) (vs : Option (List Datum)) → ((a b : Datum) → Keeps left (f a b) (g a b)) → Keeps left (binary f vs) (binary g vs)
binary_keeps left f g None h = refl
binary_keeps left f g (Some []) h = refl
binary_keeps left f g (Some (a ∷ [])) h = refl
binary_keeps left f g (Some (a ∷ b ∷ [])) h = h a b
binary_keeps left f g (Some (a ∷ b ∷ c ∷ ds)) h = refl

pub ternary_keeps : (left : ℕ) (f g : Datum → Datum → Datum → Outcome) (vs : Option (List Datum)) → ((a b c : Datum) → Keeps left (f a b c) (g a b c)) → Keeps left (ternary f vs) (ternary g vs)
ternary_keeps left f g None h = refl
ternary_keeps left f g (Some []) h = refl
ternary_keeps left f g (Some (a ∷ [])) h = refl
ternary_keeps left f g (Some (a ∷ b ∷ [])) h = refl
ternary_keeps left f g (Some (a ∷ b ∷ c ∷ [])) h = h a b c
ternary_keeps left f g (Some (a ∷ b ∷ c ∷ d ∷ ds)) h = refl
