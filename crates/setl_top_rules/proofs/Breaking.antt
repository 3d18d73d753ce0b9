-- The first break of two lists of breaks.
use Rattle.std.proofs.Common.{◌≡◌, ◌≢◌, ◌∙◌, ◌⊎◌, inl, inr, ℕ, suc, ◌<◌, ◌≤◌, Bool, true, false, ◌||◌, ◌&&◌, nat_lt, nat_eq, List, [], ◌∷◌, ◌++◌, fold, Option, None, Some, if◌then◌else◌, refl, sym, ap, true≢false, arith}
use Rattle.std.proofs.lemmas.Bool.Decides.{leb_tells, eqb_tells}
use Rattle.std.proofs.lemmas.List.Sums.{fold-append}
use Rattle.setl_names.specs.Breaks.{precedes, earlier, first_break}
use Rattle.setl_names.specs.declared.broken.Break.{Break}
use Rattle.setl_top_rules.specs.Rules.{earlier_of}

-- ---- the earlier of two

-- a lower line, or the same and a rule of a lower number
abbrev Before : Break → Break → Type 0
Before a b = (a.line < b.line) ⊎ ((a.line ≡ b.line) × (a.rule < b.rule))

below : (a b : ℕ) → ((nat_lt a b ≡ true) × (a < b)) ⊎ ((nat_lt a b ≡ false) × (b ≤ a))
below a b = elim (leb_tells (suc a) b) [
  | inl h ↦ inl (h.0, omega (arith, h.1))
  | inr h ↦ inr (h.0, omega (arith, h.1))
]

not_before : (a b : Break) → b.line ≤ a.line → (a.line ≡ b.line → b.rule ≤ a.rule) → Before a b → ⊥
not_before a b h k (inl x) = omega (arith, h, x)
not_before a b h k (inr x) = let m : b.rule ≤ a.rule = k x.0 in omega (arith, m, x.1)

tells : (a b : Break) → ((precedes a b ≡ true) × Before a b) ⊎ ((precedes a b ≡ false) × (Before a b → ⊥))
tells a b = lines (below a.line b.line) (eqb_tells a.line b.line) (below a.rule b.rule)
  where
    lines : ((nat_lt a.line b.line ≡ true) × (a.line < b.line)) ⊎ ((nat_lt a.line b.line ≡ false) × (b.line ≤ a.line)) → ((nat_eq a.line b.line ≡ true) × (a.line ≡ b.line)) ⊎ ((nat_eq a.line b.line ≡ false) × (a.line ≢ b.line)) → ((nat_lt a.rule b.rule ≡ true) × (a.rule < b.rule)) ⊎ ((nat_lt a.rule b.rule ≡ false) × (b.rule ≤ a.rule)) → ((precedes a b ≡ true) × Before a b) ⊎ ((precedes a b ≡ false) × (Before a b → ⊥))
    lines (inl x) y z = inl (ap (λ t. t || (nat_eq a.line b.line && nat_lt a.rule b.rule)) x.0, inl x.1)
    lines (inr x) (inl y) (inl z) = inl ((λ i. x.0 i || (y.0 i && z.0 i)), inr (y.1, z.1))
    lines (inr x) (inl y) (inr z) = inr ((λ i. x.0 i || (y.0 i && z.0 i)), not_before a b x.1 (λ e. z.1))
    lines (inr x) (inr y) z = inr ((λ i. x.0 i || (y.0 i && nat_lt a.rule b.rule)), not_before a b x.1 (λ e. absurd (y.1 e)))

is_before : (a b : Break) → precedes a b ≡ true → Before a b
is_before a b h = elim (tells a b) [
  | inl x ↦ x.1
  | inr x ↦ absurd (true≢false (sym h ∙ x.0))
]

isnt_before : (a b : Break) → precedes a b ≡ false → Before a b → ⊥
isnt_before a b h = elim (tells a b) [
  | inl x ↦ absurd (true≢false (sym x.0 ∙ h))
  | inr x ↦ x.1
]

before_through : (a b c : Break) → Before c b → Before b a → Before c a
before_through a b c (inl x) (inl y) = inl (omega (arith, x, y))
before_through a b c (inl x) (inr y) = inl (omega (arith, x, y.0))
before_through a b c (inr x) (inl y) = inl (omega (arith, x.0, y))
before_through a b c (inr x) (inr y) = inr (x.0 ∙ y.0, omega (arith, x.1, y.1))

precedes_through : (a b c : Break) → precedes c b ≡ true → precedes b a ≡ true → precedes c a ≡ true
precedes_through a b c h k = elim (tells c a) [
  | inl x ↦ x.0
  | inr x ↦ absurd (x.1 (before_through a b c (is_before c b h) (is_before b a k)))
]

between : (a b c : Break) → Before c a → Before c b ⊎ Before b a
between a b c x = by_line (below c.line b.line) (below b.line a.line) (below c.rule b.rule) x
  where
    by_line : ((nat_lt c.line b.line ≡ true) × (c.line < b.line)) ⊎ ((nat_lt c.line b.line ≡ false) × (b.line ≤ c.line)) → ((nat_lt b.line a.line ≡ true) × (b.line < a.line)) ⊎ ((nat_lt b.line a.line ≡ false) × (a.line ≤ b.line)) → ((nat_lt c.rule b.rule ≡ true) × (c.rule < b.rule)) ⊎ ((nat_lt c.rule b.rule ≡ false) × (b.rule ≤ c.rule)) → Before c a → Before c b ⊎ Before b a
    by_line (inl p) q r y = inl (inl p.1)
    by_line (inr p) (inl q) r y = inr (inl q.1)
    by_line (inr p) (inr q) r (inl y) = absurd (omega (arith, p.1, q.1, y))
    by_line (inr p) (inr q) (inl r) (inr y) = inl (inr (omega (arith, p.1, q.1, y.0), r.1))
    by_line (inr p) (inr q) (inr r) (inr y) = inr (inr (omega (arith, p.1, q.1, y.0), omega (arith, r.1, y.1)))

not_through : (a b c : Break) → precedes c b ≡ false → precedes b a ≡ false → precedes c a ≡ false
not_through a b c h k = elim (tells c a) [
  | inl x ↦ elim (between a b c x.1) [
    | inl y ↦ absurd (isnt_before c b h y)
    | inr y ↦ absurd (isnt_before b a k y)
  ]
  | inr x ↦ x.0
]

joins : (x : Option Break) (b : Break) (r : Option Break) → earlier_of (earlier x b) r ≡ earlier_of x (earlier_of (Some b) r)
joins x b None = refl
joins None b (Some c) = go (precedes c b)
  where
    go : (t : Bool) → (if t then Some c else Some b) ≡ earlier_of None (if t then Some c else Some b)
    go true = refl
    go false = refl
joins (Some a) b (Some c) = go (precedes b a) (precedes c b) refl refl
  where
    go : (p q : Bool) → precedes b a ≡ p → precedes c b ≡ q → earlier (if p then Some b else Some a) c ≡ earlier_of (Some a) (if q then Some c else Some b)
    go true true h k = ap (λ t. if t then Some c else Some b) k ∙ sym (ap (λ t. if t then Some c else Some a) (precedes_through a b c k h))
    go true false h k = ap (λ t. if t then Some c else Some b) k ∙ sym (ap (λ t. if t then Some b else Some a) h)
    go false true h k = refl
    go false false h k = ap (λ t. if t then Some c else Some a) (not_through a b c k h) ∙ sym (ap (λ t. if t then Some b else Some a) h)

folds_to_earlier : (x : Option Break) (bs : List Break) → fold earlier x bs ≡ earlier_of x (first_break bs)
folds_to_earlier x [] = refl
folds_to_earlier x (b ∷ bs) = folds_to_earlier (earlier x b) bs ∙ joins x b (first_break bs) ∙ ap (earlier_of x) (sym (folds_to_earlier (Some b) bs))

-- the first break of some and of others is the earlier of both
pub first_of_both : (bs cs : List Break) → first_break (bs ++ cs) ≡ earlier_of (first_break bs) (first_break cs)
first_of_both bs cs = fold-append earlier None bs cs ∙ folds_to_earlier (first_break bs) cs

-- where the earlier of two isn't there, none is
pub no_second : (x y : Option Break) → earlier_of x y ≡ None → y ≡ None
no_second x None h = refl
no_second None (Some b) h = absurd (cc)
no_second (Some a) (Some b) h = absurd (go (precedes b a) h)
  where
    go : (t : Bool) → (if t then Some b else Some a) ≡ None → ⊥
    go true h = cc
    go false h = cc

-- the earlier of both first breaks is the first of all
pub first_found : (bs cs : List Break) (x y r : Option Break) (b : Break) → x ≡ first_break bs → y ≡ first_break cs → r ≡ earlier_of x y → r ≡ Some b → first_break (bs ++ cs) ≡ Some b
first_found bs cs x y r b e f g h = first_of_both bs cs ∙ (λ i. earlier_of (sym e i) (sym f i)) ∙ sym g ∙ h

pub none_found : (bs cs : List Break) (x y r : Option Break) → x ≡ first_break bs → y ≡ first_break cs → r ≡ earlier_of x y → r ≡ None → first_break (bs ++ cs) ≡ None
none_found bs cs x y r e f g h = first_of_both bs cs ∙ (λ i. earlier_of (sym e i) (sym f i)) ∙ sym g ∙ h
