-- Popping off runs.
use Rattle.std.proofs.Common.{◌≡◌, ℕ, zero, suc, ◌+◌, ◌<◌, Bool, true, false, not, [], ◌∷◌, Some, None, refl, ap, ◌∙◌, arith}
use mathlib.Core.Bool.{beq}
use Rattle.setl_code.specs.Shapes.{Kind, AResult, ACollection, AnIterator, APairIterator, Shape, without_results, without_levels}
use Rattle.setl_image_shapes.specs.Runs.{is_level, on, without}

-- one that is wanted is popped
pops_one : (level : Bool) (k : Kind) (n : ℕ) (s : Shape) → is_level k ≡ level → without level (suc n) (k ∷ s) ≡ without level n s
pops_one true AResult n s is = cc
pops_one true ACollection n s is = cc
pops_one true AnIterator n s is = refl
pops_one true APairIterator n s is = refl
pops_one false AResult n s is = refl
pops_one false ACollection n s is = refl
pops_one false AnIterator n s is = cc
pops_one false APairIterator n s is = cc

-- one that isn't wanted isn't popped
pops_none : (level other : Bool) (k : Kind) (n : ℕ) (s : Shape) → is_level k ≡ other → (level ≡ other → ⊥) → without level (suc n) (k ∷ s) ≡ None
pops_none true true k n s is apart = absurd (apart refl)
pops_none false false k n s is apart = absurd (apart refl)
pops_none true false AResult n s is apart = refl
pops_none true false ACollection n s is apart = refl
pops_none true false AnIterator n s is apart = cc
pops_none true false APairIterator n s is apart = cc
pops_none false true AResult n s is apart = cc
pops_none false true ACollection n s is apart = cc
pops_none false true AnIterator n s is apart = refl
pops_none false true APairIterator n s is apart = refl

pub pops_nothing : (level : Bool) (s : Shape) → without level zero s ≡ Some s
pops_nothing true s = refl
pops_nothing false s = refl

pub pops_empty : (level : Bool) (n : ℕ) (s : Shape) → 0 < n → s ≡ [] → without level n s ≡ None
pops_empty level zero s some is = absurd (omega (arith, some))
pops_empty true (suc n) s some is = ap (without_levels (suc n)) is
pops_empty false (suc n) s some is = ap (without_results (suc n)) is

pub pops_other : (level other : Bool) (k : Kind) (n c : ℕ) (s t : Shape) → is_level k ≡ other → (level ≡ other → ⊥) → 0 < n → 0 < c → s ≡ on k c t → without level n s ≡ None
pops_other level other k zero c s t kind apart some many is = absurd (omega (arith, some))
pops_other level other k (suc n) zero s t kind apart some many is = absurd (omega (arith, many))
pops_other level other k (suc n) (suc c) s t kind apart some many is = ap (without level (suc n)) is ∙ pops_none level other k n (on k c t) kind apart

pops_all : (level : Bool) (k : Kind) (c n m : ℕ) (t : Shape) → is_level k ≡ level → n ≡ c + m → without level n (on k c t) ≡ without level m t
pops_all level k zero n m t kind is = let same : n ≡ m = omega (arith, is) in ap (λ i. without level i t) same
pops_all level k (suc c) zero m t kind is = absurd (omega (arith, is))
pops_all level k (suc c) (suc n) m t kind is = pops_one level k n (on k c t) kind ∙ pops_all level k c n m t kind (omega (arith, is))

pops_part : (level : Bool) (k : Kind) (n c m : ℕ) (t : Shape) → is_level k ≡ level → c ≡ n + m → without level n (on k c t) ≡ Some (on k m t)
pops_part level k zero c m t kind is = let same : c ≡ m = omega (arith, is) in pops_nothing level (on k c t) ∙ ap (λ i. Some (on k i t)) same
pops_part level k (suc n) zero m t kind is = absurd (omega (arith, is))
pops_part level k (suc n) (suc c) m t kind is = pops_one level k n (on k c t) kind ∙ pops_part level k n c m t kind (omega (arith, is))

-- a run is popped whole
pub pops_run : (level : Bool) (k : Kind) (n c m : ℕ) (s t : Shape) → is_level k ≡ level → s ≡ on k c t → n ≡ c + m → without level n s ≡ without level m t
pops_run level k n c m s t kind is sum = ap (without level n) is ∙ pops_all level k c n m t kind sum

-- a part of a run is popped
pub pops_some : (level : Bool) (k : Kind) (n c m : ℕ) (s t : Shape) → is_level k ≡ level → s ≡ on k c t → c ≡ n + m → without level n s ≡ Some (on k m t)
pops_some level k n c m s t kind is sum = ap (without level n) is ∙ pops_part level k n c m t kind sum

-- ---- truth values

pub differ : (a b : Bool) → not (beq a b) ≡ true → b ≡ a → ⊥
differ true true h is = absurd (cc)
differ true false h is = absurd (cc)
differ false true h is = absurd (cc)
differ false false h is = absurd (cc)

pub same_truth : (a b : Bool) → not (beq a b) ≡ false → a ≡ b
same_truth true true h = refl
same_truth true false h = cc
same_truth false true h = cc
same_truth false false h = refl
