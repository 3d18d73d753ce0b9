-- Pieces that were handed over.
use Rattle.std.proofs.Common.{◌≡◌, ◌∙◌, ◌-◌, ◌<◌, ◌≤◌, ◌==◌, ℕ, Bool, true, false, List, [], ◌∷◌, length, drop, Option, None, Some, refl, ap, subst, sym, if◌then◌else◌, arith}
use Rattle.std.specs.Option.{option_map}
use Rattle.std.proofs.lemmas.Bool.{eqb-true, eqb-false}
use Rattle.std.proofs.lemmas.List.{length-append, length-drop}
use Rattle.setl_io.specs.Faults.{one_more}
use Rattle.setl_io.specs.Sink.{CountsPiece}
use Rattle.setl_io.specs.declared.outside.Put.TheVariants.{Took}
use Rattle.setl_io.proofs.Written.{Written}

-- a piece of which this is left is counted once nothing is
abbrev pub Handed : (rest : List ℕ) → (before now : Option ℕ) → Type 0
Handed [] before now = now ≡ option_map one_more before
Handed (b ∷ bs) before now = now ≡ before

pub handed_none : (rest : List ℕ) (a : Option ℕ) → 0 < length rest → Handed rest a a
handed_none [] a some = absurd (omega (arith, some))
handed_none (b ∷ bs) a some = refl

pub handed_all : (rest : List ℕ) (a b : Option ℕ) → Handed rest a b → length rest ≡ 0 → b ≡ option_map one_more a
handed_all [] a b h none = h
handed_all (x ∷ xs) a b h none = absurd (omega (arith, none))

-- what is left of it was refused
pub handed_last : (rest : List ℕ) (a b c : Option ℕ) → Handed rest a b → 0 < length rest → c ≡ option_map one_more b → c ≡ option_map one_more a
handed_last [] a b c h some e = absurd (omega (arith, some))
handed_last (x ∷ xs) a b c h some e = e ∙ ap (option_map one_more) h

counted : (n : ℕ) (left rest : List ℕ) (b : Option ℕ) (v : Bool) → (n == length rest) ≡ v → length left ≡ length rest - n → n ≤ length rest → Handed left b (option_map (λ count. if v then one_more count else count) b)
counted n [] rest b true e l le = refl
counted n (x ∷ xs) rest b true e l le = let same = eqb-true n (length rest) e in absurd (omega (arith, l, le, same))
counted n [] rest b false e l le = absurd (eqb-false n (length rest) e (omega (arith, l, le)))
counted n (x ∷ xs) rest None false e l le = refl
counted n (x ∷ xs) rest (Some count) false e l le = refl

handed_from : (left : List ℕ) (a b c : Option ℕ) → b ≡ a → Handed left b c → Handed left a c
handed_from left a b c e h = subst (λ x. Handed left x c) e h

-- some of it was taken
pub handed_more : (n : ℕ) (left rest : List ℕ) (a b c : Option ℕ) → Handed rest a b → 0 < length rest → n ≤ length rest → left ≡ drop n rest → CountsPiece rest b c (Took n) → Handed left a c
handed_more n left [] a b c h some le e k = absurd (omega (arith, some))
handed_more n left (x ∷ xs) a b c h some le e k =
    let rest = x ∷ xs in
    handed_from left a b c h (subst (Handed left b) (sym k) (counted n left rest b (n == length rest) refl (ap length e ∙ length-drop n rest) le))

-- of an empty piece nothing is left
pub none_rests : {old new : Option (List ℕ)} {piece : List ℕ} (rest : List ℕ) → Written old new piece rest → piece ≡ [] → 0 < length rest → ⊥
none_rests rest w e some = omega (arith, some, length-append w.done rest, ap length (w.parts ∙ e))
