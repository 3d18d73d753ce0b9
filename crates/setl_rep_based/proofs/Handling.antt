-- Handles of the components of a tuple.
use Rattle.std.proofs.Common.{◌≡◌, ℕ, zero, suc, ◌+◌, ◌≤◌, List, [], ◌∷◌, ◌++◌, length, drop, slice_get, Option, Some, None, option_and_then, refl, ap, sym, ◌∙◌, subst, arith}
use Rattle.std.specs.Option.{IfSome, IsSome}
use Rattle.setl_value.specs.Datum.{Datum}
use Rattle.setl_value.specs.WellFormed.{EndsIn, IsTrimmed, trim, trim_onto}
use Rattle.setl_base.specs.declared.Elt.{Elt}
use Rattle.setl_base.specs.Base.{BaseState, find, value_of, IsLiving}
use Rattle.setl_rep_forms.specs.Stands.{parts_at, AreHandles}
use Rattle.setl_rep_based.specs.Found.{ArePartsFound}

-- handles of the first i components, and the others are members too
pub record AreHandled (b : BaseState) (es : List (Option Elt)) (i : ℕ) (t : List (Option Datum)) : Type 0 where
  pub parts : parts_at b es ++ drop i t ≡ t
  pub living : AreHandles b es
  pub found : ArePartsFound b (drop i t)

handles_put : (b : BaseState) (es : List (Option Elt)) (o : Option Elt) → AreHandles b es → IfSome o (IsLiving b) → AreHandles b (es ++ o ∷ [])
handles_put b [] None h l = tt
handles_put b [] (Some e) h l = (l, tt)
handles_put b (None ∷ es) o h l = handles_put b es o h l
handles_put b (Some e ∷ es) o h l = (h.0, handles_put b es o h.1 l)

parts_put : (b : BaseState) (es : List (Option Elt)) (o : Option Elt) (rest : List (Option Datum)) → parts_at b (es ++ o ∷ []) ++ rest ≡ parts_at b es ++ option_and_then (value_of b) o ∷ rest
parts_put b [] o rest = refl
parts_put b (e ∷ es) o rest = ap (λ l. option_and_then (value_of b) e ∷ l) (parts_put b es o rest)

drop_next : (i : ℕ) (t : List (Option Datum)) (p : Option Datum) → slice_get t i ≡ Some p → drop i t ≡ p ∷ drop (i + 1) t
drop_next i t p h = let next : suc i ≡ i + 1 = omega arith in by i t h ∙ ap (λ n. p ∷ drop n t) next
  where
    by : (i : ℕ) (t : List (Option Datum)) → slice_get t i ≡ Some p → drop i t ≡ p ∷ drop (suc i) t
    by zero [] h = cc
    by zero (x ∷ xs) h = cc
    by (suc i) [] h = cc
    by (suc i) (x ∷ xs) h = by i xs h

found_next : (b : BaseState) (o : Option Datum) (ps : List (Option Datum)) → ArePartsFound b (o ∷ ps) → ArePartsFound b ps
found_next b None ps f = f
found_next b (Some d) ps f = f.1

pub starts : (b : BaseState) (t : List (Option Datum)) → ArePartsFound b t → AreHandled b [] 0 t
starts b t f = record { parts = refl; living = tt; found = f }

pub goes_on : (b : BaseState) (es : List (Option Elt)) (o : Option Elt) (i : ℕ) (t : List (Option Datum)) → slice_get t i ≡ Some (option_and_then (value_of b) o) → IfSome o (IsLiving b) → AreHandled b es i t → AreHandled b (es ++ o ∷ []) (i + 1) t
goes_on b es o i t p l h =
    let d = drop_next i t (option_and_then (value_of b) o) p in
    record {
      parts = parts_put b es o (drop (i + 1) t) ∙ ap (λ r. parts_at b es ++ r) (sym d) ∙ h.parts;
      living = handles_put b es o h.living l;
      found = found_next b (option_and_then (value_of b) o) (drop (i + 1) t) (subst (ArePartsFound b) d h.found);
    }

pub here : (b : BaseState) (i : ℕ) (t : List (Option Datum)) (d : Datum) → slice_get t i ≡ Some (Some d) → ArePartsFound b (drop i t) → IsSome (find b d)
here b i t d p f = (subst (ArePartsFound b) (drop_next i t (Some d) p) f).0

-- ---- tuples that don't end in `om`

trim_ends : (p : Option Datum) (ps : List (Option Datum)) → EndsIn p ps → trim (p ∷ ps) ≡ p ∷ ps
trim_ends None [] e = absurd e
trim_ends (Some d) [] e = refl
trim_ends None (q ∷ ps) e = ap (trim_onto None) (trim_ends q ps e)
trim_ends (Some d) (q ∷ ps) e = ap (trim_onto (Some d)) (trim_ends q ps e)

pub trimmed : (ps : List (Option Datum)) → IsTrimmed ps → trim ps ≡ ps
trimmed [] t = refl
trimmed (p ∷ ps) t = trim_ends p ps t

drop_past : {A : Type 0} (n : ℕ) (xs : List A) → length xs ≤ n → drop n xs ≡ []
drop_past zero [] h = refl
drop_past zero (x ∷ xs) h = absurd (omega arith)
drop_past (suc n) [] h = refl
drop_past (suc n) (x ∷ xs) h = drop_past n xs (omega arith)

put_none : {A : Type 0} (xs : List A) → xs ++ [] ≡ xs
put_none [] = refl
put_none (x ∷ xs) = ap (λ l. x ∷ l) (put_none xs)

-- no handle is left
pub none_left : (b : BaseState) (ps : List (Option Datum)) (n : ℕ) (es : List (Option Elt)) → length es ≤ n → ps ++ parts_at b (drop n es) ≡ parts_at b es → ps ≡ parts_at b es
none_left b ps n es h p = sym (put_none ps) ∙ ap (λ l. ps ++ parts_at b l) (sym (drop_past n es h)) ∙ p
