-- Operands whose values are read one after the other.
use Rattle.std.proofs.Common.{◌≡◌, ◌∙◌, List, [], ◌∷◌, ◌++◌, map, Option, Err, refl, ap, sym}
use Rattle.setl_value.specs.Datum.{Datum}
use Rattle.setl_value.specs.declared.Value.{Value}
use Rattle.setl_value.specs.code.DatumOf.{part}
use Rattle.setl_rep_bases.specs.Bases.{BasesState}
use Rattle.setl_rep_forms.specs.declared.held.Held.{Held}
use Rattle.setl_operators_table.specs.declared.OpFault.{OpFault}
use Rattle.setl_operators_table.specs.declared.OpFault.TheVariants.{Kind, Om, Wide, Zero, Range, Deep, Spent, NoMemory}
use Rattle.setl_operators_table.specs.Outcome.{Outcome}
use Rattle.setl_operators_table.specs.code.Answers.{Tells}
use Rattle.setl_rep_plain.specs.Standing.{held_value}
use Rattle.setl_rep.specs.Standing.{AreHeldOver}
use Rattle.setl_rep.specs.Telling.{TellsHeld}

-- the values of all but the rest
pub record IsRead (bs : BasesState) (vs : List (Option Value)) (rest all : List Held) : Type 0 where
  pub read : map part vs ++ map (held_value bs) rest ≡ map (held_value bs) all
  pub over : AreHeldOver bs rest

pub starts : (bs : BasesState) (all : List Held) → AreHeldOver bs all → IsRead bs [] all all
starts bs all h = record { read = refl; over = h }

put_last : (vs : List (Option Value)) (v : Option Value) (rest : List (Option Datum)) → map part (vs ++ v ∷ []) ++ rest ≡ map part vs ++ (part v ∷ rest)
put_last [] v rest = refl
put_last (w ∷ vs) v rest = ap (λ l. part w ∷ l) (put_last vs v rest)

pub steps : (bs : BasesState) (vs : List (Option Value)) (v : Option Value) (h : Held) (rest all : List Held) → part v ≡ held_value bs h → IsRead bs vs (h ∷ rest) all → IsRead bs (vs ++ v ∷ []) rest all
steps bs vs v h rest all e r = record {
  read = put_last vs v (map (held_value bs) rest) ∙ ap (λ d. map part vs ++ (d ∷ map (held_value bs) rest)) e ∙ r.read;
  over = r.over.1;
}

put_none : (xs : List (Option Datum)) → xs ++ [] ≡ xs
put_none [] = refl
put_none (x ∷ xs) = ap (λ l. x ∷ l) (put_none xs)

pub ends : (bs : BasesState) (vs : List (Option Value)) (all : List Held) → IsRead bs vs [] all → map part vs ≡ map (held_value bs) all
ends bs vs all r = sym (put_none (map part vs)) ∙ r.read

-- ---- faults

pub same_fault : (bs : BasesState) (e : OpFault) (o : Outcome) → Tells (Err e) o → TellsHeld bs (Err e) o
same_fault bs Kind o h = h
same_fault bs Om o h = h
same_fault bs Wide o h = h
same_fault bs Zero o h = h
same_fault bs Range o h = h
same_fault bs Deep o h = h
same_fault bs Spent o h = h
same_fault bs NoMemory o h = h
