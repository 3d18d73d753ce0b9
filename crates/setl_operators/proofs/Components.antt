-- The members of a set and the components of a tuple.
use Rattle.std.proofs.Common.{◌≡◌, ◌∙◌, ap, sym, ℕ, ◌-◌, ◌<◌, ◌⊎◌, inl, inr, arith, List, [], ◌∷◌, drop, length, map, slice_get, Option, Some, None, MatchOption, Bor}
use Rattle.std.proofs.lemmas.Option.{slice_get-get_or, none-some}
use Rattle.setl_value.specs.declared.Value.{Value}
use Rattle.setl_value.specs.code.DatumOf.{datum, lent}
use Rattle.setl_value.specs.Datum.{Datum, set_of, tuple_of, element_list-elements_of, part_list-parts_of}
use Rattle.setl_operators_table.specs.Folds.{fold_on, fold_list, fold_datum}
use Rattle.setl_operators_table.specs.Outcome.{Outcome, adding}
use Rattle.setl_operators.proofs.Steps.{adding_none}

-- what is read at an index of a tuple
pub component_of : (ps : List (Option Datum)) (i : ℕ) (r : Option (Bor Value)) → i < length ps
    → MatchOption r ((slice_get ps i ≡ Some None) ⊎ (slice_get ps i ≡ None)) (λ v. slice_get ps i ≡ Some (Some (datum v.now)))
    → slice_get ps i ≡ Some (lent r)
component_of ps i (Some v) h e = e
component_of ps i None h e = elim e [ inl x ↦ x | inr x ↦ absurd (there ps i h x) ]
  where
    there : (ps : List (Option Datum)) (i : ℕ) → i < length ps → slice_get ps i ≡ None → ⊥
    there ps i h e = let f = slice_get-get_or ps i None h in cc

-- the folds of a set and a tuple over their lists
pub over_members : (f : ℕ → Datum → Datum → Outcome) (left : ℕ) (ds : List Datum) → fold_list f (map Some ds) left ≡ fold_datum f left (set_of ds)
over_members f left ds = ap (λ l. fold_list f (map Some l) left) (sym (element_list-elements_of ds))

pub over_components : (f : ℕ → Datum → Datum → Outcome) (left : ℕ) (ps : List (Option Datum)) → fold_list f ps left ≡ fold_datum f left (tuple_of ps)
over_components f left ps = ap (λ l. fold_list f l left) (sym (part_list-parts_of ps))

-- ---- a fold starts with the first

pub started : (f : ℕ → Datum → Datum → Outcome) (ps : List (Option Datum)) (p : Option Datum) (left : ℕ) → slice_get ps 0 ≡ Some p → adding 0 (fold_on f p (drop 1 ps) (left - 0)) ≡ fold_list f ps left
started f [] p left h = absurd (none-some p h)
started f (q ∷ ps) p left h =
    let same : q ≡ p = cc in
    ap (λ n. adding 0 (fold_on f p ps n)) {x = left - 0} {y = left} (omega arith) ∙ adding_none (fold_on f p ps left) ∙ ap (λ r. fold_on f r ps left) (sym same)

pub first_member : (f : ℕ → Datum → Datum → Outcome) (ds : List Datum) (d : Datum) (rest : List Datum) (e : Datum) (left : ℕ) → ds ≡ d ∷ rest → e ≡ d
    → adding 0 (fold_on f (Some e) (map Some rest) (left - 0)) ≡ fold_list f (map Some ds) left
first_member f ds d rest e left whole same =
    ap (λ n. adding 0 (fold_on f (Some e) (map Some rest) n)) {x = left - 0} {y = left} (omega arith) ∙ adding_none (fold_on f (Some e) (map Some rest) left)
    ∙ ap (λ r. fold_on f (Some r) (map Some rest) left) same ∙ ap (λ l. fold_list f (map Some l) left) (sym whole)
