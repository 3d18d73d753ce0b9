-- What kernels give is what operators give.
use Rattle.std.proofs.Common.{◌≡◌, ◌∙◌, ℕ, ◌∷◌, [], Option, Some, IfSome, sym, ap}
use Rattle.setl_value.specs.Datum.{Datum}
use Rattle.setl_operators_table.specs.declared.Operator.{Operator}
use Rattle.setl_operators_table.specs.Operators.{op_of}
use Rattle.setl_operators_table.specs.Outcome.{Outcome, Gives, value}
use Rattle.setl_rep_bases.specs.Bases.{BasesState}
use Rattle.setl_rep_forms.specs.declared.held.Held.{Held}
use Rattle.setl_rep_forms.specs.FormOf.{form}
use Rattle.setl_rep_forms.specs.Stands.{stands}
use Rattle.setl_rep_plain.specs.Standing.{held_value}
use Rattle.setl_rep.specs.declared.applied.Applied.{Applied}

-- what is held, if anything is, is what the operator gives of the two operands
abbrev pub IsGiven : BasesState → (a b : Held) → Option Applied → Operator → Type 0
IsGiven bs a b result what = IfSome result (λ r. (left : ℕ) → op_of what (stands bs (form a) ∷ stands bs (form b) ∷ []) left ≡ Gives (held_value bs r.held) r.charged)

-- the same of one operand
abbrev pub IsGivenOne : BasesState → (s : Held) → Option Applied → Operator → Type 0
IsGivenOne bs s result what = IfSome result (λ r. (left : ℕ) → op_of what (stands bs (form s) ∷ []) left ≡ Gives (held_value bs r.held) r.charged)

pub gives : (bs : BasesState) (h : Held) (charged : ℕ) {d : Datum} {o : Outcome} → o ≡ value d → held_value bs h ≡ Some d → charged ≡ 0 → o ≡ Gives (held_value bs h) charged
gives bs h charged is same free = is ∙ sym (ap (λ v. Gives v 0) same) ∙ sym (ap (λ n. Gives (held_value bs h) n) free)
