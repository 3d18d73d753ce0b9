use Rattle.std.proofs.Common.{◌≡◌, ℕ, [], ◌∷◌, Option, ap, sym, subst}
use Rattle.std.specs.Prelude.{Result, IfOk, IfSome}
use Rattle.std.specs.declared.alloc.AllocError.{AllocError}
use Rattle.setl_operators_table.specs.declared.Operator.{Operator}
use Rattle.setl_operators_table.specs.Operators.{op_of}
use Rattle.setl_operators_table.specs.Outcome.{Gives}
use Rattle.setl_rep_bases.specs.Bases.{BasesState}
use Rattle.setl_rep_forms.specs.declared.held.Held.{Held}
use Rattle.setl_rep_plain.specs.Standing.{held_value}
use Rattle.setl_store_operands.specs.Lending.{value_as}
use Rattle.setl_value.specs.Datum.{Datum}
use Rattle.setl_store.proofs.selecting.selected.Goals as goal

-- what an operator gives of a map and a value, in a form
abbrev Selects : BasesState → Result (Option Held) AllocError → Operator → (map at : Option Datum) → Type 0
Selects bs r o map at = IfOk r (λ f. IfSome f (λ h. (left : ℕ) → op_of o (map ∷ at ∷ []) left ≡ Gives (held_value bs h) 0))

-- the same of the operator and the operands that these are
selects : (bs : BasesState) (r : Result (Option Held) AllocError) (o o' : Operator) (map map' at at' : Option Datum) → o ≡ o' → map ≡ map' → at ≡ at' → Selects bs r o' map' at' → Selects bs r o map at
selects bs r o o' map map' at at' same maps points h =
    subst (λ w. Selects bs r w map at) (sym same) (subst (λ m. Selects bs r o' m at) (sym maps) (subst (Selects bs r o' map') (sym points) h))

pub returns-in-Get-clause-gives : goal.returns-in-Get-clause-gives
returns-in-Get-clause-gives c =
    let bs = c.args.bases.now in
    selects bs c.image.result c.args.what _ (value_as bs c.args.map) (held_value bs c.in-Based.map.now) (value_as bs c.args.at) _ c.in-Get.is (ap (value_as bs) c.in-Based.is) c.in-Some.ensures c.image.ensures.value

pub returns-in-Images-clause-gives : goal.returns-in-Images-clause-gives
returns-in-Images-clause-gives c =
    let bs = c.args.bases.now in
    selects bs c.images.result c.args.what _ (value_as bs c.args.map) (held_value bs c.in-Based.map.now) (value_as bs c.args.at) _ c.in-Images.is (ap (value_as bs) c.in-Based.is) c.in-Some.ensures c.images.ensures.value
