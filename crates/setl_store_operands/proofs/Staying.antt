-- Operands over bases in which those of their forms are kept.
use Rattle.std.proofs.Common.{◌≡◌, ◌≤◌, List, [], ◌∷◌, map, refl, sym, ap, subst}
use Rattle.setl_value.specs.Datum.{part_depth}
use Rattle.setl_code.specs.CodeCore as core
use Rattle.setl_rep_bases.specs.Bases.{BasesState}
use Rattle.setl_rep_bases.specs.Keeping.{AreKept}
use Rattle.setl_rep_forms.specs.FormOf.{form}
use Rattle.setl_rep_forms.specs.Laws.{FormsStay}
use Rattle.setl_store_operands.specs.declared.cells.Member.{Member}
use Rattle.setl_store_operands.specs.declared.cells.Operand.{Operand}
use Rattle.setl_store_operands.specs.declared.cells.Operand.TheVariants as operand
use Rattle.setl_store_operands.specs.Operands.{operand_of, IsOperandOver, AreOperandsOver}

record OperandStays (bs cs : BasesState) (ms : List Member) (o : Operand) : Type 0 where
  pub same : operand_of cs ms o ≡ operand_of bs ms o
  pub over : IsOperandOver cs o

operand_stays : FormsStay → (bs cs : BasesState) (ms : List Member) (o : Operand) → AreKept bs cs → IsOperandOver bs o → OperandStays bs cs ms o
operand_stays stay bs cs ms operand.Om more h = record { same = refl; over = tt }
operand_stays stay bs cs ms (operand.Value v) more h = record { same = refl; over = tt }
operand_stays stay bs cs ms (operand.Iterator i) more h = record { same = refl; over = tt }
operand_stays stay bs cs ms (operand.Collection what lowest count) more h = record { same = refl; over = tt }
operand_stays stay bs cs ms (operand.Based f) more h =
    let s = stay bs cs (form f) more h.over in
    record { same = ap (λ v. core.Result v) s.1; over = record { over = s.0; shallow = subst (λ v. part_depth v ≤ 500) (sym s.1) h.shallow } }

pub operands_stay : FormsStay → (bs cs : BasesState) (ms : List Member) (os : List Operand) → AreKept bs cs → AreOperandsOver bs os →
    (map (operand_of cs ms) os ≡ map (operand_of bs ms) os) × AreOperandsOver cs os
operands_stay stay bs cs ms [] more all = (refl, tt)
operands_stay stay bs cs ms (o ∷ os) more all =
    let here = operand_stays stay bs cs ms o more all.0 in
    let rest = operands_stay stay bs cs ms os more all.1 in
    (λ i. here.same i ∷ rest.0 i, (here.over, rest.1))
