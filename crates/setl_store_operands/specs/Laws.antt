-- What operands stand for as bases change.
use Rattle.std.specs.Prelude.{◌≡◌, List, map}
use Rattle.setl_rep_bases.specs.Bases.{BasesState}
use Rattle.setl_rep_bases.specs.Keeping.{AreKept}
use Rattle.setl_store_operands.specs.declared.cells.Member.{Member}
use Rattle.setl_store_operands.specs.declared.cells.Operand.{Operand}
use Rattle.setl_store_operands.specs.Operands.{operand_of, AreOperandsOver}

-- what stands over bases is the same over all in which their instances and blocks are kept
abbrev pub OperandsStay : Type 0
OperandsStay =
    (bs cs : BasesState) (ms : List Member) (os : List Operand) → AreKept bs cs → AreOperandsOver bs os
    → (map (operand_of cs ms) os ≡ map (operand_of bs ms) os) × AreOperandsOver cs os
