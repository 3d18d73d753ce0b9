-- Operands that are lent as they are held.
use Rattle.std.proofs.Common.{◌≡◌, ℕ, ◌+◌, ◌-◌, List, ◌∷◌, length, drop, refl, ap, ◌∙◌}
use Rattle.setl_code.specs.declared.code.Code.{Code}
use Rattle.setl_code.specs.CodeCore.{Result as Holds}
use Rattle.setl_code.specs.Plain.{plain_code}
use Rattle.setl_rep_bases.specs.Bases.{BasesState}
use Rattle.setl_store_operands.specs.declared.lent.AsHeld.{AsHeld}
use Rattle.setl_store_operands.specs.Lending.{value_as, IsOverAs}
use Rattle.setl_store.specs.declared.cells.Kept.{Kept}
use Rattle.setl_store.specs.Flat.{Here, stands, IsHeldBelow, IsSound}
use Rattle.setl_store.specs.Standing.{Standing}
use Rattle.setl_store.proofs.HasValues.{at_from_top}
use Rattle.setl_store.proofs.OperandLists.{lowest_of}
use Rattle.setl_store.proofs.StandingOperands.{over_at}

module _ (code : Code) (bs : BasesState) (at : ℕ) (e : Here) (kept : List (Here × Kept)) (s : Standing) (h : IsSound (plain_code code) bs e) (is : stands code bs at e kept ≡ s) where
  pub held_at : (n : ℕ) (held : AsHeld) → IsHeldBelow e n held → drop n s.core.now.operands ≡ Holds (value_as bs held) ∷ drop (n + 1) s.core.now.operands
  held_at n held below =
      at_from_top code bs at e kept s h is (length e.operands) (lowest_of e) n below.operand refl refl below.there below.is
      ∙ ap (λ o. o ∷ drop (n + 1) s.core.now.operands) (below.value bs e.members)

  pub held_stands : (n : ℕ) (held : AsHeld) → IsHeldBelow e n held → IsOverAs bs held
  held_stands n held below = below.over bs (over_at bs e.operands (length e.operands - 1 - n) below.operand h.operands below.is)

  pub both_held : (lower upper : AsHeld) → IsHeldBelow e 0 upper → IsHeldBelow e 1 lower → s.core.now.operands ≡ Holds (value_as bs upper) ∷ Holds (value_as bs lower) ∷ drop 2 s.core.now.operands
  both_held lower upper first second = held_at 0 upper first ∙ ap (λ l. Holds (value_as bs upper) ∷ l) (held_at 1 lower second)
