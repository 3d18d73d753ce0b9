-- What a slot holds, pushed.
use Rattle.std.proofs.Common.{◌≡◌, ℕ, List, ◌∷◌, length, reverse, refl, sym, ap, ◌∙◌, subst, Some}
use Rattle.std.specs.Prelude.{slice_get}
use Rattle.setl_code.specs.declared.code.Code.{Code}
use Rattle.setl_code.specs.declared.code.Slot.{Slot}
use Rattle.setl_code.specs.CodeCore as core
use Rattle.setl_code.specs.CodeCore.{CodeCore, Gone, There, held}
use Rattle.setl_code.specs.MayRun.{MayRun}
use Rattle.setl_code.specs.Plain.{plain_code, plain_slot}
use Rattle.setl_rep_bases.specs.Bases.{BasesState}
use Rattle.setl_store_slots.specs.declared.cells.Held.{Held}
use Rattle.setl_store_operands.specs.declared.cells.Operand.{Operand}
use Rattle.setl_store_operands.specs.Operands.{operand_in}
use Rattle.setl_store.specs.declared.cells.Kept.{Kept}
use Rattle.setl_store.specs.Flat.{Here, held_of, place_in, stands, with_operand, AllSound, IsSound}
use Rattle.setl_store.specs.Operands.{IsThere}
use Rattle.setl_store.specs.Standing.{Standing, over, variables, with_pushed}
use Rattle.setl_store.proofs.OperandLists.{Changed, pushes}
use Rattle.setl_store.proofs.Slots.{Has, slot_at}
use Rattle.setl_store.proofs.StandingOperands.{content, held_alone, held_over, held_shown}
use Rattle.setl_store.proofs.StandingSlots.{standing_at}

pushed_is : (h : core.Held) (k : CodeCore) → IsThere h → over (core.Result (content h) ∷ k.now.operands) k ≡ with_pushed h k
pushed_is Gone k there = absurd there
pushed_is (There v) k there = refl

pub slot_pushed : (code : Code) (bs : BasesState) (keeps : ℕ) (at : ℕ) (e e' : Here) (kept kept' : List (Here × Kept)) (s : Standing) (x : Slot) (n : ℕ) (h : Held) (o : Operand) →
    MayRun code × IsSound (plain_code code) bs e × AllSound (plain_code code) bs keeps e.slots kept → stands code bs at e kept ≡ s → Has s.core x → IsThere (held (plain_slot (variables s.core) x) s.core) →
    n ≡ place_in (reverse e.activations) x → Some h ≡ slice_get e.slots n → o ≡ operand_in h → e' ≡ with_operand e o → kept' ≡ kept →
    Changed code bs keeps at e' kept' s (with_pushed (held (plain_slot (variables s.core) x) s.core) s.core)
slot_pushed code bs keeps at e e' kept kept' s x n h o holds is has there place holds_it made now same =
    let shown = slot_at code bs keeps at e kept s x n h holds is has place holds_it in
    subst (λ w. Changed code bs keeps at e' kept' s (with_pushed w s.core)) (sym shown)
    (subst (Changed code bs keeps at e' kept' s) (pushed_is (held_of bs h) s.core (subst IsThere shown there))
    (pushes code bs keeps at e e' kept kept' s (operand_in h) (core.Result (content (held_of bs h))) holds is (now ∙ ap (with_operand e) made) same
    (held_alone h (reverse e.operands) (length e.members) holds.1.members) tt (held_over bs h (standing_at bs e.slots n h holds.2.standing holds_it)) (held_shown bs e.members h)))
