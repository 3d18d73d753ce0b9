use Rattle.std.proofs.Common.{◌<◌, length, sym, subst}
use Rattle.setl_code.specs.CodeCore.{held}
use Rattle.setl_code.specs.Plain.{plain_slot}
use Rattle.setl_store.specs.Standing.{variables, with_pushed}
use Rattle.setl_store.proofs.OperandLists.{Changed}
use Rattle.setl_store.proofs.PushedSlots.{slot_pushed}
use Rattle.setl_store.proofs.Slots.{place_within}
use Rattle.setl_store.proofs.store.Store.push_slot.Goals as goal
use Rattle.setl_store.proofs.store.Store.push_slot.Goals.{In_ok-add_operand}

pub place-at-requires-clause-there : goal.place-at-requires-clause-there
place-at-requires-clause-there c = place_within c.self.inside.code.now c.self.inside.bases c.self.inside.at c.self.inside.environment.now c.self.inside.environment.kept c.args.self.now c.args.slot c.self.invariant.1 c.self.view_is c.requires.slot

pub slot-requires : goal.slot-requires
slot-requires c =
    subst (λ n. n < length c.self.inside.environment.now.slots) (sym c.place-at.ensures)
    (place_within c.self.inside.code.now c.self.inside.bases c.self.inside.at c.self.inside.environment.now c.self.inside.environment.kept c.args.self.now c.args.slot c.self.invariant.1 c.self.view_is c.requires.slot)

done : (c : In_ok-add_operand) → Changed c.self.inside.code.now c.self.inside.bases c.self.inside.keeps c.self.inside.at c.add_operand.new.environment.now c.add_operand.new.environment.kept c.args.self.now (with_pushed (held (plain_slot (variables c.args.self.now.core) c.args.slot) c.args.self.now.core) c.args.self.now.core)
done c =
    slot_pushed c.self.inside.code.now c.self.inside.bases c.self.inside.keeps c.self.inside.at c.self.inside.environment.now c.add_operand.new.environment.now c.self.inside.environment.kept c.add_operand.new.environment.kept c.args.self.now c.args.slot c.place-at.result c.slot.result.now c.in_ok-operand.operand
    c.self.invariant c.self.view_is c.requires.slot c.requires.there c.place-at.ensures c.slot.ensures c.in_ok-operand.ensures c.in_ok-add_operand.ensures.now c.in_ok-add_operand.ensures.kept

pub invariant_of-self-2 : goal.invariant_of-self-2
invariant_of-self-2 c = (done c).holds

pub returns : goal.returns
returns c = (done c).stands
