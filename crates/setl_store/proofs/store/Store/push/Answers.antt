use Rattle.std.proofs.Common.{◌∷◌, reverse, length}
use Rattle.setl_code.specs.CodeCore.{Result as Holds}
use Rattle.setl_value.specs.code.DatumOf.{part}
use Rattle.setl_store.specs.Standing.{over}
use Rattle.setl_store.proofs.OperandLists.{Changed, pushes}
use Rattle.setl_store.proofs.store.Store.push.Goals as goal
use Rattle.setl_store.proofs.store.Store.push.Goals.{In_ok-add_operand}

done : (c : In_ok-add_operand) → Changed c.self.inside.code.now c.self.inside.bases c.self.inside.keeps c.self.inside.at c.add_operand.new.environment.now c.add_operand.new.environment.kept c.args.self.now (over ((Holds (part c.args.value)) ∷ c.args.self.now.core.now.operands) c.args.self.now.core)
done c =
    let e = c.self.inside.environment.now in
    pushes c.self.inside.code.now c.self.inside.bases c.self.inside.keeps c.self.inside.at e c.add_operand.new.environment.now c.self.inside.environment.kept c.add_operand.new.environment.kept c.args.self.now
    c.operand.result (Holds (part c.args.value)) c.self.invariant c.self.view_is c.in_ok-add_operand.ensures.now c.in_ok-add_operand.ensures.kept (c.operand.ensures.alone (reverse e.operands) (length e.members) (c.self.invariant.1).members) tt (c.operand.ensures.over c.self.inside.bases) (c.operand.ensures.stands c.self.inside.bases e.members)

pub returns : goal.returns
returns c = (done c).stands

pub invariant_of-self-2 : goal.invariant_of-self-2
invariant_of-self-2 c = (done c).holds
