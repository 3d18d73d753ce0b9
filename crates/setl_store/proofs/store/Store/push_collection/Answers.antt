use Rattle.std.proofs.Common.{[], ◌∷◌, refl}
use Rattle.setl_code.specs.CodeCore.{Collecting}
use Rattle.setl_store_operands.specs.declared.cells.Operand.TheVariants as operand
use Rattle.setl_store.specs.Standing.{over}
use Rattle.setl_store.proofs.OperandLists.{Changed, pushes, collection_alone}
use Rattle.setl_store.proofs.store.Store.push_collection.Goals as goal
use Rattle.setl_store.proofs.store.Store.push_collection.Goals.{In_ok-add_operand}

done : (c : In_ok-add_operand) → Changed c.self.inside.code.now c.self.inside.bases c.self.inside.keeps c.self.inside.at c.add_operand.new.environment.now c.add_operand.new.environment.kept c.args.self.now (over ((Collecting c.args.what []) ∷ c.args.self.now.core.now.operands) c.args.self.now.core)
done c =
    let e = c.self.inside.environment.now in
    pushes c.self.inside.code.now c.self.inside.bases c.self.inside.keeps c.self.inside.at e c.add_operand.new.environment.now c.self.inside.environment.kept c.add_operand.new.environment.kept c.args.self.now
    (operand.Collection c.args.what c.members-lowest.result 0) (Collecting c.args.what []) c.self.invariant c.self.view_is c.in_ok-add_operand.ensures.now c.in_ok-add_operand.ensures.kept (collection_alone c.args.what e c.members-lowest.result c.members-lowest.ensures (c.self.invariant.1).members) tt tt refl

pub returns : goal.returns
returns c = (done c).stands

pub invariant_of-self-2 : goal.invariant_of-self-2
invariant_of-self-2 c = (done c).holds
