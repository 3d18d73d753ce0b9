use Rattle.std.proofs.Common.{◌∙◌}
use Rattle.setl_store.specs.Operands.{Advances}
use Rattle.setl_store.proofs.IteratorSteps.{item_there, advances}
use Rattle.setl_store.proofs.NewOperands.{NowHas, told_of_now, rest_same, still_holds}
use Rattle.setl_store.proofs.store.Store.advance.Goals as goal
use Rattle.setl_store.proofs.store.Store.advance.Goals.{After-push_item}

pub take_item-requires : goal.take_item-requires
take_item-requires c = item_there c.self.inside.code.now c.self.inside.bases c.self.inside.keeps c.self.inside.at c.self.inside.environment.now c.self.inside.environment.kept c.args.self.now c.self.invariant c.self.view_is c.requires

done : (c : After-push_item) → NowHas (Advances c.args.self.now.core.now.operands) c.self.inside.code.now c.self.inside.bases c.self.inside.keeps c.self.inside.at c.push_item.new.environment.now c.push_item.new.environment.kept c.args.self.now
done c =
    advances c.self.inside.code.now c.self.inside.bases c.self.inside.keeps c.self.inside.at c.self.inside.environment.now c.self.inside.environment.kept c.args.self.now c.self.invariant c.self.view_is
    c.in_ok-item.item c.take_item.new.environment.now c.push_item.new.environment.now c.push_item.new.environment.kept c.requires
    c.in_ok-item.ensures.first c.in_ok-item.ensures.now c.push_item.ensures.now (c.push_item.ensures.kept ∙ c.in_ok-item.ensures.kept)

pub returns-clause-item : goal.returns-clause-item
returns-clause-item c = told_of_now (Advances c.args.self.now.core.now.operands) c.self.inside.code.now c.self.inside.bases c.self.inside.keeps c.self.inside.at c.push_item.new.environment.now c.push_item.new.environment.kept c.args.self.now (done c)

pub returns-clause-rest : goal.returns-clause-rest
returns-clause-rest c = rest_same (Advances c.args.self.now.core.now.operands) c.self.inside.code.now c.self.inside.bases c.self.inside.keeps c.self.inside.at c.push_item.new.environment.now c.push_item.new.environment.kept c.args.self.now (done c)

pub invariant_of-self-2 : goal.invariant_of-self-2
invariant_of-self-2 c = still_holds (Advances c.args.self.now.core.now.operands) c.self.inside.code.now c.self.inside.bases c.self.inside.keeps c.self.inside.at c.push_item.new.environment.now c.push_item.new.environment.kept c.args.self.now (done c)
