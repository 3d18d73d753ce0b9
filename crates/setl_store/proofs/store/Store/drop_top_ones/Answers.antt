use Rattle.std.proofs.Common.{◌-◌, drop, arith}
use Rattle.setl_code.specs.Plain.{plain_code}
use Rattle.setl_store.specs.Standing.{over}
use Rattle.setl_store.proofs.OperandLists.{Changed, cuts, lowest_below, on_top_counted}
use Rattle.setl_store.proofs.store.Store.drop_top_ones.Goals as goal
use Rattle.setl_store.proofs.store.Store.drop_top_ones.Goals.{In_ok-cut_back}

done : (c : In_ok-cut_back) → Changed c.self.inside.code.now c.self.inside.bases c.self.inside.keeps c.self.inside.at c.cut_back.new.environment.now c.cut_back.new.environment.kept c.args.self.now (over (drop c.args.count c.args.self.now.core.now.operands) c.args.self.now.core)
done c =
    let e = c.self.inside.environment.now in
    let fewer = on_top_counted c.self.inside.code.now c.self.inside.bases c.self.inside.at e c.self.inside.environment.kept c.args.self.now c.self.view_is in
    cuts c.self.inside.code.now c.self.inside.bases c.self.inside.keeps c.self.inside.at e c.cut_back.new.environment.now c.self.inside.environment.kept c.cut_back.new.environment.kept c.args.self.now (c.operands.result - c.args.count) c.args.count c.members_of_lower-members.result c.self.invariant c.self.view_is
    (omega (arith, c.operands.ensures, c.requires, fewer)) (omega (arith, c.operands.ensures, c.requires, fewer, lowest_below (plain_code c.self.inside.code.now) c.self.inside.bases e c.self.invariant.1)) c.members_of_lower-members.ensures.has c.members_of_lower-members.ensures.fewer
    c.in_ok-cut_back.ensures.now c.in_ok-cut_back.ensures.kept

pub returns : goal.returns
returns c = (done c).stands

pub invariant_of-self-2 : goal.invariant_of-self-2
invariant_of-self-2 c = (done c).holds
