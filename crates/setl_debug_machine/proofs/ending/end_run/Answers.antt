use Rattle.std.proofs.Common.{subst}
use Rattle.setl_model_runs.specs.Run.{State}
use Rattle.setl_code.specs.CodeCore.{CodeCore}
use Rattle.setl_debug_machine.specs.code.Machines.{EndsIn, StandsAfter, StandsAt, StepsTo}
use Rattle.setl_debug_machine.specs.declared.machine.Machine.{Machine}
use Rattle.setl_debug_machine.proofs.Coming.{ends_in}
use Rattle.setl_debug_machine.proofs.Lasting.{doesnt_go_on, stands_with_fewer}
use Rattle.setl_debug_machine.proofs.ending.end_run.Goals as goal

pub step-requires-clause-no_fault : goal.step-requires-clause-no_fault
step-requires-clause-no_fault c =
    let s = c.args.subject.now in
    let laws = c.fewer_turns_cut.ensures in
    (stands_with_fewer laws.left s.declarations s.input.items c.args.turns c.args.walk.now c.requires.turns c.requires.walk c.requires.there c.args.follower.machine c.requires.stands laws.reach c.charge.new.self c.charge.ensures).stands.no_fault

pub step-requires-clause-serves : goal.step-requires-clause-serves
step-requires-clause-serves c =
    let s = c.args.subject.now in
    let laws = c.fewer_turns_cut.ensures in
    (stands_with_fewer laws.left s.declarations s.input.items c.args.turns c.args.walk.now c.requires.turns c.requires.walk c.requires.there c.args.follower.machine c.requires.stands laws.reach c.charge.new.self c.charge.ensures).stands.serves

pub unreachable-requires : goal.unreachable-requires
unreachable-requires c =
    let s = c.args.subject.now in
    let laws = c.fewer_turns_cut.ensures in
    let old : Machine = record c.args.follower.machine { control = c.charge.new.self } in
    let new = c.step.new.machine in
    let at = stands_with_fewer laws.left s.declarations s.input.items c.args.turns c.args.walk.now c.requires.turns c.requires.walk c.requires.there c.args.follower.machine c.requires.stands laws.reach c.charge.new.self c.charge.ensures in
    let does = subst (λ r. (t : State CodeCore) → StandsAt s.declarations t old → StepsTo s.declarations t new r) c.in-Went.is c.in_ok-step.ensures.steps in
    let x = does at.at at.stands in
    doesnt_go_on laws.left s.declarations s.input.items c.args.turns c.args.walk.now c.requires.turns c.requires.walk c.requires.there laws.reach laws.ends c.requires.ends at.at x.0 at.reached x.1

pub returns : goal.returns
returns c =
    let s = c.args.subject.now in
    let laws = c.fewer_turns_cut.ensures in
    let old : Machine = record c.args.follower.machine { control = c.charge.new.self } in
    let new = c.step.new.machine in
    let at = stands_with_fewer laws.left s.declarations s.input.items c.args.turns c.args.walk.now c.requires.turns c.requires.walk c.requires.there c.args.follower.machine c.requires.stands laws.reach c.charge.new.self c.charge.ensures in
    let does = subst (λ r. (t : State CodeCore) → StandsAt s.declarations t old → StepsTo s.declarations t new r) c.in-Ended.is c.in_ok-step.ensures.steps in
    let ends = ends_in c.ends_change_nothing.ensures s.declarations s.input.items c.args.turns c.args.walk.now.steps old new c.body-body.result c.in-Ended.end at c.body-body.ensures.number c.body-body.ensures.variables does in
    record { follower = ends; ends = ends }
