use Rattle.std.proofs.Common.{sym, subst}
use Rattle.setl_debug_machine.specs.code.Walks.{StandsSo}
use Rattle.setl_debug_machine.proofs.Lasting.{ends_spent}
use Rattle.setl_debug_machine.proofs.ending.on_the_way.Goals as goal

pub returns : goal.returns
returns c =
    let s = c.args.subject.now in
    let m = c.in_ok-follower.follower.machine in
    let stands = c.in_ok-follower.ensures.stands in
    record {
      follower = subst (StandsSo s.declarations s.input.items m) (sym c.in_ok-follower.ensures.standing) stands;
      ends = ends_spent c.fewer_turns_cut.ensures.left s.declarations s.input.items c.args.turns c.args.walk.now c.requires.turns c.requires.walk c.requires.there m stands c.fewer_turns_cut.ensures.there c.requires.goes c.body-body.result c.body-body.ensures.number c.body-body.ensures.variables;
    }
