use Rattle.std.proofs.Common.{subst, arith}
use Rattle.setl_debug_machine.specs.code.Machines.{EndsIn}
use Rattle.setl_debug_machine.specs.code.Walks.{StandsSo}
use Rattle.setl_debug_machine.proofs.Lasting.{ends_still}
use Rattle.setl_debug_machine.proofs.ending.known_end.Goals as goal
use Rattle.setl_debug_machine.proofs.ending.known_end.Goals.{in-Spent, in_default}

pub returns-then-not-matches : goal.returns-then-not-matches
returns-then-not-matches c =
    let s = c.args.subject.now in
    let f = c.args.follower.now in
    let own : EndsIn s.declarations s.input.items c.in-AtEnd.own c.in-AtEnd.ending f.machine.store.core = subst (λ x. StandsSo s.declarations s.input.items f.machine x) c.in-AtEnd.is c.requires in
    ends_still c.fewer_turns_cut.ensures.keeps s.declarations s.input.items c.in-AtEnd.own c.args.turns c.in-AtEnd.ending f.machine.store.core (omega (arith, c.if-own-turns-2.true))
    (λ h. elim c.match-matches.branch [ in-Spent w ↦ absurd (cc (c.if-not-matches.true, w.matches-is)) | in_default w ↦ w.in_default.not-Spent h ]) own
