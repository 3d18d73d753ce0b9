use Rattle.std.proofs.Common.{◌≡◌, ◌+◌, ◌∙◌, length, take, subst, sym, arith, rules, MatchOption}
use Rattle.std.proofs.lemmas.Bool.Decides.{nat_tests}
use Rattle.setl_debug_script.specs.Lines.{lines}
use Rattle.setl_debug_script.specs.Scripts.{AreCommands, IsCommand, IsFaulty}
use Rattle.setl_debug_script.proofs.LineEnds.{no_line}
use Rattle.setl_debug_script.proofs.Turns.{all_in_range, first_fault, left_on, spelled_on, spelled_whole}
use Rattle.setl_debug_script.proofs.reading.read_script.Goals as goal

pub returns-in_default-clause-faulty : goal.returns-in_default-clause-faulty
returns-in_default-clause-faulty c =
    let line = c.first_line.result.0.now in
    first_fault (lines c.args.bytes.now) c.loop-rest.n line (lines c.first_line.result.1.now) c.loop-rest.commands c.loop-rest.invariant.spelled (c.loop-rest.invariant.left ∙ c.first_line.ensures.first)
    (subst (λ o. MatchOption o (IsFaulty line) (IsCommand line)) c.in_default.is c.in_ok-command.ensures)

pub loop-rest-preserved : goal.loop-rest-preserved
loop-rest-preserved c =
    let line = c.first_line.result.0.now in
    let left = c.loop-rest.invariant.left ∙ c.first_line.ensures.first in
    record {
      spelled =
          subst (AreCommands (take (c.loop-rest.n + 1) (lines c.args.bytes.now))) (sym c.in_ok-push.ensures.ok)
          (spelled_on (lines c.args.bytes.now) c.loop-rest.n line (lines c.first_line.result.1.now) c.loop-rest.commands c.in-Some.command c.loop-rest.invariant.spelled left (subst (λ o. MatchOption o (IsFaulty line) (IsCommand line)) c.in-Some.is c.in_ok-command.ensures));
      left = left_on (lines c.args.bytes.now) c.loop-rest.n line (lines c.first_line.result.1.now) left;
      few = omega arith;
    }

pub of-requires : goal.of-requires
of-requires c = all_in_range (take c.loop-rest.n (lines c.args.bytes.now)) c.loop-rest.commands c.loop-rest.invariant.spelled

pub returns-clause-script : goal.returns-clause-script
returns-clause-script c =
    let none : length c.loop-rest.rest.now ≡ 0 = first_of (search rules, grind (arith, nat_tests)) in
    subst (AreCommands (lines c.args.bytes.now)) (sym c.of.ensures)
    (spelled_whole (lines c.args.bytes.now) c.loop-rest.n c.loop-rest.commands c.loop-rest.invariant.spelled (c.loop-rest.invariant.left ∙ no_line c.loop-rest.rest.now none))
