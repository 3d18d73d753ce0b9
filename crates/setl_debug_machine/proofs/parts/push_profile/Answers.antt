use Rattle.setl_debug_machine.specs.code.Walks.{run_by}
use Rattle.setl_debug_machine.proofs.Told.{adds_profile}
use Rattle.setl_debug_machine.proofs.parts.push_profile.Goals as goal

pub returns-in_ok-walk-in-None-clause-ok : goal.returns-in_ok-walk-in-None-clause-ok
returns-in_ok-walk-in-None-clause-ok c =
    adds_profile (run_by c.args.subject.now) c.args.place.turns c.in_ok-walk-in-None.walk c.report-in-None.result c.args.into.now.items c.report-in-None.new.into.items c.in_ok-walk-in-None.ensures.sees c.report-in-None.ensures.added
