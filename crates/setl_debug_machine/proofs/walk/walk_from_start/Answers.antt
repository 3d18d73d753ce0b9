use Rattle.setl_code.specs.CodeMeans.{code_first}
use Rattle.setl_code.specs.Plain.{plain_code}
use Rattle.setl_debug_machine.specs.code.Walks.{most_turns}
use Rattle.setl_debug_machine.proofs.Walking.{walks_first}
use Rattle.setl_debug_machine.proofs.walk.walk_from_start.Goals as goal

pub returns-clause-walk : goal.returns-clause-walk
returns-clause-walk c =
    let s = c.args.subject.now in
    let first = code_first (plain_code s.declarations.code) s.input.items most_turns in
    walks_first s.declarations s.input.items c.args.line c.step.new.machine c.in_ok-tally.tally c.in_ok-ahead.ahead c.in_ok-tally.ensures (c.in_ok-ahead.ensures.steps first c.in_ok-machine.ensures)
