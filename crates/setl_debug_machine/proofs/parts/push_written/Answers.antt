use Rattle.setl_debug_machine.specs.code.Walks.{run_by}
use Rattle.setl_debug_machine.proofs.Told.{adds_written, leaves}
use Rattle.setl_debug_machine.proofs.parts.push_written.Goals as goal

pub returns-in_ok-walk-in-None-clause-ok : goal.returns-in_ok-walk-in-None-clause-ok
returns-in_ok-walk-in-None-clause-ok c =
    adds_written (run_by c.args.subject.now) c.args.place.turns c.in_ok-walk-in-None.walk c.extend_from_slice-in-None.result c.args.into.now.items c.written-in-None.result.now c.extend_from_slice-in-None.new.self.items
    c.in_ok-walk-in-None.ensures.sees c.written-in-None.ensures c.extend_from_slice-in-None.ensures.items

pub returns-in_ok-walk-in-None-clause-err : goal.returns-in_ok-walk-in-None-clause-err
returns-in_ok-walk-in-None-clause-err c = leaves c.extend_from_slice-in-None.result c.args.into.now.items c.written-in-None.result.now c.extend_from_slice-in-None.new.self.items c.extend_from_slice-in-None.ensures.items
