use Rattle.std.proofs.Common.{◌≡◌, ◌-◌, ◌≤◌, None}
use Rattle.setl_code.specs.Plain.{plain_code}
use Rattle.setl_text.specs.code.Reads.{StaysHonest, TakesOff}
use Rattle.setl_machine_control.specs.Declaring.{modes_of}
use Rattle.setl_machine_control.specs.declared.end.End.TheVariants.{Paused}
use Rattle.setl_machine.proofs.Rounds.{moment, Runs}
use Rattle.setl_machine.proofs.machine.run.Given as goal

abbrev pub invariant-loop-done : goal.invariant-loop-done
invariant-loop-done g l =
    let old = moment l.fn.store.core l.fn.control (g.O.Sink.held l.fn.out) (g.O.Sink.faults l.fn.out) (g.I.Source.faults l.fn.input) (g.I.Source.left l.fn.input) l.fn.store.bases (g.O.Sink.pieces l.fn.out) in
    let now = moment l.store.core l.control (g.O.Sink.held l.out) (g.O.Sink.faults l.out) (g.I.Source.faults l.input) (g.I.Source.left l.input) l.store.bases (g.O.Sink.pieces l.out) in
    record {
      ran : Runs (modes_of l.declarations) (plain_code l.fn.store.code) l.done old now Paused;
      code : l.store.code ≡ l.fn.store.code;
      no_fault : l.control.reader.fault ≡ None;
      took : TakesOff old.left now.left;
      honest : StaysHonest l.fn.control.reader.ended old.left l.control.reader.ended now.left;
      within : l.done ≤ l.steps;
    }

abbrev pub decreases-loop-done : goal.decreases-loop-done
decreases-loop-done g l = l.steps - l.done
