use Rattle.std.proofs.Common.{◌≡◌, ◌-◌, ◌≤◌, ℕ, List}
use Rattle.setl_model_runs.specs.Run.{run}
use Rattle.setl_code.specs.Machine.{machine}
use Rattle.setl_code.specs.Plain.{plain_code}
use Rattle.setl_machine_control.specs.Answers.{start}
use Rattle.setl_machine_control.specs.Control.{stood_for}
use Rattle.setl_machine_control.specs.Declaring.{modes_of, tested}
use Rattle.setl_machine_control.specs.declared.end.End.TheVariants.{Paused}
use Rattle.setl_machine.specs.Gaining.{NextGains}
use Rattle.setl_machine.specs.Outcome.{RanQuietly}
use Rattle.setl_machine.proofs.quiet.run_quietly.Given as goal

abbrev pub invariant-loop-done : goal.invariant-loop-done
invariant-loop-done l =
    record {
      ran : RanQuietly (modes_of l.declarations) (plain_code l.fn.store.code) l.done l.fn.store.core l.fn.control l.store.core l.control Paused;
      gained : (rest : List ℕ) → NextGains (modes_of l.declarations) (run (machine (plain_code l.fn.store.code)) (tested (modes_of l.declarations)) l.done (start (stood_for l.fn.store.core l.fn.control rest))) l.fn.store.bases l.store.bases Paused;
      code : l.store.code ≡ l.fn.store.code;
      reader : l.control.reader ≡ l.fn.control.reader;
      within : l.done ≤ l.steps;
    }

abbrev pub decreases-loop-done : goal.decreases-loop-done
decreases-loop-done l = l.steps - l.done
