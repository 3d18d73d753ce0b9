use Rattle.std.proofs.Common.{ℕ, List, refl}
use Rattle.setl_code.specs.Plain.{plain_code, plain_instr}
use Rattle.setl_store.specs.Standing.{variables}
use Rattle.setl_machine_control.specs.Answers.{next_of}
use Rattle.setl_machine_control.specs.Control.{stood_for}
use Rattle.setl_machine_control.specs.Declaring.{modes_of}
use Rattle.setl_machine.proofs.AtOnce.{ended_so}
use Rattle.setl_machine.proofs.quiet.else_quietly.Goals as goal

pub returns-in-Paused-clause-did : goal.returns-in-Paused-clause-did
returns-in-Paused-clause-did c = (c.in-Paused.ensures.code refl, c.in-Paused.ensures.did)

pub returns-in_default-quiet_step : goal.returns-in_default-quiet_step
returns-in_default-quiet_step c =
    let s = c.args.store.now in
    let k = c.args.control.now in
    let q = c.quiet_step in
    let modes = modes_of c.args.declarations.now in
    let by = λ (rest : List ℕ). next_of modes (plain_code s.code) c.args.line (plain_instr (variables s.core) c.args.what.now) (stood_for s.core k rest) in
    record {
      did = ended_so modes by s q.new.store k q.new.control q.result c.in_default-quiet_step.not-Paused q.ensures.did;
      gained = q.ensures.gained;
      reader = q.ensures.reader;
    }

pub returns-in-Paused-clause-gained : goal.returns-in-Paused-clause-gained
returns-in-Paused-clause-gained c = c.in-Paused.ensures.gained
