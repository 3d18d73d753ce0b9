use Rattle.std.proofs.Common.{sym, subst}
use Rattle.setl_code.specs.declared.code.Instr.{Instr}
use Rattle.setl_code.specs.Plain.{plain_code, plain_instr}
use Rattle.setl_store.specs.Standing.{variables}
use Rattle.setl_machine_control.specs.Control.{stood_for}
use Rattle.setl_machine_control.specs.Declaring.{modes_of}
use Rattle.setl_machine.specs.Gaining.{Gains}
use Rattle.setl_machine.specs.Hearing.{ended, DoesTelling}
use Rattle.setl_machine.proofs.calling.calls_telling.Goals as goal

pub returns-in-Call-clause-did : goal.returns-in-Call-clause-did
returns-in-Call-clause-did c =
    let s = c.args.store.now in
    subst (λ (what : Instr). DoesTelling (modes_of c.args.declarations.now) s c.args.control.now c.args.line (plain_instr (variables s.core) what) c.call_telling.new.store c.call_telling.new.control c.call_telling.result) (sym c.in-Call.is) c.call_telling.ensures.did

pub returns-in-Call-clause-gained : goal.returns-in-Call-clause-gained
returns-in-Call-clause-gained c = λ rest rest'.
    let s = c.args.store.now in
    let new = c.call_telling.new.store in
    let k = stood_for s.core c.args.control.now rest in
    let d = stood_for new.core c.call_telling.new.control rest' in
    subst (λ (what : Instr). Gains (modes_of c.args.declarations.now) (plain_code s.code) c.args.line (plain_instr (variables s.core) what) k d s.bases new.bases (ended c.call_telling.result)) (sym c.in-Call.is) (c.call_telling.ensures.gained k d)
