use Rattle.std.proofs.Common.{◌≡◌, ◌∙◌, [], inl, Some, refl, ap, subst}
use Rattle.setl_code.specs.declared.code.Instr.TheVariants.{Print, Read}
use Rattle.setl_code.specs.Code.{PrintTop, ReadOne}
use Rattle.setl_code.specs.Machine.{fetch}
use Rattle.setl_code.specs.Plain.{plain_code, plain_instr}
use Rattle.setl_store.specs.Standing.{variables}
use Rattle.setl_text.specs.code.Reads.{ReaderState, ahead}
use Rattle.setl_machine_control.specs.Control.{world_of, stood_for, IsRest}
use Rattle.setl_machine_control.specs.Declaring.{modes_of}
use Rattle.setl_machine_control.specs.Answers.{next_of}
use Rattle.setl_machine.specs.Outcome.{seen}
use Rattle.setl_machine.proofs.RunGains.{ended_gains}
use Rattle.setl_machine.proofs.Stays.{takes_none}
use Rattle.setl_machine.proofs.Stepping.{in_hand, by_step, quiet_steps, quiet_no_write, quiet_no_read, stays_honest}
use Rattle.setl_machine.proofs.Writing.{hand_writes, quiet_writes, read_writes}
use Rattle.setl_machine.proofs.machine.step.Goals as goal

pub returns-in-Print-clause-did : goal.returns-in-Print-clause-did
returns-in-Print-clause-did g c =
    let s = c.args.store.now in
    let m = plain_code s.code in
    let line = c.in-Some.step.now.line in
    let here : fetch m s.core.now.body s.core.now.at ≡ Some (line, PrintTop c.in-Print.count) = in_hand m s.core (variables s.core) c.in-Some.step.now (Print c.in-Print.count) c.in-Some.ensures.some c.in-Print.is in
    let faults = g.I.Source.faults c.args.input.now in
    let old = seen (g.O.Sink.held c.args.out.now) (g.O.Sink.faults c.args.out.now) faults in
    let new = seen (g.O.Sink.held c.print.new.out) (g.O.Sink.faults c.print.new.out) faults in
    λ rest h.
    let w = world_of c.args.control.now rest in
    (rest, h, by_step (modes_of c.args.declarations.now) m (stood_for s.core c.args.control.now rest) (stood_for c.print.new.store.core c.args.control.now rest) line (PrintTop c.in-Print.count) old new c.print.result here (c.print.ensures.did (modes_of c.args.declarations.now) line w faults))

pub returns-in-Print-clause-gained : goal.returns-in-Print-clause-gained
returns-in-Print-clause-gained g c = λ rest rest'.
    let s = c.args.store.now in
    let m = plain_code s.code in
    let modes = modes_of c.args.declarations.now in
    let line = c.in-Some.step.now.line in
    let here : fetch m s.core.now.body s.core.now.at ≡ Some (line, PrintTop c.in-Print.count) = in_hand m s.core (variables s.core) c.in-Some.step.now (Print c.in-Print.count) c.in-Some.ensures.some c.in-Print.is in
    let k = stood_for s.core c.args.control.now rest in
    let d = stood_for c.print.new.store.core c.args.control.now rest' in
    ended_gains modes m line (PrintTop c.in-Print.count) k d s.bases c.print.new.store.bases c.print.result here (c.print.ensures.gained modes line k d)

pub returns-in-Print-clause-wrote : goal.returns-in-Print-clause-wrote
returns-in-Print-clause-wrote g c = λ rest.
    let s = c.args.store.now in
    let m = plain_code s.code in
    let modes = modes_of c.args.declarations.now in
    let line = c.in-Some.step.now.line in
    let here : fetch m s.core.now.body s.core.now.at ≡ Some (line, PrintTop c.in-Print.count) = in_hand m s.core (variables s.core) c.in-Some.step.now (Print c.in-Print.count) c.in-Some.ensures.some c.in-Print.is in
    hand_writes modes m (stood_for s.core c.args.control.now rest) line (PrintTop c.in-Print.count) (g.O.Sink.pieces c.args.out.now) (g.O.Sink.pieces c.print.new.out) c.print.result here (c.print.ensures.wrote modes line (world_of c.args.control.now rest))

pub returns-in-Read-clause-wrote : goal.returns-in-Read-clause-wrote
returns-in-Read-clause-wrote g c = λ rest.
    let s = c.args.store.now in
    let m = plain_code s.code in
    let line = c.in-Some.step.now.line in
    let here : fetch m s.core.now.body s.core.now.at ≡ Some (line, ReadOne) = in_hand m s.core (variables s.core) c.in-Some.step.now Read c.in-Some.ensures.some c.in-Read.is in
    read_writes (modes_of c.args.declarations.now) m (stood_for s.core c.args.control.now rest) line (g.O.Sink.pieces c.args.out.now) c.read.result here

pub returns-in-Read-clause-gained : goal.returns-in-Read-clause-gained
returns-in-Read-clause-gained g c = λ rest rest'.
    let s = c.args.store.now in
    let m = plain_code s.code in
    let modes = modes_of c.args.declarations.now in
    let line = c.in-Some.step.now.line in
    let here : fetch m s.core.now.body s.core.now.at ≡ Some (line, ReadOne) = in_hand m s.core (variables s.core) c.in-Some.step.now Read c.in-Some.ensures.some c.in-Read.is in
    let k = stood_for s.core c.args.control.now rest in
    let d = stood_for c.read.new.store.core c.read.new.control rest' in
    ended_gains modes m line ReadOne k d s.bases c.read.new.store.bases c.read.result here (c.read.ensures.gained modes line k d)

pub returns-in-Read-clause-did : goal.returns-in-Read-clause-did
returns-in-Read-clause-did g c =
    let s = c.args.store.now in
    let m = plain_code s.code in
    let line = c.in-Some.step.now.line in
    let here : fetch m s.core.now.body s.core.now.at ≡ Some (line, ReadOne) = in_hand m s.core (variables s.core) c.in-Some.step.now Read c.in-Some.ensures.some c.in-Read.is in
    let held = g.O.Sink.held c.args.out.now in
    let faults = g.O.Sink.faults c.args.out.now in
    let old = seen held faults (g.I.Source.faults c.args.input.now) in
    let new = seen held faults (g.I.Source.faults c.read.new.input) in
    λ rest h.
    let did = c.read.ensures.did (modes_of c.args.declarations.now) held faults rest h in
    (did.0, did.1, by_step (modes_of c.args.declarations.now) m (stood_for s.core c.args.control.now did.0) (stood_for c.read.new.store.core c.read.new.control rest) line ReadOne old new c.read.result here did.2)

pub returns-in_default-family_of : goal.returns-in_default-family_of
returns-in_default-family_of g c =
    let s = c.args.store.now in
    let m = plain_code s.code in
    let line = c.in-Some.step.now.line in
    let what = plain_instr (variables s.core) c.in-Some.step.now.what in
    let left = g.I.Source.left c.args.input.now in
    let now = seen (g.O.Sink.held c.args.out.now) (g.O.Sink.faults c.args.out.now) (g.I.Source.faults c.args.input.now) in
    let reader = c.quiet_step.ensures.reader in
    record {
      did = λ rest h.
          let k = stood_for s.core c.args.control.now rest in
          let to = stood_for c.quiet_step.new.store.core c.quiet_step.new.control rest in (
            rest,
            subst (λ (r : ReaderState). IsRest (ahead r.ended left) rest) reader h,
            by_step (modes_of c.args.declarations.now) m k to line what now now c.quiet_step.result c.in-Some.ensures.some (quiet_steps (modes_of c.args.declarations.now) (next_of (modes_of c.args.declarations.now) m line what k) to now c.quiet_step.result (c.quiet_step.ensures.did rest)),
          );
      gained = λ rest rest'. ended_gains (modes_of c.args.declarations.now) m line what (stood_for s.core c.args.control.now rest) (stood_for c.quiet_step.new.store.core c.quiet_step.new.control rest') s.bases c.quiet_step.new.store.bases c.quiet_step.result c.in-Some.ensures.some (c.quiet_step.ensures.gained rest rest');
      wrote = λ rest. quiet_writes (modes_of c.args.declarations.now) m (stood_for s.core c.args.control.now rest) (stood_for c.quiet_step.new.store.core c.quiet_step.new.control rest) line what (g.O.Sink.pieces c.args.out.now) c.quiet_step.result c.in-Some.ensures.some (c.quiet_step.ensures.did rest);
      prints = λ e. absurd (quiet_no_write (modes_of c.args.declarations.now) (next_of (modes_of c.args.declarations.now) m line what (stood_for s.core c.args.control.now [])) (stood_for c.quiet_step.new.store.core c.quiet_step.new.control []) c.quiet_step.result (c.quiet_step.ensures.did []) e);
      reads = λ e. absurd (quiet_no_read (modes_of c.args.declarations.now) (next_of (modes_of c.args.declarations.now) m line what (stood_for s.core c.args.control.now [])) (stood_for c.quiet_step.new.store.core c.quiet_step.new.control []) c.quiet_step.result (c.quiet_step.ensures.did []) e);
      reads_only = inl refl;
      code = c.quiet_step.ensures.code;
      goes_on = λ e. ap (λ (r : ReaderState). r.fault) reader ∙ c.requires.no_fault;
      took = takes_none left;
      honest = stays_honest c.args.control.now.reader c.quiet_step.new.control.reader left reader;
    }
