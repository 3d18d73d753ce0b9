use Rattle.std.proofs.Common.{◌≡◌, ◌∙◌, [], inl, inr, Some, refl, ap, subst}
use Rattle.setl_code.specs.declared.code.Instr.TheVariants.{Print, Read}
use Rattle.setl_code.specs.Code.{PrintTop, ReadOne}
use Rattle.setl_code.specs.Machine.{fetch}
use Rattle.setl_code.specs.Plain.{plain_code, plain_instr}
use Rattle.setl_store.specs.Standing.{variables}
use Rattle.setl_text.specs.code.Reads.{ReaderState, ahead}
use Rattle.setl_machine_control.specs.Control.{world_of, stood_for, IsRest}
use Rattle.setl_machine_control.specs.Declaring.{modes_of}
use Rattle.setl_machine.specs.Gaining.{Gains}
use Rattle.setl_machine.specs.Hearing.{ended}
use Rattle.setl_machine_control.specs.Answers.{next_of}
use Rattle.setl_machine.specs.Outcome.{seen, Steps}
use Rattle.setl_machine_control.specs.declared.end.End.TheVariants.{Paused}
use Rattle.setl_machine.proofs.RunGains.{ended_gains}
use Rattle.setl_machine.proofs.Stays.{takes_none}
use Rattle.setl_machine.proofs.Stepping.{in_hand, by_step, quiet_steps, quiet_no_write, quiet_no_read, stays_honest}
use Rattle.setl_machine.proofs.Told.{tells_code, tells_ends, tells_here, on_ok}
use Rattle.setl_machine.proofs.Writing.{hand_writes, quiet_writes, read_writes}
use Rattle.setl_machine.proofs.telling.step_telling.Goals as goal

pub returns-in-Print-clause-did : goal.returns-in-Print-clause-did
returns-in-Print-clause-did g c =
    let s = c.args.store.now in
    let m = plain_code s.code in
    let line = c.in-Some.step.now.line in
    let here : fetch m s.core.now.body s.core.now.at ≡ Some (line, PrintTop c.in-Print.count) = in_hand m s.core (variables s.core) c.in-Some.step.now (Print c.in-Print.count) c.in-Some.ensures.some c.in-Print.is in
    let faults = g.I.Source.faults c.args.input.now in
    let old = seen (g.O.Sink.held c.args.out.now) (g.O.Sink.faults c.args.out.now) faults in
    let new = seen (g.O.Sink.held c.print_telling.new.out) (g.O.Sink.faults c.print_telling.new.out) faults in
    λ rest h.
    let w = world_of c.args.control.now rest in
    (rest, h, by_step (modes_of c.args.declarations.now) m (stood_for s.core c.args.control.now rest) (stood_for c.print_telling.new.store.core c.args.control.now rest) line (PrintTop c.in-Print.count) old new (ended c.print_telling.result) here (c.print_telling.ensures.did (modes_of c.args.declarations.now) line w faults))

pub returns-in-Print-clause-gained : goal.returns-in-Print-clause-gained
returns-in-Print-clause-gained g c = λ rest rest'.
    let s = c.args.store.now in
    let m = plain_code s.code in
    let modes = modes_of c.args.declarations.now in
    let line = c.in-Some.step.now.line in
    let here : fetch m s.core.now.body s.core.now.at ≡ Some (line, PrintTop c.in-Print.count) = in_hand m s.core (variables s.core) c.in-Some.step.now (Print c.in-Print.count) c.in-Some.ensures.some c.in-Print.is in
    let k = stood_for s.core c.args.control.now rest in
    let d = stood_for c.print_telling.new.store.core c.args.control.now rest' in
    ended_gains modes m line (PrintTop c.in-Print.count) k d s.bases c.print_telling.new.store.bases (ended c.print_telling.result) here (c.print_telling.ensures.gained modes line k d)

pub returns-in-Print-clause-wrote : goal.returns-in-Print-clause-wrote
returns-in-Print-clause-wrote g c = λ rest.
    let s = c.args.store.now in
    let m = plain_code s.code in
    let modes = modes_of c.args.declarations.now in
    let line = c.in-Some.step.now.line in
    let here : fetch m s.core.now.body s.core.now.at ≡ Some (line, PrintTop c.in-Print.count) = in_hand m s.core (variables s.core) c.in-Some.step.now (Print c.in-Print.count) c.in-Some.ensures.some c.in-Print.is in
    hand_writes modes m (stood_for s.core c.args.control.now rest) line (PrintTop c.in-Print.count) (g.O.Sink.pieces c.args.out.now) (g.O.Sink.pieces c.print_telling.new.out) (ended c.print_telling.result) here (c.print_telling.ensures.wrote modes line (world_of c.args.control.now rest))

pub returns-in-Print-clause-tells : goal.returns-in-Print-clause-tells
returns-in-Print-clause-tells g c =
    let s = c.args.store.now in
    let m = plain_code s.code in
    let line = c.in-Some.step.now.line in
    let here : fetch m s.core.now.body s.core.now.at ≡ Some (line, PrintTop c.in-Print.count) = in_hand m s.core (variables s.core) c.in-Some.step.now (Print c.in-Print.count) c.in-Some.ensures.some c.in-Print.is in
    tells_here s c.print_telling.new.store c.args.control.now c.args.control.now line (PrintTop c.in-Print.count) c.print_telling.result here (c.print_telling.ensures.tells line)

pub returns-in-Print-clause-ends : goal.returns-in-Print-clause-ends
returns-in-Print-clause-ends g c = tells_ends c.args.store.now c.print_telling.new.store c.args.control.now c.args.control.now 0 (PrintTop c.in-Print.count) c.print_telling.result (c.print_telling.ensures.tells 0)

pub returns-in-Print-clause-code : goal.returns-in-Print-clause-code
returns-in-Print-clause-code g c = tells_code c.args.store.now c.print_telling.new.store c.args.control.now c.args.control.now 0 (PrintTop c.in-Print.count) c.print_telling.result (c.print_telling.ensures.tells 0)

pub returns-in-Paused-clause-did : goal.returns-in-Paused-clause-did
returns-in-Paused-clause-did g c =
    let s = c.args.store.now in
    let m = plain_code s.code in
    let modes = modes_of c.args.declarations.now in
    let line = c.in-Some.step.now.line in
    let here : fetch m s.core.now.body s.core.now.at ≡ Some (line, ReadOne) = in_hand m s.core (variables s.core) c.in-Some.step.now Read c.in-Some.ensures.some c.in-Read.is in
    let held = g.O.Sink.held c.args.out.now in
    let faults = g.O.Sink.faults c.args.out.now in
    let old = seen held faults (g.I.Source.faults c.args.input.now) in
    let new = seen held faults (g.I.Source.faults c.read.new.input) in
    λ rest h.
    let did = c.read.ensures.did modes held faults rest h in
    let k = stood_for s.core c.args.control.now did.0 in
    let to = stood_for c.read.new.store.core c.read.new.control rest in
    (did.0, did.1, by_step modes m k to line ReadOne old new Paused here (subst (λ e. Steps modes (next_of modes m line ReadOne k) old new to e) c.in-Paused.is did.2))

pub returns-in-Paused-clause-gained : goal.returns-in-Paused-clause-gained
returns-in-Paused-clause-gained g c = λ rest rest'.
    let s = c.args.store.now in
    let m = plain_code s.code in
    let modes = modes_of c.args.declarations.now in
    let line = c.in-Some.step.now.line in
    let here : fetch m s.core.now.body s.core.now.at ≡ Some (line, ReadOne) = in_hand m s.core (variables s.core) c.in-Some.step.now Read c.in-Some.ensures.some c.in-Read.is in
    let k = stood_for s.core c.args.control.now rest in
    let d = stood_for c.read.new.store.core c.read.new.control rest' in
    ended_gains modes m line ReadOne k d s.bases c.read.new.store.bases Paused here (subst (Gains modes m line ReadOne k d s.bases c.read.new.store.bases) c.in-Paused.is (c.read.ensures.gained modes line k d))

pub returns-in-Paused-clause-wrote : goal.returns-in-Paused-clause-wrote
returns-in-Paused-clause-wrote g c = λ rest.
    let s = c.args.store.now in
    let m = plain_code s.code in
    let line = c.in-Some.step.now.line in
    let here : fetch m s.core.now.body s.core.now.at ≡ Some (line, ReadOne) = in_hand m s.core (variables s.core) c.in-Some.step.now Read c.in-Some.ensures.some c.in-Read.is in
    read_writes (modes_of c.args.declarations.now) m (stood_for s.core c.args.control.now rest) line (g.O.Sink.pieces c.args.out.now) Paused here

pub returns-in_default-read : goal.returns-in_default-read
returns-in_default-read g c =
    let s = c.args.store.now in
    let m = plain_code s.code in
    let modes = modes_of c.args.declarations.now in
    let line = c.in-Some.step.now.line in
    let here : fetch m s.core.now.body s.core.now.at ≡ Some (line, ReadOne) = in_hand m s.core (variables s.core) c.in-Some.step.now Read c.in-Some.ensures.some c.in-Read.is in
    let held = g.O.Sink.held c.args.out.now in
    let faults = g.O.Sink.faults c.args.out.now in
    let old = seen held faults (g.I.Source.faults c.args.input.now) in
    let new = seen held faults (g.I.Source.faults c.read.new.input) in
    record {
      did = λ rest h.
          let did = c.read.ensures.did modes held faults rest h in
          let k = stood_for s.core c.args.control.now did.0 in
          let to = stood_for c.read.new.store.core c.read.new.control rest in
          (did.0, did.1, by_step modes m k to line ReadOne old new c.read.result here did.2);
      gained = λ rest rest'.
          let k = stood_for s.core c.args.control.now rest in
          let d = stood_for c.read.new.store.core c.read.new.control rest' in
          ended_gains modes m line ReadOne k d s.bases c.read.new.store.bases c.read.result here (c.read.ensures.gained modes line k d);
      wrote = λ rest. read_writes modes m (stood_for s.core c.args.control.now rest) line (g.O.Sink.pieces c.args.out.now) c.read.result here;
      tells = λ line' i f. c.in_default-read.not-Paused;
      prints = λ e. absurd (c.read.ensures.no_write e);
      reads = λ e. (line, here);
      reads_only = inr (line, here);
      ends = c.in_default-read.not-Paused;
      code = tt;
      goes_on = tt;
      took = c.read.ensures.took;
      honest = c.read.ensures.honest;
    }

pub returns-in_default-family_of : goal.returns-in_default-family_of
returns-in_default-family_of g c =
    let s = c.args.store.now in
    let m = plain_code s.code in
    let modes = modes_of c.args.declarations.now in
    let line = c.in-Some.step.now.line in
    let what = plain_instr (variables s.core) c.in-Some.step.now.what in
    let left = g.I.Source.left c.args.input.now in
    let now = seen (g.O.Sink.held c.args.out.now) (g.O.Sink.faults c.args.out.now) (g.I.Source.faults c.args.input.now) in
    let from = c.args.control.now in
    let new = c.quiet_telling.new.store in
    let to = c.quiet_telling.new.control in
    let r = c.quiet_telling.result in
    let does = c.quiet_telling.ensures.did in
    let reader = c.quiet_telling.ensures.reader in
    record {
      did = λ rest h.
          let k = stood_for s.core from rest in
          let d = stood_for new.core to rest in (
            rest,
            subst (λ (r : ReaderState). IsRest (ahead r.ended left) rest) reader h,
            by_step modes m k d line what now now (ended r) c.in-Some.ensures.some (quiet_steps modes (next_of modes m line what k) d now (ended r) (does.0 rest)),
          );
      gained = λ rest rest'. ended_gains modes m line what (stood_for s.core from rest) (stood_for new.core to rest') s.bases new.bases (ended r) c.in-Some.ensures.some (c.quiet_telling.ensures.gained rest rest');
      wrote = λ rest. quiet_writes modes m (stood_for s.core from rest) (stood_for new.core to rest) line what (g.O.Sink.pieces c.args.out.now) (ended r) c.in-Some.ensures.some (does.0 rest);
      tells = tells_here s new from to line what r c.in-Some.ensures.some does.1;
      prints = λ e. absurd (quiet_no_write modes (next_of modes m line what (stood_for s.core from [])) (stood_for new.core to []) (ended r) (does.0 []) e);
      reads = λ e. absurd (quiet_no_read modes (next_of modes m line what (stood_for s.core from [])) (stood_for new.core to []) (ended r) (does.0 []) e);
      reads_only = inl refl;
      ends = tells_ends s new from to line what r does.1;
      code = tells_code s new from to line what r does.1;
      goes_on = on_ok r (ap (λ (r : ReaderState). r.fault) reader ∙ c.requires.no_fault);
      took = takes_none left;
      honest = stays_honest from.reader to.reader left reader;
    }
