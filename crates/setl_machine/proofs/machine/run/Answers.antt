use Rattle.std.proofs.Common.{◌≡◌, ◌∙◌, ◌+◌, refl, sym, ap, subst, arith}
use Rattle.setl_code.specs.Plain.{plain_code}
use Rattle.setl_text.specs.code.Reads.{ReaderState, StaysHonest}
use Rattle.setl_machine_control.specs.Control.{stood_for}
use Rattle.setl_machine_control.specs.Declaring.{modes_of, IsBare, Serves}
use Rattle.setl_machine_control.specs.declared.end.End.{End}
use Rattle.setl_machine_control.specs.declared.end.End.TheVariants.{Paused}
use Rattle.setl_machine.specs.Gaining.{RunGains}
use Rattle.setl_machine.specs.Outcome.{RanQuietly}
use Rattle.setl_machine.proofs.AtOnce.{then_quietly}
use Rattle.setl_machine.proofs.Rounds.{moment, Runs, runs_on, runs_longer, takes_then, honest_then}
use Rattle.setl_machine.proofs.RunGains.{step_did}
use Rattle.setl_machine.proofs.Serving.{serves_then, serves_quietly}
use Rattle.setl_machine.proofs.machine.run.Goals as goal

pub loop-done-preserved : goal.loop-done-preserved
loop-done-preserved g c =
    let s = c.args.store.now in
    let l = c.loop-done in
    let i = l.invariant in
    let q = c.run_quietly-quiet in
    let modes = modes_of c.args.declarations.now in
    let old = moment s.core c.args.control.now (g.O.Sink.held c.args.out.now) (g.O.Sink.faults c.args.out.now) (g.I.Source.faults c.args.input.now) (g.I.Source.left c.args.input.now) s.bases (g.O.Sink.pieces c.args.out.now) in
    let mid = moment l.store.core l.control (g.O.Sink.held l.out) (g.O.Sink.faults l.out) (g.I.Source.faults l.input) (g.I.Source.left l.input) l.store.bases (g.O.Sink.pieces l.out) in
    let there = moment q.new.store.core q.new.control (g.O.Sink.held l.out) (g.O.Sink.faults l.out) (g.I.Source.faults l.input) (g.I.Source.left l.input) q.new.store.bases (g.O.Sink.pieces l.out) in
    let honest = subst (λ (r : ReaderState). StaysHonest old.control.reader.ended old.left r.ended mid.left) (sym q.ensures.reader) i.honest in
    let code = q.ensures.code c.in-Paused.is ∙ i.code in
    let came = then_quietly modes (plain_code s.code) (plain_code l.store.code) l.done q.result.done old mid there Paused (ap plain_code i.code) i.ran refl refl refl q.ensures.reader
    (subst (λ (e : End). RanQuietly modes (plain_code l.store.code) q.result.done l.store.core l.control q.new.store.core q.new.control e) c.in-Paused.is q.ensures.ran)
    (λ rest. subst (λ (e : End). RunGains modes (plain_code l.store.code) q.result.done (stood_for l.store.core l.control rest) l.store.bases q.new.store.bases e) c.in-Paused.is (q.ensures.gained rest)) in
    let n = c.step.new in
    let new = moment n.store.core n.control (g.O.Sink.held n.out) (g.O.Sink.faults n.out) (g.I.Source.faults n.input) (g.I.Source.left n.input) n.store.bases (g.O.Sink.pieces n.out) in
    let a = c.in-Paused-step.ensures in
    let bare : IsBare (plain_code q.new.store.code) = subst (λ c. IsBare (plain_code c)) (sym code) c.requires.serves.bare in
    let did = step_did c.events_are.ensures c.ends_tell_nothing.ensures modes (plain_code q.new.store.code) there new Paused c.requires.serves.main bare a.did a.gained a.wrote in
    record {
      ran = runs_on modes (plain_code s.code) (plain_code q.new.store.code) (l.done + q.result.done) old there new Paused (ap plain_code code) came did a.reads a.prints a.reads_only;
      code = a.code refl ∙ code;
      no_fault = a.goes_on refl;
      took = takes_then old.left there.left new.left i.took a.took;
      honest = honest_then old.control.reader.ended there.control.reader.ended new.control.reader.ended old.left there.left new.left i.took honest a.honest;
      within = omega arith;
    }

-- an end without the outside
pub returns-in_default : goal.returns-in_default
returns-in_default g c =
    let s = c.args.store.now in
    let l = c.loop-done in
    let i = l.invariant in
    let q = c.run_quietly-quiet in
    let modes = modes_of c.args.declarations.now in
    let old = moment s.core c.args.control.now (g.O.Sink.held c.args.out.now) (g.O.Sink.faults c.args.out.now) (g.I.Source.faults c.args.input.now) (g.I.Source.left c.args.input.now) s.bases (g.O.Sink.pieces c.args.out.now) in
    let mid = moment l.store.core l.control (g.O.Sink.held l.out) (g.O.Sink.faults l.out) (g.I.Source.faults l.input) (g.I.Source.left l.input) l.store.bases (g.O.Sink.pieces l.out) in
    let there = moment q.new.store.core q.new.control (g.O.Sink.held l.out) (g.O.Sink.faults l.out) (g.I.Source.faults l.input) (g.I.Source.left l.input) q.new.store.bases (g.O.Sink.pieces l.out) in
    let honest = subst (λ (r : ReaderState). StaysHonest old.control.reader.ended old.left r.ended mid.left) (sym q.ensures.reader) i.honest in
    let ne = c.in_default.not-Paused in
    record {
      ran = runs_longer modes (plain_code s.code) (l.done + q.result.done) c.args.steps old there q.result.end ne (omega arith)
          (then_quietly modes (plain_code s.code) (plain_code l.store.code) l.done q.result.done old mid there q.result.end (ap plain_code i.code) i.ran refl refl refl q.ensures.reader q.ensures.ran q.ensures.gained);
      code = λ e. absurd (ne e);
      goes_on = λ e. absurd (ne e);
      took = i.took;
      honest = honest;
    }

-- an end at a step
pub returns-in_default-step : goal.returns-in_default-step
returns-in_default-step g c =
    let s = c.args.store.now in
    let l = c.loop-done in
    let i = l.invariant in
    let q = c.run_quietly-quiet in
    let modes = modes_of c.args.declarations.now in
    let old = moment s.core c.args.control.now (g.O.Sink.held c.args.out.now) (g.O.Sink.faults c.args.out.now) (g.I.Source.faults c.args.input.now) (g.I.Source.left c.args.input.now) s.bases (g.O.Sink.pieces c.args.out.now) in
    let mid = moment l.store.core l.control (g.O.Sink.held l.out) (g.O.Sink.faults l.out) (g.I.Source.faults l.input) (g.I.Source.left l.input) l.store.bases (g.O.Sink.pieces l.out) in
    let there = moment q.new.store.core q.new.control (g.O.Sink.held l.out) (g.O.Sink.faults l.out) (g.I.Source.faults l.input) (g.I.Source.left l.input) q.new.store.bases (g.O.Sink.pieces l.out) in
    let honest = subst (λ (r : ReaderState). StaysHonest old.control.reader.ended old.left r.ended mid.left) (sym q.ensures.reader) i.honest in
    let code = q.ensures.code c.in-Paused.is ∙ i.code in
    let came = then_quietly modes (plain_code s.code) (plain_code l.store.code) l.done q.result.done old mid there Paused (ap plain_code i.code) i.ran refl refl refl q.ensures.reader
    (subst (λ (e : End). RanQuietly modes (plain_code l.store.code) q.result.done l.store.core l.control q.new.store.core q.new.control e) c.in-Paused.is q.ensures.ran)
    (λ rest. subst (λ (e : End). RunGains modes (plain_code l.store.code) q.result.done (stood_for l.store.core l.control rest) l.store.bases q.new.store.bases e) c.in-Paused.is (q.ensures.gained rest)) in
    let n = c.step.new in
    let new = moment n.store.core n.control (g.O.Sink.held n.out) (g.O.Sink.faults n.out) (g.I.Source.faults n.input) (g.I.Source.left n.input) n.store.bases (g.O.Sink.pieces n.out) in
    let a = c.step.ensures in
    let ne = c.in_default-step.not-Paused in
    let bare : IsBare (plain_code q.new.store.code) = subst (λ c. IsBare (plain_code c)) (sym code) c.requires.serves.bare in
    let did = step_did c.events_are.ensures c.ends_tell_nothing.ensures modes (plain_code q.new.store.code) there new c.step.result c.requires.serves.main bare a.did a.gained a.wrote in
    record {
      ran = runs_longer modes (plain_code s.code) (l.done + q.result.done + 1) c.args.steps old new c.step.result ne (omega arith)
          (runs_on modes (plain_code s.code) (plain_code q.new.store.code) (l.done + q.result.done) old there new c.step.result (ap plain_code code) came did a.reads a.prints a.reads_only);
      code = λ e. absurd (ne e);
      goes_on = λ e. absurd (ne e);
      took = takes_then old.left there.left new.left i.took a.took;
      honest = honest_then old.control.reader.ended there.control.reader.ended new.control.reader.ended old.left there.left new.left i.took honest a.honest;
    }

pub returns-clause-ran : goal.returns-clause-ran
returns-clause-ran g c =
    let s = c.args.store.now in
    let l = c.loop-done in
    let old = moment s.core c.args.control.now (g.O.Sink.held c.args.out.now) (g.O.Sink.faults c.args.out.now) (g.I.Source.faults c.args.input.now) (g.I.Source.left c.args.input.now) s.bases (g.O.Sink.pieces c.args.out.now) in
    let now = moment l.store.core l.control (g.O.Sink.held l.out) (g.O.Sink.faults l.out) (g.I.Source.faults l.input) (g.I.Source.left l.input) l.store.bases (g.O.Sink.pieces l.out) in
    let all : l.done ≡ c.args.steps = omega arith in
    subst (λ n. Runs (modes_of c.args.declarations.now) (plain_code s.code) n old now Paused) all l.invariant.ran

pub step-requires-clause-serves : goal.step-requires-clause-serves
step-requires-clause-serves g c =
    let l = c.loop-done in
    let q = c.run_quietly-quiet in
    let d = c.args.declarations.now in
    let a = moment c.args.store.now.core c.args.control.now (g.O.Sink.held c.args.out.now) (g.O.Sink.faults c.args.out.now) (g.I.Source.faults c.args.input.now) (g.I.Source.left c.args.input.now) c.args.store.now.bases (g.O.Sink.pieces c.args.out.now) in
    let b = moment l.store.core l.control (g.O.Sink.held l.out) (g.O.Sink.faults l.out) (g.I.Source.faults l.input) (g.I.Source.left l.input) l.store.bases (g.O.Sink.pieces l.out) in
    let serves : Serves d l.store = serves_then c.declared_variables_fit.ensures.runs d c.args.store.now l.store l.done a b c.requires.serves l.invariant.code l.invariant.ran in
    serves_quietly c.declared_variables_fit.ensures.runs d l.store q.new.store q.result.done l.control q.new.control q.result.end serves (q.ensures.code c.in-Paused.is) c.in-Paused.is q.ensures.ran

pub run_quietly-quiet-requires : goal.run_quietly-quiet-requires
run_quietly-quiet-requires g c =
    let l = c.loop-done in
    let a = moment c.args.store.now.core c.args.control.now (g.O.Sink.held c.args.out.now) (g.O.Sink.faults c.args.out.now) (g.I.Source.faults c.args.input.now) (g.I.Source.left c.args.input.now) c.args.store.now.bases (g.O.Sink.pieces c.args.out.now) in
    let b = moment l.store.core l.control (g.O.Sink.held l.out) (g.O.Sink.faults l.out) (g.I.Source.faults l.input) (g.I.Source.left l.input) l.store.bases (g.O.Sink.pieces l.out) in
    record { serves = serves_then c.declared_variables_fit.ensures.runs c.args.declarations.now c.args.store.now l.store l.done a b c.requires.serves l.invariant.code l.invariant.ran }
