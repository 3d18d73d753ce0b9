use Rattle.std.proofs.Common.{◌≡◌, ◌∙◌, ◌+◌, ◌*◌, refl, ap, arith}
use Rattle.setl_code.specs.Plain.{plain_code}
use Rattle.setl_machine_control.specs.Declaring.{modes_of}
use Rattle.setl_machine_control.specs.declared.end.End.TheVariants.{Paused, NoMemory}
use Rattle.setl_machine.proofs.Rounds.{moment, runs_then, runs_give_up, some_runs, takes_then, honest_then}
use Rattle.setl_machine.proofs.Serving.{serves_then}
use Rattle.setl_machine.proofs.machine.run_whole.Goals as goal

pub loop-rounds-preserved : goal.loop-rounds-preserved
loop-rounds-preserved g c =
    let s = c.args.store.now in
    let l = c.loop-rounds in
    let n = c.run.new in
    let i = l.invariant in
    let a = c.in-Paused.ensures in
    let old = moment s.core c.args.control.now (g.O.Sink.held c.args.out.now) (g.O.Sink.faults c.args.out.now) (g.I.Source.faults c.args.input.now) (g.I.Source.left c.args.input.now) s.bases (g.O.Sink.pieces c.args.out.now) in
    let mid = moment l.store.core l.control (g.O.Sink.held l.out) (g.O.Sink.faults l.out) (g.I.Source.faults l.input) (g.I.Source.left l.input) l.store.bases (g.O.Sink.pieces l.out) in
    let new = moment n.store.core n.control (g.O.Sink.held n.out) (g.O.Sink.faults n.out) (g.I.Source.faults n.input) (g.I.Source.left n.input) n.store.bases (g.O.Sink.pieces n.out) in
    let all : l.rounds * 1000 + 1000 ≡ (l.rounds + 1) * 1000 = omega arith in
    record {
      ran = runs_then (modes_of c.args.declarations.now) (plain_code s.code) (plain_code l.store.code) (l.rounds * 1000) 1000 ((l.rounds + 1) * 1000) old mid new Paused (ap plain_code i.code) all i.ran a.ran;
      code = a.code refl ∙ i.code;
      no_fault = a.goes_on refl;
      took = takes_then old.left mid.left new.left i.took a.took;
      honest = honest_then old.control.reader.ended mid.control.reader.ended new.control.reader.ended old.left mid.left new.left i.took i.honest a.honest;
    }

pub returns-in_default : goal.returns-in_default
returns-in_default g c =
    let s = c.args.store.now in
    let l = c.loop-rounds in
    let n = c.run.new in
    let i = l.invariant in
    let a = c.run.ensures in
    let old = moment s.core c.args.control.now (g.O.Sink.held c.args.out.now) (g.O.Sink.faults c.args.out.now) (g.I.Source.faults c.args.input.now) (g.I.Source.left c.args.input.now) s.bases (g.O.Sink.pieces c.args.out.now) in
    let mid = moment l.store.core l.control (g.O.Sink.held l.out) (g.O.Sink.faults l.out) (g.I.Source.faults l.input) (g.I.Source.left l.input) l.store.bases (g.O.Sink.pieces l.out) in
    let new = moment n.store.core n.control (g.O.Sink.held n.out) (g.O.Sink.faults n.out) (g.I.Source.faults n.input) (g.I.Source.left n.input) n.store.bases (g.O.Sink.pieces n.out) in
    let all : l.rounds * 1000 + 1000 ≡ (l.rounds + 1) * 1000 = omega arith in
    record {
      ran = some_runs (modes_of c.args.declarations.now) (plain_code s.code) ((l.rounds + 1) * 1000) old new c.run.result (runs_then (modes_of c.args.declarations.now) (plain_code s.code) (plain_code l.store.code) (l.rounds * 1000) 1000 ((l.rounds + 1) * 1000) old mid new c.run.result (ap plain_code i.code) all i.ran a.ran);
      whole = c.in_default.not-Paused;
      took = takes_then old.left mid.left new.left i.took a.took;
      honest = honest_then old.control.reader.ended mid.control.reader.ended new.control.reader.ended old.left mid.left new.left i.took i.honest a.honest;
    }

pub returns-clause-ran : goal.returns-clause-ran
returns-clause-ran g c =
    let s = c.args.store.now in
    let l = c.loop-rounds in
    let old = moment s.core c.args.control.now (g.O.Sink.held c.args.out.now) (g.O.Sink.faults c.args.out.now) (g.I.Source.faults c.args.input.now) (g.I.Source.left c.args.input.now) s.bases (g.O.Sink.pieces c.args.out.now) in
    let now = moment l.store.core l.control (g.O.Sink.held l.out) (g.O.Sink.faults l.out) (g.I.Source.faults l.input) (g.I.Source.left l.input) l.store.bases (g.O.Sink.pieces l.out) in
    some_runs (modes_of c.args.declarations.now) (plain_code s.code) (l.rounds * 1000 + 1) old now NoMemory (runs_give_up (modes_of c.args.declarations.now) (plain_code s.code) (l.rounds * 1000) old now l.invariant.ran)

pub run-requires-clause-serves : goal.run-requires-clause-serves
run-requires-clause-serves g c =
    let l = c.loop-rounds in
    let a = moment c.args.store.now.core c.args.control.now (g.O.Sink.held c.args.out.now) (g.O.Sink.faults c.args.out.now) (g.I.Source.faults c.args.input.now) (g.I.Source.left c.args.input.now) c.args.store.now.bases (g.O.Sink.pieces c.args.out.now) in
    let b = moment l.store.core l.control (g.O.Sink.held l.out) (g.O.Sink.faults l.out) (g.I.Source.faults l.input) (g.I.Source.left l.input) l.store.bases (g.O.Sink.pieces l.out) in
    serves_then c.declared_variables_fit.ensures.runs c.args.declarations.now c.args.store.now l.store (l.rounds * 1000) a b c.requires.serves l.invariant.code l.invariant.ran
