use Rattle.std.proofs.Common.{◌≡◌, ◌∙◌, ap, cond, subst, sym, map}
use Rattle.setl_code.specs.Plain.{plain_code}
use Rattle.setl_machine_control.specs.Control.{ControlState}
use Rattle.setl_machine_control.specs.Declaring.{modes_of}
use Rattle.setl_machine_layout.specs.Claims.{AllNameWithin}
use Rattle.setl_program.specs.code.Plain.{plain_declared}
use Rattle.setl_top.specs.code.CodeRuns.{DumpsCode}
use Rattle.setl_top.specs.code.Runs.{streams}
use Rattle.setl_top_status.specs.Seen.{seen}
use Rattle.setl_watch.specs.Watches.{watched}
use Rattle.setl_top.proofs.Declaring.{serves}
use Rattle.setl_top.proofs.Running.{CodeRan, code_ran, no_dump_asked, dump_asked, can_show}
use Rattle.setl_top.proofs.run.run_code.Goals as goal

pub run_watched-end-requires : goal.run_watched-end-requires
run_watched-end-requires g c = record {
  no_fault = ap (λ (k : ControlState). k.reader.fault) c.in_ok-control.ensures;
  serves = serves c.declared_variables_fit.ensures.starts _ c.args.ready.now.code c.args.declared.now c.in_ok-declarations.declarations c.in_ok-store.store c.in_ok-declarations.ensures c.in_ok-store.ensures c.requires.bare c.requires.main;
}

pub put_dump-requires : goal.put_dump-requires
put_dump-requires g c = λ own.
    let heard = map (λ w. (goal.Watcher-dyn g (w.vtable, w.value)).watch w.value) in
    let s = streams (seen g.I.Source.left g.I.Source.calls g.I.Source.faults c.args.input.now) (seen g.O.Sink.held g.O.Sink.pieces g.O.Sink.faults c.args.out.now) (watched (heard c.args.watchers.now.items) c.args.reports.now.items) in
    let u = streams (seen g.I.Source.left g.I.Source.calls g.I.Source.faults c.run_watched-end.new.input) (seen g.O.Sink.held g.O.Sink.pieces g.O.Sink.faults c.run_watched-end.new.out) (watched (heard c.run_watched-end.new.watchers.items) c.run_watched-end.new.reports.items) in
    let code = c.args.ready.now.code in
    let told = c.dumps-told.result in
    let count = cond told c.in-Some.bases 0 in
    let modes = map plain_declared c.args.declared.now in
    let ran = subst (λ ms. CodeRan ms c.args.asked.turns count code c.run_watched-end.new.store s u c.run_watched-end.result) (ap modes_of c.in_ok-declarations.ensures) (code_ran (modes_of c.in_ok-declarations.declarations) c.args.asked.turns count code c.in_ok-store.store c.in_ok-control.control s u c.run_watched-end.new.store c.run_watched-end.new.control c.run_watched-end.result c.in_ok-store.ensures c.in_ok-control.ensures c.run_watched-end.ensures.ran c.run_watched-end.ensures.whole c.run_watched-end.ensures.took c.run_watched-end.ensures.honest) in
    let within : AllNameWithin count modes = subst (λ t. AllNameWithin (cond t c.in-Some.bases 0) modes) (sym c.if-not-told.false) c.in-Some.ensures in
    can_show modes c.args.asked.turns (map (λ b. b.name) c.args.ready.now.bases) count code c.run_watched-end.new.store s u.input u.output (heard c.run_watched-end.new.watchers.items) c.bases_are_entered.ensures.many within c.requires.main u c.run_watched-end.result ran own

pub returns-then-not-told-clause-ran : goal.returns-then-not-told-clause-ran
returns-then-not-told-clause-ran g c =
    let heard = map (λ w. (goal.Watcher-dyn g (w.vtable, w.value)).watch w.value) in
    let s = streams (seen g.I.Source.left g.I.Source.calls g.I.Source.faults c.args.input.now) (seen g.O.Sink.held g.O.Sink.pieces g.O.Sink.faults c.args.out.now) (watched (heard c.args.watchers.now.items) c.args.reports.now.items) in
    let u = streams (seen g.I.Source.left g.I.Source.calls g.I.Source.faults c.run_watched-end.new.input) (seen g.O.Sink.held g.O.Sink.pieces g.O.Sink.faults c.run_watched-end.new.out) (watched (heard c.run_watched-end.new.watchers.items) c.run_watched-end.new.reports.items) in
    let code = c.args.ready.now.code in
    let told = c.dumps-told.result in
    let count = cond told c.in-Some.bases 0 in
    let modes = map plain_declared c.args.declared.now in
    let names = map (λ b. b.name) c.args.ready.now.bases in
    let ran = subst (λ ms. CodeRan ms c.args.asked.turns count code c.run_watched-end.new.store s u c.run_watched-end.result) (ap modes_of c.in_ok-declarations.ensures) (code_ran (modes_of c.in_ok-declarations.declarations) c.args.asked.turns count code c.in_ok-store.store c.in_ok-control.control s u c.run_watched-end.new.store c.run_watched-end.new.control c.run_watched-end.result c.in_ok-store.ensures c.in_ok-control.ensures c.run_watched-end.ensures.ran c.run_watched-end.ensures.whole c.run_watched-end.ensures.took c.run_watched-end.ensures.honest) in
    subst (λ d. DumpsCode names (plain_code code) modes c.args.asked.turns d s u c.run_watched-end.result) (sym c.if-not-told.true ∙ c.dumps-told.ensures)
    (no_dump_asked modes c.args.asked.turns names count code c.run_watched-end.new.store s u.input u.output (heard c.run_watched-end.new.watchers.items) c.run_watched-end.new.reports.items c.run_watched-end.result ran)

pub returns-clause-ran : goal.returns-clause-ran
returns-clause-ran g c =
    let heard = map (λ w. (goal.Watcher-dyn g (w.vtable, w.value)).watch w.value) in
    let s = streams (seen g.I.Source.left g.I.Source.calls g.I.Source.faults c.args.input.now) (seen g.O.Sink.held g.O.Sink.pieces g.O.Sink.faults c.args.out.now) (watched (heard c.args.watchers.now.items) c.args.reports.now.items) in
    let u = streams (seen g.I.Source.left g.I.Source.calls g.I.Source.faults c.run_watched-end.new.input) (seen g.O.Sink.held g.O.Sink.pieces g.O.Sink.faults c.run_watched-end.new.out) (watched (heard c.run_watched-end.new.watchers.items) c.run_watched-end.new.reports.items) in
    let v = streams u.input u.output (watched (heard c.run_watched-end.new.watchers.items) c.put_dump.new.reports.items) in
    let code = c.args.ready.now.code in
    let told = c.dumps-told.result in
    let count = cond told c.in-Some.bases 0 in
    let modes = map plain_declared c.args.declared.now in
    let names = map (λ b. b.name) c.args.ready.now.bases in
    let ran = subst (λ ms. CodeRan ms c.args.asked.turns count code c.run_watched-end.new.store s u c.run_watched-end.result) (ap modes_of c.in_ok-declarations.ensures) (code_ran (modes_of c.in_ok-declarations.declarations) c.args.asked.turns count code c.in_ok-store.store c.in_ok-control.control s u c.run_watched-end.new.store c.run_watched-end.new.control c.run_watched-end.result c.in_ok-store.ensures c.in_ok-control.ensures c.run_watched-end.ensures.ran c.run_watched-end.ensures.whole c.run_watched-end.ensures.took c.run_watched-end.ensures.honest) in
    let within : AllNameWithin count modes = subst (λ t. AllNameWithin (cond t c.in-Some.bases 0) modes) (sym c.if-not-told.false) c.in-Some.ensures in
    subst (λ d. DumpsCode names (plain_code code) modes c.args.asked.turns d s v c.put_dump.result) (sym c.if-not-told.false ∙ c.dumps-told.ensures)
    (dump_asked modes c.args.asked.turns names count code c.run_watched-end.new.store s u.input u.output (heard c.run_watched-end.new.watchers.items) c.runs_lay_out.ensures within c.run_watched-end.new.reports.items c.put_dump.new.reports.items c.run_watched-end.result c.put_dump.result ran (rw c.as_slice-names.ensures at c.put_dump.ensures))
