use Rattle.std.proofs.Common.{◌≡◌, ◌∙◌, ◌+◌, map, refl, sym, ap, subst}
use Rattle.std.proofs.lemmas.Bool.{eqb-true}
use Rattle.setl_code.specs.Plain.{plain_code}
use Rattle.setl_watch.specs.code.NoticeOf.{notice_of}
use Rattle.setl_watch.specs.Watches.{watched, told_each}
use Rattle.setl_machine_control.specs.Declaring.{modes_of, IsBare}
use Rattle.setl_machine_control.specs.declared.end.End.TheVariants.{Paused}
use Rattle.setl_machine.proofs.Hearing.{heard_on, heard_then, heard_paused, heard_ended, heard_gives_up, some_heard, no_items}
use Rattle.setl_machine.proofs.Rounds.{moment, runs_one, takes_then, honest_then}
use Rattle.setl_machine.proofs.RunGains.{step_did}
use Rattle.setl_machine.proofs.Serving.{serves_heard}
use Rattle.setl_machine.proofs.watching.run_watched.Goals as goal

pub loop-steps-preserved : goal.loop-steps-preserved
loop-steps-preserved g c =
    let s = c.args.store.now in
    let l = c.loop-steps in
    let i = l.invariant in
    let modes = modes_of c.args.declarations.now in
    let old = moment s.core c.args.control.now (g.O.Sink.held c.args.out.now) (g.O.Sink.faults c.args.out.now) (g.I.Source.faults c.args.input.now) (g.I.Source.left c.args.input.now) s.bases (g.O.Sink.pieces c.args.out.now) in
    let mid = moment l.store.core l.control (g.O.Sink.held l.out) (g.O.Sink.faults l.out) (g.I.Source.faults l.input) (g.I.Source.left l.input) l.store.bases (g.O.Sink.pieces l.out) in
    let n = c.step_telling.new in
    let new = moment n.store.core n.control (g.O.Sink.held n.out) (g.O.Sink.faults n.out) (g.I.Source.faults n.input) (g.I.Source.left n.input) n.store.bases (g.O.Sink.pieces n.out) in
    let h = watched (map (λ w. (goal.Watcher-dyn g (w.vtable, w.value)).watch w.value) c.args.watchers.now.items) c.args.reports.now.items in
    let h1 = watched (map (λ w. (goal.Watcher-dyn g (w.vtable, w.value)).watch w.value) l.watchers.items) l.reports.items in
    let h2 = watched (map (λ w. (goal.Watcher-dyn g (w.vtable, w.value)).watch w.value) c.tell_each.new.watchers.items) c.tell_each.new.reports.items in
    let a = c.in-Ok.ensures in
    let es = c.in-Ok.events.items in
    let d = plain_code l.store.code in
    let bare : IsBare d = subst (λ c. IsBare (plain_code c)) (sym i.code) c.requires.serves.bare in
    let did = step_did c.events_are.ensures c.ends_tell_nothing.ensures modes d mid new Paused c.requires.serves.main bare a.did a.gained a.wrote in
    let told : h2 ≡ told_each (map notice_of es) h1 = c.in-Ok-tell_each.ensures ∙ ap (λ es. told_each (map notice_of es) h1) c.deref.ensures.value in
    record {
      heard = heard_on c.told_in_parts.ensures modes (plain_code s.code) d l.steps old mid new h h1 h2 Paused (ap plain_code i.code) i.heard
          (heard_paused c.events_are.ensures modes d mid new es h1 h2 (runs_one modes d mid new Paused did a.reads a.prints a.reads_only) (λ line i f. (a.tells line i f).1) told);
      code = a.code ∙ i.code;
      no_fault = a.goes_on;
      took = takes_then old.left mid.left new.left i.took a.took;
      honest = honest_then old.control.reader.ended mid.control.reader.ended new.control.reader.ended old.left mid.left new.left i.took i.honest a.honest;
    }

pub returns-then-is_empty-clause-ran : goal.returns-then-is_empty-clause-ran
returns-then-is_empty-clause-ran g c =
    let s = c.args.store.now in
    let l = c.loop-steps in
    let i = l.invariant in
    let modes = modes_of c.args.declarations.now in
    let old = moment s.core c.args.control.now (g.O.Sink.held c.args.out.now) (g.O.Sink.faults c.args.out.now) (g.I.Source.faults c.args.input.now) (g.I.Source.left c.args.input.now) s.bases (g.O.Sink.pieces c.args.out.now) in
    let mid = moment l.store.core l.control (g.O.Sink.held l.out) (g.O.Sink.faults l.out) (g.I.Source.faults l.input) (g.I.Source.left l.input) l.store.bases (g.O.Sink.pieces l.out) in
    let n = c.run_whole.new in
    let new = moment n.store.core n.control (g.O.Sink.held n.out) (g.O.Sink.faults n.out) (g.I.Source.faults n.input) (g.I.Source.left n.input) n.store.bases (g.O.Sink.pieces n.out) in
    let h = watched (map (λ w. (goal.Watcher-dyn g (w.vtable, w.value)).watch w.value) c.args.watchers.now.items) c.args.reports.now.items in
    let h1 = watched (map (λ w. (goal.Watcher-dyn g (w.vtable, w.value)).watch w.value) l.watchers.items) l.reports.items in
    let none : l.watchers.len ≡ 0 = eqb-true l.watchers.len 0 (sym c.if-is_empty.ensures) in
    heard_then c.told_in_parts.ensures modes (plain_code s.code) (plain_code l.store.code) l.steps old mid new h h1 c.run_whole.result (ap plain_code i.code) (no_items (λ w. (goal.Watcher-dyn g (w.vtable, w.value)).watch w.value) l.watchers.items (sym l.watchers.ok.0 ∙ none)) i.heard c.run_whole.ensures.ran

pub returns-then-is_empty-clause-took : goal.returns-then-is_empty-clause-took
returns-then-is_empty-clause-took g c =
    let s = c.args.store.now in
    let l = c.loop-steps in
    let i = l.invariant in
    let modes = modes_of c.args.declarations.now in
    let old = moment s.core c.args.control.now (g.O.Sink.held c.args.out.now) (g.O.Sink.faults c.args.out.now) (g.I.Source.faults c.args.input.now) (g.I.Source.left c.args.input.now) s.bases (g.O.Sink.pieces c.args.out.now) in
    let mid = moment l.store.core l.control (g.O.Sink.held l.out) (g.O.Sink.faults l.out) (g.I.Source.faults l.input) (g.I.Source.left l.input) l.store.bases (g.O.Sink.pieces l.out) in
    let n = c.run_whole.new in
    let new = moment n.store.core n.control (g.O.Sink.held n.out) (g.O.Sink.faults n.out) (g.I.Source.faults n.input) (g.I.Source.left n.input) n.store.bases (g.O.Sink.pieces n.out) in
    takes_then old.left mid.left new.left i.took c.run_whole.ensures.took

pub returns-then-is_empty-clause-honest : goal.returns-then-is_empty-clause-honest
returns-then-is_empty-clause-honest g c =
    let s = c.args.store.now in
    let l = c.loop-steps in
    let i = l.invariant in
    let modes = modes_of c.args.declarations.now in
    let old = moment s.core c.args.control.now (g.O.Sink.held c.args.out.now) (g.O.Sink.faults c.args.out.now) (g.I.Source.faults c.args.input.now) (g.I.Source.left c.args.input.now) s.bases (g.O.Sink.pieces c.args.out.now) in
    let mid = moment l.store.core l.control (g.O.Sink.held l.out) (g.O.Sink.faults l.out) (g.I.Source.faults l.input) (g.I.Source.left l.input) l.store.bases (g.O.Sink.pieces l.out) in
    let n = c.run_whole.new in
    let new = moment n.store.core n.control (g.O.Sink.held n.out) (g.O.Sink.faults n.out) (g.I.Source.faults n.input) (g.I.Source.left n.input) n.store.bases (g.O.Sink.pieces n.out) in
    honest_then old.control.reader.ended mid.control.reader.ended new.control.reader.ended old.left mid.left new.left i.took i.honest c.run_whole.ensures.honest

pub returns-in-Err-clause-ran : goal.returns-in-Err-clause-ran
returns-in-Err-clause-ran g c =
    let s = c.args.store.now in
    let l = c.loop-steps in
    let i = l.invariant in
    let modes = modes_of c.args.declarations.now in
    let old = moment s.core c.args.control.now (g.O.Sink.held c.args.out.now) (g.O.Sink.faults c.args.out.now) (g.I.Source.faults c.args.input.now) (g.I.Source.left c.args.input.now) s.bases (g.O.Sink.pieces c.args.out.now) in
    let mid = moment l.store.core l.control (g.O.Sink.held l.out) (g.O.Sink.faults l.out) (g.I.Source.faults l.input) (g.I.Source.left l.input) l.store.bases (g.O.Sink.pieces l.out) in
    let n = c.step_telling.new in
    let new = moment n.store.core n.control (g.O.Sink.held n.out) (g.O.Sink.faults n.out) (g.I.Source.faults n.input) (g.I.Source.left n.input) n.store.bases (g.O.Sink.pieces n.out) in
    let h = watched (map (λ w. (goal.Watcher-dyn g (w.vtable, w.value)).watch w.value) c.args.watchers.now.items) c.args.reports.now.items in
    let h1 = watched (map (λ w. (goal.Watcher-dyn g (w.vtable, w.value)).watch w.value) l.watchers.items) l.reports.items in
    let a = c.in-Err.ensures in
    let end = c.in-Err.end in
    let d = plain_code l.store.code in
    let bare : IsBare d = subst (λ c. IsBare (plain_code c)) (sym i.code) c.requires.serves.bare in
    let did = step_did c.events_are.ensures c.ends_tell_nothing.ensures modes d mid new end c.requires.serves.main bare a.did a.gained a.wrote in
    some_heard modes (plain_code s.code) (l.steps + 1) old new h h1 end
    (heard_on c.told_in_parts.ensures modes (plain_code s.code) d l.steps old mid new h h1 h1 end (ap plain_code i.code) i.heard
    (heard_ended c.ends_tell_nothing.ensures modes d mid new h1 end c.requires.serves.main bare a.ends (runs_one modes d mid new end did a.reads a.prints a.reads_only)))

pub returns-in-Err-clause-took : goal.returns-in-Err-clause-took
returns-in-Err-clause-took g c =
    let s = c.args.store.now in
    let l = c.loop-steps in
    let i = l.invariant in
    let modes = modes_of c.args.declarations.now in
    let old = moment s.core c.args.control.now (g.O.Sink.held c.args.out.now) (g.O.Sink.faults c.args.out.now) (g.I.Source.faults c.args.input.now) (g.I.Source.left c.args.input.now) s.bases (g.O.Sink.pieces c.args.out.now) in
    let mid = moment l.store.core l.control (g.O.Sink.held l.out) (g.O.Sink.faults l.out) (g.I.Source.faults l.input) (g.I.Source.left l.input) l.store.bases (g.O.Sink.pieces l.out) in
    let n = c.step_telling.new in
    let new = moment n.store.core n.control (g.O.Sink.held n.out) (g.O.Sink.faults n.out) (g.I.Source.faults n.input) (g.I.Source.left n.input) n.store.bases (g.O.Sink.pieces n.out) in
    takes_then old.left mid.left new.left i.took c.in-Err.ensures.took

pub returns-in-Err-clause-honest : goal.returns-in-Err-clause-honest
returns-in-Err-clause-honest g c =
    let s = c.args.store.now in
    let l = c.loop-steps in
    let i = l.invariant in
    let modes = modes_of c.args.declarations.now in
    let old = moment s.core c.args.control.now (g.O.Sink.held c.args.out.now) (g.O.Sink.faults c.args.out.now) (g.I.Source.faults c.args.input.now) (g.I.Source.left c.args.input.now) s.bases (g.O.Sink.pieces c.args.out.now) in
    let mid = moment l.store.core l.control (g.O.Sink.held l.out) (g.O.Sink.faults l.out) (g.I.Source.faults l.input) (g.I.Source.left l.input) l.store.bases (g.O.Sink.pieces l.out) in
    let n = c.step_telling.new in
    let new = moment n.store.core n.control (g.O.Sink.held n.out) (g.O.Sink.faults n.out) (g.I.Source.faults n.input) (g.I.Source.left n.input) n.store.bases (g.O.Sink.pieces n.out) in
    honest_then old.control.reader.ended mid.control.reader.ended new.control.reader.ended old.left mid.left new.left i.took i.honest c.in-Err.ensures.honest

pub returns-in_default-clause-ran : goal.returns-in_default-clause-ran
returns-in_default-clause-ran g c =
    let s = c.args.store.now in
    let l = c.loop-steps in
    let i = l.invariant in
    let modes = modes_of c.args.declarations.now in
    let old = moment s.core c.args.control.now (g.O.Sink.held c.args.out.now) (g.O.Sink.faults c.args.out.now) (g.I.Source.faults c.args.input.now) (g.I.Source.left c.args.input.now) s.bases (g.O.Sink.pieces c.args.out.now) in
    let mid = moment l.store.core l.control (g.O.Sink.held l.out) (g.O.Sink.faults l.out) (g.I.Source.faults l.input) (g.I.Source.left l.input) l.store.bases (g.O.Sink.pieces l.out) in
    let n = c.step_telling.new in
    let new = moment n.store.core n.control (g.O.Sink.held n.out) (g.O.Sink.faults n.out) (g.I.Source.faults n.input) (g.I.Source.left n.input) n.store.bases (g.O.Sink.pieces n.out) in
    let h = watched (map (λ w. (goal.Watcher-dyn g (w.vtable, w.value)).watch w.value) c.args.watchers.now.items) c.args.reports.now.items in
    let h1 = watched (map (λ w. (goal.Watcher-dyn g (w.vtable, w.value)).watch w.value) l.watchers.items) l.reports.items in
    let h2 = watched (map (λ w. (goal.Watcher-dyn g (w.vtable, w.value)).watch w.value) c.tell_each.new.watchers.items) c.tell_each.new.reports.items in
    let a = c.in-Ok.ensures in
    let es = c.in-Ok.events.items in
    let d = plain_code l.store.code in
    let h3 = told_each (map notice_of es) h1 in
    let bare : IsBare d = subst (λ c. IsBare (plain_code c)) (sym i.code) c.requires.serves.bare in
    let did = step_did c.events_are.ensures c.ends_tell_nothing.ensures modes d mid new Paused c.requires.serves.main bare a.did a.gained a.wrote in
    heard_gives_up modes (plain_code s.code) (l.steps + 1) old new h h3 h2
    (heard_on c.told_in_parts.ensures modes (plain_code s.code) d l.steps old mid new h h1 h3 Paused (ap plain_code i.code) i.heard
    (heard_paused c.events_are.ensures modes d mid new es h1 h3 (runs_one modes d mid new Paused did a.reads a.prints a.reads_only) (λ line i f. (a.tells line i f).1) refl))

pub returns-in_default-clause-took : goal.returns-in_default-clause-took
returns-in_default-clause-took g c =
    let s = c.args.store.now in
    let l = c.loop-steps in
    let i = l.invariant in
    let modes = modes_of c.args.declarations.now in
    let old = moment s.core c.args.control.now (g.O.Sink.held c.args.out.now) (g.O.Sink.faults c.args.out.now) (g.I.Source.faults c.args.input.now) (g.I.Source.left c.args.input.now) s.bases (g.O.Sink.pieces c.args.out.now) in
    let mid = moment l.store.core l.control (g.O.Sink.held l.out) (g.O.Sink.faults l.out) (g.I.Source.faults l.input) (g.I.Source.left l.input) l.store.bases (g.O.Sink.pieces l.out) in
    let n = c.step_telling.new in
    let new = moment n.store.core n.control (g.O.Sink.held n.out) (g.O.Sink.faults n.out) (g.I.Source.faults n.input) (g.I.Source.left n.input) n.store.bases (g.O.Sink.pieces n.out) in
    takes_then old.left mid.left new.left i.took c.in-Ok.ensures.took

pub returns-in_default-clause-honest : goal.returns-in_default-clause-honest
returns-in_default-clause-honest g c =
    let s = c.args.store.now in
    let l = c.loop-steps in
    let i = l.invariant in
    let modes = modes_of c.args.declarations.now in
    let old = moment s.core c.args.control.now (g.O.Sink.held c.args.out.now) (g.O.Sink.faults c.args.out.now) (g.I.Source.faults c.args.input.now) (g.I.Source.left c.args.input.now) s.bases (g.O.Sink.pieces c.args.out.now) in
    let mid = moment l.store.core l.control (g.O.Sink.held l.out) (g.O.Sink.faults l.out) (g.I.Source.faults l.input) (g.I.Source.left l.input) l.store.bases (g.O.Sink.pieces l.out) in
    let n = c.step_telling.new in
    let new = moment n.store.core n.control (g.O.Sink.held n.out) (g.O.Sink.faults n.out) (g.I.Source.faults n.input) (g.I.Source.left n.input) n.store.bases (g.O.Sink.pieces n.out) in
    honest_then old.control.reader.ended mid.control.reader.ended new.control.reader.ended old.left mid.left new.left i.took i.honest c.in-Ok.ensures.honest

pub returns-clause-ran : goal.returns-clause-ran
returns-clause-ran g c =
    let s = c.args.store.now in
    let l = c.loop-steps in
    let i = l.invariant in
    let modes = modes_of c.args.declarations.now in
    let old = moment s.core c.args.control.now (g.O.Sink.held c.args.out.now) (g.O.Sink.faults c.args.out.now) (g.I.Source.faults c.args.input.now) (g.I.Source.left c.args.input.now) s.bases (g.O.Sink.pieces c.args.out.now) in
    let mid = moment l.store.core l.control (g.O.Sink.held l.out) (g.O.Sink.faults l.out) (g.I.Source.faults l.input) (g.I.Source.left l.input) l.store.bases (g.O.Sink.pieces l.out) in
    let h = watched (map (λ w. (goal.Watcher-dyn g (w.vtable, w.value)).watch w.value) c.args.watchers.now.items) c.args.reports.now.items in
    let h1 = watched (map (λ w. (goal.Watcher-dyn g (w.vtable, w.value)).watch w.value) l.watchers.items) l.reports.items in
    heard_gives_up modes (plain_code s.code) l.steps old mid h h1 h1 i.heard

pub run_whole-requires-clause-serves : goal.run_whole-requires-clause-serves
run_whole-requires-clause-serves g c =
    let l = c.loop-steps in
    let i = l.invariant in
    let a = moment c.args.store.now.core c.args.control.now (g.O.Sink.held c.args.out.now) (g.O.Sink.faults c.args.out.now) (g.I.Source.faults c.args.input.now) (g.I.Source.left c.args.input.now) c.args.store.now.bases (g.O.Sink.pieces c.args.out.now) in
    let b = moment l.store.core l.control (g.O.Sink.held l.out) (g.O.Sink.faults l.out) (g.I.Source.faults l.input) (g.I.Source.left l.input) l.store.bases (g.O.Sink.pieces l.out) in
    let h = watched (map (λ w. (goal.Watcher-dyn g (w.vtable, w.value)).watch w.value) c.args.watchers.now.items) c.args.reports.now.items in
    let h1 = watched (map (λ w. (goal.Watcher-dyn g (w.vtable, w.value)).watch w.value) l.watchers.items) l.reports.items in
    serves_heard c.declared_variables_fit.ensures.runs c.args.declarations.now c.args.store.now l.store l.steps a b h h1 c.requires.serves i.code i.heard

pub step_telling-requires-clause-serves : goal.step_telling-requires-clause-serves
step_telling-requires-clause-serves g c =
    let l = c.loop-steps in
    let i = l.invariant in
    let a = moment c.args.store.now.core c.args.control.now (g.O.Sink.held c.args.out.now) (g.O.Sink.faults c.args.out.now) (g.I.Source.faults c.args.input.now) (g.I.Source.left c.args.input.now) c.args.store.now.bases (g.O.Sink.pieces c.args.out.now) in
    let b = moment l.store.core l.control (g.O.Sink.held l.out) (g.O.Sink.faults l.out) (g.I.Source.faults l.input) (g.I.Source.left l.input) l.store.bases (g.O.Sink.pieces l.out) in
    let h = watched (map (λ w. (goal.Watcher-dyn g (w.vtable, w.value)).watch w.value) c.args.watchers.now.items) c.args.reports.now.items in
    let h1 = watched (map (λ w. (goal.Watcher-dyn g (w.vtable, w.value)).watch w.value) l.watchers.items) l.reports.items in
    serves_heard c.declared_variables_fit.ensures.runs c.args.declarations.now c.args.store.now l.store l.steps a b h h1 c.requires.serves i.code i.heard
