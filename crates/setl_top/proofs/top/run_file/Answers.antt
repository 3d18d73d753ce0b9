use Rattle.std.proofs.Common.{◌≡◌, map, refl, ap}
use Rattle.setl_program.specs.code.Plain.{plain_declared}
use Rattle.setl_top_status.specs.Seen.{seen}
use Rattle.setl_watch.specs.Watches.{watched}
use Rattle.setl_top_words.specs.code.Commands.{options_now}
use Rattle.setl_top.specs.Headline.{untouched}
use Rattle.setl_top.specs.code.Runs.{Runs, TakesInput, counted, streams}
use Rattle.setl_top_words.specs.Words.{Run}
use Rattle.setl_top.proofs.Ends.{loads, not_ready, run_ends, run_takes, tells_then}
use Rattle.setl_top.proofs.Running.{runs_or, not_paused, not_at_stuck, heard_from}
use Rattle.setl_top.proofs.top.run_file.Goals as goal

pub returns-in-Err : goal.returns-in-Err
returns-in-Err g c = record { headline = λ words handed s there kept. not_ready words _ _ c.args.kind (options_now c.args.asked) c.args.name.now s there (record { input = refl; output = refl }) _ c.in-Err.ensures.not_ready; input = λ words handed s there kept. untouched refl }

pub run_ready-requires : goal.run_ready-requires
run_ready-requires g c =
    let l = c.in-Ok.ensures.ready in
    record { is = (l.runnable, l.is_ready); turns = c.requires }

pub tell_end-requires : goal.tell_end-requires
tell_end-requires g c =
    let l = c.in-Ok.ensures.ready in
    let asked = options_now c.args.asked in
    let ran = runs_or l.runnable asked _ _ c.run_ready.result c.unwrap_or-end.result c.unwrap_or-end.ensures (c.run_ready.ensures.ran l.runnable l.is_ready) c.run_ready.ensures.unread c.run_ready.ensures.out in
    record { paused = not_paused l.runnable asked _ _ c.unwrap_or-end.result ran; stuck = not_at_stuck l.runnable asked _ _ c.unwrap_or-end.result ran }

pub returns : goal.returns
returns g c =
    let known = c.in-Ok.ensures in
    let l = known.ready in
    let ready = c.in-Ok.ready in
    let asked = options_now c.args.asked in
    let end = c.unwrap_or-end.result in
    let ran = runs_or l.runnable asked _ _ c.run_ready.result end c.unwrap_or-end.ensures (c.run_ready.ensures.ran l.runnable l.is_ready) c.run_ready.ensures.unread c.run_ready.ensures.out in
    let modes = map plain_declared c.counted.result.now in
    let heard = watched (map (λ w. (goal.Watcher-dyn g (w.vtable, w.value)).watch w.value) c.run_ready.new.watchers.items) c.run_ready.new.reports.items in
    let input = seen g.I.Source.left g.I.Source.calls g.I.Source.faults c.args.input.now in
    let output = seen g.O.Sink.held g.O.Sink.pieces g.O.Sink.faults c.args.out.now in
    let to = streams (seen g.I.Source.left g.I.Source.calls g.I.Source.faults c.run_ready.new.input) (seen g.O.Sink.held g.O.Sink.pieces g.O.Sink.faults c.run_ready.new.out) heard in
    let same : watched (map (λ w. (goal.Watcher-dyn g (w.vtable, w.value)).watch w.value) c.deref.result.now) c.run_ready.new.reports.items ≡ heard = ap (λ ws. watched (map (λ w. (goal.Watcher-dyn g (w.vtable, w.value)).watch w.value) ws) c.run_ready.new.reports.items) c.deref.ensures.value in
    let told = tells_then modes (counted asked l.runnable) _ heard end (seen g.E.Sink.held g.E.Sink.pieces g.E.Sink.faults c.args.err.now) (seen g.E.Sink.held g.E.Sink.pieces g.E.Sink.faults c.load_ready.new.err) (seen g.E.Sink.held g.E.Sink.pieces g.E.Sink.faults c.tell_end.new.err) c.tell_end.result (c.counted.ensures l.runnable l.is_ready.declared) same known.still.same c.tell_end.ensures.told in
    record {
      headline = λ words handed s there kept. run_ends words _ _ heard c.args.kind asked c.args.name.now ready s there l end (heard_from (λ x. Runs l.runnable asked x to end) input output _ _ _ kept c.new-reports.ensures.items ran) (loads words _ _ (Run c.args.kind asked c.args.name.now) c.args.name.now s refl there known.still.load) _ told;
      input = λ words handed s there kept. run_takes words _ _ heard c.args.kind asked c.args.name.now ready s there l (heard_from (λ x. TakesInput l.runnable asked x to) input output _ _ _ kept c.new-reports.ensures.items (c.run_ready.ensures.input l.runnable l.is_ready));
    }
