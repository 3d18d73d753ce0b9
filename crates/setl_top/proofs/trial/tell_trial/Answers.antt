use Rattle.std.proofs.Common.{◌∙◌, [], true, refl, sym, ap, map, true≢false}
use Rattle.setl_program.specs.code.Plain.{plain_declared}
use Rattle.setl_top.specs.Trials.{trial_input}
use Rattle.setl_top.specs.code.Tries.{trial_done}
use Rattle.setl_watch.specs.Watches.{watched}
use Rattle.setl_top.proofs.Ends.{tells_then}
use Rattle.setl_top.proofs.Trying.{not_paused, not_stuck, done_then, ended_then}
use Rattle.setl_top.proofs.trial.tell_trial.Goals as goal

pub returns-then-is_done : goal.returns-then-is_done
returns-then-is_done g c =
    let t = c.requires.trial in
    trial_done c.args.run.printed _ (done_then c.args.seed c.args.nodes t.program c.args.run.printed c.args.run.end t.accepted (c.requires.ran t.bases t.program t.is_ready) (c.is_done.ensures.0 c.if-is_done.true)) (rw c.held.ensures at c.write_trial.ensures)

pub tell_end-requires : goal.tell_end-requires
tell_end-requires g c =
    let t = c.requires.trial in
    let run = c.args.run in
    let ran = c.requires.ran t.bases t.program t.is_ready in
    record {
      paused = not_paused t.program (trial_input c.args.seed c.args.nodes) true run.printed run.end ran;
      stuck = not_stuck t.program (trial_input c.args.seed c.args.nodes) true run.printed run.end ran;
    }

pub returns : goal.returns
returns g c =
    let t = c.requires.trial in
    let run = c.args.run in
    ended_then c.args.seed c.args.nodes t.program run.printed _ _ _ _ run.end _ t.accepted (c.requires.ran t.bases t.program t.is_ready) (λ is. true≢false (sym (c.is_done.ensures.1 is) ∙ c.if-is_done.false)) refl
    (tells_then (map plain_declared c.as_slice-declared.result.now) t.program.modes _ (watched [] []) run.end _ _ _ _ (ap (λ ds. map plain_declared ds) c.as_slice-declared.ensures ∙ t.is_ready.declared) (ap (λ bytes. watched [] bytes) c.new.ensures.items) refl c.tell_end.ensures.told)
