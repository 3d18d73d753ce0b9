use Rattle.std.proofs.Common.{◌∙◌, ℕ, List, subst}
use Rattle.setl_top_status.specs.Seen.{seen}
use Rattle.setl_top_status.specs.code.Tells.{Tells, no_memory}
use Rattle.setl_top_status.proofs.telling.tell_made.Goals as goal

pub returns-in-Ok : goal.returns-in-Ok
returns-in-Ok g c = record { told = λ bytes h. (let items = rw c.in-Ok.is at h in subst (λ (bs : List ℕ). Tells c.args.status bs (seen g.E.Sink.held g.E.Sink.pieces g.E.Sink.faults c.args.err.now) (seen g.E.Sink.held g.E.Sink.pieces g.E.Sink.faults c.tell.new.err) c.tell.result) (c.deref.ensures.value ∙ items) c.tell.ensures.told) }

pub returns-in-Err : goal.returns-in-Err
returns-in-Err g c = record { told = λ bytes h. rw c.break_off.ensures.tried.0 (no_memory c.break_off.ensures.tried.1) }
