use Rattle.std.proofs.Common.{ap, sym, subst, ◌+◌}
use Rattle.setl_advise_terms.specs.code.Plain.{flows_of}
use Rattle.setl_advise_solving.proofs.Rounds.{Swept, stays, rises}
use Rattle.setl_advise_solving.proofs.sweeps.sweep.Goals.{then-branch, else-branch}
use Rattle.setl_advise_solving.proofs.sweeps.sweep.Goals as goal

pub loop-c-preserved : goal.loop-c-preserved
loop-c-preserved c =
    let s = flows_of c.args.table.now in
    let u = flows_of c.loop-c.table in
    let v = flows_of c.meet.new.table in
    elim c.if-branch.branch [
      | then-branch w ↦
          subst (λ b. Swept c.args.conditions.now (c.loop-c.c-index + 1) b s v) (sym w.changed-is)
          (rises c.args.conditions.now c.loop-c.c-index c.loop-c.changed s u v c.c-item.result c.loop-c-test.true c.c-item.is c.loop-c.invariant (c.in_ok-meet.ensures.raised w.if-branch.true) (c.in_ok-meet.ensures.rises w.if-branch.true))
      | else-branch w ↦
          subst (λ b. Swept c.args.conditions.now (c.loop-c.c-index + 1) b s v) (sym w.changed-is)
          (stays c.args.conditions.now c.loop-c.c-index c.loop-c.changed s u v c.c-item.result c.loop-c-test.true c.c-item.is c.loop-c.invariant (ap flows_of (c.in_ok-meet.ensures.stays w.if-branch.false)) (c.in_ok-meet.ensures.met w.if-branch.false))
    ]
