use Rattle.std.proofs.Common.{◌∙◌, refl, sym, ap, Some, true≢false, arith}
use Rattle.setl_top.specs.Runnable.{OfProgram}
use Rattle.setl_top.proofs.Trying.{run_in_memory}
use Rattle.setl_top.proofs.trial.run_on_input.Goals as goal

pub run_ready-requires : goal.run_ready-requires
run_ready-requires c = record { is = (OfProgram c.requires.trial.bases c.requires.trial.program, c.requires.trial.is_ready); turns = omega arith }

pub returns : goal.returns
returns c = λ names p is.
    run_in_memory names p c.args.based _ _ _ _ (ap Some (c.new-input.ensures ∙ c.in_ok-trial_input.ensures)) (ap Some c.in_ok-printed.ensures) refl refl refl refl refl c.in_ok-end.end (λ starved. true≢false (sym (c.is_starved.ensures.1 starved) ∙ c.if-is_starved.false)) (c.in_ok-end.ensures.ran (OfProgram names p) is)
