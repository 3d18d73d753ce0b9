use Rattle.setl_top.proofs.Accepting.{runs_end, never_stuck}
use Rattle.setl_top.proofs.laws.every_accepted_run_ends.Goals as goal

pub returns : goal.returns
returns c = record {
  ends = runs_end c.accepted_is_formed.ensures.formed c.every_run_ends.ensures.ends;
  not_stuck = never_stuck c.accepted_is_formed.ensures.formed c.every_run_ends.ensures.not_stuck;
}
