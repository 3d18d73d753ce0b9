use Rattle.std.proofs.lemmas.Result.{on_ok_weaker}
use Rattle.setl_top_advice.proofs.Accepting.{fitting}
use Rattle.setl_top_advice.proofs.trying.try_source.Goals as goal

pub returns : goal.returns
returns c =
    let l = c.in_ok-list.list in
    on_ok_weaker c.try_runs.result (λ h. fitting l c.args.source.now c.in_ok-tree.tree c.in_ok-list.ensures.source c.in_ok-list.ensures.spelled c.in_ok-tree.ensures h.0 h.1) c.try_runs.ensures
