use Rattle.setl_debug.proofs.Going.{back_undoes_on}
use Rattle.setl_debug.proofs.laws.back_undoes_on.Goals as goal

pub returns : goal.returns
returns g c = λ k n next told. back_undoes_on (g.T.Target.shows (g.T.Target.run c.args.target.now)) k n next told
