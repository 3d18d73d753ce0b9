use Rattle.std.proofs.Common.{length}
use Rattle.setl_store_layout.proofs.Walking.{shown_at}
use Rattle.setl_store_layout.proofs.lines.push_variables.Goals as goal

pub push_declared-requires-clause-shown : goal.push_declared-requires-clause-shown
push_declared-requires-clause-shown c = shown_at (length c.args.store.now.bases) c.args.declared.now c.loop-n.n c.index-declared-n.result c.loop-n-test.true c.index-declared-n.is c.requires.shown
