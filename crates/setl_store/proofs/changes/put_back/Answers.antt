use Rattle.std.specs.Prelude.{slice_get}
use Rattle.setl_store.specs.Small.{is_small}
use Rattle.setl_store.proofs.SmallOnes.{still}
use Rattle.setl_store.proofs.changes.put_back.Goals as goal

pub let_go-requires : goal.let_go-requires
let_go-requires c = still is_small c.in-Ok.before c.operand.result.now (slice_get c.args.environment.now.now.operands c.args.at) c.is_small.result c.in-Ok.ensures.value c.operand.ensures c.is_small.ensures c.if-not-is_small.false
