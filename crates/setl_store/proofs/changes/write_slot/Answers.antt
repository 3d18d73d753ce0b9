use Rattle.std.specs.Prelude.{slice_get}
use Rattle.setl_store.specs.Small.{is_small_held}
use Rattle.setl_store.proofs.SmallOnes.{still}
use Rattle.setl_store.proofs.changes.write_slot.Goals as goal

pub let_go_held-requires : goal.let_go_held-requires
let_go_held-requires c = still is_small_held c.in-Ok.before c.slot.result.now (slice_get c.args.environment.now.now.slots c.args.at) c.is_small_held.result c.in-Ok.ensures.value c.slot.ensures c.is_small_held.ensures c.if-not-is_small_held.false
