use Rattle.std.proofs.Common.{Some, refl}
use Rattle.std.proofs.lemmas.Result.{IfOk-weaker}
use Rattle.setl_live.proofs.Tables.{tells_of}
use Rattle.setl_live.proofs.slots.declared_among.Goals as goal

pub returns : goal.returns
returns c declared only named = IfOk-weaker c.table_by.result _ _ (λ table is. tells_of declared only c.args.names.now c.args.body.now (Some c.args.body.now) table.items named refl is) c.table_by.ensures
