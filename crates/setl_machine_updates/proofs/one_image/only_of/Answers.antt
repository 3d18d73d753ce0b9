use Rattle.std.proofs.Common.{◌∙◌, sym}
use Rattle.setl_value.specs.code.Body.{Members}
use Rattle.setl_value.specs.code.DatumOf.{datum}
use Rattle.setl_machine_updates.proofs.Alone.{alone}
use Rattle.setl_machine_updates.proofs.one_image.only_of.Goals as goal

pub returns-then-len-eq1 : goal.returns-then-len-eq1
returns-then-len-eq1 c = alone (Members c.args.members.now) (datum c.at.result.now) (sym c.len.ensures ∙ c.if-len-eq1.true) c.at.ensures.member
