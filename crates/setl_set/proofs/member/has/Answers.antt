use Rattle.std.proofs.Common.{◌∙◌}
use Rattle.setl_value.specs.code.DatumOf.{datum}
use Rattle.setl_set.proofs.Places.{found_or_absent}
use Rattle.setl_set.proofs.member.has.Goals as goal

pub returns : goal.returns
returns c = c.is_ok.ensures.value ∙ found_or_absent (datum c.args.v.now) c.args.s.now c.search.result c.search.ensures.found c.search.ensures.absent
