use Rattle.std.proofs.Common.{rules}
use Rattle.setl_parse_reading.specs.code.Reading.{same_kind}
use Rattle.setl_parse_cursor.proofs.cursor.same_kind.Goals as goal

pub returns : goal.returns
unfolding same_kind
returns c = search rules
