use Rattle.std.proofs.Common.{◌≡◌, arith}
use Rattle.setl_parse_reading.specs.code.ReadExpressions.{nested}
use Rattle.setl_parse_expressions.proofs.Deeper.{refuses, deeper}
use Rattle.setl_parse_expressions.proofs.parse.+nested.Goals as goal

pub returns-then-room-eq0 : goal.returns-then-room-eq0
returns-then-room-eq0 t c = let none : c.args.room ≡ 0 = omega arith in rw (none, refuses c.args.part c.args.tokens.now) c.refused.ensures

pub returns : goal.returns
returns t c = rw (deeper nested c.args.room (omega arith)) c.part_with.ensures
