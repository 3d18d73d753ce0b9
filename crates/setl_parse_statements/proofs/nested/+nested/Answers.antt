use Rattle.std.proofs.Common.{◌≡◌, refl, arith}
use Rattle.setl_parse_reading.specs.code.ReadStatements.{nested_stmts, stmts}
use Rattle.setl_parse_statements.proofs.Deeper.{deeper}
use Rattle.setl_parse_statements.proofs.nested.+nested.Goals as goal

pub returns-then-room-eq0 : goal.returns-then-room-eq0
unfolding nested_stmts
returns-then-room-eq0 t c _ = let none : c.args.room ≡ 0 = omega arith in rw (none, c.refuse.ensures) refl

pub returns : goal.returns
unfolding nested_stmts stmts
returns t c = rw (deeper nested_stmts c.args.room (omega arith)) c.all.ensures
