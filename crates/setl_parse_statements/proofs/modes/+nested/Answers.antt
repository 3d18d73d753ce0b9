use Rattle.std.proofs.Common.{◌≡◌, refl, arith}
use Rattle.setl_parse_reading.specs.code.ReadModes.{nested_mode}
use Rattle.setl_parse_statements.proofs.Deeper.{deeper}
use Rattle.setl_parse_statements.proofs.modes.+nested.Goals as goal

pub returns-then-room-eq0 : goal.returns-then-room-eq0
unfolding nested_mode
returns-then-room-eq0 t c _ = let none : c.args.room ≡ 0 = omega arith in rw (none, c.refuse.ensures) refl

pub returns : goal.returns
unfolding nested_mode
returns t c = rw (deeper nested_mode c.args.room (omega arith)) c.mode.ensures
