use Rattle.setl_parse_reading.proofs.Rooms.{fewer_nestings}
use Rattle.setl_parse_reading.proofs.claims.nestings_may_be_fewer.Goals as goal

pub returns : goal.returns
returns c = fewer_nestings
