use Rattle.setl_parse_reading.proofs.Top.{reading_is_sound, reading_is_complete}
use Rattle.setl_parse_reading.proofs.claims.reading_meets_grammar.Goals as goal

pub returns-clause-sound : goal.returns-clause-sound
returns-clause-sound c = reading_is_sound

pub returns-clause-complete : goal.returns-clause-complete
returns-clause-complete c = reading_is_complete
