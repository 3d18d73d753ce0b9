use Rattle.setl_show_laws.proofs.Readings.{readings_same}
use Rattle.setl_show_laws.proofs.laws.spelling_is_determined.Goals as goal

pub returns : goal.returns
returns c = readings_same c.lexing_is_determined.ensures.one_spelling
