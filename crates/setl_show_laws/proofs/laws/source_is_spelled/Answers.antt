use Rattle.setl_show_laws.proofs.Lexemes.{source_spelled}
use Rattle.setl_show_laws.proofs.laws.source_is_spelled.Goals as goal

pub returns : goal.returns
returns c = source_spelled c.string_holds_its_body.ensures
