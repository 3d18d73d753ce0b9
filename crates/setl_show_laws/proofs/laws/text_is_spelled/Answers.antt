use Rattle.setl_show_laws.proofs.Cuts.{text_spelled}
use Rattle.setl_show_laws.proofs.laws.text_is_spelled.Goals as goal

pub returns : goal.returns
returns c = text_spelled c.blank_ends_token.ensures c.piece_at_is_longest.ensures.longest
