use Rattle.setl_parse_cursor.proofs.Undoubled.{holds_body}
use Rattle.setl_parse_cursor.proofs.laws.string_holds_its_body.Goals as goal

pub returns : goal.returns
returns c = holds_body
