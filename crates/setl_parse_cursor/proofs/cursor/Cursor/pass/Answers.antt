use Rattle.std.proofs.Common.{sym}
use Rattle.setl_parse_cursor.specs.Plain.{plain_tokens}
use Rattle.setl_parse_cursor.proofs.Plain.{rest_at}
use Rattle.setl_parse_cursor.proofs.cursor.Cursor.pass.Goals as goal

pub returns-then-self-len : goal.returns-then-self-len
returns-then-self-len c = rw (← c.self.view_is) (sym (rest_at (plain_tokens c.self.inside.list.now) c.self.inside.at))
