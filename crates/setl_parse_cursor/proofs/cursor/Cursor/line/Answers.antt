use Rattle.std.proofs.Common.{refl}
use Rattle.setl_parse_cursor.specs.Plain.{plain_token}
use Rattle.setl_parse_cursor.proofs.Plain.{token_at}
use Rattle.setl_parse_cursor.proofs.cursor.Cursor.line.Goals as goal

pub returns-then-self-len : goal.returns-then-self-len
unfolding plain_token
returns-then-self-len c =
    let at = token_at c.self.inside.list.now c.self.inside.at c.at.result.now c.at.ensures.value in
    record { value = rw (← c.self.view_is, at) refl; next = rw (← c.self.view_is, at) refl }
