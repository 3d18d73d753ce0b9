use Rattle.std.proofs.Common.{refl, rules}
use Rattle.std.proofs.lemmas.Int.{to_z-of_z}
use mir.Syntax.{w128}
use Rattle.setl_parse_cursor.specs.Plain.{plain_token}
use Rattle.setl_parse_cursor.proofs.Plain.{token_at}
use Rattle.setl_parse_cursor.proofs.cursor.Cursor.value.Goals as goal

pub returns-in-Number : goal.returns-in-Number
unfolding plain_token
returns-in-Number c =
    rw (← c.self.view_is, token_at c.self.inside.list.now c.self.inside.at c.at.result.now c.at.ensures.value, c.in-Number.is) (to_z-of_z w128 c.in-Number.n (search rules))

pub returns-in-Name : goal.returns-in-Name
unfolding plain_token
returns-in-Name c =
    rw (← c.self.view_is, token_at c.self.inside.list.now c.self.inside.at c.at.result.now c.at.ensures.value, c.in-Name.is) refl

pub returns-in-Str : goal.returns-in-Str
unfolding plain_token
returns-in-Str c =
    rw (← c.self.view_is, token_at c.self.inside.list.now c.self.inside.at c.at.result.now c.at.ensures.value, c.in-Str.is) refl

pub returns-in-Word : goal.returns-in-Word
unfolding plain_token
returns-in-Word c =
    rw (← c.self.view_is, token_at c.self.inside.list.now c.self.inside.at c.at.result.now c.at.ensures.value, c.in-Word.is) refl

pub returns-in-Sign : goal.returns-in-Sign
unfolding plain_token
returns-in-Sign c =
    rw (← c.self.view_is, token_at c.self.inside.list.now c.self.inside.at c.at.result.now c.at.ensures.value, c.in-Sign.is) refl
