use Rattle.std.proofs.Common.{refl}
use Rattle.setl_parse_cursor.specs.Plain.{plain_token}
use Rattle.setl_parse_cursor.proofs.Plain.{token_at}
use Rattle.setl_parse_cursor.proofs.cursor.kind_at.Goals as goal

pub returns-in-Name : goal.returns-in-Name
unfolding plain_token
returns-in-Name c = rw (token_at c.args.list.now c.args.at c.at.result.now c.at.ensures.value, c.in-Name.is) refl

pub returns-in-Number : goal.returns-in-Number
unfolding plain_token
returns-in-Number c = rw (token_at c.args.list.now c.args.at c.at.result.now c.at.ensures.value, c.in-Number.is) refl

pub returns-in-Str : goal.returns-in-Str
unfolding plain_token
returns-in-Str c = rw (token_at c.args.list.now c.args.at c.at.result.now c.at.ensures.value, c.in-Str.is) refl

pub returns-in-Word : goal.returns-in-Word
unfolding plain_token
returns-in-Word c = let text = rw c.at.ensures.value at c.text.ensures in rw (token_at c.args.list.now c.args.at c.at.result.now c.at.ensures.value, c.in-Word.is, ← text) c.spelled_kind.ensures

pub returns-in-Sign : goal.returns-in-Sign
unfolding plain_token
returns-in-Sign c = let text = rw c.at.ensures.value at c.text-in-Sign.ensures in rw (token_at c.args.list.now c.args.at c.at.result.now c.at.ensures.value, c.in-Sign.is, ← text) c.spelled_kind-in-Sign.ensures
