use Rattle.std.proofs.Common.{rules}
use Rattle.setl_parse_cursor.specs.Plain.{plain_token}
use Rattle.setl_parse_cursor.proofs.Plain.{token_at, none_at}
use Rattle.setl_parse_cursor.proofs.Clean.{clean_form}
use Rattle.setl_parse_cursor.proofs.content.content.Goals as goal

pub returns-then-at-len : goal.returns-then-at-len
returns-then-at-len c = rw (none_at c.args.list.now c.args.at (rw (← c.len.ensures.value) c.if-at-len.true)) (search rules)

pub name_text-requires : goal.name_text-requires
name_text-requires c =
    let text = rw c.at.ensures.value at c.text.ensures in
    let clean = rw c.in-Name.is at (clean_form c.at.result.now.kind _ _ c.at.ensures.formed.form) in
    rw text clean

pub string_text-requires : goal.string_text-requires
string_text-requires c =
    let text = rw c.at.ensures.value at c.text-in-Str.ensures in
    let clean = rw c.in-Str.is at (clean_form c.at.result.now.kind _ _ c.at.ensures.formed.form) in
    rw text clean

pub returns-in-Name : goal.returns-in-Name
unfolding plain_token
returns-in-Name c =
    let text = rw c.at.ensures.value at c.text.ensures in
    rw (token_at c.args.list.now c.args.at c.at.result.now c.at.ensures.value, c.in-Name.is) (rw text at c.name_text.ensures)

pub returns-in-Str : goal.returns-in-Str
unfolding plain_token
returns-in-Str c =
    let text = rw c.at.ensures.value at c.text-in-Str.ensures in
    rw (token_at c.args.list.now c.args.at c.at.result.now c.at.ensures.value, c.in-Str.is) (rw text at c.string_text.ensures)

pub returns-in-Word : goal.returns-in-Word
unfolding plain_token
returns-in-Word c = rw (token_at c.args.list.now c.args.at c.at.result.now c.at.ensures.value, c.in-Word.is) (search rules)

pub returns-in-Sign : goal.returns-in-Sign
unfolding plain_token
returns-in-Sign c = rw (token_at c.args.list.now c.args.at c.at.result.now c.at.ensures.value, c.in-Sign.is) (search rules)

pub returns-in-Number : goal.returns-in-Number
unfolding plain_token
returns-in-Number c = rw (token_at c.args.list.now c.args.at c.at.result.now c.at.ensures.value, c.in-Number.is) (search rules)
