use Rattle.std.proofs.Common.{◌≤◌, ◌^◌, length, arith}
use Rattle.std.proofs.lemmas.List.{length-map}
use Rattle.setl_parse_cursor.specs.Plain.{plain_token, plain_tokens}
use Rattle.setl_top.specs.Accepted.{lexed}
use Rattle.setl_top.proofs.laws.code_is_few.Goals as goal

pub returns : goal.returns
returns c = λ source tree is.
    let p = is.parsed in
    let toks = plain_tokens (lexed source p.tokens) in
    let few : length toks ≤ 2 ^ 24 = omega (arith, length-map p.tokens (plain_token source), c.tokens_are_few.ensures source p.tokens p.spelled, p.short) in (
      c.code_is_few.ensures.few toks tree (200, p.derived) few,
      λ code marked. c.code_is_few.ensures.marked toks tree code (200, p.derived) few marked,
    )
