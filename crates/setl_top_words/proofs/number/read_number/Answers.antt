use Rattle.std.proofs.Common.{rules, arith}
use Rattle.std.proofs.lemmas.Fmt.{parse-decimal}
use Rattle.setl_top_words.proofs.number.read_number.Goals as goal

pub returns-in_default-clause-none : goal.returns-in_default-clause-none
returns-in_default-clause-none c n small spelled =
    let parsed = parse-decimal 64 n c.args.word.now c.parse.result (omega arith) (omega arith) spelled c.parse.ensures.value.0 in
    search (rules, parsed)

pub returns-else-number-clause-none : goal.returns-else-number-clause-none
returns-else-number-clause-none c n small spelled =
    let parsed = parse-decimal 64 n c.args.word.now c.parse.result (omega arith) (omega arith) spelled c.parse.ensures.value.0 in
    search (rules, parsed)
