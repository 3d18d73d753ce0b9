use Rattle.std.proofs.Common.{◌∙◌, subst, sym, rules, arith}
use Rattle.std.specs.Str.{IsUtf8}
use Rattle.std.proofs.lemmas.Fmt.{IsAscii-decimal, parse-decimal}
use Rattle.std.proofs.lemmas.Str.{IsUtf8-from_ascii}
use Rattle.setl_debug_script.proofs.number.read_number.Goals as goal

pub returns-in_default-clause-none : goal.returns-in_default-clause-none
returns-in_default-clause-none c n small spelled =
    c.in_default.ensures.cases.0 (subst IsUtf8 (sym spelled) (IsUtf8-from_ascii _ (IsAscii-decimal n (omega (arith, small)))))

pub returns-in_default-parse-clause-none : goal.returns-in_default-parse-clause-none
returns-in_default-parse-clause-none c n small spelled =
    let parsed = parse-decimal 64 n c.in-Ok.word.now c.parse.result (omega arith) (omega arith) (c.in-Ok.ensures.cases.0 ∙ spelled) c.parse.ensures.value.0 in
    search (rules, parsed)

pub returns-else-number-clause-none : goal.returns-else-number-clause-none
returns-else-number-clause-none c n small spelled =
    let parsed = parse-decimal 64 n c.in-Ok.word.now c.parse.result (omega arith) (omega arith) (c.in-Ok.ensures.cases.0 ∙ spelled) c.parse.ensures.value.0 in
    search (rules, parsed)
