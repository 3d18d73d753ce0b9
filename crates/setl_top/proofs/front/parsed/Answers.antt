use Rattle.std.proofs.Common.{◌≡◌}
use Rattle.setl_parse.specs.declared.fault.ParseFault.TheVariants as fault
use Rattle.setl_top.proofs.Parsing.{unparsed}
use Rattle.setl_top.proofs.front.parsed.Goals as goal

pub returns-in-Err-Syntax-clause-why : goal.returns-in-Err-Syntax-clause-why
returns-in-Err-Syntax-clause-why c =
    let known = c.in-Err-Syntax.ensures in
    unparsed c.args.list.now c.in-Err-Syntax.field-0 (fault.Syntax c.in-Err-Syntax.at) c.in-Err-Syntax.field-0-is (λ (e : fault.Syntax c.in-Err-Syntax.at ≡ fault.NoMemory). absurd (cc)) c.requires.short c.requires.spelled known.fault

pub returns-in-Err-Nesting-clause-why : goal.returns-in-Err-Nesting-clause-why
returns-in-Err-Nesting-clause-why c =
    let known = c.in-Err-Nesting.ensures in
    unparsed c.args.list.now c.in-Err-Nesting.field-0 (fault.Nesting c.in-Err-Nesting.at) c.in-Err-Nesting.field-0-is (λ (e : fault.Nesting c.in-Err-Nesting.at ≡ fault.NoMemory). absurd (cc)) c.requires.short c.requires.spelled known.fault
