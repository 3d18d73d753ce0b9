use Rattle.setl_token.specs.declared.Cause.TheVariants as cause
use Rattle.setl_explain_next.proofs.trying.goes_on_at.Goals as goal

pub returns-in-Err-Byte-clause-no : goal.returns-in-Err-Byte-clause-no
returns-in-Err-Byte-clause-no c e g = c.lexing_is_determined.ensures.not_both c.args.text.now g.tokens cause.Byte _ g.spelled (rw c.in-Err-Byte.field-0-is at c.in-Err-Byte.ensures.fails)

pub returns-in-Err-OpenString-clause-no : goal.returns-in-Err-OpenString-clause-no
returns-in-Err-OpenString-clause-no c e g = c.lexing_is_determined.ensures.not_both c.args.text.now g.tokens cause.OpenString _ g.spelled (rw c.in-Err-OpenString.field-0-is at c.in-Err-OpenString.ensures.fails)

pub returns-in-Err-WideNumber-clause-no : goal.returns-in-Err-WideNumber-clause-no
returns-in-Err-WideNumber-clause-no c e g = c.lexing_is_determined.ensures.not_both c.args.text.now g.tokens cause.WideNumber _ g.spelled (rw c.in-Err-WideNumber.field-0-is at c.in-Err-WideNumber.ensures.fails)
