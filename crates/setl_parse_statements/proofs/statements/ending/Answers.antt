use Rattle.std.proofs.Common.{arith, rules}
use Rattle.std.proofs.lemmas.Grind.{common_steps}
use Rattle.setl_parse_reading.specs.code.ReadStatements.{ending}
use Rattle.setl_parse_cursor.specs.Plain.{next_token}
use Rattle.setl_parse_statements.proofs.statements.ending.Goals as goal

pub returns-clause-ok : goal.returns-clause-ok
unfolding ending
returns-clause-ok c = (next_token c.if-same_kind.tokens, first_of (search rules, grind (arith, common_steps)))
