use Rattle.std.proofs.Common.{arith, rules}
use Rattle.std.proofs.lemmas.Grind.{common_steps}
use Rattle.setl_parse_reading.specs.code.ReadStatements as spec
use Rattle.setl_parse_statements.proofs.nested.Statements.loop_stmt.Goals as goal

pub returns-in_err-open : goal.returns-in_err-open
unfolding spec.loop spec.for_or_while
returns-in_err-open g c = first_of (search rules, grind (arith, common_steps))

pub returns-then-same_kind : goal.returns-then-same_kind
unfolding spec.loop spec.for_or_while
returns-then-same_kind g c = first_of (search rules, grind (arith, common_steps))

pub returns : goal.returns
unfolding spec.loop spec.for_or_while
returns g c = first_of (search rules, grind (arith, common_steps))
