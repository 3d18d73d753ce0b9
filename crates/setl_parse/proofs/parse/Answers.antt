use Rattle.std.proofs.Common.{rules, arith}
use Rattle.std.proofs.lemmas.Grind.{common_steps}
use Rattle.setl_tree.specs.Programs as grammar
use Rattle.setl_parse_reading.specs.Fronts.{FaultOf}
use Rattle.setl_parse_cursor.specs.Plain.{plain_tokens}
use Rattle.setl_parse.proofs.Faults.{leftover}
use Rattle.setl_parse.proofs.parse.Goals as goal

pub returns-else-left-gt0-clause-unique : goal.returns-else-left-gt0-clause-unique
returns-else-left-gt0-clause-unique c = λ other derived.
    let toks = plain_tokens c.args.list.now in
    let derives : grammar.program 200 toks c.in-Ok.tree = first_of (search rules, grind (arith, common_steps)) in
    c.tree_is_unique.ensures.unique toks c.in-Ok.tree other (200, derives) derived

pub returns-then-left-gt0-clause-fault : goal.returns-then-left-gt0-clause-fault
returns-then-left-gt0-clause-fault c = λ other.
    let toks = plain_tokens c.args.list.now in
    let fault : FaultOf 200 toks c.refuse.result =
    leftover c.faults_are_exact.ensures.leftover toks c.in-Ok.tree _ c.refuse.result c.refuse.ensures (first_of (search rules, grind (arith, common_steps))) (first_of (search rules, grind (arith, common_steps))) in
    (c.refuse.result, fault, c.fault_at.ensures)
