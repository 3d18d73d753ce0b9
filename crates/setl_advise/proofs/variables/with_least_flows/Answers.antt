use Rattle.std.proofs.lemmas.Result.{IfOk-weaker}
use Rattle.setl_program.specs.code.Plain.{plain_program}
use Rattle.setl_advise_conditions.specs.Parts.{conditions_of}
use Rattle.setl_advise_terms.specs.code.Plain.{flows_of}
use Rattle.setl_advise.proofs.Within.{grown_within}
use Rattle.setl_advise.proofs.variables.with_least_flows.Goals as goal

pub returns : goal.returns
returns c =
    let p = plain_program c.args.program.now in
    let s = flows_of c.in_ok-table.table in
    IfOk-weaker c.with_flows.result _ _
    (λ all h formed. record {
      flows = s;
      least = record {
        within = grown_within c.joins_are_least.ensures.above (conditions_of p) s c.in_ok-table.ensures.grown;
        solves = c.in_ok-table.ensures.solves formed;
        least = c.in_ok-table.ensures.least;
      };
      variables = h;
    })
    c.with_flows.ensures
