use Rattle.std.proofs.Common.{ap, sym, ◌∙◌, subst}
use Rattle.setl_value.specs.code.Body.{Members}
use Rattle.setl_value.specs.code.DatumOf.{datum}
use Rattle.setl_operators_table.specs.Outcome.{value}
use Rattle.setl_operators_table.specs.code.Answers.{Tells}
use Rattle.setl_operators_collections.proofs.Rows.{least_of_some, least_of_none}
use Rattle.setl_operators_collections.proofs.wholes.least.Goals as goal

pub returns-then-len-eq0 : goal.returns-then-len-eq0
returns-then-len-eq0 c = least_of_none (Members c.args.s.now) (sym c.len.ensures ∙ c.if-len-eq0.true)

pub returns : goal.returns
returns c =
    let row = least_of_some (Members c.args.s.now) (datum c.at.result.now) c.at.ensures.member in
    subst (Tells c.free.result) (ap (λ v. value (datum v)) c.in_ok-copy.ensures.same ∙ row) c.free.ensures
