use Rattle.std.proofs.Common.{ap, ◌∙◌, subst}
use Rattle.setl_value.specs.code.Body.{Members}
use Rattle.setl_map.specs.Maps.{domain_of}
use Rattle.setl_operators_table.specs.Outcome.{set_value}
use Rattle.setl_operators_table.specs.code.Answers.{Tells}
use Rattle.setl_operators_collections.proofs.Rows.{map_row, no_map_row}
use Rattle.setl_operators_collections.proofs.wholes.domain_of.Goals as goal

pub returns-in-Ok : goal.returns-in-Ok
returns-in-Ok c =
    let kind = c.in-Ok.ensures.kind.1 in
    let row = map_row (λ f. set_value (domain_of f)) (Members c.args.f.now) (λ h. let k = kind h in cc) in
    subst (Tells c.set.result) (ap set_value c.in-Ok.ensures.value ∙ row) c.set.ensures

pub returns-in-Err-Kind : goal.returns-in-Err-Kind
returns-in-Err-Kind c = no_map_row (λ f. set_value (domain_of f)) (Members c.args.f.now) (c.in-Err-Kind.ensures.kind.0 cc)
