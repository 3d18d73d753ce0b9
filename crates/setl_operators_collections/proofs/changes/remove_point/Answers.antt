use Rattle.std.proofs.Common.{ap, sym, ◌∙◌}
use Rattle.setl_value.specs.code.Body.{Members}
use Rattle.setl_value.specs.code.DatumOf.{datum}
use Rattle.setl_map.specs.Maps.{without_point}
use Rattle.setl_operators_table.specs.Outcome.{set_value}
use Rattle.setl_operators_collections.proofs.Rows.{map_row, no_map_row}
use Rattle.setl_operators_collections.proofs.changes.remove_point.Goals as goal

pub returns-in-Ok-clause-changes : goal.returns-in-Ok-clause-changes
returns-in-Ok-clause-changes c =
    let kind = c.in-Ok.ensures.kind.1 in
    let row = map_row (λ f. set_value (without_point (datum c.args.x.now) f)) (Members c.args.f.now) (λ h. let k = kind h in cc) in
    sym (ap set_value c.in-Ok.ensures.removed ∙ row)

pub returns-in-Err-Kind-clause-changes : goal.returns-in-Err-Kind-clause-changes
returns-in-Err-Kind-clause-changes c = no_map_row (λ f. set_value (without_point (datum c.args.x.now) f)) (Members c.args.f.now) (c.in-Err-Kind.ensures.kind.0 cc)
