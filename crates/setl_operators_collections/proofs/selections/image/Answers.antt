use Rattle.std.proofs.Common.{ap, ◌∙◌, sym}
use Rattle.setl_value.specs.code.Body.{Members}
use Rattle.setl_value.specs.code.DatumOf.{datum}
use Rattle.setl_map.specs.Maps.{image}
use Rattle.setl_operators_table.specs.Outcome.{Gives}
use Rattle.setl_operators_collections.proofs.Rows.{map_row, no_map_row}
use Rattle.setl_operators_collections.proofs.selections.image.Goals as goal

pub returns-in-Ok : goal.returns-in-Ok
returns-in-Ok c =
    let kind = c.in-Ok.ensures.kind.1 in
    let row = map_row (λ f. Gives (image (datum c.args.x.now) f) 0) (Members c.args.f.now) (λ h. let k = kind h in cc) in
    sym (ap (λ o. Gives o 0) c.in-Ok.ensures.value ∙ row)

pub returns-in-Err-Kind : goal.returns-in-Err-Kind
returns-in-Err-Kind c = no_map_row (λ f. Gives (image (datum c.args.x.now) f) 0) (Members c.args.f.now) (c.in-Err-Kind.ensures.kind.0 cc)
