use Rattle.std.proofs.Common.{ap, sym, ◌∙◌}
use Rattle.setl_value.specs.code.Body.{Members}
use Rattle.setl_value.specs.Datum.{set_of}
use Rattle.setl_value.specs.code.DatumOf.{datum, part}
use Rattle.setl_map.specs.Maps.{put_image}
use Rattle.setl_operators_table.specs.Outcome.{within_depth}
use Rattle.setl_operators_table.specs.OutcomeLaws.{shallow, too_deep}
use Rattle.setl_operators_collections.proofs.Rows.{map_row, no_map_row}
use Rattle.setl_operators_collections.proofs.puts.put_image.Goals as goal

pub returns-in-Ok-clause-changes : goal.returns-in-Ok-clause-changes
returns-in-Ok-clause-changes c =
    let kind = c.in-Ok.ensures.kind.1 in
    let row = map_row (λ f. within_depth (set_of (put_image (datum c.args.x) (part c.args.y) f))) (Members c.args.f.now) (λ h. let k = kind h in cc) in
    sym (ap (λ l. within_depth (set_of l)) c.in-Ok.ensures.put ∙ row) ∙ shallow (set_of (Members c.put.new.f)) c.learn.ensures.1

pub returns-in-Err-Kind-clause-changes : goal.returns-in-Err-Kind-clause-changes
returns-in-Err-Kind-clause-changes c = no_map_row (λ f. within_depth (set_of (put_image (datum c.args.x) (part c.args.y) f))) (Members c.args.f.now) (c.in-Err-Kind.ensures.kind.0 cc)

pub returns-in-Err-Deep-clause-changes : goal.returns-in-Err-Deep-clause-changes
returns-in-Err-Deep-clause-changes c =
    let kind = c.in-Err-Deep.ensures.kind.1 in
    let row = map_row (λ f. within_depth (set_of (put_image (datum c.args.x) (part c.args.y) f))) (Members c.args.f.now) (λ h. let k = kind h in cc) in
    sym row ∙ too_deep (set_of (put_image (datum c.args.x) (part c.args.y) (Members c.args.f.now))) (c.in-Err-Deep.ensures.deep.0 cc).1
