use Rattle.std.proofs.Common.{ap, sym, ◌∙◌}
use Rattle.setl_value.specs.code.Body.{Members}
use Rattle.setl_value.specs.Datum.{set_of}
use Rattle.setl_value.specs.code.DatumOf.{datum}
use Rattle.setl_value.specs.Pairs.{images}
use Rattle.setl_set.specs.Sets.{insert_datum}
use Rattle.setl_map.specs.Maps.{put_images}
use Rattle.setl_operators_table.specs.Outcome.{within_depth}
use Rattle.setl_operators_table.specs.OutcomeLaws.{shallow, too_deep}
use Rattle.setl_operators_collections.proofs.Rows.{map_row, no_map_row}
use Rattle.setl_operators_collections.proofs.puts.add_one_image.Goals as goal

pub returns-in-Ok-clause-changes : goal.returns-in-Ok-clause-changes
returns-in-Ok-clause-changes c =
    let x = datum c.args.x in
    let y = datum c.args.y in
    let kind = c.in-Ok.ensures.kind.1 in
    let row = map_row (λ f. within_depth (set_of (put_images x (insert_datum y (images x f)) f))) (Members c.args.f.now) (λ h. let k = kind h in cc) in
    sym (ap (λ l. within_depth (set_of l)) c.in-Ok.ensures.added ∙ row) ∙ shallow (set_of (Members c.add_image.new.f)) c.learn.ensures.1

pub returns-in-Err-Kind-clause-changes : goal.returns-in-Err-Kind-clause-changes
returns-in-Err-Kind-clause-changes c =
    let x = datum c.args.x in
    let y = datum c.args.y in
    no_map_row (λ f. within_depth (set_of (put_images x (insert_datum y (images x f)) f))) (Members c.args.f.now) (c.in-Err-Kind.ensures.kind.0 cc)

pub returns-in-Err-Deep-clause-changes : goal.returns-in-Err-Deep-clause-changes
returns-in-Err-Deep-clause-changes c =
    let x = datum c.args.x in
    let y = datum c.args.y in
    let fs = Members c.args.f.now in
    let kind = c.in-Err-Deep.ensures.kind.1 in
    let row = map_row (λ f. within_depth (set_of (put_images x (insert_datum y (images x f)) f))) fs (λ h. let k = kind h in cc) in
    sym row ∙ too_deep (set_of (put_images x (insert_datum y (images x fs)) fs)) (c.in-Err-Deep.ensures.deep.0 cc).1
