use Rattle.std.proofs.Common.{ap, sym, ◌∙◌}
use Rattle.setl_value.specs.code.Body.{Members}
use Rattle.setl_value.specs.Datum.{set_of, element_list, elements_of}
use Rattle.setl_value.specs.code.DatumOf.{datum}
use Rattle.setl_map.specs.Maps.{put_images}
use Rattle.setl_operators_table.specs.Outcome.{within_depth}
use Rattle.setl_operators_table.specs.OutcomeLaws.{shallow, too_deep}
use Rattle.setl_operators_collections.proofs.Rows.{members_back, map_row, no_map_row}
use Rattle.setl_operators_collections.proofs.puts.put_all_images.Goals as goal

pub returns-in-Ok-clause-changes : goal.returns-in-Ok-clause-changes
returns-in-Ok-clause-changes c =
    let kind = c.in-Ok.ensures.kind.1 in
    let xs = Members c.args.f.now in
    let ys = Members c.args.s.now in
    let row = map_row (λ f. within_depth (set_of (put_images (datum c.args.x) (element_list (elements_of ys)) f))) xs (λ h. let k = kind h in cc) in
    let back = ap (λ l. within_depth (set_of (put_images (datum c.args.x) l xs))) (sym (members_back ys)) in
    sym (ap (λ l. within_depth (set_of l)) c.in-Ok.ensures.put ∙ back ∙ row) ∙ shallow (set_of (Members c.put_all.new.f)) c.learn.ensures.1

pub returns-in-Err-Kind-clause-changes : goal.returns-in-Err-Kind-clause-changes
returns-in-Err-Kind-clause-changes c =
    no_map_row (λ f. within_depth (set_of (put_images (datum c.args.x) (element_list (elements_of (Members c.args.s.now))) f))) (Members c.args.f.now) (c.in-Err-Kind.ensures.kind.0 cc)

pub returns-in-Err-Deep-clause-changes : goal.returns-in-Err-Deep-clause-changes
returns-in-Err-Deep-clause-changes c =
    let kind = c.in-Err-Deep.ensures.kind.1 in
    let xs = Members c.args.f.now in
    let ys = Members c.args.s.now in
    let row = map_row (λ f. within_depth (set_of (put_images (datum c.args.x) (element_list (elements_of ys)) f))) xs (λ h. let k = kind h in cc) in
    let back = ap (λ l. within_depth (set_of (put_images (datum c.args.x) l xs))) (members_back ys) in
    sym row ∙ back ∙ too_deep (set_of (put_images (datum c.args.x) ys xs)) (c.in-Err-Deep.ensures.deep.0 cc).1
