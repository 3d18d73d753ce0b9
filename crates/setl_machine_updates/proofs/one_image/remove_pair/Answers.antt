use Rattle.std.proofs.Common.{◌≡◌, ◌∙◌, ap, sym, subst, refl, true, Some, Ok, rules, arith}
use Rattle.setl_value.specs.Datum.{set_of}
use Rattle.setl_value.specs.code.Body.{Members}
use Rattle.setl_value.specs.code.DatumOf.{datum}
use Rattle.setl_value.specs.Pairs.{images, is_map}
use Rattle.setl_set.specs.Sets.{remove_datum}
use Rattle.setl_map.specs.Maps.{put_images}
use Rattle.setl_machine_updates.specs.Updates.{Updates}
use Rattle.setl_machine_updates.proofs.Images.{one_image_less}
use Rattle.setl_machine_updates.proofs.one_image.remove_pair.Goals as goal

pub returns-clause-updated : goal.returns-clause-updated
returns-clause-updated c =
    let f = Members c.args.f.now in
    let x = datum c.args.x.now in
    let y = datum c.args.y.now in
    let left_over = Members c.less.new.s in
    let m : is_map f ≡ true = search rules in
    let e : left_over ≡ put_images x (remove_datum y (images x f)) f = c.in_ok-less.ensures.removed ∙ ap (λ p. remove_datum p f) c.in_ok-gone.ensures ∙ c.learn_removed.ensures in
    let o = one_image_less f left_over x y c.args.turns m e c.learn_depth.ensures in
    subst (λ r. Updates r c.args.turns (Some (set_of left_over)) (Ok c.args.turns)) (sym o) (refl, omega arith)
