use Rattle.std.proofs.Common.{◌≡◌, ◌≤◌, ◌++◌, ap, sym, subst, map, OnOk}
use Rattle.setl_value.specs.Datum.{depth, set_of}
use Rattle.setl_value.specs.code.Body.{Members}
use Rattle.setl_value.specs.code.DatumOf.{datum}
use Rattle.setl_rep_plain.proofs.Depths.{set_pairs}
use Rattle.setl_rep_plain.proofs.pairs.push_pairs.Goals as goal

pub push_images-requires : goal.push_images-requires
push_images-requires c =
    subst (λ l. depth (set_of l) ≤ 500)
    (set_pairs c.args.many (datum c.args.x.now) (datum c.args.y.now) (Members c.in-Set.images) c.if-not-many.false (ap datum c.in-Set.is)) c.requires

pub returns-in-Set : goal.returns-in-Set
returns-in-Set c =
    subst (λ l. OnOk c.push_images.result (map datum c.push_images.new.pairs.items ≡ map datum c.args.pairs.now.items ++ l))
    (sym (set_pairs c.args.many (datum c.args.x.now) (datum c.args.y.now) (Members c.in-Set.images) c.if-not-many.false (ap datum c.in-Set.is)))
    c.push_images.ensures
