use Rattle.std.proofs.Common.{◌≡◌, ◌≤◌, ◌++◌, ap, sym, subst, map}
use Rattle.setl_value.specs.Datum.{depth, set_of}
use Rattle.setl_value.specs.Pairs.{pair}
use Rattle.setl_value.specs.code.Body.{Members}
use Rattle.setl_value.specs.code.DatumOf.{datum}
use Rattle.setl_rep_plain.proofs.Depths.{first_depth}
use Rattle.setl_rep_plain.proofs.pairs.push_images.Goals as goal

pub loop-y-init : goal.loop-y-init
loop-y-init c =
    let ys = Members c.args.images.now in
    let with_x = map (pair (datum c.args.x.now)) in
    let rest = c.into_iter-y-iterator.result in
    let all : rest ≡ ys = cc (c.members-y-items.ensures, c.into_iter-y-iterator.ensures.into_iter_gives) in (
      ap (λ l. map datum c.args.pairs.now.items ++ with_x l) all,
      subst (λ l. depth (set_of (with_x l)) ≤ 500) (sym all) c.requires,
    )

pub pair-requires : goal.pair-requires
pair-requires c =
    let with_x = map (pair (datum c.args.x.now)) in
    first_depth (pair (datum c.args.x.now) (datum c.in-Some.y.now)) (with_x c.next.new.self)
    (subst (λ l. depth (set_of (with_x l)) ≤ 500) c.in-Some.ensures.steps c.loop-y.invariant.1)
