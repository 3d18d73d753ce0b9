use Rattle.std.proofs.Common.{◌≡◌, ◌++◌, ◌∙◌, ap, sym, subst, map}
use Rattle.setl_value.specs.code.Body.{Members}
use Rattle.setl_value.specs.code.DatumOf.{datum}
use Rattle.setl_value.specs.Pairs.{pair}
use Rattle.setl_map.proofs.MapResults.{PartsShallow, parts_shallow}
use Rattle.setl_map.proofs.maps.pairs_from.Goals as goal

pub loop-y-init : goal.loop-y-init
loop-y-init c =
    let ys = Members c.args.s.now in
    let x = datum c.args.x.now in
    let rest = c.into_iter-y-iterator.result in
    let all : rest ≡ ys = cc (c.members-y-items.ensures, c.into_iter-y-iterator.ensures.into_iter_gives) in (
      ap (λ l. map datum l ++ map (λ y. pair x y) rest) c.in_ok-pairs.ensures.items ∙ ap (map (λ y. pair x y)) all,
      subst (PartsShallow x) (sym all) (parts_shallow x ys c.requires),
    )
