use Rattle.std.proofs.Common.{◌≡◌, ◌+◌, ◌-◌, ◌++◌, ◌∷◌, ◌∙◌, suc, ap, sym, arith, map, take}
use Rattle.std.specs.List.{filter_map}
use Rattle.setl_value.specs.code.DatumOf.{datum}
use Rattle.setl_map.specs.code.Points.{part_at}
use Rattle.setl_map.proofs.Lists.{one_more_part}
use Rattle.setl_map.proofs.pairs.parts_of.Goals as goal

pub loop-preserved : goal.loop-preserved
loop-preserved c =
    let h = part_at c.args.first in
    let made = map datum c.loop.chosen.items in
    let d = datum c.in-Some.v.now in
    let rest = c.next.new.self in
    let n = c.args.count - (c.loop.counter + 1) in
    let left : c.args.count - c.loop.counter ≡ suc n = omega arith in
    let whole : c.loop.rest ≡ d ∷ rest = cc c.in-Some.ensures.steps in
    one_more_part h n made (map datum c.push_part.new.chosen.items) d rest c.in_ok-push_part.ensures
    ∙ ap (λ k. made ++ filter_map h (take k (d ∷ rest))) (sym left) ∙ ap (λ l. made ++ filter_map h (take (c.args.count - c.loop.counter) l)) (sym whole) ∙ c.loop.invariant
