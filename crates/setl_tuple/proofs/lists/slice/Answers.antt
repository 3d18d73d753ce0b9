use Rattle.std.proofs.Common.{ap, arith, map}
use Rattle.setl_value.specs.code.DatumOf.{part}
use Rattle.setl_tuple.proofs.Depths.{part_shallow}
use Rattle.setl_tuple.proofs.lists.slice.Goals as goal

pub of-requires : goal.of-requires
of-requires c =
    let none = ap (map part) c.in_ok-parts.ensures.items in
    record { shallow = omega (arith, part_shallow _ _ c.args.t.now _ _ c.in_ok-push_part.ensures none (omega (arith, c.learn.ensures.1))) }
