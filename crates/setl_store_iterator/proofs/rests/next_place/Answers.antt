use Rattle.std.proofs.Common.{◌+◌, ◌<◌, ◌^◌, arith}
use Rattle.std.specs.Int.{w128}
use Rattle.std.proofs.lemmas.Int.{to_z_pos}
use Rattle.setl_value.specs.code.DatumOf.{lent, part}
use Rattle.setl_store_iterator.proofs.Lists.{component_at, place_at}
use Rattle.setl_store_iterator.proofs.rests.next_place.Goals as goal

pub returns-clause-first : goal.returns-clause-first
returns-clause-first c =
    let ps = c.args.t.now in
    let i = c.args.at.now in
    let small : i + 1 < 2 ^ 127 = omega (arith, c.len.type_inv, c.len.ensures, c.requires) in
    place_at ps i _ (lent c.at.result) (part c.in_ok-component.component) (component_at ps i c.at.result c.requires c.at.ensures) c.in_ok-component.ensures (to_z_pos w128 (i + 1) small)
