use Rattle.std.proofs.Common.{◌≡◌, ◌∙◌, ap, sym, arith, map, slice_get, Some, ◌+◌, ◌-◌, ◌/◌}
use Rattle.std.specs.Option.{option_map}
use Rattle.std.proofs.lemmas.List.{length-map}
use Rattle.std.proofs.lemmas.Option.{slice_get-map}
use Rattle.setl_value.specs.code.DatumOf.{datum}
use Rattle.setl_value.specs.code.Sought.{sought}
use Rattle.setl_value_pages.specs.ListLaws.{item_there}
use Rattle.setl_value.proofs.Halving.{raised, lowered}
use Rattle.setl_value.proofs.places.bound_in.Goals as goal

pub loop-low-preserved-then-is_below : goal.loop-low-preserved-then-is_below
loop-low-preserved-then-is_below c =
    let vs = c.args.members.now in
    let m = c.loop-low.low + (c.loop-low.high - c.loop-low.low) / 2 in
    let v = c.index-members-middle.result in
    let h : slice_get (map datum vs) m ≡ Some (datum v) = slice_get-map datum vs m ∙ ap (option_map datum) (item_there vs m v (omega (arith, length-map vs datum)) c.index-members-middle.is) in
    raised (sought c.args.what) (map datum vs) c.loop-low.low c.loop-low.high m (datum v) c.requires c.loop-low.invariant (omega arith) h (sym c.is_below.ensures ∙ c.if-is_below.true)

pub loop-low-preserved : goal.loop-low-preserved
loop-low-preserved c =
    let vs = c.args.members.now in
    let m = c.loop-low.low + (c.loop-low.high - c.loop-low.low) / 2 in
    let v = c.index-members-middle.result in
    let h : slice_get (map datum vs) m ≡ Some (datum v) = slice_get-map datum vs m ∙ ap (option_map datum) (item_there vs m v (omega (arith, length-map vs datum)) c.index-members-middle.is) in
    lowered (sought c.args.what) (map datum vs) c.loop-low.low c.loop-low.high m (datum v) c.requires c.loop-low.invariant (omega arith) (omega arith) h (sym c.is_below.ensures ∙ c.if-is_below.false)
