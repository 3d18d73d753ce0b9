use Rattle.std.proofs.Common.{◌≡◌, Some, slice_get, slice_index_or, ◌∷◌, ◌++◌, [], ◌∙◌, ap, sym, map, arith}
use Rattle.std.specs.Option.{option_map}
use Rattle.std.proofs.lemmas.List.{map-append}
use Rattle.std.proofs.lemmas.Option.{slice_get-get_or, slice_get-map}
use Rattle.setl_value.specs.code.DatumOf.{datum}
use Rattle.setl_set.proofs.Chosen.{members_more}
use Rattle.setl_set.proofs.power.copies_at.Goals as goal

pub loop-i-preserved : goal.loop-i-preserved
loop-i-preserved c =
    let ds = map datum c.args.members.now in
    let vs = c.args.members.now in
    let at = slice_index_or c.args.places.now c.loop-i.i-index 0 in
    let v = c.index-members-i.result in
    let there : slice_get vs at ≡ Some v = slice_get-get_or vs at v (c.requires c.loop-i.i-index 0 (omega arith)) ∙ ap Some (sym c.index-members-i.is) in
    let e = members_more ds c.args.places.now c.loop-i.i-index (datum v) (omega arith) (slice_get-map datum vs at ∙ ap (option_map datum) there) in
    ap (map datum) c.in_ok-push.ensures.items ∙ map-append datum c.loop-i.subset.items (c.in_ok-copy.field-0 ∷ [])
    ∙ ap (λ v. map datum c.loop-i.subset.items ++ datum v ∷ []) c.in_ok-copy.ensures.same
    ∙ ap (λ l. l ++ datum c.index-members-i.result ∷ []) c.loop-i.invariant ∙ sym e
