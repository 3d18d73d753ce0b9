use Rattle.std.proofs.Common.{◌∙◌, ◌++◌, ◌∷◌, [], ap, sym, map, slice_range}
use Rattle.std.proofs.lemmas.List.{map-append, append_assoc}
use Rattle.setl_value.specs.code.DatumOf.{part}
use Rattle.setl_tuple.proofs.Puts.{part_more}
use Rattle.setl_tuple.proofs.lists.push_part.Goals as goal

pub loop-i-preserved : goal.loop-i-preserved
loop-i-preserved c =
    let t = c.args.t.now in
    let had = map part c.args.parts.now.items in
    let p = c.in_ok-component.field-0 in
    let i = c.loop-i.i in
    ap (map part) c.in_ok-push.ensures.items ∙ map-append part c.loop-i.parts.items (p ∷ []) ∙ ap (λ l. l ++ part p ∷ []) c.loop-i.invariant
    ∙ append_assoc had (slice_range t c.args.from i) (part p ∷ [])
    ∙ ap (λ l. had ++ l) (sym (part_more t c.args.from i (part p) c.loop-i.auto.i c.in_ok-component.ensures))
