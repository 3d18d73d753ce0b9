use Rattle.std.proofs.Common.{◌≡◌, ◌∷◌, ◌++◌, ◌∙◌, ap, sym, subst, append_assoc, map, arith, Some, None, slice_get, get_or}
use Rattle.std.proofs.lemmas.Option.{slice_get-get_or}
use Rattle.setl_value.specs.code.Body.{Members}
use Rattle.setl_value.specs.code.DatumOf.{datum}
use Rattle.setl_value.specs.Datum.{depth, set_of}
use Rattle.setl_text.specs.Texts.{inner_text, spaced}
use Rattle.setl_text.specs.code.TextParts.{component_text}
use Rattle.setl_text.proofs.TextLists.{spaced_more, enclosed_is, members_text, components_text, members_fall, component_falls, behind, spaced_first, AllLess}
use Rattle.setl_text.proofs.texts.+texts.Goals as goal

pub push_part-push_inner-requires : goal.push_part-push_inner-requires
push_part-push_inner-requires t c =
    let falls = component_falls c.args.t.now c.args.i (datum c.in-Some.v.now) c.in-Some.ensures in
    (omega (arith, falls, c.decreases), tt)

pub push_parts-parts-preserved : goal.push_parts-parts-preserved
push_parts-parts-preserved t c =
    let ps = c.args.t.now in
    let i = c.parts.i in
    let p = get_or ps i None in
    let at : slice_get ps i ≡ Some p = slice_get-get_or ps i None (omega arith) in
    spaced_more component_text ps c.args.into.now.items c.parts.into.items c.push_blank.new.into.items c.push_part.new.into.items i p at c.parts.invariant c.in_ok-push_blank.ensures (c.in_ok-push_part.ensures p at)

pub push_set-returns : goal.push_set-returns
push_set-returns t c = enclosed_is c.args.into.now.items c.push.new.self.items _ _ _ _ 123 125 c.in_ok-push.ensures.items c.in_ok-push_members.ensures c.in_ok-push-2.ensures.items (members_text (Members c.args.s.now))

pub push_tuple-returns : goal.push_tuple-returns
push_tuple-returns t c = enclosed_is c.args.into.now.items c.push.new.self.items _ _ _ _ 91 93 c.in_ok-push.ensures.items c.in_ok-push_parts.ensures c.in_ok-push-2.ensures.items (components_text c.args.t.now)

pub push_members-members-init : goal.push_members-members-init
push_members-members-init t c =
    let ds = Members c.args.s.now in
    let d = datum c.in-Some.first.now in
    let rest = c.into_iter-v-iterator.result in
    let whole : ds ≡ d ∷ rest = cc (c.in-Some.ensures.steps, c.into_iter-v-iterator.ensures.into_iter_gives) in (
      ap (λ l. l ++ behind rest) c.in_ok-push_inner.ensures ∙ append_assoc c.args.into.now.items (inner_text d) (behind rest)
          ∙ ap (λ l. c.args.into.now.items ++ l) (sym (spaced_first d rest) ∙ ap (λ l. spaced (map inner_text l)) (sym whole)),
      (subst (AllLess (depth (set_of ds))) whole (members_fall ds)).1,
    )
