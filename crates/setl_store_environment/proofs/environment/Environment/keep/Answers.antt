use Rattle.std.proofs.Common.{◌≡◌, ◌∙◌, ◌+◌, ◌∷◌, ◌++◌, [], refl, sym, ap, reverse, length, arith}
use Rattle.std.proofs.lemmas.List.{length_push, reverse-append}
use Rattle.setl_trail.specs.Trail.{mark, mark_count}
use Rattle.setl_store_environment.specs.declared.environment.Base.{Base}
use Rattle.setl_store_environment.specs.Undo.{parts}
use Rattle.setl_store_environment.proofs.Stamping.{kept_part, same_stamped, kept_stamped}
use Rattle.setl_store_environment.proofs.environment.Environment.keep.Goals as goal

pub invariant_of-self-2 : goal.invariant_of-self-2
invariant_of-self-2 g c =
    let t = c.self.inside in
    let ns = reverse t.bases.items in
    let m : Base = record { slots = c.len-3.result; operands = c.len-4.result; activations = c.len-5.result; members = c.len-6.result; since = t.clock } in
    let items : c.mark.new.self.items ≡ mark ∷ t.trail.items = ap (λ s. s.items) c.in_ok-mark.ensures.marked ∙ ap (λ l. mark ∷ l) c.reserve-3.ensures.same in
    let bases : reverse c.push_reserved.new.self.items ≡ t.base ∷ ns = ap reverse (c.push_reserved.ensures.items ∙ ap (λ l. l ++ t.base ∷ []) c.reserve-2.ensures.items) ∙ reverse-append t.bases.items (t.base ∷ []) in
    let records = ap length (c.push_reserved-2.ensures.items ∙ ap (λ l. l ++ c.args.beside ∷ []) c.reserve.ensures.items) in (
      kept_part (parts t.slots t.operands t.activations t.members t.fields) t.base m ns (reverse c.push_reserved.new.self.items) t.trail.items c.mark.new.self.items c.len-3.ensures c.len-4.ensures c.len-5.ensures c.len-6.ensures items bases c.self.invariant.0,
      omega (arith, ap mark_count items, c.self.invariant.1, records, length_push t.records.items c.args.beside),
      kept_stamped t.clock c.in_ok-next.next t.base m ns (reverse c.push_reserved.new.self.items) t.trail.items c.mark.new.self.items c.fill.new.stamps.items c.fill-2.new.stamps.items c.in_ok-next.ensures (omega (arith, c.len-3.ensures, c.self.invariant.0.0.slots)) (omega (arith, c.len-4.ensures, c.self.invariant.0.0.operands)) refl items bases
          (same_stamped t.clock t.base ns t.trail.items t.slot_stamps.items c.fill.new.stamps.items t.operand_stamps.items c.fill-2.new.stamps.items c.fill.ensures c.fill-2.ensures c.self.invariant.2),
    )
