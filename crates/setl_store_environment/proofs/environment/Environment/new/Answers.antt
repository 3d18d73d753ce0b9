use Rattle.std.proofs.Common.{◌∙◌, sym, ap, reverse, length}
use Rattle.setl_trail.specs.Trail.{mark_count}
use Rattle.setl_store_environment.specs.Undo.{parts}
use Rattle.setl_store_environment.proofs.Stamping.{none_kept_yet, none_stamped}
use Rattle.setl_store_environment.proofs.environment.Environment.new.Goals as goal

pub invariant_of-result : goal.invariant_of-result
invariant_of-result g c =
    let ns = reverse c.in_ok-with_capacity.field-0.items in
    let items = c.in_ok-new-6.field-0.items in (
      none_kept_yet (parts c.in_ok-new.field-0 c.in_ok-new-2.field-0 c.in_ok-new-3.field-0 c.in_ok-new-4.field-0 c.in_ok-new-5.field-0) ns items c.in_ok-new-6.ensures,
      ap mark_count c.in_ok-new-6.ensures ∙ sym (ap length c.in_ok-with_capacity-4.ensures.items),
      none_stamped ns items c.in_ok-with_capacity-2.field-0.items c.in_ok-with_capacity-3.field-0.items c.in_ok-new-6.ensures c.in_ok-with_capacity-2.ensures.items c.in_ok-with_capacity-3.ensures.items,
    )
