use Rattle.std.proofs.Common.{Some, refl, sym, ◌∙◌}
use Rattle.setl_rep_forms.specs.declared.held.Held.TheVariants.{Om}
use Rattle.setl_rep_maps.proofs.Changes.{slot_put_again}
use Rattle.setl_rep_maps.proofs.changing.change_slot.Goals as goal

pub returns : goal.returns
returns g c = (
  c.unwrap-content.result,
  c.change-answer.new.arg2,
  sym c.replace.ensures.old ∙ c.unwrap-content.ensures,
  record { shown = _; shows = refl; left = _; met = c.change-answer.ensures; leaves = refl },
  slot_put_again c.args.slots.now c.replace.new.self c.replace-2.new.self c.args.block (Some Om) (Some c.change-answer.new.arg2) c.replace.ensures.new c.replace-2.ensures.new,
)
