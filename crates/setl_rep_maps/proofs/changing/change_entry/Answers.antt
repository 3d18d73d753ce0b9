use Rattle.std.proofs.Common.{Some, refl, sym}
use Rattle.setl_rep_forms.specs.declared.held.Held.TheVariants.{Om}
use Rattle.setl_rep_maps.proofs.Changes.{content_put_again}
use Rattle.setl_rep_maps.proofs.changing.change_entry.Goals as goal

pub returns-clause-changed : goal.returns-clause-changed
returns-clause-changed g c = (
  c.replace-content.result,
  c.change-answer.new.arg2,
  sym c.replace-content.ensures.old,
  record { shown = _; shows = refl; left = _; met = c.change-answer.ensures; leaves = refl },
  content_put_again c.args.table.now c.replace-content.new.self c.replace.new.self c.args.block (Some Om) (Some c.change-answer.new.arg2) c.replace-content.ensures.new c.replace.ensures.new,
)
