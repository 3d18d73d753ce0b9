use Rattle.setl_modes.specs.Modes.{mode_of}
use Rattle.setl_rep_forms.specs.FormOf.{form}
use Rattle.setl_rep_tests.proofs.Changing.{still}
use Rattle.setl_rep_tests.proofs.Keeping.{is_held}
use Rattle.setl_rep_tests.proofs.updates.changed.Goals as goal

pub returns-clause-held : goal.returns-clause-held
returns-clause-held c = c.update.ensures.update.held

pub returns-clause-copy : goal.returns-clause-copy
returns-clause-copy c =
    let m = mode_of c.args.mode.now in
    is_held 0 m c.update.new.bases c.args.copy.now
    (still c.forms_of_modes_stay.ensures m _ c.args.bases.now c.update.new.bases (form c.args.h.now) _ (form c.args.copy.now) c.update.result c.update.ensures.update c.requires.copy)
