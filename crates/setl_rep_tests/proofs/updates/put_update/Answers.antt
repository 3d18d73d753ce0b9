use Rattle.std.proofs.Common.{sym, subst}
use Rattle.setl_modes.specs.Modes.{mode_of}
use Rattle.setl_rep_updates.specs.InForm.{IsInForm}
use Rattle.setl_rep_tests.proofs.updates.put_update.Goals as goal

pub changed-made-requires-clause-copy : goal.changed-made-requires-clause-copy
changed-made-requires-clause-copy g c = subst (λ f. IsInForm c.args.bases.now 0 (mode_of c.args.mode.now) f) (sym c.in_ok-copy.ensures.same) c.requires
