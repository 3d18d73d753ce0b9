use Rattle.setl_rep_forms.specs.FormOf.{form}
use Rattle.setl_rep_forms.specs.Stands.{stands}
use Rattle.setl_rep_tests.proofs.Keeping.{shallow}
use Rattle.setl_rep_tests.proofs.holding.put_held.Goals as goal

pub plain-requires-clause-shallow : goal.plain-requires-clause-shallow
plain-requires-clause-shallow c = shallow (stands c.args.bases.now (form c.args.h.now)) c.requires.value
