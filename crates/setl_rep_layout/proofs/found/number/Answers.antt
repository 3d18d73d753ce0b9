use Rattle.std.proofs.Common.{◌∙◌, sym}
use Rattle.setl_value.specs.code.DatumOf.{datum}
use Rattle.setl_rep_layout.proofs.Finding.{no_number}
use Rattle.setl_rep_layout.proofs.Members.{number_found}
use Rattle.setl_rep_layout.proofs.found.number.Goals as goal

pub returns-in-None : goal.returns-in-None
returns-in-None c = sym (no_number c.args.base.now (datum c.args.v.now) (sym c.find.ensures.handle ∙ c.in-None.is))

pub returns-in-Some : goal.returns-in-Some
returns-in-Some c = sym (number_found 1 (datum c.args.v.now) c.args.base.now.members c.in-Some.e (sym c.find.ensures.handle ∙ c.in-Some.is))
