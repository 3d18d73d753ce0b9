use Rattle.std.proofs.Common.{sym, subst}
use Rattle.setl_advise_conditions.specs.Grown.{Grown, Begun}
use Rattle.setl_advise_gathering.specs.code.Plain.{listed}
use Rattle.setl_advise_terms.specs.code.Plain.{flows_of}
use Rattle.setl_advise_solving.proofs.looking.hastened.Goals as goal

pub rounds-init : goal.rounds-init
rounds-init c = subst (λ t. Grown (listed c.args.conditions.now) (flows_of t)) (sym c.new-table.ensures) Begun
