use Rattle.std.proofs.Common.{◌∙◌, sym, ap, arith}
use Rattle.setl_code.specs.Plain.{plain_name}
use Rattle.setl_model_runs.specs.Variable.{Own, is_variable}
use Rattle.setl_store_layout.proofs.Naming.{name_at, parameter_at}
use Rattle.setl_store_layout.proofs.places.own_name.Goals as goal

pub returns-then-at-count-clause-some : goal.returns-then-at-count-clause-some
returns-then-at-count-clause-some c = parameter_at c.args.parameters.now c.args.names.now c.args.at c.index-parameters-at.result (omega (arith, c.if-at-count.true))

pub returns-in-Body-clause-some : goal.returns-in-Body-clause-some
returns-in-Body-clause-some c =
    name_at c.args.parameters.now c.args.names.now c.args.at c.index-names-at.result (omega (arith, c.if-at-count.false)) c.requires ∙ ap (plain_name 0) (sym c.index-names-at.is ∙ c.in-Body.is)

pub returns-in-Former-clause-none : goal.returns-in-Former-clause-none
returns-in-Former-clause-none c x =
    ap (is_variable (Own 0 x))
    (name_at c.args.parameters.now c.args.names.now c.args.at c.index-names-at.result (omega (arith, c.if-at-count.false)) c.requires ∙ ap (plain_name 0) (sym c.index-names-at.is ∙ c.in-Former.is))
