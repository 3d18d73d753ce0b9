use Rattle.setl_modes_declarations.specs.code.Taken.{variable_names}
use Rattle.setl_modes_declarations.proofs.NameLists.{body_put}
use Rattle.setl_modes_declarations.proofs.taken.variable_names.Goals as goal

pub loop-body-preserved : goal.loop-body-preserved
loop-body-preserved c =
    body_put c.args.bodies.now c.loop-body.body-index c.body-item.result c.loop-body.names c.put_body.new.names (variable_names c.args.vars.now c.args.bodies.now)
    c.loop-body-test.true c.body-item.is c.in_ok-put_body.ensures c.loop-body.invariant
