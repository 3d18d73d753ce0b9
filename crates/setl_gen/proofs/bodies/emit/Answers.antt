use Rattle.std.proofs.Common.{◌∙◌}
use Rattle.setl_gen.proofs.BodyLemmas.{code_made}
use Rattle.setl_gen.proofs.bodies.emit.Goals as goal

pub returns : goal.returns
returns c =
    code_made c.args.program.now c.in_ok-names.names.vars c.main_body.new.emitter.names.vars c.in_ok-vars.vars c.as_slice-2.result.now c.in_ok-body.body c.new-bodies.result c.push.new.self c.procedures.new.bodies
    (c.in_ok-names.ensures ∙ c.as_slice.ensures) c.in_ok-body.ensures.vars (c.in_ok-vars.ensures ∙ c.as_slice-3.ensures) c.as_slice-2.ensures c.new-bodies.ensures c.in_ok-push.ensures.ok
    c.in_ok-body.ensures.body c.in_ok-procedures.ensures
