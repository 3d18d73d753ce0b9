use Rattle.std.proofs.Common.{◌∙◌, map, ap, sym}
use Rattle.std.specs.Global.{Vec}
use Rattle.setl_code.specs.declared.code.Step.{Step}
use Rattle.setl_code.specs.Plain.{plain_step}
use Rattle.setl_gen_emitter.specs.Table.{variables}
use Rattle.setl_gen_emitter.specs.Emitted.{held}
use Rattle.setl_gen.proofs.BodyLemmas.{finished_is}
use Rattle.setl_gen.proofs.bodies.finish.Goals as goal

pub returns-clause-body : goal.returns-clause-body
returns-clause-body c =
    let t = c.args.emitter.now.names in
    finished_is t c.args.name.now c.in_ok-name.name c.in_ok-parameters.parameters c.in_ok-names.names c.from_vec.result (held c.args.emitter.now)
    c.in_ok-name.ensures (c.in_ok-parameters.ensures ∙ c.parameters.ensures) c.in_ok-names.ensures
    (ap (map (plain_step (variables t))) (sym (c.from_vec.ensures ∙ ap (λ (v : Vec Step). v.items) c.replace-steps.ensures.value)))
