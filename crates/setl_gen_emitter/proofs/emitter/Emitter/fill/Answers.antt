use Rattle.std.proofs.Common.{map, refl}
use Rattle.setl_code.specs.declared.code.Step.{Step}
use Rattle.setl_code.specs.Plain.{plain_instr, plain_step}
use Rattle.setl_gen_emitter.specs.Table.{variables}
use Rattle.setl_gen_emitter.specs.Emitted.{held}
use Rattle.std.specs.Vec.{with_item}
use Rattle.setl_gen_emitter.proofs.Stepping.{steps_with, step_put}
use Rattle.setl_gen_emitter.proofs.emitter.Emitter.fill.Goals as goal

pub returns-then-at-len : goal.returns-then-at-len
returns-then-at-len c =
    let vs = variables c.args.self.now.names in
    let x : Step = record { line = c.args.line; what = c.args.what } in
    let ss = (with_item c.args.self.now.steps c.args.at x).items in
    step_put (held c.args.self.now) c.args.at c.args.line (plain_instr vs c.args.what) (map (plain_step vs) ss)
    (steps_with vs c.args.self.now.steps.items ss c.args.at x refl)
