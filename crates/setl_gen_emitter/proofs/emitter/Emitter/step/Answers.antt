use Rattle.setl_code.specs.Plain.{plain_instr, plain_step}
use Rattle.std.proofs.Common.{map}
use Rattle.setl_gen_emitter.specs.Table.{variables}
use Rattle.setl_gen_emitter.specs.Emitted.{held}
use Rattle.setl_gen_emitter.proofs.Stepping.{one_made, steps_more}
use Rattle.setl_gen_emitter.proofs.emitter.Emitter.step.Goals as goal

pub returns-clause-code : goal.returns-clause-code
returns-clause-code c =
    let vs = variables c.args.self.now.names in
    one_made (held c.args.self.now) c.args.line (plain_instr vs c.args.what) (map (plain_step vs) c.push.new.self.items)
    (steps_more vs c.args.self.now.steps.items c.push.new.self.items (record { line = c.args.line; what = c.args.what }) c.in_ok-push.ensures.items)
