use Rattle.setl_program.specs.code.Plain.{plain_variable}
use Rattle.setl_gen_emitter.specs.Emitted.{held}
use Rattle.setl_gen.proofs.StmtRounds.{put_at}
use Rattle.setl_gen.proofs.places.put.Goals as goal

pub returns-in_ok-alter : goal.returns-in_ok-alter
returns-in_ok-alter c =
    put_at c.args.line (plain_variable c.args.p.now.variable) c.args.p.now.selectors (held c.args.emitter.now) (held c.alter.new.emitter) (λ e. c.if-is_empty.ensures.1 e) c.in_ok-alter.ensures
