use Rattle.setl_gen_emitter.specs.Emitted.{held}
use Rattle.setl_gen_emitter.proofs.ShortPieces.{quit_some}
use Rattle.setl_gen_emitter.proofs.simple.quit.Goals as goal

pub returns-in_ok-jump_out-2 : goal.returns-in_ok-jump_out-2
returns-in_ok-jump_out-2 c =
    quit_some c.args.line c.args.leaves (held c.args.emitter.now) (held c.put.new.self) (held c.jump_out-else-leaves-eq0.new.self) c.if-leaves-eq0.false c.in_ok-put.ensures c.in_ok-jump_out-2.ensures
