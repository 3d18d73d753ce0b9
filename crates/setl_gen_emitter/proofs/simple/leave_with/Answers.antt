use Rattle.std.proofs.Common.{◌∙◌, ap, Some}
use Rattle.setl_value.specs.Datum.{bool}
use Rattle.setl_code.specs.Code.{Push, LeaveAll}
use Rattle.setl_code.specs.Piece.{one, jumps_out}
use Rattle.setl_gen_emitter.specs.Emitted.{held, after}
use Rattle.setl_gen_emitter.specs.EmittedLaws.{then_two}
use Rattle.setl_gen_emitter.proofs.simple.leave_with.Goals as goal

pub returns : goal.returns
returns c =
    let line = c.args.line in
    let s = held c.args.emitter.now in
    then_two (one line (LeaveAll c.args.levels)) (one line (Push (Some (bool c.args.truth)))) (jumps_out line) s (held c.put.new.self) (held c.put-2.new.self) (held c.jump_out.new.self)
    (c.in_ok-put.ensures ∙ ap (λ m. after (one line (LeaveAll m)) s) c.in_ok-levels.ensures) c.in_ok-put-2.ensures c.in_ok-jump_out.ensures
