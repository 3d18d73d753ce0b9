use Rattle.std.proofs.Common.{◌∙◌, Bool, ap, Some}
use Rattle.setl_value.specs.Datum.{bool}
use Rattle.setl_code.specs.Code.{Push, Unless, LeaveAll}
use Rattle.setl_code.specs.Piece.{Laid, ◌⨾◌, one, jumps_out}
use Rattle.setl_code.specs.Generated.{negated}
use Rattle.setl_gen_emitter.specs.Emitted.{held, after}
use Rattle.setl_gen_emitter.specs.EmittedLaws.{then_two}
use Rattle.setl_gen_emitter.proofs.simple.leave_decided.Goals as goal

pub returns : goal.returns
returns c =
    let line = c.args.line in
    let rest : Bool → Laid = λ t. one line (LeaveAll c.args.levels) ⨾ one line (Push (Some (bool t))) ⨾ jumps_out line in
    let s3 = held c.put.new.self in
    then_two (negated line c.args.quantifier) (one line (Unless c.args.next)) (rest c.decided.result) (held c.args.emitter.now) (held c.negated.new.emitter) s3 (held c.leave_with.new.emitter) c.in_ok-negated.ensures c.in_ok-put.ensures c.in_ok-leave_with.ensures
    ∙ ap (λ (t : Bool). after (negated line c.args.quantifier ⨾ one line (Unless c.args.next) ⨾ rest t) (held c.args.emitter.now)) c.decided.ensures
