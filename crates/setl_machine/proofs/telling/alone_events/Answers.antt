use Rattle.std.proofs.Common.{◌≡◌, ◌∙◌, map, ap, sym}
use Rattle.std.specs.Prelude.{slice_get}
use Rattle.std.proofs.lemmas.Result.{IfOk-weaker}
use Rattle.setl_watch.specs.Notices.{noticed}
use Rattle.setl_watch.specs.code.NoticeOf.{notice_of}
use Rattle.setl_code.specs.Plain.{plain_code, plain_instr}
use Rattle.setl_code_events.specs.Told.{return_told}
use Rattle.setl_machine.specs.Hearing.{Tells}
use Rattle.setl_machine.proofs.ByFamily.{tells_return, tells_nothing}
use Rattle.setl_machine.proofs.telling.alone_events.Goals as goal

pub returns-in-Calls : goal.returns-in-Calls
returns-in-Calls c = λ line xs k d e.
    let code = plain_code c.args.code.now in
    IfOk-weaker c.return_events.result (λ es. map notice_of es.items ≡ map noticed (return_told (slice_get code.bodies c.args.body))) (λ es. Tells code line (plain_instr xs c.args.what.now) k d es.items)
    (λ es h. tells_return c.args.what.now code c.args.body line xs k d es.items (sym c.family_of.ensures ∙ c.in-Calls.is) c.requires e h) c.return_events.ensures

pub returns-in-Backtracking : goal.returns-in-Backtracking
returns-in-Backtracking c = λ line xs k d e. c.backtracking_events.ensures (plain_code c.args.code.now) line xs k d

pub returns-in_default : goal.returns-in_default
returns-in_default c = λ line xs k d e.
    ap (map notice_of) c.new.ensures.items ∙ tells_nothing c.args.what.now (λ e. c.in_default.not-Calls (c.family_of.ensures ∙ e)) (λ e. c.in_default.not-Backtracking (c.family_of.ensures ∙ e)) c.requires (plain_code c.args.code.now) line xs k d
