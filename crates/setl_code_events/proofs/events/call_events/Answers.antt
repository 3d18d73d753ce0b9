use Rattle.std.proofs.Common.{rules, ◌≡◌, ◌∙◌, ◌++◌, ◌∷◌, [], map, sym, ap}
use Rattle.setl_value.specs.code.DatumOf.{part}
use Rattle.setl_program.specs.ProgramOf.{parameter_of}
use Rattle.setl_model.specs.Calls.{bindings}
use Rattle.setl_watch.specs.Notices.{Called as CallNotice, noticed}
use Rattle.setl_watch.specs.code.NoticeOf.{notice_of}
use Rattle.setl_watch.specs.declared.event.Event.TheVariants as told
use Rattle.setl_code_events.specs.Told.{stores_told}
use Rattle.setl_code_events.proofs.Names.{call_there}
use Rattle.setl_code_events.proofs.events.call_events.Goals as goal

pub returns : goal.returns
returns c =
    let vs = map part c.args.values.items in
    let rest = map noticed (stores_told c.args.line (bindings c.args.body (map parameter_of c.as_slice.result.now) vs)) in
    let e = told.Called c.args.line c.in_ok-name.name in
    let pushed : c.push.new.self.items ≡ c.new-events.result.items ++ e ∷ [] = search rules in
    c.in_ok-push_bindings.ensures c.args.body
    ∙ ap (λ es. map notice_of es ++ rest) (pushed ∙ ap (λ es. es ++ e ∷ []) c.new-events.ensures.items)
    ∙ ap (λ n. CallNotice c.args.line n ∷ rest) c.in_ok-name.ensures
    ∙ ap (λ ps. CallNotice c.args.line c.in-Some.called.now.name ∷ map noticed (stores_told c.args.line (bindings c.args.body (map parameter_of ps) vs))) c.as_slice.ensures
    ∙ sym (call_there c.args.code.now c.args.body c.args.line vs c.in-Some.called.now c.in-Some.ensures.some)
