use Rattle.std.proofs.Common.{◌∙◌, ◌+◌, ◌<◌, ◌^◌, ap, sym, subst}
use Rattle.setl_code.specs.CodeCore.{held}
use Rattle.setl_code.specs.Plain.{plain_slot}
use Rattle.setl_store.specs.Standing.{Standing, variables}
use Rattle.setl_machine_variables.proofs.InForm.{at_pushed, loaded}
use Rattle.setl_machine_variables.proofs.in_form.load_in_form.Goals as goal

pub returns : goal.returns
returns c = λ line.
    let old = c.args.store.now in
    loaded old c.push_slot.new.self c.go_on.new.store line (plain_slot (variables old.core) c.args.slot) c.requires.there c.in_ok-push_slot.ensures c.go_on.ensures

pub go_on-requires : goal.go_on-requires
go_on-requires c =
    let old = c.args.store.now in
    subst (λ n. n + 1 < 2 ^ 64) (sym (ap (λ (s : Standing). s.core.now.at) c.in_ok-push_slot.ensures ∙ at_pushed (held (plain_slot (variables old.core) c.args.slot) old.core) old.core)) c.requires.few
