use Rattle.std.proofs.Common.{◌∙◌, ◌+◌, ◌<◌, ◌^◌, ap, length, sym, subst}
use Rattle.setl_code.specs.CodeCore.{held}
use Rattle.setl_code.specs.MayRun.{HasSlot}
use Rattle.setl_code.specs.Plain.{plain_slot}
use Rattle.setl_store.specs.Operands.{IsThere}
use Rattle.setl_store.specs.Standing.{Standing, variables}
use Rattle.setl_value.specs.code.DatumOf.{part}
use Rattle.setl_machine_variables.proofs.InForm.{loaded_plain}
use Rattle.setl_machine_variables.proofs.in_form.load_plain.Goals as goal

pub value-requires-clause-slot : goal.value-requires-clause-slot
value-requires-clause-slot c = subst (λ (s : Standing). HasSlot (length s.core.globals) (length s.core.now.own) c.args.slot) (sym c.make_plain.ensures) c.requires.slot

pub value-requires-clause-there : goal.value-requires-clause-there
value-requires-clause-there c = subst (λ (s : Standing). IsThere (held (plain_slot (variables s.core) c.args.slot) s.core)) (sym c.make_plain.ensures) c.requires.there

pub go_on-requires : goal.go_on-requires
go_on-requires c =
    subst (λ n. n + 1 < 2 ^ 64) (sym (ap (λ (s : Standing). s.core.now.at) c.in_ok-push.ensures ∙ ap (λ (s : Standing). s.core.now.at) c.make_plain.ensures)) c.requires.few

pub returns : goal.returns
returns c = λ line.
    loaded_plain c.args.store.now c.make_plain.new.self c.push.new.self c.go_on.new.store line c.args.slot (part c.in_ok-value.value) c.make_plain.ensures c.in_ok-value.ensures c.in_ok-push.ensures c.go_on.ensures
