use Rattle.std.proofs.Common.{sym, ◌∙◌}
use Rattle.setl_value.specs.code.DatumOf.{datum}
use Rattle.setl_modes.specs.Modes.{mode_of}
use Rattle.setl_rep_bases.specs.Bases.{named}
use Rattle.setl_rep_forms.specs.FormOf.{form}
use Rattle.setl_rep_forms.specs.Stands.{stands}
use Rattle.setl_rep_updates.proofs.Including.{element_on, is_shallow, numbers_in_mode, update_of_elements}
use Rattle.setl_rep_updates.proofs.sets.include_in.Goals as goal

pub put_in-requires-clause-numbers : goal.put_in-requires-clause-numbers
put_in-requires-clause-numbers c =
    numbers_in_mode c.args.bases.now c.args.instance c.requires.0 (mode_of c.args.m.now) c.in-Some.b c.named-i.result (form c.args.s.now) (datum c.args.x.now) c.in_ok-takes.field-0 (sym c.base_of.ensures ∙ c.in-Some.is) c.named-i.ensures c.requires.1 c.in_ok-takes.ensures c.if-not-branch.false

pub put_in-requires-clause-shallow : goal.put_in-requires-clause-shallow
put_in-requires-clause-shallow c = is_shallow (stands c.args.bases.now (form c.args.s.now)) c.requires.1.value

pub returns-clause-update : goal.returns-clause-update
returns-clause-update c = λ a h.
    update_of_elements c.operations_have_their_members.ensures.gather c.forms_stay.ensures.kept c.places_are_members.ensures.kept c.places_are_members.ensures.found c.parts_lengthen_alike.ensures c.forms_of_modes_stay.ensures a (mode_of c.args.m.now) c.in-Some.b c.args.instance c.named-i.result (datum c.args.x.now)
    c.learn.ensures c.args.bases.now c.put_in.new.bases (form c.args.s.now) (form c.put_in.new.s) c.in_ok-takes.field-0 (sym c.base_of.ensures ∙ c.in-Some.is) c.named-i.ensures h c.in_ok-takes.ensures c.if-not-branch.false (c.in_ok-put_in.ensures.put (mode_of c.args.m.now) c.args.instance (element_on (named c.args.bases.now c.args.instance) c.named-i.result (mode_of c.args.m.now) c.in-Some.b (sym c.base_of.ensures ∙ c.in-Some.is) c.named-i.ensures))
