use Rattle.std.proofs.Common.{ap, sym, ◌∙◌, subst}
use Rattle.std.specs.Prelude.{is_ok, is_some, not}
use Rattle.std.proofs.lemmas.Result.{IfErr-at_err}
use Rattle.setl_remote.specs.Slots.{slot_at}
use Rattle.setl_rep_maps.specs.code.Changing.{ChangesEntry}
use Rattle.setl_rep_maps.specs.code.Entries.{remote_entries}
use Rattle.setl_rep_maps.proofs.Entries.{at_err, remote_cloned}
use Rattle.setl_rep_maps.proofs.Changes.{copied_there, slot_is_there, slot_formed, slot_changed}
use Rattle.setl_rep_maps.proofs.changing.change_in_slots.Goals as goal

pub returns-in_err-slots-clause-refused : goal.returns-in_err-slots-clause-refused
returns-in_err-slots-clause-refused g c =
    at_err c.from_residual.result (remote_cloned c.args.shared.now.value _ (IfErr-at_err _ c.in_err-slots.was c.make_mut.follows.holds-at-none))

pub change_slot-requires-clause-there : goal.change_slot-requires-clause-there
change_slot-requires-clause-there g c =
    let n = c.args.block in
    let old = c.in_ok-slots.slots.now in
    slot_is_there c.slots_are_keyed.ensures c.args.shared.now.value old n (remote_cloned c.args.shared.now.value old c.in_ok-slots.ensures.value)
    (ap is_some (ap (λ cs. slot_at cs n) (sym c.deref.ensures) ∙ sym c.get.ensures.content) ∙ copied_there c.get.result ∙ c.is_none.ensures ∙ ap not c.if-is_none.false)

pub change_slot-requires-clause-callable : goal.change_slot-requires-clause-callable
change_slot-requires-clause-callable g c = λ h is.
    let old = c.in_ok-slots.slots.now in
    c.requires.callable h (slot_formed c.slots_are_keyed.ensures c.args.shared.now.value old c.args.block h (remote_cloned c.args.shared.now.value old c.in_ok-slots.ensures.value) is)

pub returns-clause-changed : goal.returns-clause-changed
returns-clause-changed g c =
    let n = c.args.block in
    let r = c.change_slot.result in
    let old = c.in_ok-slots.slots.now in
    let new = c.change_slot.new.slots in
    let e = c.change_slot.ensures in
    subst (λ cs. ChangesEntry g.F.FnOnce c.args.change n r (remote_entries c.args.shared.now.value) (remote_entries cs)) (sym (c.make_mut.follows.holds new (ap is_ok c.in_ok-slots.was)))
    (slot_changed g.F.FnOnce c.args.change n r c.slots_are_keyed.ensures c.args.shared.now.value old new e.0 e.1 (remote_cloned c.args.shared.now.value old c.in_ok-slots.ensures.value) e.2 e.3 e.4)
