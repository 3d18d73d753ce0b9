use Rattle.std.proofs.Common.{◌<◌, length, sym, subst}
use Rattle.std.specs.Prelude.{Some}
use Rattle.setl_modes.specs.Modes.{mode_of}
use Rattle.setl_value.specs.code.DatumOf.{datum}
use Rattle.setl_store.proofs.Grown.{assigned}
use Rattle.setl_store.proofs.Slots.{place_within}
use Rattle.setl_store.proofs.store.Store.assign.Goals as goal

pub place-at-requires-clause-there : goal.place-at-requires-clause-there
place-at-requires-clause-there c = place_within c.self.inside.code.now c.self.inside.bases c.self.inside.at c.self.inside.environment.now c.self.inside.environment.kept c.args.self.now c.args.slot c.self.invariant.1 c.self.view_is c.requires.slot

pub put_formed-requires-clause-slot : goal.put_formed-requires-clause-slot
put_formed-requires-clause-slot c =
    subst (λ n. n < length c.self.inside.environment.now.slots) (sym c.place-at.ensures)
    (place_within c.self.inside.code.now c.self.inside.bases c.self.inside.at c.self.inside.environment.now c.self.inside.environment.kept c.args.self.now c.args.slot c.self.invariant.1 c.self.view_is c.requires.slot)

pub invariant_of-self : goal.invariant_of-self
invariant_of-self c =
    (assigned c.forms_of_main_stay.ensures c.operands_stay.ensures c.cuts_are_exact.ensures.grown (mode_of c.args.mode.now) c.self.inside.code.now c.self.inside.bases c.put_formed.new.bases c.self.inside.keeps c.self.inside.at c.self.inside.environment.now c.put_formed.new.environment.now c.self.inside.environment.kept c.put_formed.new.environment.kept c.args.self.now c.args.slot c.place-at.result (Some (datum c.args.value)) c.put_formed.result
    c.self.invariant c.self.view_is c.requires.slot c.place-at.ensures c.put_formed.ensures.grown c.put_formed.ensures.gained c.put_formed.ensures.put c.put_formed.ensures.refused c.put_formed.ensures.kept).1

pub returns : goal.returns
returns c =
    (assigned c.forms_of_main_stay.ensures c.operands_stay.ensures c.cuts_are_exact.ensures.grown (mode_of c.args.mode.now) c.self.inside.code.now c.self.inside.bases c.put_formed.new.bases c.self.inside.keeps c.self.inside.at c.self.inside.environment.now c.put_formed.new.environment.now c.self.inside.environment.kept c.put_formed.new.environment.kept c.args.self.now c.args.slot c.place-at.result (Some (datum c.args.value)) c.put_formed.result
    c.self.invariant c.self.view_is c.requires.slot c.place-at.ensures c.put_formed.ensures.grown c.put_formed.ensures.gained c.put_formed.ensures.put c.put_formed.ensures.refused c.put_formed.ensures.kept).0
