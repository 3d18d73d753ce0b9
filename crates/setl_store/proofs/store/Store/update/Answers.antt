use Rattle.std.proofs.Common.{◌<◌, length, sym, subst}
use Rattle.setl_modes.specs.Modes.{mode_of}
use Rattle.setl_rep_updates.specs.Changed.{given_by}
use Rattle.setl_store.proofs.Grown.{update_grown}
use Rattle.setl_store.proofs.Slots.{place_within}
use Rattle.setl_store.proofs.store.Store.update.Goals as goal

pub place-at-requires-clause-there : goal.place-at-requires-clause-there
place-at-requires-clause-there c = place_within c.self.inside.code.now c.self.inside.bases c.self.inside.at c.self.inside.environment.now c.self.inside.environment.kept c.args.self.now c.args.slot c.self.invariant.1 c.self.view_is c.requires

pub update_at-requires-clause-slot : goal.update_at-requires-clause-slot
update_at-requires-clause-slot c =
    subst (λ n. n < length c.self.inside.environment.now.slots) (sym c.place-at.ensures)
    (place_within c.self.inside.code.now c.self.inside.bases c.self.inside.at c.self.inside.environment.now c.self.inside.environment.kept c.args.self.now c.args.slot c.self.invariant.1 c.self.view_is c.requires)

pub invariant_of-self : goal.invariant_of-self
invariant_of-self c =
    (update_grown c.forms_of_main_stay.ensures c.operands_stay.ensures c.cuts_are_exact.ensures.grown (given_by c.args.change.now) (mode_of c.args.mode.now) c.self.inside.code.now c.self.inside.bases c.update_at.new.bases c.self.inside.keeps c.self.inside.at
    c.self.inside.environment.now c.update_at.new.environment.now c.self.inside.environment.kept c.update_at.new.environment.kept c.args.self.now c.args.slot c.place-at.result c.update_at.result
    c.self.invariant c.self.view_is c.requires c.place-at.ensures c.update_at.ensures.updated c.update_at.ensures.kept).holds

pub returns-clause-done : goal.returns-clause-done
returns-clause-done c =
    (update_grown c.forms_of_main_stay.ensures c.operands_stay.ensures c.cuts_are_exact.ensures.grown (given_by c.args.change.now) (mode_of c.args.mode.now) c.self.inside.code.now c.self.inside.bases c.update_at.new.bases c.self.inside.keeps c.self.inside.at
    c.self.inside.environment.now c.update_at.new.environment.now c.self.inside.environment.kept c.update_at.new.environment.kept c.args.self.now c.args.slot c.place-at.result c.update_at.result
    c.self.invariant c.self.view_is c.requires c.place-at.ensures c.update_at.ensures.updated c.update_at.ensures.kept).done

pub returns-clause-refused : goal.returns-clause-refused
returns-clause-refused c =
    (update_grown c.forms_of_main_stay.ensures c.operands_stay.ensures c.cuts_are_exact.ensures.grown (given_by c.args.change.now) (mode_of c.args.mode.now) c.self.inside.code.now c.self.inside.bases c.update_at.new.bases c.self.inside.keeps c.self.inside.at
    c.self.inside.environment.now c.update_at.new.environment.now c.self.inside.environment.kept c.update_at.new.environment.kept c.args.self.now c.args.slot c.place-at.result c.update_at.result
    c.self.invariant c.self.view_is c.requires c.place-at.ensures c.update_at.ensures.updated c.update_at.ensures.kept).refused
