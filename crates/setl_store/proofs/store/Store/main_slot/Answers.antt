use Rattle.std.proofs.Common.{◌<◌, length, sym, subst}
use Rattle.setl_store.specs.MainProgram.{IsStored}
use Rattle.setl_store.proofs.MainProgram.{main_holds, main_within, told}
use Rattle.setl_store.proofs.StandingSlots.{standing_at}
use Rattle.setl_store.proofs.store.Store.main_slot.Goals as goal

pub main_place-place-requires : goal.main_place-place-requires
main_place-place-requires c =
    main_within c.self.inside.code.now c.self.inside.bases c.self.inside.at c.self.inside.environment.now c.self.inside.environment.kept c.args.self.now c.self.view_is c.args.slot c.self.invariant.1 c.requires

pub slot-requires : goal.slot-requires
slot-requires c =
    subst (λ n. n < length c.self.inside.environment.now.slots) (sym c.main_place-place.ensures)
    (main_within c.self.inside.code.now c.self.inside.bases c.self.inside.at c.self.inside.environment.now c.self.inside.environment.kept c.args.self.now c.self.view_is c.args.slot c.self.invariant.1 c.requires)

pub returns-clause-holds : goal.returns-clause-holds
returns-clause-holds c =
    let bs = c.self.inside.bases in
    subst (λ h. IsStored bs h c.as_stored.result)
    (main_holds c.self.inside.code.now bs c.self.inside.at c.self.inside.environment.now c.self.inside.environment.kept c.args.self.now c.self.view_is c.args.slot c.main_place-place.result c.slot.result.now c.self.invariant.0 c.self.invariant.1 c.requires c.main_place-place.ensures c.slot.ensures)
    (c.as_stored.ensures bs (standing_at bs c.self.inside.environment.now.slots c.main_place-place.result c.slot.result.now c.self.invariant.2.standing c.slot.ensures))

pub returns-clause-bases : goal.returns-clause-bases
returns-clause-bases c = told c.self.inside.code.now c.self.inside.bases c.self.inside.at c.self.inside.environment.now c.self.inside.environment.kept c.args.self.now c.self.view_is
