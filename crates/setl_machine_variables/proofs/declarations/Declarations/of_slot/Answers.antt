use Rattle.std.proofs.Common.{get_or, ap}
use Rattle.setl_code.specs.Plain.{plain_slot}
use Rattle.setl_store.specs.Standing.{variables}
use Rattle.setl_machine_variables.proofs.Places.{within_table, declared_in, not_in}
use Rattle.setl_machine_variables.proofs.declarations.Declarations.of_slot.Goals as goal

pub bounds-declared-place : goal.bounds-declared-place
bounds-declared-place c =
    let i = c.self.inside in
    within_table c.args.self.now i.code.now i.declared.now (plain_slot (variables c.args.store.now.core) c.args.slot) c.in-Some.place c.self.view_is c.in-Some.ensures

pub returns-in-None : goal.returns-in-None
returns-in-None c = not_in c.args.self.now (plain_slot (variables c.args.store.now.core) c.args.slot) c.in-None.ensures

pub returns-in-Some : goal.returns-in-Some
returns-in-Some c =
    let i = c.self.inside in
    let d = get_or i.declared.now c.in-Some.place c.index-declared-place.result in
    declared_in c.args.self.now i.code.now i.declared.now (plain_slot (variables c.args.store.now.core) c.args.slot) c.in-Some.place d c.self.view_is c.requires.main c.in-Some.ensures (ap (get_or i.declared.now c.in-Some.place) c.index-declared-place.is)
