use Rattle.setl_value.specs.code.DatumOf.{datum}
use Rattle.setl_modes.specs.Modes.{mode_of}
use Rattle.setl_store_slots.proofs.Growing.{lengthened_grown, same_grown}
use Rattle.setl_store_slots.proofs.forming.formed.Goals as goal

pub in_slot-requires-clause-found : goal.in_slot-requires-clause-found
in_slot-requires-clause-found c =
    (c.places_are_members.ensures.found (mode_of c.args.mode.now) (datum c.args.value.now) 0 c.args.bases.now c.enter_places.new.bases c.requires.there c.in_ok-enter_places.ensures.lengthened).1

pub in_slot-requires-clause-there : goal.in_slot-requires-clause-there
in_slot-requires-clause-there c =
    (c.places_are_members.ensures.found (mode_of c.args.mode.now) (datum c.args.value.now) 0 c.args.bases.now c.enter_places.new.bases c.requires.there c.in_ok-enter_places.ensures.lengthened).0

pub take_back-requires : goal.take_back-requires
take_back-requires c =
    (mode_of c.args.mode.now, datum c.args.value.now, 0, c.args.bases.now, c.in_ok-marks.ensures, c.in_ok-enter_places.ensures.lengthened)

pub returns-in-Ok-clause-grown : goal.returns-in-Ok-clause-grown
returns-in-Ok-clause-grown c = lengthened_grown c.places_are_members.ensures.kept (mode_of c.args.mode.now) (datum c.args.value.now) c.args.bases.now c.enter_places.new.bases c.in_ok-enter_places.ensures.lengthened

pub returns-in-Err-clause-grown : goal.returns-in-Err-clause-grown
returns-in-Err-clause-grown c =
    same_grown c.args.bases.now c.take_back.new.bases
    (c.take_back.ensures (mode_of c.args.mode.now) (datum c.args.value.now) 0 c.args.bases.now c.in_ok-marks.ensures c.in_ok-enter_places.ensures.lengthened)

pub returns-in-Err-clause-refused : goal.returns-in-Err-clause-refused
returns-in-Err-clause-refused c =
    c.take_back.ensures (mode_of c.args.mode.now) (datum c.args.value.now) 0 c.args.bases.now c.in_ok-marks.ensures c.in_ok-enter_places.ensures.lengthened
