use Rattle.std.proofs.Common.{◌≡◌, true, sym, subst}
use Rattle.setl_value.specs.code.DatumOf.{datum}
use Rattle.setl_modes.specs.Modes.{mode_of}
use Rattle.setl_modes.specs.Fits.{datum_fits}
use Rattle.setl_rep_forms.specs.FormOf.{form}
use Rattle.setl_rep_entering.specs.Entering.{AreLengthened}
use Rattle.setl_rep_updates.proofs.Including.{stays_over}
use Rattle.setl_rep_updates.proofs.Adding.{added_part_fits, added_point_is_found, contents_take, first_image_fits, added_image_is_found, added_bases_are_there}
use Rattle.setl_rep_updates.proofs.images.enter_pair.Goals as goal

pub enter_places-requires-clause-fits : goal.enter_places-requires-clause-fits
enter_places-requires-clause-fits c =
    let m = mode_of c.args.mode.now in
    subst (λ v. datum_fits m v ≡ true) (sym c.in_ok-part.ensures)
    (added_part_fits m (mode_of c.args.s.now) c.requires.mode.0 c.requires.images.0 c.requires.mode.1 c.requires.images.1 (datum c.args.x.now) (datum c.args.y.now) c.requires.mode.2 c.requires.images.2 c.requires.mode.3 c.requires.images.3)

pub add_image-requires-clause-over : goal.add_image-requires-clause-over
add_image-requires-clause-over c =
    (stays_over c.forms_stay.ensures.kept c.places_are_members.ensures.kept (mode_of c.args.mode.now) (datum c.in_ok-part.part) c.args.instance c.args.bases.now c.enter_places.new.bases (form c.args.f.now) c.in_ok-enter_places.ensures.lengthened c.requires.held.over).0

pub add_image-requires-clause-point : goal.add_image-requires-clause-point
add_image-requires-clause-point c =
    let m = mode_of c.args.mode.now in
    let n = c.args.instance in
    let bs = c.args.bases.now in
    let cs = c.enter_places.new.bases in
    added_point_is_found c.bases_are_lengthened.ensures.names c.places_are_members.ensures.found c.requires.mode.0 c.requires.images.0 c.requires.mode.1 c.requires.images.1 (datum c.args.x.now) (datum c.args.y.now) n bs cs m (mode_of c.args.s.now) c.requires.mode.2 c.requires.images.2
    c.requires.held.there (subst (λ v. AreLengthened m v n bs cs) c.in_ok-part.ensures c.in_ok-enter_places.ensures.lengthened) (form c.args.f.now) c.args.b c.requires.table.0 c.requires.table.1 c.requires.held.form

pub add_image-requires-clause-images : goal.add_image-requires-clause-images
add_image-requires-clause-images c = λ q w is.
    let m = mode_of c.args.mode.now in
    let n = c.args.instance in
    let bs = c.args.bases.now in
    let cs = c.enter_places.new.bases in
    contents_take c.bases_are_lengthened.ensures.names c.places_are_members.ensures.found c.requires.mode.0 c.requires.images.0 c.requires.mode.1 c.requires.images.1 (datum c.args.x.now) (datum c.args.y.now) n bs cs m (mode_of c.args.s.now) c.requires.mode.2 c.requires.images.2
    c.requires.held.there (subst (λ v. AreLengthened m v n bs cs) c.in_ok-part.ensures c.in_ok-enter_places.ensures.lengthened) (form c.args.f.now) q w c.requires.held.form
    (stays_over c.forms_stay.ensures.kept c.places_are_members.ensures.kept m (datum c.in_ok-part.part) n bs cs (form c.args.f.now) c.in_ok-enter_places.ensures.lengthened c.requires.held.over).0 is

pub add_image-requires-clause-fits : goal.add_image-requires-clause-fits
add_image-requires-clause-fits c = first_image_fits (mode_of c.args.s.now) c.requires.images.0 c.requires.images.1 (datum c.args.y.now) c.requires.images.2 c.requires.images.3

pub add_image-requires-clause-found : goal.add_image-requires-clause-found
add_image-requires-clause-found c =
    let m = mode_of c.args.mode.now in
    let n = c.args.instance in
    let bs = c.args.bases.now in
    let cs = c.enter_places.new.bases in
    added_image_is_found c.bases_are_lengthened.ensures.names c.places_are_members.ensures.found c.requires.mode.0 c.requires.images.0 c.requires.mode.1 c.requires.images.1 (datum c.args.x.now) (datum c.args.y.now) n bs cs m (mode_of c.args.s.now) c.requires.mode.2 c.requires.images.2
    c.requires.held.there (subst (λ v. AreLengthened m v n bs cs) c.in_ok-part.ensures c.in_ok-enter_places.ensures.lengthened)

pub add_image-requires-clause-there : goal.add_image-requires-clause-there
add_image-requires-clause-there c =
    let m = mode_of c.args.mode.now in
    let n = c.args.instance in
    let bs = c.args.bases.now in
    let cs = c.enter_places.new.bases in
    added_bases_are_there c.bases_are_lengthened.ensures.names c.places_are_members.ensures.found c.requires.mode.0 c.requires.images.0 c.requires.mode.1 c.requires.images.1 (datum c.args.x.now) (datum c.args.y.now) n bs cs m (mode_of c.args.s.now) c.requires.mode.2 c.requires.images.2
    c.requires.held.there (subst (λ v. AreLengthened m v n bs cs) c.in_ok-part.ensures c.in_ok-enter_places.ensures.lengthened)

pub returns-clause-refused : goal.returns-clause-refused
returns-clause-refused c = (
  c.take_back.ensures (mode_of c.args.mode.now) (datum c.in_ok-part.part) c.args.instance c.args.bases.now c.in_ok-marks.ensures c.in_ok-enter_places.ensures.lengthened,
  c.in-Err.ensures.refused,
)
