use Rattle.std.proofs.Common.{◌≡◌, true, sym, subst}
use Rattle.setl_value.specs.code.DatumOf.{datum}
use Rattle.setl_modes.specs.Modes.{mode_of}
use Rattle.setl_modes.specs.Fits.{datum_fits}
use Rattle.setl_rep_bases.specs.Bases.{named}
use Rattle.setl_rep_forms.specs.FormOf.{form}
use Rattle.setl_rep_entering.specs.Entering.{AreLengthened}
use Rattle.setl_rep_updates.proofs.Including.{stays_over}
use Rattle.setl_rep_updates.proofs.Imaging.{part_tests, put_tests, pair_fits, base_of_points, point_is_found, image_is_found}
use Rattle.setl_rep_updates.proofs.maps.enter_pair.Goals as goal

pub enter_places-requires-clause-fits : goal.enter_places-requires-clause-fits
enter_places-requires-clause-fits c =
    let m = mode_of c.args.mode.now in
    let a = c.requires.mode.0 in
    let d = c.requires.mode.1 in
    let r = mode_of c.args.r.now in
    let x = datum c.args.x.now in
    let y = datum c.args.y.now in
    let tests = put_tests m a d r (form c.args.f.now) x y c.requires.mode.2 c.requires.taken in
    subst (λ v. datum_fits m v ≡ true) (sym c.in_ok-part.ensures) (pair_fits m a d r x y c.requires.mode.2 (part_tests d x tests.0).1 (part_tests r y tests.1).1)

pub put_image-requires-clause-over : goal.put_image-requires-clause-over
put_image-requires-clause-over c =
    (stays_over c.forms_stay.ensures.kept c.places_are_members.ensures.kept (mode_of c.args.mode.now) (datum c.in_ok-part.part) c.args.instance c.args.bases.now c.enter_places.new.bases (form c.args.f.now) c.in_ok-enter_places.ensures.lengthened c.requires.held.over).0

pub put_image-requires-clause-point : goal.put_image-requires-clause-point
put_image-requires-clause-point c =
    let m = mode_of c.args.mode.now in
    let a = c.requires.mode.0 in
    let d = c.requires.mode.1 in
    let r = mode_of c.args.r.now in
    let n = c.args.instance in
    let bs = c.args.bases.now in
    let cs = c.enter_places.new.bases in
    point_is_found c.bases_are_lengthened.ensures.names c.places_are_members.ensures.found m a d r (datum c.args.x.now) (datum c.args.y.now) n bs cs c.args.b c.requires.mode.2
    (base_of_points (named bs n) m a d r (form c.args.f.now) c.args.b c.requires.table.0 c.requires.mode.2 c.requires.table.1 c.requires.held.form) c.requires.held.there
    (subst (λ v. AreLengthened m v n bs cs) c.in_ok-part.ensures c.in_ok-enter_places.ensures.lengthened)

pub put_image-requires-clause-found : goal.put_image-requires-clause-found
put_image-requires-clause-found c =
    let m = mode_of c.args.mode.now in
    let n = c.args.instance in
    let bs = c.args.bases.now in
    let cs = c.enter_places.new.bases in
    image_is_found c.places_are_members.ensures.found m c.requires.mode.0 c.requires.mode.1 (mode_of c.args.r.now) (datum c.args.x.now) (datum c.args.y.now) n bs cs c.requires.mode.2 c.requires.held.there
    (subst (λ v. AreLengthened m v n bs cs) c.in_ok-part.ensures c.in_ok-enter_places.ensures.lengthened)

pub returns-clause-refused : goal.returns-clause-refused
returns-clause-refused c = (
  c.take_back.ensures (mode_of c.args.mode.now) (datum c.in_ok-part.part) c.args.instance c.args.bases.now c.in_ok-marks.ensures c.in_ok-enter_places.ensures.lengthened,
  c.in-Err.ensures.refused,
)
