use Rattle.std.proofs.Common.{◌≡◌, subst}
use Rattle.setl_value.specs.code.DatumOf.{datum}
use Rattle.setl_modes.specs.Modes.{mode_of}
use Rattle.setl_rep_bases.specs.Bases.{named}
use Rattle.setl_rep_forms.specs.FormOf.{form}
use Rattle.setl_rep_building.specs.HasForm.{HasForm}
use Rattle.setl_rep.proofs.conversion.entered.Goals as goal

pub in_form-requires-clause-found : goal.in_form-requires-clause-found
in_form-requires-clause-found c =
    (c.places_are_members.ensures.found (mode_of c.args.mode.now) (datum c.args.v.now) c.args.instance c.args.bases.now c.enter_places.new.bases c.requires.there c.in_ok-enter_places.ensures.lengthened).1

pub in_form-requires-clause-there : goal.in_form-requires-clause-there
in_form-requires-clause-there c =
    (c.places_are_members.ensures.found (mode_of c.args.mode.now) (datum c.args.v.now) c.args.instance c.args.bases.now c.enter_places.new.bases c.requires.there c.in_ok-enter_places.ensures.lengthened).0

pub take_back-requires : goal.take_back-requires
take_back-requires c =
    (mode_of c.args.mode.now, datum c.args.v.now, c.args.instance, c.args.bases.now, c.in_ok-marks.ensures, c.in_ok-enter_places.ensures.lengthened)

pub returns-in-Ok-clause-form : goal.returns-in-Ok-clause-form
returns-in-Ok-clause-form c =
    let same : named c.enter_places.new.bases c.args.instance ≡ named c.args.bases.now c.args.instance =
    (λ i b. c.bases_are_lengthened.ensures.names (mode_of c.args.mode.now) (datum c.args.v.now) c.args.instance c.args.bases.now c.enter_places.new.bases c.in_ok-enter_places.ensures.lengthened c.args.instance b i)
    in
    subst (λ name. HasForm name (mode_of c.args.mode.now) (form c.in-Ok.h)) same c.in-Ok.ensures.form

pub returns-in-Err-clause-refused : goal.returns-in-Err-clause-refused
returns-in-Err-clause-refused c =
    c.take_back.ensures (mode_of c.args.mode.now) (datum c.args.v.now) c.args.instance c.args.bases.now c.in_ok-marks.ensures c.in_ok-enter_places.ensures.lengthened
