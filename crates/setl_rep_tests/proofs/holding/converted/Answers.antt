use Rattle.setl_modes.specs.Modes.{mode_of}
use Rattle.setl_rep_plain.specs.Standing.{held_value}
use Rattle.setl_rep_tests.proofs.Keeping.{are_in_form, stays_after}
use Rattle.setl_rep_tests.proofs.holding.converted.Goals as goal

pub returns-clause-held : goal.returns-clause-held
returns-clause-held c =
    (are_in_form c.places_are_members.ensures.found c.bases_are_lengthened.ensures.names (mode_of c.args.mode.now) (held_value c.args.bases.now c.args.h.now) c.args.bases.now c.convert.new.bases c.convert.result
    c.requires.there c.requires.value c.convert.ensures.lengthened c.convert.ensures.over c.convert.ensures.stands c.convert.ensures.form c.convert.ensures.fits).0

pub returns-clause-over : goal.returns-clause-over
returns-clause-over c =
    (are_in_form c.places_are_members.ensures.found c.bases_are_lengthened.ensures.names (mode_of c.args.mode.now) (held_value c.args.bases.now c.args.h.now) c.args.bases.now c.convert.new.bases c.convert.result
    c.requires.there c.requires.value c.convert.ensures.lengthened c.convert.ensures.over c.convert.ensures.stands c.convert.ensures.form c.convert.ensures.fits).1

pub returns-clause-value : goal.returns-clause-value
returns-clause-value c =
    (are_in_form c.places_are_members.ensures.found c.bases_are_lengthened.ensures.names (mode_of c.args.mode.now) (held_value c.args.bases.now c.args.h.now) c.args.bases.now c.convert.new.bases c.convert.result
    c.requires.there c.requires.value c.convert.ensures.lengthened c.convert.ensures.over c.convert.ensures.stands c.convert.ensures.form c.convert.ensures.fits).2

pub returns-clause-stays : goal.returns-clause-stays
returns-clause-stays c =
    stays_after c.places_are_members.ensures.kept c.forms_stay.ensures.kept (mode_of c.args.mode.now) (held_value c.args.bases.now c.args.h.now) c.args.bases.now c.convert.new.bases c.convert.result
    c.convert.ensures.lengthened c.convert.ensures.refused
