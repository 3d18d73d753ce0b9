use Rattle.std.proofs.Common.{◌∙◌, sym, ap}
use Rattle.std.specs.Option.{is_some}
use Rattle.setl_value.specs.code.DatumOf.{datum}
use Rattle.setl_modes.specs.Modes.{mode_of}
use Rattle.setl_rep_forms.specs.FormOf.{form}
use Rattle.setl_rep_updates.proofs.Adding.{update_of_added}
use Rattle.setl_rep_updates.proofs.images.include_in.Goals as goal

pub returns-clause-update : goal.returns-clause-update
returns-clause-update c =
    update_of_added c.operations_have_their_members.ensures.gather c.images_are_shallower.ensures c.parts_decide.ensures.images c.parts_decide.ensures.set_puts c.forms_stay.ensures.kept c.contents_stand_for_images.ensures.images c.puts_are_images.ensures.images c.images_make_pairs.ensures
    c.places_are_members.ensures.kept c.places_are_members.ensures.found c.parts_lengthen_alike.ensures c.forms_of_modes_stay.ensures c.requires.mode.0 c.requires.images.0 (mode_of c.args.d.now) (mode_of c.args.k.now) c.args.instance (datum c.args.x.now) (datum c.args.y.now) c.learn.ensures c.learn-2.ensures
    (sym c.in_ok-is_part.ensures ∙ c.if-not-branch.false) (sym c.in_ok-is_part-2.ensures ∙ c.if-not-branch-2.false) c.args.bases.now c.include_pair.new.bases (mode_of c.args.mode.now) (mode_of c.args.s.now) (form c.args.f.now) (form c.include_pair.new.f)
    c.requires.mode.1 c.requires.images.1 (ap is_some (sym c.table_of.ensures ∙ c.in-Some.is)) c.requires.held c.in_ok-include_pair.ensures.lengthened c.in_ok-include_pair.ensures.added
