use Rattle.std.proofs.Common.{◌∙◌, sym}
use Rattle.setl_value.specs.code.DatumOf.{datum}
use Rattle.setl_modes.specs.Modes.{mode_of}
use Rattle.setl_rep_forms.specs.FormOf.{form}
use Rattle.setl_rep_updates.proofs.Removing.{contents_are_sets, image_is_cut}
use Rattle.setl_rep_updates.proofs.images.exclude_image.Goals as goal

pub cut_image-requires-clause-images : goal.cut_image-requires-clause-images
cut_image-requires-clause-images c = contents_are_sets (mode_of c.args.mode.now) c.requires.0 c.args.bases.now (form c.args.f.now) (sym c.has_image_sets.ensures ∙ c.if-not-has_image_sets.false) c.requires.1

pub returns-clause-update : goal.returns-clause-update
returns-clause-update c = λ n h.
    image_is_cut c.rising_lists_agree.ensures c.tests_are_exact.ensures.membership c.operations_have_their_members.ensures.remove c.operations_have_their_members.ensures.gather c.operations_have_their_members.ensures.union c.images_are_by_pairs.ensures c.parts_decide.ensures.combined
    c.contents_stand_for_images.ensures.images c.contents_stand_for_images.ensures.none c.puts_are_images.ensures.images c.parts_lengthen_alike.ensures (mode_of c.args.mode.now) n (datum c.args.x.now) (datum c.args.y.now) c.args.bases.now c.in-Some.b c.in-Some.field-0-1 (form c.args.f.now) (form c.cut_image.new.f)
    (sym c.has_image_sets.ensures ∙ c.if-not-has_image_sets.false) (sym c.table_of.ensures ∙ c.in-Some.is) h c.in_ok-cut_image.ensures.cut
