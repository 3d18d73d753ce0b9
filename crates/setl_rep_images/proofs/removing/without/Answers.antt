use Rattle.std.proofs.Common.{◌∙◌, sym}
use Rattle.setl_value.specs.code.DatumOf.{datum}
use Rattle.setl_rep_forms.specs.FormOf.{form}
use Rattle.setl_rep_images.proofs.Removed.{is_without}
use Rattle.setl_rep_images.proofs.removing.without.Goals as goal

pub returns : goal.returns
returns c =
    is_without c.rising_lists_agree.ensures c.operations_have_their_members.ensures.gather c.contents_stand_for_images.ensures.none c.puts_are_images.ensures.images
    c.args.bases.now (datum c.args.x.now) c.in-Some.b c.in-Some.field-0-1 (form c.args.f) (form c.take_out.new.f) (sym c.table_of.ensures ∙ c.in-Some.is) c.requires.over c.in_ok-take_out.ensures.taken
