use Rattle.std.proofs.Common.{◌∙◌, sym}
use Rattle.setl_value.specs.code.DatumOf.{datum}
use Rattle.setl_rep_forms.specs.FormOf.{form}
use Rattle.setl_rep_updates.proofs.Cutting.{cuts}
use Rattle.setl_rep_updates.proofs.maps.cut.Goals as goal

pub returns-clause-update : goal.returns-clause-update
returns-clause-update c = λ m n h.
    (cuts c.rising_lists_agree.ensures c.operations_have_their_members.ensures.gather c.parts_decide.ensures.combined c.parts_lengthen_alike.ensures c.contents_stand_for_images.ensures.none c.puts_are_images.ensures.images m n (datum c.args.x.now) c.args.bases.now c.in-Some.b c.in-Some.field-0-1
    (form c.args.f.now) (form c.cut_point.new.f) (sym c.table_of.ensures ∙ c.in-Some.is) h c.in_ok-cut_point.ensures.cut).0

pub returns-clause-lessf : goal.returns-clause-lessf
returns-clause-lessf c = λ m n h.
    (cuts c.rising_lists_agree.ensures c.operations_have_their_members.ensures.gather c.parts_decide.ensures.combined c.parts_lengthen_alike.ensures c.contents_stand_for_images.ensures.none c.puts_are_images.ensures.images m n (datum c.args.x.now) c.args.bases.now c.in-Some.b c.in-Some.field-0-1
    (form c.args.f.now) (form c.cut_point.new.f) (sym c.table_of.ensures ∙ c.in-Some.is) h c.in_ok-cut_point.ensures.cut).1
