use Rattle.std.proofs.Common.{◌∙◌, true, sym, ap, option_and_then}
use Rattle.setl_value.specs.code.DatumOf.{datum}
use Rattle.setl_set.specs.Sets.{has_datum}
use Rattle.setl_rep_forms.specs.FormOf.{form}
use Rattle.setl_rep_forms.specs.Stands.{stands}
use Rattle.setl_rep_tables.specs.Tables.{images_of}
use Rattle.setl_rep_maps.specs.code.Lent.{lent_form}
use Rattle.setl_rep_updates.proofs.Removing.{nothing_cut}
use Rattle.setl_rep_updates.proofs.images.cut_at.Goals as goal

pub returns-then-not-has_member-clause-cut : goal.returns-then-not-has_member-clause-cut
returns-then-not-has_member-clause-cut c =
    let bs = c.args.bases.now in
    let y = datum c.args.y.now in
    nothing_cut bs c.args.number y (form c.args.f.now) c.requires.table c.requires.images
    (ap (λ o. has_datum y (images_of true (option_and_then (stands bs) o))) (sym c.content.ensures ∙ ap lent_form c.in-Some.is) ∙ sym c.has_member.ensures.has ∙ c.if-not-has_member.true)
