use Rattle.std.proofs.Common.{rules}
use Rattle.std.proofs.lemmas.Result.{on_ok_weaker}
use Rattle.setl_value.specs.code.DatumOf.{datum}
use Rattle.setl_rep_forms.specs.FormOf.{form}
use Rattle.setl_rep_updates.proofs.Adding.{at_some}
use Rattle.setl_rep_updates.proofs.Removing.{one_cut}
use Rattle.setl_rep_updates.proofs.images.cut_member.Goals as goal

pub returns-in-Some-clause-cut : goal.returns-in-Some-clause-cut
returns-in-Some-clause-cut c =
    let k = at_some _ c.in_ok-done.field-0 c.in-Some.done c.in-Some.is c.in_ok-done.ensures.changed in
    on_ok_weaker c.in-Some.done
    (λ w. one_cut c.args.bases.now c.args.number (datum c.args.y.now) (form c.args.f.now) (form c.change_content.new.map) (form k.before) (form k.after) k.was c.requires.several w k.put) (search rules)
