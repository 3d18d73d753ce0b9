use Rattle.std.proofs.Common.{IfSome, subst}
use Rattle.std.proofs.lemmas.Result.{IfOk-weaker}
use Rattle.setl_rep_forms.specs.FormOf.{form}
use Rattle.setl_rep_maps.specs.Contents.{IsDomain}
use Rattle.setl_rep.proofs.ReadyMaps.{covers}
use Rattle.setl_rep.proofs.own_map.points.Goals as goal

pub returns : goal.returns
returns c =
    let f = form c.args.f.now in
    IfOk-weaker c.numbers_of.result _ _ (λ ns has. covers f (form c.in-Some.g) ns.items (subst (λ o. IfSome o (λ h. IsDomain f (form h))) c.in-Some.is c.in_ok-g.ensures.form) has) c.numbers_of.ensures
