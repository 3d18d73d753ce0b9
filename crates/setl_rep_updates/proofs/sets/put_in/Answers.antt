use Rattle.std.proofs.Common.{◌≡◌, ◌∙◌, Some, sym, ap}
use Rattle.std.proofs.lemmas.Result.{on_ok_weaker}
use Rattle.setl_value.specs.code.DatumOf.{datum}
use Rattle.setl_base.specs.Base.{find}
use Rattle.setl_rep_bases.specs.Bases.{base_at}
use Rattle.setl_rep_forms.specs.FormOf.{form}
use Rattle.setl_rep_updates.proofs.Including.{member_in}
use Rattle.setl_rep_updates.proofs.sets.put_in.Goals as goal

pub returns-in-Some-clause-put : goal.returns-in-Some-clause-put
returns-in-Some-clause-put c =
    let bs = c.args.bases.now in
    let b = c.args.b in
    let d = datum c.args.x.now in
    let e = c.in-Some.e in
    let found : find (base_at bs b) d ≡ Some e = ap (λ z. find z d) (sym c.at.ensures.base) ∙ sym c.find.ensures.handle ∙ c.in-Some.is in
    on_ok_weaker c.put_member.result
    (λ value. λ m n on. member_in c.places_are_members.ensures.already m n d bs b e (form c.args.s.now) (form c.put_member.new.s) on found (λ left. value d left found) c.put_member.ensures.over c.put_member.ensures.shallow c.put_member.ensures.alike)
    c.put_member.ensures.value
