use Rattle.std.proofs.Common.{◌≡◌, ◌∙◌, Some, sym, ap, subst}
use Rattle.setl_value.specs.code.DatumOf.{datum}
use Rattle.setl_base.specs.Base.{find}
use Rattle.setl_rep_bases.specs.Bases.{base_at, with_entered}
use Rattle.setl_rep_forms.specs.FormOf.{form}
use Rattle.setl_rep_entering.specs.Entering.{AreLengthened}
use Rattle.setl_rep_updates.proofs.Including.{element_in, numbers_there}
use Rattle.setl_rep_updates.proofs.sets.enter_and_put.Goals as goal

pub returns-in-Ok-clause-put : goal.returns-in-Ok-clause-put
returns-in-Ok-clause-put c =
    let bs = c.args.bases.now in
    let b = c.args.b in
    let d = datum c.args.x.now in
    let own = ap datum c.in_ok-copy.ensures.same in
    let found : find (base_at c.enter.new.self b) d ≡ Some c.in_ok-e.e = ap (find (base_at c.enter.new.self b)) (sym own) ∙ c.in_ok-e.ensures.handle in
    λ m n on. record {
      lengthened = subst (AreLengthened m d n bs) (sym (c.in_ok-e.ensures.entered ∙ ap (with_entered bs b) own)) (element_in c.elements_are_entered.ensures.entered m n d bs b (numbers_there bs b (form c.args.s.now) c.requires.numbers c.requires.over) on);
      value = λ left. c.in-Ok.ensures.value d left found;
      over = c.put_member.ensures.over;
      shallow = c.put_member.ensures.shallow;
      alike = c.put_member.ensures.alike;
    }
