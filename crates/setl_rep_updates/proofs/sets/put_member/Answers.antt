use Rattle.setl_rep_forms.specs.FormOf.{form, of_element}
use Rattle.setl_rep_updates.proofs.Including.{living, member_is_put, numbers_there}
use Rattle.setl_rep_updates.proofs.sets.put_member.Goals as goal

pub change-requires-clause-element : goal.change-requires-clause-element
change-requires-clause-element c =
    let bs = c.args.bases.now in
    let b = c.args.b in
    living bs b c.args.e _ (of_element b c.args.e) (numbers_there bs b (form c.args.s.now) c.requires.numbers c.requires.over) c.requires.found

pub returns-in-Ok-clause-value : goal.returns-in-Ok-clause-value
returns-in-Ok-clause-value c =
    let b = c.args.b in
    let e = c.args.e in
    λ d left found. member_is_put c.args.bases.now b e d (form c.args.s.now) (form c.change.new.s) _ c.change.result c.in-Ok.field-0 c.requires.numbers (of_element b e) found c.in-Ok.is c.change.ensures.kernel c.change.ensures.value left
