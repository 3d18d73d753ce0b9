use Rattle.std.proofs.lemmas.Result.{IfOk-weaker}
use Rattle.setl_explain_next.proofs.Faults.{elsewhere, there, goes_on, ends}
use Rattle.setl_explain_next.proofs.trying.list_goes_on.Goals as goal

pub returns-in-Ok-clause-yes : goal.returns-in-Ok-clause-yes
returns-in-Ok-clause-yes c e = goes_on c.args.list.now c.args.place c.requires (λ stop f at. c.one_fault.ensures.none c.args.list.now _ stop c.in-Ok.ensures.derives f)

pub returns-clause-yes : goal.returns-clause-yes
returns-clause-yes c =
    IfOk-weaker c.stands_elsewhere.result _ _ (λ b h e. goes_on c.args.list.now c.args.place c.requires (elsewhere c.args.list.now c.in-Err.fault c.args.place c.one_fault.ensures.unique (c.in-Err.ensures.fault h.0) (h.1 e))) c.stands_elsewhere.ensures

pub returns-clause-no : goal.returns-clause-no
returns-clause-no c =
    IfOk-weaker c.stands_elsewhere.result _ _ (λ b h e. ends c.args.list.now c.args.place c.requires c.lexing_is_determined.ensures.one_spelling (there c.args.list.now c.in-Err.fault c.args.place (c.in-Err.ensures.fault h.0) (h.2 e))) c.stands_elsewhere.ensures
