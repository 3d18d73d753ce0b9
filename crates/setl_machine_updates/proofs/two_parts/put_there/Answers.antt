use Rattle.std.proofs.Common.{◌∙◌, ap, sym, subst, Some, Ok, arith}
use Rattle.std.proofs.lemmas.Result.{IfOk-weaker}
use Rattle.setl_value.specs.code.DatumOf.{datum, part}
use Rattle.setl_machine_updates.specs.Updates.{Updates}
use Rattle.setl_machine_updates.proofs.Inside.{put_in_two}
use Rattle.setl_machine_updates.proofs.two_parts.put_there.Goals as goal

pub returns-clause-put : goal.returns-clause-put
returns-clause-put c =
    IfOk-weaker c.put_at_both.result _ _
    (λ done h t turns. subst (λ o. Updates o turns (part c.put_at_both.new.whole) (Ok turns)) (put_in_two c.args.at.now c.index-at-0.result c.index-at-1.result (part c.args.whole.now) (part c.args.new.now) turns (omega (arith, c.if-at-ne2.false)) c.index-at-0.is c.index-at-1.is) (h t turns))
    c.put_at_both.ensures.put
