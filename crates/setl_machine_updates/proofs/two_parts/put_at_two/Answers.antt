use Rattle.std.proofs.Common.{Some, Ok}
use Rattle.std.proofs.lemmas.Result.{IfOk-weaker}
use Rattle.setl_value.specs.code.DatumOf.{datum}
use Rattle.setl_machine_updates.proofs.Inside.{at_these}
use Rattle.setl_machine_updates.proofs.two_parts.put_at_two.Goals as goal

pub returns-clause-put : goal.returns-clause-put
returns-clause-put c =
    IfOk-weaker c.put_in_part.result _ _
    (λ done h t turns. at_these _ _ _ _ (Some (datum c.args.whole.now)) (Some (datum c.args.new.now)) (Some (datum c.put_in_part.new.whole)) turns (Ok turns) c.in-Some.ensures c.in-Some-at_round.ensures (h t turns))
    c.put_in_part.ensures.put
