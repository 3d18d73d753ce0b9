use Rattle.std.proofs.Common.{[], ◌∷◌, subst, arith}
use Rattle.std.proofs.lemmas.Option.{IfSome_then}
use Rattle.std.proofs.lemmas.Result.{IfOk-weaker}
use Rattle.setl_value.specs.code.DatumOf.{part}
use Rattle.setl_operators_table.specs.Operators.{op_of}
use Rattle.setl_machine_updates.specs.Updates.{Updates}
use Rattle.setl_machine_updates.proofs.Inside.{combine_two}
use Rattle.setl_machine_updates.proofs.two_parts.combine_inside.Goals as goal

pub returns-clause-updated : goal.returns-clause-updated
returns-clause-updated c =
    IfOk-weaker c.combine_at_both.result _ _
    (λ o h. IfSome_then o h (λ r u. subst (λ q. Updates q c.args.turns (part c.combine_at_both.new.whole) r)
    (combine_two c.args.at.now c.index-at-0.result c.index-at-1.result (part c.args.whole.now) (λ p now. op_of c.args.what (p ∷ part c.args.new.now ∷ []) now) c.args.turns (omega (arith, c.if-at-ne2.false)) c.index-at-0.is c.index-at-1.is) u))
    c.combine_at_both.ensures.updated
