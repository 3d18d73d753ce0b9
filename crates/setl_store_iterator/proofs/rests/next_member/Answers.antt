use Rattle.std.proofs.Common.{◌∷◌, ap, sym, ◌∙◌, drop, Some}
use Rattle.setl_value.specs.code.Body.{Members}
use Rattle.setl_value.specs.code.DatumOf.{datum}
use Rattle.setl_model.specs.Core.{One}
use Rattle.setl_model.specs.Iterations.{members}
use Rattle.setl_store_iterator.proofs.Lists.{drop_at}
use Rattle.setl_store_iterator.proofs.rests.next_member.Goals as goal

pub returns-clause-first : goal.returns-clause-first
returns-clause-first c =
    let ds = Members c.args.s.now in
    let i = c.args.at.now.index in
    let j = c.after.result.index in
    ap members (drop_at ds i j (datum c.member_at.result.now) c.after.ensures.index c.member_at.ensures)
    ∙ ap (λ v. One (Some (datum v)) ∷ members (drop j ds)) (sym c.in_ok-member.ensures.same)
