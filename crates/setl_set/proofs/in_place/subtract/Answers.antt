use Rattle.std.proofs.Common.{◌≡◌, ◌∙◌, ap, sym, subst, OnOk}
use Rattle.setl_value.specs.code.Body.{Members}
use Rattle.setl_value.specs.code.DatumOf.{datum}
use Rattle.setl_set.specs.Sets.{remove_datum, minus_of}
use Rattle.setl_set.proofs.BySearch.{alone, minus_one}
use Rattle.setl_set.proofs.in_place.subtract.Goals as goal

pub returns-then-len-eq1-clause-subtracted : goal.returns-then-len-eq1-clause-subtracted
returns-then-len-eq1-clause-subtracted c =
    let xs = Members c.args.a.now in
    let ys = Members c.args.b.now in
    let d = datum c.at.result.now in
    let e : remove_datum d xs ≡ minus_of xs ys = minus_one d xs ∙ ap (minus_of xs) (sym (alone ys d (sym c.len.ensures ∙ c.if-len-eq1.true) c.at.ensures.member)) in
    subst (λ l. OnOk c.less.result (Members c.less.new.s ≡ l)) e c.less.ensures.removed
