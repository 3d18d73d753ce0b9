use Rattle.std.proofs.Common.{◌≡◌, ◌∙◌, ap, sym, subst, OnOk}
use Rattle.setl_value.specs.code.Body.{Members}
use Rattle.setl_value.specs.code.DatumOf.{datum}
use Rattle.setl_set.specs.Sets.{insert_datum, union_of}
use Rattle.setl_set.proofs.BySearch.{alone, union_one}
use Rattle.setl_set.proofs.Places.{rising_from_set}
use Rattle.setl_set.proofs.in_place.unite.Goals as goal

pub returns-then-len-eq1-clause-united : goal.returns-then-len-eq1-clause-united
returns-then-len-eq1-clause-united c =
    let xs = Members c.args.a.now in
    let ys = Members c.args.b.now in
    let d = datum c.at.result.now in
    let e : insert_datum d xs ≡ union_of xs ys = union_one d xs (rising_from_set xs c.learn.ensures) ∙ ap (union_of xs) (sym (alone ys d (sym c.len.ensures ∙ c.if-len-eq1.true) c.at.ensures.member)) in
    subst (λ l. OnOk c.add.result (Members c.add.new.s ≡ l)) e c.add.ensures.added
