use Rattle.std.proofs.Common.{◌≡◌, ◌+◌, ◌∙◌, ap, arith, subst, map, take, drop}
use Rattle.setl_value.specs.code.DatumOf.{part}
use Rattle.setl_value.specs.WellFormed.{trim}
use Rattle.setl_value.proofs.Fronts.{deep_of, drop_take, take_less}
use Rattle.setl_value.proofs.tuples.trim_end.Goals as goal

pub returns-clause-trimmed : goal.returns-clause-trimmed
returns-clause-trimmed c =
    let s = c.args.start in
    let n = c.kept-n.result in
    let xs = c.args.list.now.items in
    let rest : c.from.result.now ≡ drop s xs = c.from.ensures ∙ ap (drop s) c.as_slice.ensures.value in
    ap (λ l. map part (drop s l)) c.truncate.ensures.items ∙ ap (map part) (drop_take s n xs)
    ∙ subst (λ l. map part (take n l) ≡ trim (map part l)) rest c.kept-n.ensures.trimmed

pub returns-clause-shallow : goal.returns-clause-shallow
returns-clause-shallow c = omega (arith, ap deep_of c.truncate.ensures.items, take_less (c.args.start + c.kept-n.result) c.args.list.now.items)
