use Rattle.std.proofs.Common.{◌∙◌, ap, arith, FitsSigned}
use Rattle.std.specs.Int.{w128}
use Rattle.std.proofs.lemmas.Int.{to_z-of_z}
use Rattle.setl_value.specs.WellFormed.{trim}
use Rattle.setl_value.specs.Copies.{copies}
use Rattle.setl_tuple.proofs.Depths.{greatest, greatest-copies}
use Rattle.setl_tuple.proofs.Puts.{repeat_is}
use Rattle.setl_tuple.proofs.Trimmed.{trimmed_tuple, trimmed-copies, trim-trimmed}
use Rattle.setl_tuple.proofs.lists.repeat.Goals as goal

pub of-requires : goal.of-requires
of-requires c =
    record { shallow = omega (arith, ap greatest c.in_ok-parts.ensures, greatest-copies c.unsigned_abs.result c.args.a.now, c.learn.ensures.1) }

pub returns-clause-copied : goal.returns-clause-copied
returns-clause-copied c =
    let a = c.args.a.now in
    let k = c.unsigned_abs.result in
    let n : FitsSigned w128 c.args.n = c.ranges.n in
    repeat_is a c.in_ok-of.field-0 c.args.n k (simp to_z-of_z at c.unsigned_abs.ensures.value) (simp to_z-of_z at c.if-n-lt0.false)
    (c.in_ok-of.ensures.trimmed ∙ ap trim c.in_ok-parts.ensures ∙ trim-trimmed (copies k a) (trimmed-copies k a (trimmed_tuple a c.learn.ensures)))
