use Rattle.std.proofs.Common.{◌∙◌, ap, arith, Some}
use Rattle.setl_value.specs.code.DatumOf.{datum}
use Rattle.setl_value.specs.WellFormed.{put, trim}
use Rattle.setl_tuple.proofs.Depths.{greatest-put}
use Rattle.setl_tuple.proofs.Puts.{put_end}
use Rattle.setl_tuple.proofs.Trimmed.{trimmed_tuple}
use Rattle.setl_tuple.proofs.components.with.Goals as goal

pub put_at-requires-clause-shallow : goal.put_at-requires-clause-shallow
put_at-requires-clause-shallow c =
    omega (arith, greatest-put c.args.t.now c.len.result (Some (datum c.args.v)), c.learn.ensures.1, c.learn-2.ensures.1, c.depth.ensures, c.if-depth-eq-MOST_DEPTH.false)

pub returns-clause-added : goal.returns-clause-added
returns-clause-added c =
    let t = c.args.t.now in
    let d = datum c.args.v in
    c.in_ok-put_at.ensures.put ∙ ap (λ n. trim (put t n (Some d))) c.len.ensures ∙ put_end t d (trimmed_tuple t c.learn-2.ensures)
