use Rattle.std.proofs.Common.{◌≡◌, ◌∙◌, ◌-◌, ap, sym, arith, FitsSigned}
use Rattle.std.specs.Int.{w128}
use Rattle.std.proofs.lemmas.Int.{to_z-of_z}
use Rattle.std.specs.Prelude.{unsigned_abs}
use Rattle.setl_value.specs.code.DatumOf.{part}
use Rattle.setl_tuple.specs.Tuples.{index_of, put_of}
use Rattle.setl_tuple.proofs.Depths.{greatest-put}
use Rattle.setl_tuple.proofs.Puts.{put_inside, put_om_past}
use Rattle.setl_tuple.proofs.Trimmed.{trimmed_tuple}
use Rattle.setl_tuple.proofs.components.put.Goals as goal

pub put_at-requires-clause-shallow : goal.put_at-requires-clause-shallow
put_at-requires-clause-shallow c =
    omega (arith, greatest-put c.args.t.now (c.unsigned_abs-index.result - 1) (part c.args.v), c.component_depth.ensures.value, c.component_depth.ensures.bound, c.if-component_depth-eq-MOST_DEPTH.false, c.learn.ensures.1)

pub returns-then-index-len-clause-put : goal.returns-then-index-len-clause-put
returns-then-index-len-clause-put c =
    let t = c.args.t.now in
    let p = part c.args.v in
    let i : FitsSigned w128 c.args.i = c.ranges.i in
    let size : c.unsigned_abs-index.result ≡ unsigned_abs c.args.i = simp to_z-of_z at c.unsigned_abs-index.ensures.value in
    c.in_ok-put_at.ensures.put ∙ put_inside t (c.unsigned_abs-index.result - 1) p (omega (arith, c.if-index-len.true, c.len.ensures)) ∙ ap (λ n. put_of t (n - 1) p) size

pub returns-in-None-clause-put : goal.returns-in-None-clause-put
returns-in-None-clause-put c =
    let t = c.args.t.now in
    let i : FitsSigned w128 c.args.i = c.ranges.i in
    let size : c.unsigned_abs-index.result ≡ unsigned_abs c.args.i = simp to_z-of_z at c.unsigned_abs-index.ensures.value in
    put_om_past t (index_of c.args.i) (trimmed_tuple t c.learn.ensures) (omega (arith, size, c.if-index-len.false, c.len.ensures))
    ∙ ap (λ v. put_of t (index_of c.args.i) (part v)) (sym c.in-None.is)
