use Rattle.std.proofs.Common.{◌≤◌, ◌+◌, ◌∙◌, arith, sym, subst}
use Rattle.setl_value.specs.code.Body.{Members}
use Rattle.setl_value.specs.Datum.{elements_depth, elements_of}
use Rattle.setl_value.specs.code.DatumOf.{datum}
use Rattle.setl_value.specs.Order.{IsRising}
use Rattle.setl_value.specs.code.Places.{rank}
use Rattle.setl_set.proofs.Places.{rising_from_set, inserted, insert_there, there, depth_insert}
use Rattle.setl_set.proofs.Results.{rising_insert}
use Rattle.setl_set.proofs.member.with.Goals as goal

pub put_in-requires-clause-rising : goal.put_in-requires-clause-rising
put_in-requires-clause-rising c =
    let ds = Members c.args.s.now in
    let d = datum c.args.v in
    subst IsRising (sym (inserted d ds (rank c.args.s.now c.in-Err.place) c.in-Err.ensures.absent)) (rising_insert d ds (rising_from_set ds c.learn-2.ensures))

pub put_in-requires-clause-shallow : goal.put_in-requires-clause-shallow
put_in-requires-clause-shallow c =
    let ds = Members c.args.s.now in
    let d = datum c.args.v in
    subst (λ l. 1 + elements_depth (elements_of l) ≤ 500) (sym (inserted d ds (rank c.args.s.now c.in-Err.place) c.in-Err.ensures.absent))
    (omega (arith, depth_insert d ds 499 (omega (arith, c.depth.ensures, c.learn.ensures.1, c.if-depth-eq500.false)) (omega (arith, c.learn-2.ensures.1))))

pub returns-in-Ok-clause-added : goal.returns-in-Ok-clause-added
returns-in-Ok-clause-added c =
    let ds = Members c.args.s.now in
    let d = datum c.args.v in
    sym (insert_there d ds (rising_from_set ds c.learn-2.ensures) (there ds (rank c.args.s.now c.in-Ok.field-0) d c.in-Ok.ensures.found))

pub returns-in_ok-put_in-in-Err-clause-added : goal.returns-in_ok-put_in-in-Err-clause-added
returns-in_ok-put_in-in-Err-clause-added c =
    let ds = Members c.args.s.now in
    c.in_ok-put_in-in-Err.ensures.put ∙ inserted (datum c.args.v) ds (rank c.args.s.now c.in-Err.place) c.in-Err.ensures.absent
