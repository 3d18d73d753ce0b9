use Rattle.std.proofs.Common.{◌≡◌, ◌≤◌, ◌+◌, None, ◌∙◌, sym, subst, map, arith, inl, inr}
use Rattle.std.specs.Prelude.{◌⊎◌}
use Rattle.std.proofs.lemmas.Result.{IfOk-weaker}
use Rattle.setl_value.specs.code.Body.{Members}
use Rattle.setl_value.specs.Datum.{elements_depth, elements_of}
use Rattle.setl_value.specs.code.DatumOf.{datum}
use Rattle.setl_value.specs.Order.{IsRising}
use Rattle.setl_set.specs.code.Merge.{IsMerge}
use Rattle.setl_set.proofs.Merging.{merged, merged_whole, is_merge, depth_merged}
use Rattle.setl_set.proofs.Places.{rising_from_set}
use Rattle.setl_set.proofs.merge.merge.Goals.{in_default, in_default-2}
use Rattle.setl_set.proofs.merge.merge.Goals as goal

pub from_rising-requires-clause-rising : goal.from_rising-requires-clause-rising
from_rising-requires-clause-rising c =
    let k = c.args.keep in
    let xs = Members c.args.a.now in
    let ys = Members c.args.b.now in
    let ended : (c.loop-x.x ≡ None) ⊎ (c.loop-x.y ≡ None) = elim c.match-x.branch [ in_default w ↦ inr w.in_default.is-1 | in_default-2 w ↦ inl w.in_default.is-0 ] in
    let whole : map datum c.keep_rest-2.new.kept.items ≡ merged k xs ys =
    merged_whole k c.loop-x.x c.loop-x.y c.loop-x.left c.loop-x.right (map datum c.loop-x.kept.items) (map datum c.keep_rest.new.kept.items) (map datum c.keep_rest-2.new.kept.items) (merged k xs ys) ended c.loop-x.invariant c.in_ok-keep_rest.ensures c.in_ok-keep_rest-2.ensures in
    subst IsRising (sym whole) (is_merge k xs ys (rising_from_set xs c.learn.ensures) (rising_from_set ys c.learn-2.ensures)).rising

pub from_rising-requires-clause-shallow : goal.from_rising-requires-clause-shallow
from_rising-requires-clause-shallow c =
    let k = c.args.keep in
    let xs = Members c.args.a.now in
    let ys = Members c.args.b.now in
    let ended : (c.loop-x.x ≡ None) ⊎ (c.loop-x.y ≡ None) = elim c.match-x.branch [ in_default w ↦ inr w.in_default.is-1 | in_default-2 w ↦ inl w.in_default.is-0 ] in
    let whole : map datum c.keep_rest-2.new.kept.items ≡ merged k xs ys =
    merged_whole k c.loop-x.x c.loop-x.y c.loop-x.left c.loop-x.right (map datum c.loop-x.kept.items) (map datum c.keep_rest.new.kept.items) (map datum c.keep_rest-2.new.kept.items) (merged k xs ys) ended c.loop-x.invariant c.in_ok-keep_rest.ensures c.in_ok-keep_rest-2.ensures in
    subst (λ l. 1 + elements_depth (elements_of l) ≤ 500) (sym whole) (omega (arith, depth_merged k xs ys 499 (omega (arith, c.learn.ensures.1)) (omega (arith, c.learn-2.ensures.1))))

pub returns : goal.returns
returns c =
    let k = c.args.keep in
    let xs = Members c.args.a.now in
    let ys = Members c.args.b.now in
    let ended : (c.loop-x.x ≡ None) ⊎ (c.loop-x.y ≡ None) = elim c.match-x.branch [ in_default w ↦ inr w.in_default.is-1 | in_default-2 w ↦ inl w.in_default.is-0 ] in
    let whole : map datum c.keep_rest-2.new.kept.items ≡ merged k xs ys =
    merged_whole k c.loop-x.x c.loop-x.y c.loop-x.left c.loop-x.right (map datum c.loop-x.kept.items) (map datum c.keep_rest.new.kept.items) (map datum c.keep_rest-2.new.kept.items) (merged k xs ys) ended c.loop-x.invariant c.in_ok-keep_rest.ensures c.in_ok-keep_rest-2.ensures in
    IfOk-weaker c.from_rising.result (λ s. Members s ≡ map datum c.keep_rest-2.new.kept.items) (λ s. IsMerge k xs ys (Members s))
    (λ s e. subst (IsMerge k xs ys) (sym (e ∙ whole)) (is_merge k xs ys (rising_from_set xs c.learn.ensures) (rising_from_set ys c.learn-2.ensures)))
    c.from_rising.ensures.made
