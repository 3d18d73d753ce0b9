use Rattle.std.proofs.Common.{◌≡◌, ◌-◌, ◌+◌, List, [], get_or, Some, sym, ap, ◌∙◌, arith}
use Rattle.setl_code.specs.Shapes.{Shape}
use Rattle.setl_image_shapes.specs.Runs.{without, is_level, plain_kind}
use Rattle.setl_image_shapes.proofs.Popping.{pops_nothing, pops_empty, pops_other, pops_run, pops_some, differ, same_truth}
use Rattle.setl_image_shapes.proofs.stacks.Stacks.without.Goals as goal

pub returns-in_default-clause-found : goal.returns-in_default-clause-found
returns-in_default-clause-found c =
    ap (λ (st : List Shape). without c.args.level c.args.count (get_or st c.args.number [])) (sym c.runs.invariant.unchanged)
    ∙ sym c.runs.invariant.same
    ∙ pops_empty c.args.level c.runs.left (get_or c.runs.self c.runs.at []) c.runs-test.true c.in_default.ensures.1

pub returns-then-is_level-level-clause-found : goal.returns-then-is_level-level-clause-found
returns-then-is_level-level-clause-found c =
    let r = c.in-Some.run' in
    ap (λ (st : List Shape). without c.args.level c.args.count (get_or st c.args.number [])) (sym c.runs.invariant.unchanged)
    ∙ sym c.runs.invariant.same
    ∙ pops_other c.args.level c.is_level.result (plain_kind r.kind) c.runs.left r.count (get_or c.runs.self c.runs.at []) (get_or c.runs.self r.below []) (sym c.is_level.ensures) (differ c.is_level.result c.args.level c.if-is_level-level.true) c.runs-test.true c.in-Some.ensures.0 c.in-Some.ensures.2

pub returns-then-left-run-clause-found : goal.returns-then-left-run-clause-found
returns-then-left-run-clause-found c =
    let r = c.in-Some.run' in
    let kind : is_level (plain_kind r.kind) ≡ c.args.level = sym c.is_level.ensures ∙ same_truth c.is_level.result c.args.level c.if-is_level-level.false in
    let part : r.count ≡ c.runs.left + (r.count - c.runs.left) = omega arith in (
      c.in_ok-rest.ensures.pushed.0,
      ap (λ (st : List Shape). without c.args.level c.args.count (get_or st c.args.number [])) (sym c.runs.invariant.unchanged)
          ∙ sym c.runs.invariant.same
          ∙ pops_some c.args.level (plain_kind r.kind) c.runs.left r.count (r.count - c.runs.left) (get_or c.runs.self c.runs.at []) (get_or c.runs.self r.below []) kind c.in-Some.ensures.2 part
          ∙ ap (λ s. Some s) (sym c.in_ok-rest.ensures.pushed.1),
    )

pub runs-preserved : goal.runs-preserved
runs-preserved c =
    let r = c.in-Some.run' in
    let kind : is_level (plain_kind r.kind) ≡ c.args.level = sym c.is_level.ensures ∙ same_truth c.is_level.result c.args.level c.if-is_level-level.false in
    let part : c.runs.left ≡ r.count + (c.runs.left - r.count) = omega arith in
    record {
      unchanged = c.runs.invariant.unchanged;
      here = c.in-Some.ensures.1;
      same = sym (pops_run c.args.level (plain_kind r.kind) c.runs.left r.count (c.runs.left - r.count) (get_or c.runs.self c.runs.at []) (get_or c.runs.self r.below []) kind c.in-Some.ensures.2 part) ∙ c.runs.invariant.same;
    }

pub returns-clause-found : goal.returns-clause-found
returns-clause-found c =
    let zero_left : c.runs.left ≡ 0 = omega arith in (
      c.runs.invariant.here,
      ap (λ (st : List Shape). without c.args.level c.args.count (get_or st c.args.number [])) (sym c.runs.invariant.unchanged)
          ∙ sym c.runs.invariant.same
          ∙ ap (λ n. without c.args.level n (get_or c.runs.self c.runs.at [])) zero_left
          ∙ pops_nothing c.args.level (get_or c.runs.self c.runs.at []),
    )
