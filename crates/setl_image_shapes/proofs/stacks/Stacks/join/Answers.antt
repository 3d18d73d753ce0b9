use Rattle.std.proofs.Common.{◌<◌, [], get_or, Some, option_map, sym, ap, ◌∙◌, arith}
use Rattle.setl_image_shapes.specs.Joins.{joined}
use Rattle.setl_image_shapes.specs.Runs.{plain_kind, laid}
use Rattle.setl_image_shapes.proofs.Parting.{parted, grown_on, first_empty, parted_joins, parted_less, part_joined, joins_equal}
use Rattle.setl_image_shapes.proofs.stacks.Stacks.join.Goals as goal

pub returns-in_default-clause-found : goal.returns-in_default-clause-found
returns-in_default-clause-found c = sym c.runs.invariant.same ∙ ap (option_map (λ s. laid c.runs.upper.items s)) (first_empty c.runs.self c.runs.a c.runs.b c.top-second.result c.in_default.ensures c.top-second.ensures c.runs-test.true).1

pub runs-smaller : goal.runs-smaller
runs-smaller c =
    let p = parted c.runs.self c.push-in-runs.new.self c.push-in-runs-2.new.self c.in-Some.x c.in-Some-second.y c.min-count.result c.in_ok-a.a c.in_ok-b.b c.in_ok-a.ensures.grown c.in_ok-b.ensures.grown c.in-Some-second.ensures.1 c.in_ok-a.ensures.pushed c.in_ok-b.ensures.pushed in
    let some : 0 < c.min-count.result = omega (arith, c.in-Some.ensures.0, c.in-Some-second.ensures.0) in
    parted_less c.runs.self c.push-in-runs-2.new.self c.runs.a c.in_ok-a.a c.in_ok-b.b c.min-count.result c.in-Some.x c.in-Some-second.y c.in-Some.ensures some (omega arith) p

pub runs-preserved : goal.runs-preserved
runs-preserved c =
    let p = parted c.runs.self c.push-in-runs.new.self c.push-in-runs-2.new.self c.in-Some.x c.in-Some-second.y c.min-count.result c.in_ok-a.a c.in_ok-b.b c.in_ok-a.ensures.grown c.in_ok-b.ensures.grown c.in-Some-second.ensures.1 c.in_ok-a.ensures.pushed c.in_ok-b.ensures.pushed in
    let j = c.in-Some-joined_kind.kind in
    let join = parted_joins c.runs.self c.push-in-runs-2.new.self c.runs.a c.runs.b c.in_ok-a.a c.in_ok-b.b c.min-count.result c.in-Some.x c.in-Some-second.y (plain_kind j) c.in-Some.ensures c.in-Some-second.ensures (sym c.in-Some-joined_kind.ensures) (omega arith) (omega arith) p in
    record {
      first = p.first.0;
      second = p.second.0;
      grown = grown_on c.args.self.now c.runs.self c.push-in-runs-2.new.self c.runs.invariant.grown p.grown;
      same = part_joined c.runs.upper.items c.push.new.self.items (record { kind = j; count = c.min-count.result }) (joined (get_or c.runs.self c.runs.a []) (get_or c.runs.self c.runs.b [])) (joined (get_or c.push-in-runs-2.new.self c.in_ok-a.a []) (get_or c.push-in-runs-2.new.self c.in_ok-b.b [])) (joined (get_or c.args.self.now c.args.number []) (get_or c.args.self.now c.args.other [])) c.in_ok-push.ensures.items join c.runs.invariant.same;
    }

pub returns-clause-found : goal.returns-clause-found
returns-clause-found c = (
  c.in_ok-whole.ensures.laid.0,
  sym c.runs.invariant.same
      ∙ ap (option_map (λ s. laid c.runs.upper.items s)) (joins_equal c.runs.self c.runs.a c.runs.b c.runs-test.false)
      ∙ ap (λ s. Some s) (sym c.in_ok-whole.ensures.laid.1),
)
