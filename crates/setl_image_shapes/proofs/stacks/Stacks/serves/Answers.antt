use Rattle.std.proofs.Common.{◌≡◌, ◌<◌, true, sym, ◌∙◌, arith}
use Rattle.setl_code.specs.Shapes.{serves}
use Rattle.setl_image_shapes.specs.Runs.{plain_kind}
use Rattle.setl_image_shapes.proofs.Parting.{parted, grown_on, first_empty, parted_serves, parted_less, serves_equal}
use Rattle.setl_image_shapes.proofs.stacks.Stacks.serves.Goals as goal

pub returns-in_default-clause-serves : goal.returns-in_default-clause-serves
returns-in_default-clause-serves c = sym c.runs.invariant.same ∙ (first_empty c.runs.self c.runs.a c.runs.b c.top-second.result c.in_default.ensures c.top-second.ensures c.runs-test.true).0

pub runs-smaller : goal.runs-smaller
runs-smaller c =
    let p = parted c.runs.self c.push.new.self c.push-in-runs.new.self c.in-Some.x c.in-Some-second.y c.min-common.result c.in_ok-a.a c.in_ok-b.b c.in_ok-a.ensures.grown c.in_ok-b.ensures.grown c.in-Some-second.ensures.1 c.in_ok-a.ensures.pushed c.in_ok-b.ensures.pushed in
    let some : 0 < c.min-common.result = omega (arith, c.in-Some.ensures.0, c.in-Some-second.ensures.0) in
    parted_less c.runs.self c.push-in-runs.new.self c.runs.a c.in_ok-a.a c.in_ok-b.b c.min-common.result c.in-Some.x c.in-Some-second.y c.in-Some.ensures some (omega arith) p

pub runs-preserved : goal.runs-preserved
runs-preserved c =
    let p = parted c.runs.self c.push.new.self c.push-in-runs.new.self c.in-Some.x c.in-Some-second.y c.min-common.result c.in_ok-a.a c.in_ok-b.b c.in_ok-a.ensures.grown c.in_ok-b.ensures.grown c.in-Some-second.ensures.1 c.in_ok-a.ensures.pushed c.in_ok-b.ensures.pushed in
    let kind : serves (plain_kind c.in-Some.x.kind) (plain_kind c.in-Some-second.y.kind) ≡ true = cc in
    record {
      first = p.first.0;
      second = p.second.0;
      grown = grown_on c.args.self.now c.runs.self c.push-in-runs.new.self c.runs.invariant.grown p.grown;
      same = parted_serves c.runs.self c.push-in-runs.new.self c.runs.a c.runs.b c.in_ok-a.a c.in_ok-b.b c.min-common.result c.in-Some.x c.in-Some-second.y c.in-Some.ensures c.in-Some-second.ensures kind (omega arith) (omega arith) p ∙ c.runs.invariant.same;
    }

pub returns-clause-serves : goal.returns-clause-serves
returns-clause-serves c = sym c.runs.invariant.same ∙ serves_equal c.runs.self c.runs.a c.runs.b c.runs-test.false
