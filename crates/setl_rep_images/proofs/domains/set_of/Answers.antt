use Rattle.std.proofs.Common.{◌≡◌, ◌+◌, suc, drop, subst, sym, arith}
use Rattle.std.proofs.Math.Seq.{drop-cons}
use Rattle.setl_rep_images.proofs.Points.{IsGathered, gathers_none, gathers, gathered, none_left}
use Rattle.setl_rep_images.proofs.domains.set_of.Goals as goal

pub loop-n-init : goal.loop-n-init
loop-n-init c = subst (λ ns. IsGathered ns c.args.list.now c.args.list.now) (sym c.in_ok-numbers.ensures) (gathers_none c.args.list.now)

pub loop-n-preserved : goal.loop-n-preserved
loop-n-preserved c =
    let all = c.args.list.now in
    let i = c.loop-n.n-index in
    let step : suc i ≡ i + 1 = omega arith in
    subst (λ k. IsGathered c.put.new.self (drop k all) all) step
    (gathers c.loop-n.numbers c.put.new.self _ (drop (suc i) all) all c.in_ok-put.ensures.ok
    (subst (λ rest. IsGathered c.loop-n.numbers rest all) (drop-cons all i 0 (omega (arith, c.loop-n-test.true))) c.loop-n.invariant))

pub returns : goal.returns
returns c =
    let all = c.args.list.now in
    gathered c.loop-n.numbers all
    (subst (λ rest. IsGathered c.loop-n.numbers rest all) (none_left all c.loop-n.n-index (omega (arith, c.loop-n-test.false, c.loop-n.auto.n-index-end))) c.loop-n.invariant)
