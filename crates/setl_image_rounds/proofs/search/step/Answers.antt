use Rattle.std.proofs.Common.{rules, ◌≡◌, ◌<◌, true, false, get_or, None, Some, arith, subst}
use Rattle.setl_image_rounds.specs.Falling.{IsOpenWay}
use Rattle.setl_image_rounds.proofs.Steps.{same_or, top_within, done_below, entered_steps, done_steps, left_steps, comes_round}
use Rattle.setl_image_rounds.proofs.search.step.Goals as goal

pub returns-then-index-gt0-clause-goes : goal.returns-then-index-gt0-clause-goes
returns-then-index-gt0-clause-goes c so =
    let within = top_within c.args.all.now c.args.search.now c.args.at c.requires.search c.requires.top in
    let e = same_or c.args.search.now.heights.items c.args.at c.index.result.now 0 (omega (arith, within, c.requires.search.heights)) in
    let told : 0 < get_or c.args.search.now.heights.items c.args.at 0 = omega (arith, e, c.index.ensures, c.if-index-gt0.true) in
    left_steps c.args.all.now c.args.search.now c.leave.new.search c.args.at c.requires.search told (c.leave.ensures c.args.at c.requires.top)

pub open_way-requires-clause-within : goal.open_way-requires-clause-within
open_way-requires-clause-within c = top_within c.args.all.now c.args.search.now c.args.at c.requires.search c.requires.top

pub finish-requires-clause-within : goal.finish-requires-clause-within
finish-requires-clause-within c = omega (arith, c.requires.search.heights, top_within c.args.all.now c.args.search.now c.args.at c.requires.search c.requires.top)

pub finish-requires-clause-room : goal.finish-requires-clause-room
finish-requires-clause-room c =
    let within = top_within c.args.all.now c.args.search.now c.args.at c.requires.search c.requires.top in
    let e = same_or c.args.search.now.heights.items c.args.at c.index.result.now 0 (omega (arith, within, c.requires.search.heights)) in
    let zeros : get_or c.args.search.now.heights.items c.args.at 0 ≡ 0 = omega (arith, e, c.index.ensures, c.if-index-gt0.false) in
    omega (arith, c.requires.few, done_below c.args.all.now c.args.search.now c.args.at c.requires.search within zeros)

pub returns-in_default-clause-goes : goal.returns-in_default-clause-goes
returns-in_default-clause-goes c so =
    let within = top_within c.args.all.now c.args.search.now c.args.at c.requires.search c.requires.top in
    let e = same_or c.args.search.now.heights.items c.args.at c.index.result.now 0 (omega (arith, within, c.requires.search.heights)) in
    let zeros : get_or c.args.search.now.heights.items c.args.at 0 ≡ 0 = omega (arith, e, c.index.ensures, c.if-index-gt0.false) in
    done_steps c.args.all.now c.args.search.now c.finish.new.search c.args.at c.requires.search within zeros (subst (λ hs. IsOpenWay c.args.all.now hs c.args.at None) c.deref.ensures.value c.in_default.ensures) c.finish.ensures

pub returns-then-index-clause-round : goal.returns-then-index-clause-round
returns-then-index-clause-round c so =
    let way : IsOpenWay c.args.all.now c.args.search.now.heights.items c.args.at (Some c.in-Some.to) = subst (λ hs. IsOpenWay c.args.all.now hs c.args.at (Some c.in-Some.to)) c.deref.ensures.value c.in-Some.ensures in
    let e = same_or c.args.search.now.entered.items c.in-Some.to c.index-2.result.now false (omega (arith, way.1, c.requires.search.entered)) in
    let entered : get_or c.args.search.now.entered.items c.in-Some.to false ≡ true = search (rules, e) in
    comes_round c.args.all.now c.args.search.now c.args.at c.in-Some.to c.requires.search c.requires.top way entered

pub returns-clause-goes : goal.returns-clause-goes
returns-clause-goes c so =
    let way : IsOpenWay c.args.all.now c.args.search.now.heights.items c.args.at (Some c.in-Some.to) = subst (λ hs. IsOpenWay c.args.all.now hs c.args.at (Some c.in-Some.to)) c.deref.ensures.value c.in-Some.ensures in
    let e = same_or c.args.search.now.entered.items c.in-Some.to c.index-2.result.now false (omega (arith, way.1, c.requires.search.entered)) in
    let entered : get_or c.args.search.now.entered.items c.in-Some.to false ≡ false = search (rules, e) in
    entered_steps c.args.all.now c.args.search.now c.enter.new.search c.args.at c.in-Some.to c.requires.search c.requires.top way entered c.in_ok-enter.ensures
