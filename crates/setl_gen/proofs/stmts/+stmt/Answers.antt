use Rattle.std.proofs.Common.{◌∙◌, List, map}
use Rattle.std.specs.Option.{option_map}
use Rattle.setl_program.specs.declared.stmt.Stmt.{Stmt}
use Rattle.setl_program.specs.code.Plain.{plain_expr, plain_iterators, plain_block, plain_branch, otherwise, condition_of}
use Rattle.setl_code.specs.Generated as code
use Rattle.setl_gen_emitter.specs.Emitted.{held, after, closed}
use Rattle.setl_gen_emitter.specs.EmittedLaws.{after_nothing, done_made}
use Rattle.setl_gen.proofs.Rounds.{levels_is}
use Rattle.setl_gen.proofs.StmtRounds.{block_round, branches_round, branches_done, guarded_made, choice_made, for_is, while_is, update_is, take_is, pass_is, looped_made, for_made, while_made}
use Rattle.setl_gen.proofs.stmts.+stmt.Goals as goal

pub block-loop-s-preserved : goal.block-loop-s-preserved
block-loop-s-preserved t c =
    block_round c.args.leaves c.args.statements.now c.loop-s.s-index c.s-item.result (held c.loop-s.emitter) (held c.stmt.new.emitter) c.loop-s-test.true c.s-item.is c.in_ok-stmt.ensures
    ∙ c.loop-s.invariant

pub block-returns : goal.block-returns
block-returns t c =
    let f = λ (r : List Stmt). code.block c.args.leaves (plain_block r) in
    done_made f c.args.statements.now c.loop-s.s-index (held c.loop-s.emitter) (after (f c.args.statements.now) (held c.args.emitter.now)) c.loop-s-test.false (after_nothing (held c.loop-s.emitter)) c.loop-s.invariant

pub rounds-returns : goal.rounds-returns
rounds-returns t c =
    looped_made c.args.line c.args.again c.go_on_at-around.result c.args.leaves (plain_block c.args.b.now) (held c.args.emitter.now) (held c.go_on_at-around.new.self) (held c.block.new.emitter) (held c.go_on_at.new.self) (held c.put.new.self)
    c.go_on_at-around.ensures.outer c.go_on_at-around.ensures.rest c.in_ok-block.ensures c.go_on_at.ensures.rest c.in_ok-put.ensures

pub while_loop-returns : goal.while_loop-returns
while_loop-returns t c =
    while_made c.args.line (plain_expr c.args.c.now) (plain_block c.args.b.now) c.enter-outer.result c.leave-inner.result c.in_ok-start.start c.in_ok-test.test c.in_ok-end.end
    (held c.args.emitter.now) (held c.enter-outer.new.self) (held c.expr.new.emitter) (held c.step.new.self) (held c.put.new.self) (held c.rounds.new.emitter) (held c.unless_here.new.self) (held c.leave-inner.new.self) (held c.fill_all.new.self)
    c.enter-outer.ensures.outer c.enter-outer.ensures.rest c.in_ok-start.ensures c.in_ok-expr.ensures c.in_ok-test.ensures.place c.in_ok-test.ensures.code c.in_ok-put.ensures c.in_ok-rounds.ensures c.in_ok-unless_here.ensures c.leave-inner.ensures.inner c.leave-inner.ensures.rest c.in_ok-end.ensures c.fill_all.ensures

pub for_loop-returns : goal.for_loop-returns
for_loop-returns t c =
    for_made c.args.line (plain_iterators c.args.is.now) (condition_of (option_map plain_expr c.args.t.now)) (plain_block c.args.b.now) c.enter-outer.result c.leave-inner.result c.in_ok-first.first c.in_ok-first.innermost c.in_ok-levels.levels c.in_ok-end.end
    (held c.args.emitter.now) (held c.enter-outer.new.self) (held c.iterators.new.emitter) (held c.condition.new.emitter) (held c.rounds.new.emitter) (held c.next_here.new.self) (held c.leave-inner.new.self) (held c.fill_all.new.self)
    c.enter-outer.ensures.outer c.enter-outer.ensures.rest c.in_ok-first.ensures c.in_ok-condition.ensures (c.in_ok-levels.ensures ∙ levels_is c.args.is.now) c.in_ok-rounds.ensures c.in_ok-next_here.ensures c.leave-inner.ensures.inner c.leave-inner.ensures.rest c.in_ok-end.ensures c.fill_all.ensures

pub branches-loop-b-preserved : goal.branches-loop-b-preserved
branches-loop-b-preserved t c = λ q.
    branches_round c.args.leaves c.args.branches.now q c.loop-b.b-index c.b-item.result c.loop-b.overs c.branch-emitter.new.overs (held c.loop-b.emitter) (held c.branch-emitter.new.emitter) c.loop-b-test.true c.b-item.is c.in_ok-branch.ensures
    ∙ c.loop-b.invariant q

pub branches-returns : goal.branches-returns
branches-returns t c = λ q.
    branches_done c.args.leaves c.args.branches.now q c.loop-b.b-index c.loop-b.overs (held c.loop-b.emitter) (closed c.args.overs.now (after (code.block c.args.leaves (otherwise (map plain_branch c.args.branches.now) q)) (held c.args.emitter.now))) c.loop-b-test.false (c.loop-b.invariant q)

pub guard-returns : goal.guard-returns
guard-returns t c =
    guarded_made c.args.leaves c.args.line (plain_expr c.args.c.now) (plain_block c.args.b.now) c.in_ok-test.test c.in_ok-place.place c.args.overs.now c.push.new.self
    (held c.args.emitter.now) (held c.expr.new.emitter) (held c.step.new.self) (held c.block.new.emitter) (held c.step-2.new.self) (held c.unless_here.new.self)
    c.in_ok-expr.ensures c.in_ok-test.ensures.place c.in_ok-test.ensures.code c.in_ok-block.ensures c.in_ok-place.ensures.place c.in_ok-place.ensures.code c.in_ok-unless_here.ensures c.in_ok-push.ensures.ok

pub kind-returns-in-Pass : goal.kind-returns-in-Pass
kind-returns-in-Pass t c = pass_is c.args.leaves c.args.line c.args.kind.now (held c.args.emitter.now) c.in-Pass.is

pub kind-returns-in_ok-for_loop-in-For : goal.kind-returns-in_ok-for_loop-in-For
kind-returns-in_ok-for_loop-in-For t c =
    for_is c.args.leaves c.args.line c.args.kind.now c.in-For.is' c.as_slice-in-For-2.result.now c.in-For.t c.in-For.b c.as_slice-in-For.result.now (held c.args.emitter.now) (held c.for_loop.new.emitter) c.in-For.is c.as_slice-in-For-2.ensures c.as_slice-in-For.ensures c.in_ok-for_loop-in-For.ensures

pub kind-returns-in_ok-while_loop-in-While : goal.kind-returns-in_ok-while_loop-in-While
kind-returns-in_ok-while_loop-in-While t c =
    while_is c.args.leaves c.args.line c.args.kind.now c.in-While.c c.in-While.b c.as_slice-in-While.result.now (held c.args.emitter.now) (held c.while_loop.new.emitter) c.in-While.is c.as_slice-in-While.ensures c.in_ok-while_loop-in-While.ensures

pub kind-returns-in_ok-close-in-If : goal.kind-returns-in_ok-close-in-If
kind-returns-in_ok-close-in-If t c =
    choice_made c.args.leaves c.args.line c.args.kind.now c.in-If.c c.in-If.x c.in-If.further c.in-If.y c.as_slice-in-If.result.now c.as_slice-in-If-3.result.now c.as_slice-in-If-2.result.now c.new-overs.result c.guard.new.overs c.branches.new.overs
    (held c.args.emitter.now) (held c.guard.new.emitter) (held c.branches.new.emitter) (held c.block.new.emitter) (held c.close.new.self)
    c.in-If.is c.as_slice-in-If.ensures c.as_slice-in-If-2.ensures c.as_slice-in-If-3.ensures c.new-overs.ensures c.in_ok-guard-in-If.ensures c.in_ok-branches-in-If.ensures c.in_ok-block-in-If.ensures c.in_ok-close-in-If.ensures

pub kind-returns-in-Update : goal.kind-returns-in-Update
kind-returns-in-Update t c =
    update_is c.args.leaves c.args.line c.args.kind.now c.in-Update.o c.in-Update.p c.in-Update.e (held c.args.emitter.now) (held c.update.new.emitter) c.in-Update.is c.update.result c.update.ensures

pub kind-returns-in-TakeFrom : goal.kind-returns-in-TakeFrom
kind-returns-in-TakeFrom t c =
    take_is c.args.leaves c.args.line c.args.kind.now c.in-TakeFrom.taking c.in-TakeFrom.x c.in-TakeFrom.p (held c.args.emitter.now) (held c.take_from.new.emitter) c.in-TakeFrom.is c.take_from.result c.take_from.ensures
