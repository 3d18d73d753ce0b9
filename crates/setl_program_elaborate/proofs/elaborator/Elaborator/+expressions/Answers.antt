use Rattle.std.proofs.Common.{◌≡◌, map, Some, IfOk, subst}
use Rattle.setl_program.specs.Program as plain
use Rattle.setl_program.specs.Numbered.{Numbered}
use Rattle.setl_program.specs.Scope.{Scope}
use Rattle.setl_program.specs.Expressions.{term_of, turn_of}
use Rattle.setl_program.specs.code.Plain.{plain_expr, plain_argument, plain_iterator}
use Rattle.setl_program_elaborate.specs.Elaborators.{does, puts}
use Rattle.setl_program_elaborate.proofs.Walks.{chain_walked, arguments_done, left_with, within, turn_done}
use Rattle.setl_program_elaborate.proofs.elaborator.Elaborator.+expressions.Goals as goal

pub arguments-returns : goal.arguments-returns
arguments-returns t c = arguments_done c.loop-x.left.now c.args.xs.now c.loop-x.x-index (map plain_argument c.loop-x.all) c.loop-x.self _ c.loop-x-test.false c.loop-x.invariant

pub expr-returns-in-Chain : goal.expr-returns-in-Chain
expr-returns-in-Chain t c =
    let walked = chain_walked c.args.x.now c.in-Chain.first c.get-in-Chain.result.now c.in-Chain.others c.as_slice.result.now c.in-Chain.is c.get-in-Chain.ensures c.as_slice.ensures in
    subst (λ (m : Scope → Numbered plain.Expr). IfOk c.chain.result (λ e. (plain_expr e, c.chain.new.self) ≡ does m c.args.self.now)) walked c.chain.ensures

pub expr_within-returns : goal.expr_within-returns
expr_within-returns t c =
    left_with (does (term_of c.args.x.now)) c.args.number c.args.names _ c.args.self.now c.enter.new.self c.expr.new.self _ _ c.in_ok-enter.ensures c.in_ok-made.ensures (λ h. c.leave.ensures c.args.number c.args.names _ h)

pub own_iterator-returns-clause-value : goal.own_iterator-returns-clause-value
own_iterator-returns-clause-value t c =
    left_with (puts (map plain_iterator c.args.all.now) ((turn_of c.args.turn.now).iterator (Some c.args.number))) c.args.number c.args.seen _ c.args.self.now c.enter.new.self c.iterator.new.self _ _
    c.in_ok-enter.ensures c.in_ok-iterator.ensures (λ h. c.leave_with.ensures.state c.args.number c.args.seen _ h)

pub own_iterator-returns-clause-names : goal.own_iterator-returns-clause-names
own_iterator-returns-clause-names t c =
    c.in_ok-names.ensures.names c.args.number c.args.seen _
    (within (puts (map plain_iterator c.args.all.now) ((turn_of c.args.turn.now).iterator (Some c.args.number))) c.args.number c.args.seen _ c.args.self.now c.enter.new.self c.iterator.new.self c.in_ok-enter.ensures c.in_ok-iterator.ensures)

pub own_iterators-loop-turn-preserved : goal.own_iterators-loop-turn-preserved
own_iterators-loop-turn-preserved t c =
    turn_done c.args.number c.args.turns.now c.loop-turn.turn-index c.turn-item.result c.loop-turn.seen c.in_ok-seen.seen (map plain_iterator c.loop-turn.all) (map plain_iterator c.own_iterator.new.all) c.loop-turn.self c.own_iterator.new.self _
    c.loop-turn-test.true c.turn-item.is c.in_ok-seen.ensures.value c.in_ok-seen.ensures.names c.loop-turn.invariant
