use Rattle.std.proofs.Common.{map}
use Rattle.std.specs.Option.{option_map}
use Rattle.setl_names.specs.Occurrences.{part, turn, names_of_bound}
use Rattle.setl_names_walk.proofs.Formers.{turned, turn_walked, former_walked, filter_walked}
use Rattle.setl_names_walk.proofs.expressions.+standing.Goals as goal

pub own_turns-loop-x-preserved : goal.own_turns-loop-x-preserved
own_turns-loop-x-preserved t c =
    turn_walked c.args.line c.args.turns.now c.loop-x.x-index c.x-item.result c.loop-x.walk c.iterator.new.walk c.put_turn.new.walk (turned c.args.line (map turn c.args.turns.now) c.args.walk.now)
    c.loop-x-test.true c.x-item.is c.loop-x.invariant c.in_ok-iterator.ensures c.in_ok-put_turn.ensures.ok

pub former-returns : goal.former-returns
former-returns t c =
    former_walked c.args.line (part c.args.value.now) (map turn c.args.turns.now) (option_map part c.args.condition.now) c.in_ok-mark.mark c.args.walk.now c.enter_former.new.walk c.expr.new.walk c.own_turns.new.walk c.optional.new.walk c.bind_turns.new.walk c.truncate.new.self c.leave.new.self
    c.in_ok-mark.ensures.mark c.in_ok-mark.ensures.entered c.in_ok-expr.ensures c.truncate.ensures c.in_ok-own_turns.ensures c.in_ok-optional.ensures c.leave.ensures c.in_ok-bind_turns.ensures.ok

pub filter-returns : goal.filter-returns
filter-returns t c =
    filter_walked c.args.line (names_of_bound c.args.names.now) (part c.args.source.now) (part c.args.condition.now) c.in_ok-mark.mark c.args.walk.now c.enter_filter.new.walk c.expr.new.walk c.put_bound.new.walk c.expr-2.new.walk c.bind_bound.new.walk c.leave.new.self
    c.in_ok-mark.ensures.mark c.in_ok-mark.ensures.entered c.in_ok-expr.ensures c.in_ok-put_bound.ensures.ok c.in_ok-expr-2.ensures c.leave.ensures c.in_ok-bind_bound.ensures.ok
