use Rattle.setl_value.specs.code.Body.{Members}
use Rattle.setl_operators_arithmetic.proofs.Unions.{plus_turned}
use Rattle.setl_operators_arithmetic.proofs.owned.unions_turn.Goals as goal

pub returns : goal.returns
returns c = plus_turned (Members c.args.x.now) (Members c.args.y.now) c.rising_lists_agree.ensures c.operations_have_their_members.ensures.union
