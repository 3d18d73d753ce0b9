use Rattle.std.proofs.Common.{arith}
use Rattle.setl_token.proofs.Order.{few_tokens}
use Rattle.setl_token.proofs.TokenList.len.Goals as goal

pub returns-clause-few : goal.returns-clause-few
returns-clause-few c = rw (← c.self.view_is) (omega (arith, few_tokens c.self.inside.source.items c.self.inside.tokens.items c.self.invariant.spelled, c.len.ensures))
