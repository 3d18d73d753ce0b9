use Rattle.setl_advise_order.proofs.Orders.{le_itself, le_through, le_same}
use Rattle.setl_advise_order.proofs.Joins.{is_join, below_le, le_below}
use Rattle.setl_advise_order.proofs.joins_are_least.Goals as goal

pub returns-clause-order : goal.returns-clause-order
returns-clause-order c = record { itself = le_itself; through = le_through; same = le_same }

pub returns-clause-above : goal.returns-clause-above
returns-clause-above c = λ f g. let i = is_join 3 f g in (i.left, i.right, i.within)

pub returns-clause-least : goal.returns-clause-least
returns-clause-least c = λ f g. (is_join 3 f g).least

pub returns-clause-below : goal.returns-clause-below
returns-clause-below c = λ f g. (below_le f g, le_below f g)
