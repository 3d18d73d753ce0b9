use Rattle.std.proofs.Common.{◌∙◌}
use Rattle.setl_store_operands.proofs.Collecting.{present_after}
use Rattle.setl_store_operands.proofs.collections.present.Goals as goal

pub loop-member-preserved : goal.loop-member-preserved
loop-member-preserved c = c.in_ok-push_present.ensures ∙ present_after c.loop-member.values.items c.in-Some.member c.loop-member.yielded c.loop-member.invariant
