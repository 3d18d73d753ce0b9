use Rattle.std.proofs.Common.{◌∙◌, ap, sym, arith}
use Rattle.std.specs.Prelude.{is_some}
use Rattle.setl_rep_layout.proofs.Slots.{copied_some, slots_listed, slots_more}
use Rattle.setl_rep_layout.proofs.numbers.slot_numbers.Goals as goal

pub loop-n-preserved : goal.loop-n-preserved
loop-n-preserved c = slots_more c.args.slots.now c.loop-n.n c.loop-n.list.items c.push_if.new.list.items c.is_some.result c.loop-n.invariant (ap is_some (sym c.get.ensures.content) ∙ copied_some c.get.result ∙ sym c.is_some.ensures) c.in_ok-push_if.ensures

pub returns : goal.returns
returns c = slots_listed c.args.slots.now c.loop-n.n c.loop-n.list.items c.requires (omega (arith, c.loop-n-test.false, c.len-n-end.ensures)) c.loop-n.invariant
