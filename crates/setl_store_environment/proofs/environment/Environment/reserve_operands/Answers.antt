use Rattle.std.proofs.Common.{ap, arith, reverse}
use Rattle.setl_store_environment.specs.Undo.{parts, contents_of}
use Rattle.setl_store_environment.proofs.Parts.{roomier, with_operands}
use Rattle.setl_store_environment.proofs.environment.Environment.reserve_operands.Goals as goal

pub invariant_of-self : goal.invariant_of-self
invariant_of-self g c =
    let t = c.self.inside in
    let q = parts t.slots t.operands t.activations t.members t.fields in
    (roomier q (parts t.slots c.reserve.new.self t.activations t.members t.fields) t.base (reverse t.bases.items) t.trail.items (record { slots = omega arith; operands = omega (arith, c.reserve.ensures.more); activations = omega arith; members = omega arith; fields = λ k there. there }) (ap (with_operands (contents_of q)) c.reserve.ensures.same) c.self.invariant.0, c.self.invariant.1, c.self.invariant.2)
