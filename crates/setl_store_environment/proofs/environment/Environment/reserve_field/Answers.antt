use Rattle.std.proofs.Common.{ap, arith, reverse}
use Rattle.setl_local.specs.Place.{Place}
use Rattle.setl_store_environment.specs.Undo.{parts, contents_of}
use Rattle.setl_store_environment.proofs.FieldChanges.{more_room}
use Rattle.setl_store_environment.proofs.Parts.{roomier, with_fields, fields_of}
use Rattle.setl_store_environment.proofs.environment.Environment.reserve_field.Goals as goal

pub invariant_of-self : goal.invariant_of-self
invariant_of-self g c =
    let t = c.self.inside in
    let q = parts t.slots t.operands t.activations t.members t.fields in
    let p : Place = (c.args.object, c.args.block) in (
      roomier q (parts t.slots t.operands t.activations t.members c.room.new.self) t.base (reverse t.bases.items) t.trail.items (record { slots = omega arith; operands = omega arith; activations = omega arith; members = omega arith; fields = more_room c.room.result t.fields.room c.room.new.self.room p c.room.ensures.ok c.room.ensures.err })
          (ap (with_fields (contents_of q)) (fields_of c.room.new.self.bits t.fields.bits c.room.new.self.contents t.fields.contents c.room.ensures.bits c.room.ensures.contents)) c.self.invariant.0,
      c.self.invariant.1,
      c.self.invariant.2,
    )
