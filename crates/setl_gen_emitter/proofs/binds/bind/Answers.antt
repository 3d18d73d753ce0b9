use Rattle.setl_gen_emitter.specs.Emitted.{held}
use Rattle.setl_gen_emitter.proofs.Stores.{member_made, point_made}
use Rattle.setl_gen_emitter.proofs.binds.bind.Goals as goal

pub returns-in_ok-store-in-Member : goal.returns-in_ok-store-in-Member
returns-in_ok-store-in-Member c =
    member_made c.args.line c.args.b.now c.in-Member.field-0 c.in-Member.x (held c.args.emitter.now) (held c.store.new.self) c.in-Member.is c.in_ok-store-in-Member.ensures

pub returns-in_ok-store-in-Point-2 : goal.returns-in_ok-store-in-Point-2
returns-in_ok-store-in-Point-2 c =
    point_made c.args.line c.args.b.now c.in-Point.y c.in-Point.x (held c.args.emitter.now) (held c.store-in-Point.new.self) (held c.store-in-Point-2.new.self) c.in-Point.is c.in_ok-store-in-Point.ensures c.in_ok-store-in-Point-2.ensures
