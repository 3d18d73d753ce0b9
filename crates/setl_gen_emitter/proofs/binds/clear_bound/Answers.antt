use Rattle.setl_gen_emitter.specs.Emitted.{held}
use Rattle.setl_gen_emitter.proofs.Stores.{member_cleared, point_cleared}
use Rattle.setl_gen_emitter.proofs.binds.clear_bound.Goals as goal

pub returns-in_ok-clear-in-Member : goal.returns-in_ok-clear-in-Member
returns-in_ok-clear-in-Member c =
    member_cleared c.args.line c.args.b.now c.in-Member.field-0 c.in-Member.x (held c.args.emitter.now) (held c.clear.new.self) c.in-Member.is c.in_ok-clear-in-Member.ensures

pub returns-in_ok-clear-in-Point-2 : goal.returns-in_ok-clear-in-Point-2
returns-in_ok-clear-in-Point-2 c =
    point_cleared c.args.line c.args.b.now c.in-Point.y c.in-Point.x (held c.args.emitter.now) (held c.clear-in-Point.new.self) (held c.clear-in-Point-2.new.self) c.in-Point.is c.in_ok-clear-in-Point.ensures c.in_ok-clear-in-Point-2.ensures
