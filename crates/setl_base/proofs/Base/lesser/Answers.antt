use Rattle.std.proofs.Common.{sym}
use Rattle.setl_value.specs.code.DatumOf.{datum}
use Rattle.setl_base.proofs.Least.{taken, kept}
use Rattle.setl_base.proofs.Base.lesser.Goals as goal

pub returns-in-Some : goal.returns-in-Some
returns-in-Some c =
    taken c.args.self.now c.args.after c.args.block (datum c.in-Some.v.now) c.in-Some.generation (sym c.in-Some.ensures) c.args.least c.requires (sym c.if-is_between.ensures)

pub returns-in_default : goal.returns-in_default
returns-in_default c =
    kept c.args.self.now c.args.after c.args.block (datum c.in-Some.v.now) c.in-Some.generation (sym c.in-Some.ensures) c.args.least c.requires (sym c.if-is_between.ensures)
