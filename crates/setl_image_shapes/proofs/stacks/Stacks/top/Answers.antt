use Rattle.std.proofs.Common.{◌≡◌, ◌-◌, [], get_or, suc, Some, sym, ap, ◌∙◌, subst, arith}
use Rattle.setl_image_shapes.specs.Runs.{IsTop}
use Rattle.setl_image_shapes.specs.declared.stacks.Run.{Run}
use Rattle.setl_image_shapes.proofs.Stacking.{empty_is, run_is_top, length_of}
use Rattle.setl_image_shapes.proofs.stacks.Stacks.top.Goals as goal

pub returns-then-number-eq0 : goal.returns-then-number-eq0
returns-then-number-eq0 c = (c.if-number-eq0.true, ap (λ k. get_or c.args.self.now k []) c.if-number-eq0.true ∙ empty_is c.args.self.now c.self.inside.runs.items (sym c.self.view_is))

pub index-requires : goal.index-requires
index-requires c = let long = length_of c.args.self.now c.self.inside.runs.items (sym c.self.view_is) in omega (arith, long)

pub returns : goal.returns
returns c =
    let at : c.args.number ≡ suc (c.args.number - 1) = omega arith in
    subst (λ (r : Run). IsTop c.args.self.now c.args.number (Some r)) (sym c.index.ensures)
    (run_is_top c.args.self.now c.self.inside.runs.items c.args.number (c.args.number - 1) c.index.result.now (sym c.self.view_is) c.self.invariant c.requires at)
