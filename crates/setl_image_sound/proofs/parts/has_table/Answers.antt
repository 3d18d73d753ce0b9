use Rattle.std.proofs.Common.{List, map, subst}
use Rattle.std.specs.Prelude.{IfOk, IsTrue, ◌↔◌}
use Rattle.setl_code.specs.declared.code.Step.{Step}
use Rattle.setl_code.specs.Plain.{plain_step}
use Rattle.setl_image_operands.specs.Operands.{HasShapes}
use Rattle.setl_image_sound.proofs.Assembling.{table_by}
use Rattle.setl_image_sound.proofs.parts.has_table.Goals as goal

pub returns : goal.returns
returns c bodies xs signed =
    table_by c.has_shapes.result bodies (map (plain_step xs) c.args.body.now.steps)
    (subst (λ (ss : List Step). IfOk c.has_shapes.result (λ so. HasShapes so bodies (map (plain_step xs) ss))) c.as_slice.ensures (c.has_shapes.ensures bodies xs signed))
