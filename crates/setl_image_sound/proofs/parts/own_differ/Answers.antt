use Rattle.std.proofs.Common.{List, subst}
use Rattle.std.specs.Prelude.{IfOk, IsTrue, ◌↔◌}
use Rattle.setl_tree.specs.declared.tree.Param.{Param}
use Rattle.setl_code.specs.declared.code.OwnName.{OwnName}
use Rattle.setl_code.specs.MayRun.{Differ}
use Rattle.setl_code.specs.Plain.{own_variables}
use Rattle.setl_image_sound.proofs.parts.own_differ.Goals as goal

pub returns : goal.returns
returns c n =
    subst (λ (ps : List Param). IfOk c.own_names_differ.result (λ so. IsTrue so ↔ Differ (own_variables n ps c.args.body.now.names))) c.as_slice.ensures
    (subst (λ (ns : List OwnName). IfOk c.own_names_differ.result (λ so. IsTrue so ↔ Differ (own_variables n c.as_slice.result.now ns))) c.as_slice-2.ensures (c.own_names_differ.ensures n))
