use Rattle.setl_top.proofs.Images.{built_of}
use Rattle.setl_top.proofs.building.built.Goals as goal

pub code_of_program-requires : goal.code_of_program-requires
code_of_program-requires c = record { tree = c.args.source.tree; accepted = c.requires.accepted; meaning = c.in_ok-program.ensures }

pub returns : goal.returns
returns c = built_of c.args.source.tree _ _ (λ v. v.items) c.image_text.result c.in_ok-program.ensures c.in_ok-code.ensures.marked (rw c.as_slice.ensures at c.in_ok-modes.ensures.bases) (rw c.as_slice.ensures at c.in_ok-modes.ensures.vars) c.image_text.ensures
