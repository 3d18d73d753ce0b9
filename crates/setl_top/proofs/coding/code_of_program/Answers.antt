use Rattle.std.proofs.Common.{subst, sym}
use Rattle.setl_program.specs.Placed.{Placed}
use Rattle.setl_program.specs.code.Plain.{plain_program}
use Rattle.setl_top.proofs.Declaring.{only_main}
use Rattle.setl_top.proofs.Marking.{marked_by}
use Rattle.setl_top.proofs.coding.code_of_program.Goals as goal

pub take_marks-requires : goal.take_marks-requires
take_marks-requires c =
    let p = plain_program c.args.program.now in
    let m = c.requires in
    record {
      may_run = c.code_may_run.ensures.may_run p c.in_ok-code.code (subst Placed (sym m.meaning) (c.accepted_is_formed.ensures.placed m.tree m.accepted)) c.in_ok-code.ensures;
      main = rw c.as_slice.ensures (only_main p m);
    }

pub returns-clause-marked : goal.returns-clause-marked
returns-clause-marked c =
    let p = plain_program c.args.program.now in
    marked_by p _ _ c.in_ok-code.ensures (rw c.as_slice.ensures at c.take_marks.ensures.marked)
