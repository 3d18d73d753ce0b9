use Rattle.setl_top.proofs.OneReason.{FrontLaws, either, not_refused, one_program_tree, one_reason}
use Rattle.setl_top.proofs.laws.program_or_refusal.Goals as goal

pub returns : goal.returns
returns c =
    let lexing = c.lexing_is_determined.ensures in
    let laws : FrontLaws = record { one_spelling = lexing.one_spelling; not_both = lexing.not_both; one_fault = lexing.one_fault; one_tree = c.tree_is_unique.ensures.unique; one_place = c.one_fault.ensures.unique; no_fault = c.one_fault.ensures.none } in
    record {
      either = either lexing.either c.one_fault.ensures.either;
      not_both = λ source tree reason p r. not_refused laws source reason r tree p;
      one_tree = one_program_tree laws;
      one_reason = one_reason laws;
    }
