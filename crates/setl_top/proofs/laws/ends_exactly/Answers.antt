use Rattle.setl_top.proofs.Exclude.{ends_only}
use Rattle.setl_top.proofs.laws.ends_exactly.Goals as goal

pub returns : goal.returns
returns c =
    let lexing = c.lexing_is_determined.ensures in
    ends_only c.one_command.ensures (record { one_spelling = lexing.one_spelling; not_both = lexing.not_both; one_fault = lexing.one_fault; one_tree = c.tree_is_unique.ensures.unique; one_place = c.one_fault.ensures.unique; no_fault = c.one_fault.ensures.none }) c.one_code.ensures.image c.one_code.ensures.not_both
