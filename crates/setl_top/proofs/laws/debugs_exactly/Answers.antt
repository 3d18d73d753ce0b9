use Rattle.setl_top.proofs.DebugsExactly.{debugs_only}
use Rattle.setl_top.proofs.laws.debugs_exactly.Goals as goal

pub returns : goal.returns
returns c =
    let lexing = c.lexing_is_determined.ensures in
    let scripts = c.script_or_refusal.ensures in
    debugs_only c.one_command.ensures (record { one_spelling = lexing.one_spelling; not_both = lexing.not_both; one_fault = lexing.one_fault; one_tree = c.tree_is_unique.ensures.unique; one_place = c.one_fault.ensures.unique; no_fault = c.one_fault.ensures.none }) scripts.not_both scripts.one_line
