use Rattle.setl_top.proofs.Readies.{source_ready}
use Rattle.setl_top.proofs.ready.ready_of_source.Goals as goal

pub code_of_program-requires : goal.code_of_program-requires
code_of_program-requires c = record { tree = c.args.source.tree; accepted = c.requires.accepted; meaning = c.in_ok-program.ensures }

pub returns : goal.returns
returns c = source_ready c.args.source.tree c.in_ok-program.program c.in_ok-code.code _ (rw c.as_slice.ensures at c.in_ok-bases.ensures.bases) c.requires.accepted c.in_ok-program.ensures c.in_ok-code.ensures.may_run c.in_ok-code.ensures.marked
