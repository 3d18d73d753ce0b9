use Rattle.setl_top.proofs.Marking.{listed_by}
use Rattle.setl_top.proofs.listing.listed.Goals as goal

pub code_of_program-requires : goal.code_of_program-requires
code_of_program-requires c = record { tree = c.args.source.tree; accepted = c.requires.accepted; meaning = c.in_ok-program.ensures }

pub returns : goal.returns
returns c = listed_by (λ v. v.items) c.args.source.tree _ _ _ c.in_ok-program.ensures c.in_ok-code.ensures.marked c.listing.ensures
