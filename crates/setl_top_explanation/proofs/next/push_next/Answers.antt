use Rattle.setl_top_explanation.proofs.next.push_next.Goals as goal

pub returns : goal.returns
returns c = rw c.in-Some.ensures.cases.0 c.push_line.ensures
