use Rattle.setl_top_explanation.proofs.explained.explanation.Goals as goal

pub returns-in_ok-list-in-Broken : goal.returns-in_ok-list-in-Broken
returns-in_ok-list-in-Broken c = rw c.in-Broken.is (rw c.in_ok-list-in-Broken.ensures.source at c.of_rule.ensures)
