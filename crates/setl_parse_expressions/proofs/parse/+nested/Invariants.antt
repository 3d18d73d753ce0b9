use Rattle.setl_parse_expressions.proofs.parse.+nested.Given as goal

abbrev pub decreases-nested : goal.decreases-nested
decreases-nested l = l.room
