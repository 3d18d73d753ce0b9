use Rattle.setl_parse_statements.proofs.nested.+nested.Given as goal

abbrev pub decreases-nested : goal.decreases-nested
decreases-nested l = l.room
