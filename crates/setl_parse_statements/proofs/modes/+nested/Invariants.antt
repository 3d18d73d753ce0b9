use Rattle.setl_parse_statements.proofs.modes.+nested.Given as goal

abbrev pub decreases-nested : goal.decreases-nested
decreases-nested l = l.room
