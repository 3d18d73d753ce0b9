use Rattle.setl_machine_variables.proofs.integers.freely_alone.Goals as goal

pub returns-in-Size-default : goal.returns-in-Size-default
returns-in-Size-default c = rw c.in-Size-default.is-0 c.size.ensures
