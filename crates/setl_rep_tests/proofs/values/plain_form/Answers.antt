use Rattle.setl_rep_tests.proofs.Keeping.{om_held, om_value, plain_held, plain_value}
use Rattle.setl_rep_tests.proofs.values.plain_form.Goals as goal

pub returns-in-None-clause-over : goal.returns-in-None-clause-over
returns-in-None-clause-over c = om_held

pub returns-in-None-clause-value : goal.returns-in-None-clause-value
returns-in-None-clause-value c = om_value

pub returns-in-Some-clause-over : goal.returns-in-Some-clause-over
returns-in-Some-clause-over c = λ bs. plain_held bs c.in-Some.v c.learn.ensures

pub returns-in-Some-clause-value : goal.returns-in-Some-clause-value
returns-in-Some-clause-value c = λ bs. plain_value bs c.in-Some.v c.learn.ensures
