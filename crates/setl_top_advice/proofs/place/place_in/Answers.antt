use Rattle.setl_top_advice.specs.Put.{between, in_place}
use Rattle.setl_top_advice.proofs.place.place_in.Goals as goal

pub returns-then-i-len-clause-place : goal.returns-then-i-len-clause-place
returns-then-i-len-clause-place c = between 0

pub returns-in-None-clause-place : goal.returns-in-None-clause-place
returns-in-None-clause-place c = between c.at.result.now.from

pub returns-in-Some-clause-place : goal.returns-in-Some-clause-place
returns-in-Some-clause-place c = in_place _ _ _ _ c.in-Some.ensures.section c.at.ensures.value c.at-in-Some.ensures.value
