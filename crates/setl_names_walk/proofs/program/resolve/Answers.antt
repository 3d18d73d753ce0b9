use Rattle.std.proofs.Common.{◌∙◌, sym}
use Rattle.setl_names_walk.proofs.program.resolve.Goals as goal

pub returns-in-None : goal.returns-in-None
returns-in-None c = (sym c.in_ok-found.ensures.first ∙ c.in-None.is, c.in_ok-found.ensures.names)

pub returns-in-Some : goal.returns-in-Some
returns-in-Some c = sym c.in_ok-found.ensures.first ∙ c.in-Some.is
