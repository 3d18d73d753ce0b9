use Rattle.std.proofs.Common.{◌∙◌, sym}
use Rattle.setl_advise_lattice.proofs.Sames.{same_flow, other_flow}
use Rattle.setl_advise_lattice.specs.code.Levels.{flow_of}
use Rattle.setl_advise_lattice.proofs.flow.is.Goals as goal

pub returns-clause-same : goal.returns-clause-same
returns-clause-same c h = same_flow (flow_of c.args.f) (flow_of c.args.g) (sym c.is.ensures ∙ h)

pub returns-clause-other : goal.returns-clause-other
returns-clause-other c h e = other_flow (flow_of c.args.f) (flow_of c.args.g) (sym c.is.ensures ∙ h) e
