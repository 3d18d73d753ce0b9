use Rattle.setl_names_walk.proofs.Whole.{first_found, names_found}
use Rattle.setl_names_walk.proofs.program.resolve_all.Goals as goal

pub returns-clause-first : goal.returns-clause-first
returns-clause-first c = first_found c.args.tree.now c.resolve_with.result c.resolve_with.ensures

pub returns-clause-names : goal.returns-clause-names
returns-clause-names c = names_found c.args.tree.now c.resolve_with.result c.resolve_with.ensures
