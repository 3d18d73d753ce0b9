use Rattle.setl_program.proofs.Translated as rows
use Rattle.setl_program.proofs.worked.worked_trees.Goals as goal

pub returns-clause-operators : goal.returns-clause-operators
returns-clause-operators c = rows.operators

pub returns-clause-selections : goal.returns-clause-selections
returns-clause-selections c = rows.selections

pub returns-clause-ranges : goal.returns-clause-ranges
returns-clause-ranges c = rows.ranges

pub returns-clause-formers : goal.returns-clause-formers
returns-clause-formers c = rows.formers

pub returns-clause-quantifiers : goal.returns-clause-quantifiers
returns-clause-quantifiers c = rows.quantifiers

pub returns-clause-calls : goal.returns-clause-calls
returns-clause-calls c = rows.calls
