-- What tables and selectors stand for.
use Rattle.std.specs.Prelude.{List, map}
use Rattle.setl_advise_flows.specs.Flow as plain
use Rattle.setl_advise_flows.specs.Expressions.{Flows, RoundAt, BraceAt}
use Rattle.setl_advise_flows.specs.Expressions as expressions
use Rattle.setl_advise_lattice.specs.declared.level.Flat.{Flat}
use Rattle.setl_advise_lattice.specs.declared.level.Level.{Level}
use Rattle.setl_advise_lattice.specs.code.Levels.{flow_of}
use Rattle.setl_advise_gathering.specs.declared.condition.Target.{Target}
use Rattle.setl_advise_gathering.specs.code.Plain.{plain_target}
use Rattle.setl_advise_terms.specs.Table.{Table, flows_in}
use Rattle.setl_advise_terms.specs.declared.places.At.{At}
use Rattle.setl_advise_terms.specs.declared.places.At.TheVariants as at
use Rattle.setl_advise_terms.specs.declared.places.Selected.{Selected}

abbrev pub plain_table : List (Target × Level (Level (Level Flat))) → Table
plain_table es = map (λ e. (plain_target e.0, flow_of e.1)) es

-- the flows that a table stands for
abbrev pub flows_of : List (Target × Level (Level (Level Flat))) → Flows
flows_of es = flows_in (plain_table es)

abbrev pub plain_at : At → expressions.At
plain_at (at.Round x) = RoundAt (flow_of x)
plain_at (at.Brace x) = BraceAt (flow_of x)

abbrev pub plain_selected : Selected → expressions.At × plain.Flow
plain_selected l = (plain_at l.at, flow_of l.from)
