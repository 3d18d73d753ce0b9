-- The numbers of bases and the variables that values stand for.
use Rattle.std.specs.Prelude.{ℕ, List, map}
use Rattle.setl_advise_flows.specs.Flow.{Flow, Whole, Letters, Truth, Token}
use Rattle.setl_advise_flows.specs.Advice.{Bases}
use Rattle.setl_advise_lattice.specs.code.Levels.{flow_of}
use Rattle.setl_advise_section.specs.declared.lines.Numbers.{Numbers}
use Rattle.setl_advise_section.specs.declared.sections.Variable.{Variable}
use Rattle.setl_advise_section.specs.Section.{Variables}

abbrev pub bases_of : Numbers → Bases
bases_of n Whole = n.whole
bases_of n Letters = n.letters
bases_of n Truth = 0
bases_of n Token = n.token

abbrev pub plain_variable : Variable → List ℕ × Flow
plain_variable v = (v.name.now, flow_of v.flow)

abbrev pub plain_variables : List Variable → Variables
plain_variables vs = map plain_variable vs
