-- What a chain stands for.
use Rattle.std.specs.Prelude.{map}
use Rattle.setl_program.specs.Program as plain
use Rattle.setl_program.specs.code.Plain.{plain_expr, plain_link}
use Rattle.setl_program.specs.Lists.{chained}
use Rattle.setl_program_elaborate.specs.declared.chain.Chain.{Chain}

abbrev pub plain_chain : Chain → plain.Expr
plain_chain c = chained (plain_expr c.first) (map plain_link c.links)
