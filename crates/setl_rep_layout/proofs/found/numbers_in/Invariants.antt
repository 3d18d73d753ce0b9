use Rattle.setl_value.specs.code.Body.{Members}
use Rattle.setl_rep_layout.specs.Found.{keys}
use Rattle.setl_rep_layout.proofs.Finding.{IsBuilt}
use Rattle.setl_rep_layout.proofs.found.numbers_in.Given as goal

abbrev pub invariant-loop-v : goal.invariant-loop-v
invariant-loop-v l = IsBuilt l.base l.numbers (keys l.first l.v-iterator) (keys l.first (Members l.s))
