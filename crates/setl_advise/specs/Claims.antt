-- What advice says of the runs of a program.
use Rattle.std.specs.Prelude.{ℕ, List}
use Rattle.setl_tree.specs.declared.tree.Tree.{Tree}
use Rattle.setl_names.specs.Names.{Name}
use Rattle.setl_program.specs.ProgramOf.{program_of}
use Rattle.setl_program_laws.specs.Claims.{IsAccepted}
use Rattle.setl_advise_solving.specs.Advised.{NeverUnfit}
use Rattle.setl_advise.specs.Advice.{IsAdvice}

-- No run of an accepted tree ends for a value that doesn't fit, where the declared variables have the modes of the flows by which the section is
-- advised.
abbrev pub AdviceAlwaysFits : Type 0
AdviceAlwaysFits = (names : List Name) (t : Tree) (text : List ℕ) → IsAccepted t → (a : IsAdvice names t text) → NeverUnfit (program_of t) a.flows
