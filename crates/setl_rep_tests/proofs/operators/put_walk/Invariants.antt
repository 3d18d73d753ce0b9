use Rattle.setl_rep_forms.specs.FormOf.{form}
use Rattle.setl_rep_kernels.specs.Kernels.{IsAfter}
use Rattle.setl_rep_tests.proofs.operators.put_walk.Given as goal

abbrev pub invariant-loop-turn : goal.invariant-loop-turn
invariant-loop-turn l = IsAfter l.bases (form l.s) l.after
