use Rattle.std.proofs.Common.{◌≡◌, ◌++◌, ◌-◌, drop, length}
use Rattle.setl_advise_gathering.specs.code.Plain.{listed}
use Rattle.setl_advise_gathering.proofs.Passes.{all_passed}
use Rattle.setl_advise_gathering.proofs.bindings.passed.Given as goal

abbrev pub invariant-pairs : goal.invariant-pairs
invariant-pairs l = listed l.all.items ++ all_passed l.body (drop l.k l.ps) (drop l.k l.xs) ≡ listed l.initial.all.items ++ all_passed l.body l.ps l.xs

abbrev pub decreases-pairs : goal.decreases-pairs
decreases-pairs l = length l.ps - l.k
