use Rattle.setl_scalar.proofs.integers.+power_by_squaring.Given as goal

abbrev pub decreases-power_by_squaring : goal.decreases-power_by_squaring
decreases-power_by_squaring l = l.exponent
