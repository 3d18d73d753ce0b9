use Rattle.std.proofs.Common.{◌≡◌, ◌<◌, ℕ, true, false, get_or, Some}
use Rattle.std.specs.Prelude.{slice_get}
use Rattle.setl_code.specs.declared.code.Step.{Step}
use Rattle.setl_live.specs.Takes.{is_right}
use Rattle.setl_live.proofs.taking.are_right.Given as goal

abbrev pub invariant-steps : goal.invariant-steps
invariant-steps l = (k : ℕ) (s : Step) → k < l.at → slice_get l.steps k ≡ Some s → is_right (get_or l.marks k false) l.refused s.what ≡ true
