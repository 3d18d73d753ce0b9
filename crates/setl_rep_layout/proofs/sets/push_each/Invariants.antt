use Rattle.std.proofs.Common.{◌≡◌, ◌++◌, drop}
use Rattle.setl_rep_layout.specs.Texts.{after_blanks, decimals}
use Rattle.setl_rep_layout.proofs.sets.push_each.Given as goal

abbrev pub invariant-loop-n : goal.invariant-loop-n
invariant-loop-n l = l.into.items ++ after_blanks (decimals (drop l.n-index l.list)) ≡ l.initial.into.items ++ after_blanks (decimals l.list)
