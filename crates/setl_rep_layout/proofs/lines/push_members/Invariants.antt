use Rattle.std.proofs.Common.{◌≡◌, ◌++◌, drop}
use Rattle.setl_rep_layout.specs.Members.{values_of}
use Rattle.setl_rep_layout.specs.Texts.{after_blanks, inner_texts}
use Rattle.setl_rep_layout.proofs.lines.push_members.Given as goal

abbrev pub invariant-loop-n : goal.invariant-loop-n
invariant-loop-n l = l.into.items ++ after_blanks (inner_texts (drop l.n (values_of l.base))) ≡ l.initial.into.items ++ after_blanks (inner_texts (values_of l.base))
