use Rattle.std.proofs.Common.{◌≡◌, ◌++◌, drop}
use Rattle.setl_modes_dump.specs.Dump.{digits_of}
use Rattle.setl_rep_based.specs.Numbers.{numbers_in}
use Rattle.setl_rep_forms.specs.Stands.{members_at}
use Rattle.setl_rep_layout.specs.Members.{values_of}
use Rattle.setl_rep_layout.proofs.sets.push_each_digit.Given as goal

abbrev pub invariant-loop-n : goal.invariant-loop-n
invariant-loop-n l = l.into.items ++ digits_of (members_at l.base (numbers_in l.numbers)) (drop l.n (values_of l.base)) ≡ l.initial.into.items ++ digits_of (members_at l.base (numbers_in l.numbers)) (values_of l.base)
