use Rattle.std.proofs.Common.{◌≡◌, ◌<◌, ◌≤◌, ◌-◌, ◌^◌, ℕ, true}
use Rattle.setl_names.specs.Names.{has}
use Rattle.setl_advise_section.specs.Text.{base_name}
use Rattle.setl_advise_names.proofs.free.first_free.Given as goal

abbrev pub invariant-numbers : goal.invariant-numbers
invariant-numbers l = record {
  from_there : l.from ≤ l.number;
  first : (n : ℕ) → l.from ≤ n → n < l.number → has l.names (base_name n) ≡ true;
}

abbrev pub decreases-numbers : goal.decreases-numbers
decreases-numbers l = 2 ^ 64 - l.number
