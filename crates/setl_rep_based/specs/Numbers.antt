-- The numbers of a set, in either layout.
use Rattle.std.specs.Ordering.{nat_cmp}
use Rattle.std.specs.FinSet as set
use Rattle.setl_rep_forms.specs.Form.{Layout, remote, sparse}
use Rattle.setl_rep_based.specs.declared.numbers.Numbers.{Numbers}
use Rattle.setl_rep_based.specs.declared.numbers.Numbers.TheVariants.{Bits, Table}

abbrev pub numbers_in : Numbers → set.FinSet nat_cmp
numbers_in (Bits bits) = bits.now
numbers_in (Table table) = table.now

-- where they lie
abbrev pub layout_of : Numbers → Layout
layout_of (Bits bits) = remote
layout_of (Table table) = sparse
