use Rattle.std.proofs.Common.{◌≡◌, ◌++◌, drop}
use Rattle.setl_modes_dump.specs.Dump.{base_lines}
use Rattle.setl_code_layout.specs.Layout.{members_of}
use Rattle.setl_store_layout.proofs.Walking.{names_of}
use Rattle.setl_store_layout.proofs.lines.push_bases.Given as goal

abbrev pub invariant-loop-n : goal.invariant-loop-n
invariant-loop-n l =
    l.into.items ++ base_lines (members_of l.store.bases) l.n (names_of (drop l.n l.bases)) ≡ l.initial.into.items ++ base_lines (members_of l.store.bases) 0 (names_of l.bases)
