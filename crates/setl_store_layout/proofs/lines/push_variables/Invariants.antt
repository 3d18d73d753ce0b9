use Rattle.std.proofs.Common.{◌≡◌, ◌++◌, drop}
use Rattle.setl_code_layout.specs.Layout.{members_of}
use Rattle.setl_store_layout.proofs.Walking.{declared_lines}
use Rattle.setl_store_layout.proofs.lines.push_variables.Given as goal

abbrev pub invariant-loop-n : goal.invariant-loop-n
invariant-loop-n l =
    l.into.items ++ declared_lines (members_of l.store.bases) l.store.core (drop l.n l.declared) ≡ l.initial.into.items ++ declared_lines (members_of l.store.bases) l.store.core l.declared
