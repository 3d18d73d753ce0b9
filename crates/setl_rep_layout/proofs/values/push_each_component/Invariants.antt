use Rattle.std.proofs.Common.{◌≡◌, ◌++◌, drop, map}
use Rattle.setl_modes_dump.specs.Dump.{component}
use Rattle.setl_rep_layout.specs.Members.{values_of}
use Rattle.setl_rep_layout.specs.Texts.{after_blanks}
use Rattle.setl_rep_layout.proofs.values.push_each_component.Given as goal

abbrev pub invariant-loop-i : goal.invariant-loop-i
invariant-loop-i l = l.into.items ++ after_blanks (map (component (values_of l.base)) (drop l.i l.t)) ≡ l.initial.into.items ++ after_blanks (map (component (values_of l.base)) l.t)
