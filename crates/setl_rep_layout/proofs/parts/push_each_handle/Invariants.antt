use Rattle.std.proofs.Common.{◌≡◌, ◌++◌, drop}
use Rattle.setl_rep_layout.specs.Texts.{after_blanks, handle_texts}
use Rattle.setl_rep_layout.proofs.parts.push_each_handle.Given as goal

abbrev pub invariant-loop-e : goal.invariant-loop-e
invariant-loop-e l = l.into.items ++ after_blanks (handle_texts (drop l.e-index l.list)) ≡ l.initial.into.items ++ after_blanks (handle_texts l.list)
