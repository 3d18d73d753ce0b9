use Rattle.std.proofs.Common.{◌≡◌, ◌++◌, drop, flat_map}
use Rattle.setl_explain_open.specs.Texts.{opening_text}
use Rattle.setl_explain_open.proofs.text.push_openings.Given as goal

abbrev pub invariant-loop-opening : goal.invariant-loop-opening
invariant-loop-opening l = l.into.items ++ flat_map opening_text (drop l.opening-index l.openings) ≡ l.fn.into.items ++ flat_map opening_text l.openings
