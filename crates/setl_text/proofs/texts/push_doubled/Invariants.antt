use Rattle.std.proofs.Common.{◌≡◌, ◌++◌, take}
use Rattle.setl_text.specs.Texts.{doubled}
use Rattle.setl_text.proofs.texts.push_doubled.Given as goal

abbrev pub invariant-loop-b : goal.invariant-loop-b
invariant-loop-b l = l.into.items ≡ l.fn.into.items ++ doubled (take l.b-index l.bytes)
