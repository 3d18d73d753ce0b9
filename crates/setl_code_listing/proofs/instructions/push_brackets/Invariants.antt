use Rattle.std.proofs.Common.{◌≡◌, ◌++◌, drop, map}
use Rattle.setl_code.specs.Listing.{brackets_text}
use Rattle.setl_code.specs.Plain.{plain_bracket}
use Rattle.setl_code_listing.proofs.instructions.push_brackets.Given as goal

abbrev pub invariant-loop-b : goal.invariant-loop-b
invariant-loop-b l = l.into.items ++ brackets_text (map plain_bracket (drop l.b-index l.brackets)) ≡ l.fn.into.items ++ brackets_text (map plain_bracket l.brackets)
