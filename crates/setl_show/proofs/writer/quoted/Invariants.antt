use Rattle.std.proofs.Common.{◌≡◌, [], ◌∷◌, ◌++◌, drop}
use Rattle.setl_token.specs.Form.{doubled}
use Rattle.setl_show.specs.Text.{quoted}
use Rattle.setl_show.proofs.writer.quoted.Given as goal

abbrev pub invariant-loop-b : goal.invariant-loop-b
invariant-loop-b l = l.bytes.items ++ (doubled (drop l.b-index l.text) ++ 39 ∷ []) ≡ quoted l.text
