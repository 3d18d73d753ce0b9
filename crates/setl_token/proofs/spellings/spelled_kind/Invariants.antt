use Rattle.std.proofs.Common.{◌≡◌, drop, map}
use Rattle.setl_token.specs.Bytes.{lower}
use Rattle.setl_token.specs.Spellings.{spellings, kind_in}
use Rattle.setl_token.proofs.spellings.spelled_kind.Given as goal

abbrev pub invariant-loop-word : goal.invariant-loop-word
invariant-loop-word l = kind_in (map (λ s. (s.0.now, s.1)) (drop l.word-index l.word-items)) (lower l.text) ≡ kind_in spellings (lower l.text)
