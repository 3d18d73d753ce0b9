use Rattle.std.proofs.Common.{◌≡◌, drop, map}
use Rattle.setl_token.specs.Spellings.{text_in}
use Rattle.setl_token.proofs.spellings.text_in.Given as goal

abbrev pub invariant-loop-text : goal.invariant-loop-text
invariant-loop-text l = text_in (map (λ s. (s.0.now, s.1)) (drop l.text-index l.all)) l.kind ≡ text_in (map (λ s. (s.0.now, s.1)) l.all) l.kind
