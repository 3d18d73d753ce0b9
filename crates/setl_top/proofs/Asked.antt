-- The bound on turns that words ask for, and the line that is told of others.
use Rattle.std.proofs.Common.{◌≡◌, ◌<◌, ◌^◌, ℕ, true, false, List, [], ◌∷◌, ◌++◌, Some, codes, refl, subst, sym, arith}
use Rattle.std.specs.List.{fold}
use Rattle.setl_top_options.specs.declared.given.RunOption.{RunOption}
use Rattle.setl_top_options.specs.declared.given.RunOption.TheVariants.{Unbased, Dump, Turns, Watch}
use Rattle.setl_top_words.specs.Words.{Options, AreOptions, with_option, default_options, Run, Spells}
use Rattle.setl_top_words.specs.Told.{TellsFaulty}
use Rattle.setl_top_words.specs.declared.reading.FileKind.{FileKind}

bounded : (xs : List RunOption) (o : Options) → AreOptions xs → o.turns < 2 ^ 63 → (fold with_option o xs).turns < 2 ^ 63
bounded [] o v h = h
bounded (Unbased ∷ xs) o v h = bounded xs (record o { based = false }) v.2 h
bounded (Dump ∷ xs) o v h = bounded xs (record o { dump = true }) v.2 h
bounded (Turns n ∷ xs) o v h = bounded xs (record o { turns = n }) v.2 v.0
bounded (Watch a ∷ xs) o v h = bounded xs (record o { watch = Some a }) v.2 h

-- it is below 2^63
pub turns_asked : (words : List (List ℕ)) (kind : FileKind) (o : Options) (name : List ℕ) → Spells words (Run kind o name) → o.turns < 2 ^ 63
turns_asked words kind o name s = subst (λ (x : Options). x.turns < 2 ^ 63) (sym s.means) (bounded s.given default_options s.valid (omega arith))

-- the line serves in any case
pub line_told : (words : List (List ℕ)) → TellsFaulty words (codes "not of the plain form" ++ 10 ∷ [])
line_told words = record { taken = λ h. refl; some = λ (e : (codes "not of the plain form" ++ 10 ∷ []) ≡ []). absurd (cc) }
