-- What is told of words of no plain form.
use Rattle.std.specs.Prelude.{◌≡◌, ◌≢◌, ℕ, List, [], ◌∷◌, ◌++◌, codes}
use Rattle.clap.specs.Words.{fault_of}
use Rattle.setl_top_words.specs.Line.{setl_app}

-- `clap` takes the words, without an error and without help
abbrev pub IsTaken : List (List ℕ) → Type 0
IsTaken words = fault_of setl_app words ≡ []

-- where `clap` takes the words, the text is this line; it is never empty
pub record TellsFaulty (words : List (List ℕ)) (text : List ℕ) : Type 0 where
  pub taken : IsTaken words → text ≡ codes "not of the plain form" ++ 10 ∷ []
  pub some : text ≢ []
