-- What the code holds while it reads options.
use Rattle.std.specs.Prelude.{◌≡◌, ℕ, List, [], ◌∷◌, ⊤}
use Rattle.std.specs.List.{flat_map, fold}
use Rattle.setl_top_options.specs.code.Given.{IsFree, with_given}
use Rattle.setl_top_options.specs.declared.given.Given.{Given}
use Rattle.setl_top_options.specs.declared.given.RunOption.{RunOption}
use Rattle.setl_top_words.specs.Words.{option_words, AreOptions}

-- no option of these kinds was given
abbrev pub AreFree : Given → List RunOption → Type 0
AreFree given [] = ⊤
AreFree given (x ∷ xs) = IsFree given x × AreFree given xs

-- the words are these options, none of a kind twice or of a kind that was given before
pub record Gives (given : Given) (words : List (List ℕ)) (options : List RunOption) : Type 0 where
  pub spelled : words ≡ flat_map option_words options
  pub valid : AreOptions options
  pub free : AreFree given options

-- the words are options, and lead from what was given before them to `all`
pub record Leads (given : Given) (words : List (List ℕ)) (all : Given) : Type 0 where
  pub options : List RunOption
  pub gives : Gives given words options
  pub comes_to : all ≡ fold with_given given options

-- the words are no such options
abbrev pub LeadsNowhere : Given → List (List ℕ) → Type 0
LeadsNowhere given words = (options : List RunOption) → Gives given words options → ⊥
