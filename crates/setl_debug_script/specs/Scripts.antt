-- What the lines of a script spell.
use Rattle.std.specs.Prelude.{◌≡◌, ◌<◌, ◌≤◌, ◌^◌, ◌+◌, refl, ℕ, List, [], ◌∷◌, ◌++◌, Some, ⊤, codes, decimal, take, flat_map, slice_get}
use Rattle.setl_debug_script.specs.declared.command.Command.{Command}
use Rattle.setl_debug_script.specs.declared.command.Command.TheVariants.{Input, Go, On, Back, Until, Show, Out, Profile, Nothing}

-- the line of a command; a number is written by decimal digits, without sign and without a leading zero
abbrev pub line_of : Command → List ℕ
line_of (Input text) = codes "input " ++ text
line_of (Go turns) = codes "go " ++ decimal turns
line_of (On turns) = codes "on " ++ decimal turns
line_of (Back turns) = codes "back " ++ decimal turns
line_of (Until line) = codes "until " ++ decimal line
line_of Show = codes "show"
line_of Out = codes "out"
line_of Profile = codes "profile"
line_of Nothing = []

-- turns are below 2^63, and a line of the source is from 1 up to 2^32 - 1
abbrev pub IsInRange : Command → Type 0
IsInRange (Input text) = ⊤
IsInRange (Go turns) = turns < 2 ^ 63
IsInRange (On turns) = turns < 2 ^ 63
IsInRange (Back turns) = turns < 2 ^ 63
IsInRange (Until line) = (1 ≤ line) × (line < 2 ^ 32)
IsInRange Show = ⊤
IsInRange Out = ⊤
IsInRange Profile = ⊤
IsInRange Nothing = ⊤

-- a line spells a command
pub record IsCommand (line : List ℕ) (c : Command) : Type 0 where
  pub spelled : line ≡ line_of c
  pub in_range : IsInRange c

-- a line spells no command
abbrev pub IsFaulty : List ℕ → Type 0
IsFaulty line = (c : Command) → IsCommand line c → ⊥

-- lines spell these commands, one each
abbrev pub AreCommands : List (List ℕ) → List Command → Type 0
AreCommands [] [] = ⊤
AreCommands [] (c ∷ cs) = ⊥
AreCommands (line ∷ lines) [] = ⊥
AreCommands (line ∷ lines) (c ∷ cs) = IsCommand line c × AreCommands lines cs

-- the n-th line, counted from 1, is the first that spells no command
pub record IsFirstFault (lines : List (List ℕ)) (n : ℕ) : Type 0 where
  pub before : ℕ
  pub commands : List Command
  pub line : List ℕ
  pub counted : n ≡ before + 1
  pub spelled : AreCommands (take before lines) commands
  pub there : slice_get lines before ≡ Some line
  pub faulty : IsFaulty line

-- ---- the input of the program

-- what a command adds to it: an `input` line its text and byte 10
abbrev pub input_line : Command → List ℕ
input_line (Input text) = text ++ 10 ∷ []
input_line (Go turns) = []
input_line (On turns) = []
input_line (Back turns) = []
input_line (Until line) = []
input_line Show = []
input_line Out = []
input_line Profile = []
input_line Nothing = []

abbrev pub input_of : List Command → List ℕ
input_of commands = flat_map input_line commands

two_lines : input_of (Input (codes "1 2") ∷ Show ∷ Input [] ∷ []) ≡ codes "1 2\n\n"
two_lines = refl
