-- A line by its parts: the word before the first blank, and what stands behind the blank.
use Rattle.std.specs.Prelude.{◌≡◌, ℕ, List, [], ◌∷◌, Option, Some, None, nat_eq, if◌then◌else◌}
use Rattle.setl_debug_script.specs.Scripts.{IsInRange, line_of}
use Rattle.setl_debug_script.specs.declared.command.Command.{Command}

abbrev pub split : List ℕ → List ℕ × Option (List ℕ)
split [] = ([], None)
split (b ∷ bs) = if nat_eq b 32 then ([], Some bs) else (b ∷ (split bs).0, (split bs).1)

-- a command in range whose line has these parts
pub record SpellsOne (word : List ℕ) (value : Option (List ℕ)) (c : Command) : Type 0 where
  pub spelled : split (line_of c) ≡ (word, value)
  pub in_range : IsInRange c

-- no command in range has a line with these parts
abbrev pub SpellsNone : List ℕ → Option (List ℕ) → Type 0
SpellsNone word value = (c : Command) → SpellsOne word value c → ⊥
