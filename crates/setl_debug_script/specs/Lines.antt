-- The lines of bytes: each ends by byte 10 or by the end of the bytes.
use Rattle.std.specs.Prelude.{◌≡◌, refl, ℕ, List, [], ◌∷◌, nat_eq, if◌then◌else◌, codes}

-- a byte at the front of the first line
abbrev pub with_byte : ℕ → List (List ℕ) → List (List ℕ)
with_byte b [] = (b ∷ []) ∷ []
with_byte b (line ∷ lines) = (b ∷ line) ∷ lines

-- the lines, without their ends
abbrev pub lines : List ℕ → List (List ℕ)
lines [] = []
lines (b ∷ bs) = if nat_eq b 10 then [] ∷ lines bs else with_byte b (lines bs)

-- ---- worked rows

-- the end of the last line may be missing, and a line may be empty
open_end : lines (codes "go 2\n\nshow") ≡ codes "go 2" ∷ [] ∷ codes "show" ∷ []
open_end = refl

closed_end : lines (codes "go 2\n\nshow\n") ≡ codes "go 2" ∷ [] ∷ codes "show" ∷ []
closed_end = refl
