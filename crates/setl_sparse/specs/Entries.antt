-- Maps from numbers, as lists of entries.
use Rattle.std.specs.Prelude.{◌≡◌, ℕ, cond, nat_eq, List, length, Option}
use Rattle.std.specs.List.{IsDistinct, AllZip}
use Rattle.std.specs.Map.{lookup}

-- the numbers each stand once, and each has a content beside it
abbrev pub IsTable : {T : Type 0} → List ℕ → List T → Type 0
IsTable numbers contents = (length contents ≡ length numbers) × IsDistinct nat_eq numbers

module _ {T : Type 0} where
  -- the content of a number, where it has one
  abbrev pub content_at : List (ℕ × T) → ℕ → Option T
  content_at entries n = lookup (nat_eq n) entries

  -- new has at the number n the content c, or none, and has at each other number what old has
  abbrev pub Puts : ℕ → Option T → List (ℕ × T) → List (ℕ × T) → Type 0
  Puts n c old new = (q : ℕ) → content_at new q ≡ cond (nat_eq n q) c (content_at old q)

  -- the second has the numbers of the first, in their order, each with a copy of its content
  abbrev pub AreCopies : (T → T → Type 0) → List (ℕ × T) → List (ℕ × T) → Type 0
  AreCopies is_copy old new = AllZip (λ e f. (f.0 ≡ e.0) × is_copy e.1 f.1) old new
