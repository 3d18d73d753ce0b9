-- Maps from numbers, as lists of slots.
use Rattle.std.specs.Prelude.{◌≡◌, ℕ, ◌-◌, cond, nat_eq, List, length, Option, None, Some, get_or}
use Rattle.std.specs.List.{AllZip}

module _ {T : Type 0} where
  -- the content of a number, where it has one
  abbrev pub slot_at : List (Option T) → ℕ → Option T
  slot_at slots n = get_or slots n None

  -- the greatest number that has a slot
  abbrev pub slots_len : List (Option T) → ℕ
  slots_len slots = length slots - 1

  -- new has at the number n the content c, or none, and has at each other number what old has
  abbrev pub PutsSlot : ℕ → Option T → List (Option T) → List (Option T) → Type 0
  PutsSlot n c old new = (q : ℕ) → slot_at new q ≡ cond (nat_eq n q) c (slot_at old q)

  -- a copy of the content where there is one, and else none
  abbrev pub IsSlotCopy : (T → T → Type 0) → Option T → Option T → Type 0
  IsSlotCopy is_copy None None = Unit {0}
  IsSlotCopy is_copy (Some x) (Some y) = is_copy x y
  IsSlotCopy is_copy old new = ⊥

  -- the second has a copy of each slot of the first
  abbrev pub AreSlotCopies : (T → T → Type 0) → List (Option T) → List (Option T) → Type 0
  AreSlotCopies is_copy old new = AllZip (IsSlotCopy is_copy) old new
