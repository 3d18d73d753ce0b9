-- Stamps tell which places need no note. No public clause cites this module.
use Rattle.std.specs.Prelude.{ℕ, ◌<◌, ◌≤◌, ◌||◌, Bool, false, is_some, List, [], ◌∷◌, drop, Option, get_or}
use Rattle.std.specs.Option.{unwrap_or}
use Rattle.setl_trail.specs.Trail.{Item, entry, mark}
use Rattle.setl_store_environment.specs.Kept.{base_of}
use Rattle.setl_store_environment.specs.declared.environment.Base.{Base}

-- `stamp_of` gives the stamp that an entry puts back at a place, if it is of that place.
module _ {E : Type 0} (stamp_of : E → ℕ → Option ℕ) where
  -- an entry above the latest mark is of this place
  abbrev pub is_noted : ℕ → List (Item E) → Bool
  is_noted at [] = false
  is_noted at (entry e ∷ items) = is_some (stamp_of e at) || is_noted at items
  is_noted at (mark ∷ items) = false

  -- What the stamp of a place says: led back to a mark, it is from before the mark's copy, if the place is below the base.
  -- So if it isn't, the place is noted. Of a place at or above the base of an older mark it says nothing there.
  abbrev pub Tells : (Base → ℕ) → ℕ → ℕ → ℕ → List (Item E) → Base → List Base → Type 0
  Tells height clock at stamp [] n ns = n.since < clock
  Tells height clock at stamp (entry e ∷ items) n ns = (unwrap_or (stamp_of e at) 0 < clock) × Tells height clock at (unwrap_or (stamp_of e at) stamp) items n ns
  Tells height clock at stamp (mark ∷ items) n ns =
      (n.since < clock) × (at < height n → stamp < n.since)
      × ((s : ℕ) → (at < height (base_of ns) → s ≤ stamp) → Tells height clock at s items (base_of ns) (drop 1 ns))

  -- the stamps are from before the clock, and each one below the base tells
  pub record IsStamped (height : Base → ℕ) (clock : ℕ) (n : Base) (ns : List Base) (items : List (Item E)) (stamps : List ℕ) : Type 0 where
    pub before : (at : ℕ) → get_or stamps at 0 < clock
    pub tells : (at s : ℕ) → (at < height n → s ≤ get_or stamps at 0) → Tells height clock at s items n ns
