-- How a trail leads from what is there back to what was kept. No public clause cites this module.
--
-- A base for each mark says how much of what is there is as it was at the mark or is noted; `cut` leaves out the rest,
-- of which nothing is noted.
use Rattle.std.specs.Prelude.{◌≡◌, ℕ, zero, suc, ◌<◌, List, [], ◌∷◌, drop}
use Rattle.setl_trail.specs.Trail.{Item, entry, mark, mark_count}
use Rattle.setl_store_environment.specs.declared.environment.Base.{Base}

-- where nothing is kept
abbrev pub nowhere : Base
nowhere = record { slots = 0; operands = 0; activations = 0; members = 0; since = 0 }

-- the base of the latest mark
abbrev pub base_of : List Base → Base
base_of [] = nowhere
base_of (n ∷ ns) = n

module _ {C E : Type 0} where
  -- what stands at each mark once the entries above it were put back, with the mark's record; the bases are those of the
  -- marks below
  abbrev pub kept_of : {K : Type 0} → (C → E → C) → (Base → C → C) → C → List (Item E) → List Base → List K → List (C × K)
  kept_of undone cut c [] ns ks = []
  kept_of undone cut c (entry e ∷ items) ns ks = kept_of undone cut (undone c e) items ns ks
  kept_of undone cut c (mark ∷ items) ns [] = []
  kept_of undone cut c (mark ∷ items) ns (k ∷ ks) = (c, k) ∷ kept_of undone cut (cut (base_of ns) c) items (drop 1 ns) ks

  -- each entry stands above a mark, and can be put back when its turn comes; what is there then reaches as far as the
  -- base of the mark says
  abbrev pub IsUndoable : (C → E → C) → (Base → C → C) → (Base → C → Type 0) → (C → E → Type 0) → Base → C → List (Item E) → List Base → Type 0
  IsUndoable undone cut reaches fits n c [] ns = n ≡ nowhere
  IsUndoable undone cut reaches fits n c (entry e ∷ items) ns = (0 < mark_count items) × fits c e × IsUndoable undone cut reaches fits n (undone c e) items ns
  IsUndoable undone cut reaches fits n c (mark ∷ items) ns = reaches (base_of ns) c × IsUndoable undone cut reaches fits (base_of ns) (cut (base_of ns) c) items (drop 1 ns)

module _ {E : Type 0} where
  -- the trail after a note: an entry is noted only where there is a mark
  abbrev pub noted_by : ℕ → E → List (Item E) → List (Item E)
  noted_by zero e items = items
  noted_by (suc n) e items = entry e ∷ items

  abbrev pub noted : E → List (Item E) → List (Item E)
  noted e items = noted_by (mark_count items) e items
