-- Ranges of blocks.
use Rattle.std.specs.Prelude.{◌≡◌, ℕ, ◌/◌, ◌<◌, ◌≤◌, List, get_or, length, slice_get, Some}
use Rattle.setl_live_reads.specs.declared.node.Node.{Node}
use Rattle.setl_live_reads.specs.Paths.{target, named}

-- the block is in the range at this place
abbrev pub InRange : List ℕ → List ℕ → ℕ → ℕ → Type 0
InRange first last place b = (get_or first place 0 ≤ b) × (b ≤ get_or last place 0)

-- each block before this one is in the range of the block to which it jumps
abbrev pub Sourced : List Node → List ℕ → List ℕ → ℕ → Type 0
Sourced lasts first last n = (b to : ℕ) (node : Node) → b < n → slice_get lasts b ≡ Some node → target node.way ≡ Some to → to < length lasts → InRange first last to b

-- the block of each step before this one is in the range of the row of the slot that the step names
abbrev pub Spanned : List Node → List ℕ → ℕ → List ℕ → List ℕ → ℕ → Type 0
Spanned nodes blocks rows first last n = (at slot : ℕ) (node : Node) → at < n → slice_get nodes at ≡ Some node → named node.access ≡ Some slot → slot / 64 < rows → InRange first last (slot / 64) (get_or blocks at 0)
