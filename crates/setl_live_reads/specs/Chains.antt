-- The steps that name a slot of a row of 64 slots.
use Rattle.std.specs.Prelude.{◌≡◌, ℕ, ◌-◌, ◌/◌, ◌<◌, ◌≤◌, List, get_or, slice_get, Some}
use Rattle.setl_live_reads.specs.declared.node.Access.{Access}
use Rattle.setl_live_reads.specs.declared.node.Node.{Node}
use Rattle.setl_live_reads.specs.Paths.{named}

-- it names a slot of the row
abbrev pub InRow : Access → ℕ → Type 0
InRow access row = (slot : ℕ) × (named access ≡ Some slot) × (slot / 64 ≡ row)

-- of the first `n` steps the one before `bound` is the latest that names a slot of the row, or `bound` is 0 and none does
pub record IsLatest (nodes : List Node) (row n bound : ℕ) : Type 0 where
  pub within : bound ≤ n
  pub here : (node : Node) → 0 < bound → slice_get nodes (bound - 1) ≡ Some node → InRow node.access row
  pub none : (at : ℕ) (node : Node) → bound ≤ at → at < n → slice_get nodes at ≡ Some node → InRow node.access row → ⊥

-- at each of the first `n` steps that names a slot of the row, the one before it in the row
abbrev pub Chained : List Node → ℕ → ℕ → List ℕ → Type 0
Chained nodes row n earlier = (at : ℕ) (node : Node) → at < n → slice_get nodes at ≡ Some node → InRow node.access row → IsLatest nodes row at (get_or earlier at 0)

-- the chains of the first rows, over the first `n` steps
abbrev pub AreChains : List Node → ℕ → ℕ → List ℕ → List ℕ → Type 0
AreChains nodes rows n latest earlier = (row : ℕ) → row < rows → IsLatest nodes row n (get_or latest row 0) × Chained nodes row n earlier
