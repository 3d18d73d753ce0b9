-- Sets of 64 slots in a row as the bits of a number, one for each block.
use Rattle.std.specs.Prelude.{◌≡◌, ℕ, ◌+◌, ◌*◌, ◌<◌, ◌≤◌, ◌⊎◌, ◌-◌, ◌^◌, sum_by, true, false, List, get_or, length, slice_get, Some, Bool}
use Rattle.std.specs.Int.{bit_at}
use Rattle.std.specs.List.{Contains}
use Rattle.setl_live_reads.specs.declared.node.Node.{Node}
use Rattle.setl_live_reads.specs.Paths.{reads_slot, ways, ReadLater}
use Rattle.setl_live_reads.specs.Fronts.{ReadUntil}

-- the set at a block has the slot with this number in the row
abbrev pub Has : List ℕ → ℕ → ℕ → Type 0
Has masks b k = bit_at (get_or masks b 0) k ≡ 1

-- the word has the slots of the row that are handed back
abbrev pub IsHanded : List Bool → ℕ → ℕ → Type 0
IsHanded back base handed = ((k : ℕ) → k < 64 → get_or back (base + k) false ≡ true → bit_at handed k ≡ 1) × ((k : ℕ) → k < 64 → bit_at handed k ≡ 1 → get_or back (base + k) false ≡ true)

-- ---- blocks with gen and pass sets, in a window of blocks

-- The slot is live at a block: the block's gen set has it, or its pass set does and the slot is live at a block to which it leads.
pub data LiveAt (lasts : List Node) (gens passes : List ℕ) (low high k : ℕ) : ℕ → Type 0 where
  gen : {b : ℕ} → low ≤ b → b < high → Has gens b k → LiveAt lasts gens passes low high k b
  pass : {b to : ℕ} {last : Node} → low ≤ b → b < high → slice_get lasts b ≡ Some last → Has passes b k → Contains (ways last.way (b + 1)) to → LiveAt lasts gens passes low high k to → LiveAt lasts gens passes low high k b

-- what stands in a set is live there
abbrev pub Justified : List Node → List ℕ → List ℕ → ℕ → ℕ → List ℕ → Type 0
Justified lasts gens passes low high masks = (b k : ℕ) → k < 64 → Has masks b k → LiveAt lasts gens passes low high k b

-- the set of a block has its gen set, and what stands behind the block and in its pass set
pub record ClosedAt (lasts : List Node) (gens passes masks : List ℕ) (b : ℕ) : Type 0 where
  pub gen : (k : ℕ) → k < 64 → Has gens b k → Has masks b k
  pub pass : (k to : ℕ) (last : Node) → k < 64 → slice_get lasts b ≡ Some last → Has passes b k → Contains (ways last.way (b + 1)) to → Has masks to k → Has masks b k

-- the sets of the blocks in the window are closed
abbrev pub ClosedIn : List Node → List ℕ → List ℕ → ℕ → ℕ → List ℕ → Type 0
ClosedIn lasts gens passes low high masks = (b : ℕ) → low ≤ b → b < high → ClosedAt lasts gens passes masks b

abbrev pub Outside : ℕ → ℕ → ℕ → Type 0
Outside low high b = (b < low) ⊎ (high ≤ b)

-- outside the window blocks lead to its first block at most
abbrev pub Apart : List Node → ℕ → ℕ → Type 0
Apart lasts low high = (b to : ℕ) (last : Node) → slice_get lasts b ≡ Some last → Outside low high b → Contains (ways last.way (b + 1)) to → (to ≤ low) ⊎ (high ≤ to)

abbrev pub EmptyOutside : ℕ → ℕ → List ℕ → Type 0
EmptyOutside low high masks = (b : ℕ) → Outside low high b → get_or masks b 0 ≡ 0

abbrev pub AllEmpty : List ℕ → Type 0
AllEmpty masks = (b : ℕ) → get_or masks b 0 ≡ 0

-- how far the sets are from being full, as numbers; each change makes it less
abbrev pub room_left : List ℕ → ℕ
room_left masks = sum_by (λ m. 2 ^ 64 - m) masks

-- ---- sets of blocks, and what is read later

-- a set behind the block has the slot
abbrev pub HasBehind : List Node → List ℕ → ℕ → ℕ → Type 0
HasBehind lasts masks b k = (to : ℕ) × (last : Node) × (slice_get lasts b ≡ Some last) × Contains (ways last.way (b + 1)) to × Has masks to k

-- the sets tell what is read later from the first steps of the blocks on: what stands in them is, and in the window nothing else is
pub record TellsReads (nodes : List Node) (back : List Bool) (row : ℕ) (firsts : List ℕ) (lasts : List Node) (low high : ℕ) (masks : List ℕ) : Type 0 where
  pub justified : (b k : ℕ) → k < 64 → Has masks b k → ReadLater nodes back (row * 64 + k) (get_or firsts b (length nodes))
  pub closed : (b k : ℕ) → k < 64 → low ≤ b → b < high → ReadUntil nodes back (row * 64 + k) (get_or firsts (b + 1) (length nodes)) (HasBehind lasts masks b k) (get_or firsts b (length nodes)) → Has masks b k

-- each read of a slot of the row lies in these steps
abbrev pub Covers : List Node → List Bool → ℕ → ℕ → ℕ → Type 0
Covers nodes back row from until = (at k : ℕ) (node : Node) → k < 64 → slice_get nodes at ≡ Some node → reads_slot back node.access (row * 64 + k) ≡ true → (from ≤ at) × (at < until)
