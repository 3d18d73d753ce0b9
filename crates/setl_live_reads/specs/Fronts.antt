-- What is read first in straight steps, for a slot and for the 64 slots of a row.
use Rattle.std.specs.Prelude.{◌≡◌, ℕ, ◌+◌, ◌*◌, ◌<◌, ◌⊎◌, Bool, true, false, List, length, get_or, slice_get, Some}
use Rattle.std.specs.Int.{bit_at}
use Rattle.setl_live_reads.specs.declared.node.Node.{Node}
use Rattle.setl_live_reads.specs.Paths.{reads_slot, writes_slot}

-- In the straight steps from this one until `until` a read of the slot comes before a write of it, or none writes it and `Then` holds.
pub data ReadUntil (nodes : List Node) (back : List Bool) (x until : ℕ) (Then : Type 0) : ℕ → Type 0 where
  ends : {at : ℕ} → at ≡ until → Then → ReadUntil nodes back x until Then at
  read : {at : ℕ} {node : Node} → at < until → slice_get nodes at ≡ Some node → reads_slot back node.access x ≡ true → ReadUntil nodes back x until Then at
  passed : {at : ℕ} {node : Node} → at < until → slice_get nodes at ≡ Some node → writes_slot node.access x ≡ false → ReadUntil nodes back x until Then (at + 1) → ReadUntil nodes back x until Then at

-- the word has the slots of the row that are read first from this step on, where `behind` has those that are read first from `until` on
abbrev pub IsFront : List Node → List Bool → ℕ → ℕ → ℕ → ℕ → ℕ → Type 0
IsFront nodes back row until behind at word =
    (k : ℕ) → k < 64
    → (bit_at word k ≡ 1 → ReadUntil nodes back (row * 64 + k) until (bit_at behind k ≡ 1) at) × (ReadUntil nodes back (row * 64 + k) until (bit_at behind k ≡ 1) at → bit_at word k ≡ 1)

-- the two words of a block: the slots that it reads first (gen), and with them those that it doesn't write (the others are its kill set)
pub record HasFronts (nodes : List Node) (back : List Bool) (row : ℕ) (firsts gens passes : List ℕ) (b : ℕ) : Type 0 where
  pub gen : IsFront nodes back row (get_or firsts (b + 1) (length nodes)) 0 (get_or firsts b (length nodes)) (get_or gens b 0)
  pub pass : IsFront nodes back row (get_or firsts (b + 1) (length nodes)) 18446744073709551615 (get_or firsts b (length nodes)) (get_or passes b 0)

-- a read of the slot comes first behind this step, where `next` has what is read first from `until` on, and `out` what is read first behind the step before `until`
abbrev pub ReadBehind : List Node → List Bool → ℕ → ℕ → ℕ → ℕ → ℕ → ℕ → Type 0
ReadBehind nodes back x k until next out at = ((at + 1 ≡ until) × (bit_at next k ≡ 1)) ⊎ ((at + 1 < until) × ReadUntil nodes back x until (bit_at out k ≡ 1) (at + 1))
