-- Basic blocks: straight steps, entered at the first one alone.
use Rattle.std.specs.Prelude.{◌≡◌, ℕ, ◌+◌, ◌-◌, ◌<◌, ◌≤◌, List, length, get_or, slice_get, Bool, true, false, Some}
use Rattle.setl_live_reads.specs.declared.node.Access.TheVariants.{HandBack}
use Rattle.setl_live_reads.specs.declared.node.Way.{Way}
use Rattle.setl_live_reads.specs.declared.node.Way.TheVariants.{On, To, Either, Nowhere}
use Rattle.setl_live_reads.specs.declared.node.Node.{Node}
use Rattle.setl_live_reads.specs.Paths.{target}

-- it leads to the next step alone, and hands nothing back
abbrev pub IsPlain : Node → Type 0
IsPlain node = (node.way ≡ On) × (node.access ≡ HandBack → ⊥)

-- The first `n` steps are cut into blocks. `get_or firsts b n` is the first step of the block `b`, or `n` behind the last block, and `blocks` has the block of each step. All steps of a block but the last one are plain.
pub record IsCut (nodes : List Node) (firsts blocks : List ℕ) (n : ℕ) : Type 0 where
  pub few : length firsts ≤ n
  pub sizes : length blocks ≡ n
  pub rising : (b : ℕ) → b < length firsts → get_or firsts b n < get_or firsts (b + 1) n
  pub inside : (at : ℕ) → at < n → (get_or blocks at 0 < length firsts) × (get_or firsts (get_or blocks at 0) n ≤ at) × (at < get_or firsts (get_or blocks at 0 + 1) n)
  pub straight : (b at : ℕ) (node : Node) → b < length firsts → get_or firsts b n ≤ at → at + 1 < get_or firsts (b + 1) n → slice_get nodes at ≡ Some node → IsPlain node

-- the steps of these first ones that are jumped to
abbrev pub Jumped : List Node → List Bool → ℕ → Type 0
Jumped nodes jumped n = (at to : ℕ) (node : Node) → at < n → slice_get nodes at ≡ Some node → target node.way ≡ Some to → to < length nodes → get_or jumped to false ≡ true

-- a step that is jumped to is the first one of its block
abbrev pub Entered : List Bool → List ℕ → List ℕ → ℕ → Type 0
Entered jumped firsts blocks n = (to : ℕ) → to < n → get_or jumped to false ≡ true → get_or firsts (get_or blocks to 0) n ≡ to

-- the block of a step, or a number that no block has
abbrev pub block_at : List ℕ → ℕ → ℕ
block_at blocks to = get_or blocks to 4294967295

-- where a step leads, with blocks in place of steps
abbrev pub in_blocks : List ℕ → Way → Way
in_blocks blocks On = On
in_blocks blocks (To to) = To (block_at blocks to)
in_blocks blocks (Either to) = Either (block_at blocks to)
in_blocks blocks Nowhere = Nowhere

-- this is the last step of a block, with blocks in place of steps
abbrev pub IsLast : List Node → List ℕ → List ℕ → ℕ → Node → Type 0
IsLast nodes firsts blocks b last = (node : Node) → slice_get nodes (get_or firsts (b + 1) (length nodes) - 1) ≡ Some node → (last.access ≡ node.access) × (last.way ≡ in_blocks blocks node.way)

-- a body that is cut into blocks, with the last step of each block
pub record AreBlocks (nodes : List Node) (firsts blocks : List ℕ) (lasts : List Node) : Type 0 where
  pub fits : length nodes < 4294967296
  pub cut : IsCut nodes firsts blocks (length nodes)
  pub entered : (at to : ℕ) (node : Node) → slice_get nodes at ≡ Some node → target node.way ≡ Some to → to < length nodes → get_or firsts (get_or blocks to 0) (length nodes) ≡ to
  pub count : length lasts ≡ length firsts
  pub leads : (b : ℕ) (last : Node) → slice_get lasts b ≡ Some last → IsLast nodes firsts blocks b last
