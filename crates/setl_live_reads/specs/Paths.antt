-- Paths over the steps of a body, as far as they matter to what is read later.
use Rattle.std.specs.Prelude.{◌≡◌, ℕ, ◌+◌, Bool, true, false, List, [], ◌∷◌, nat_eq, get_or, slice_get, Option, Some, None}
use Rattle.std.specs.List.{Contains}
use Rattle.setl_live_reads.specs.declared.node.Access.{Access}
use Rattle.setl_live_reads.specs.declared.node.Access.TheVariants.{Nothing, Read, Write, HandBack}
use Rattle.setl_live_reads.specs.declared.node.Way.{Way}
use Rattle.setl_live_reads.specs.declared.node.Way.TheVariants.{On, To, Either, Nowhere}
use Rattle.setl_live_reads.specs.declared.node.Node.{Node}

-- whether a slot is read; `back` tells those that are handed back
abbrev pub reads_slot : List Bool → Access → ℕ → Bool
reads_slot back Nothing x = false
reads_slot back (Read y) x = nat_eq y x
reads_slot back (Write y) x = false
reads_slot back HandBack x = get_or back x false

abbrev pub writes_slot : Access → ℕ → Bool
writes_slot Nothing x = false
writes_slot (Read y) x = false
writes_slot (Write y) x = nat_eq y x
writes_slot HandBack x = false

-- the steps that may come after one, where `at` is the next
abbrev pub ways : Way → ℕ → List ℕ
ways On at = at ∷ []
ways (To to) at = to ∷ []
ways (Either to) at = at ∷ to ∷ []
ways Nowhere at = []

-- A path from this step reaches a read of a slot before a write of it.
pub data ReadLater (nodes : List Node) (back : List Bool) (x : ℕ) : ℕ → Type 0 where
  reads : {at : ℕ} {node : Node} → slice_get nodes at ≡ Some node → reads_slot back node.access x ≡ true → ReadLater nodes back x at
  later : {at to : ℕ} {node : Node} → slice_get nodes at ≡ Some node → writes_slot node.access x ≡ false → Contains (ways node.way (at + 1)) to → ReadLater nodes back x to → ReadLater nodes back x at

-- the step to which a step jumps, if it does
abbrev pub target : Way → Option ℕ
target On = None
target (To to) = Some to
target (Either to) = Some to
target Nowhere = None

-- the slot that a step names, if it names one
abbrev pub named : Access → Option ℕ
named Nothing = None
named (Read x) = Some x
named (Write x) = Some x
named HandBack = None

-- a mark at a step tells that no path from the next step reaches a read of the slot before a write of it, or that one does
abbrev pub IsRight : List Node → List Bool → List Bool → ℕ → ℕ → Type 0
IsRight nodes back marks at x = (get_or marks at false ≡ true → ReadLater nodes back x (at + 1) → ⊥) × (get_or marks at false ≡ false → ReadLater nodes back x (at + 1))
