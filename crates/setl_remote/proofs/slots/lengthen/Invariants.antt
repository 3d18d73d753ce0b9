use Rattle.std.proofs.Common.{◌≡◌, ℕ, ◌+◌, ◌≤◌, length, vec_capacity}
use Rattle.setl_remote.specs.Slots.{slot_at}
use Rattle.setl_remote.proofs.slots.lengthen.Given as goal

abbrev pub invariant-loop-i : goal.invariant-loop-i
invariant-loop-i g l =
    (length l.slots.items ≡ length l.initial.slots.items + l._i) × (length l.initial.slots.items + l.more ≤ vec_capacity l.slots)
    × ((n : ℕ) → slot_at l.slots.items n ≡ slot_at l.initial.slots.items n)
