use Rattle.std.proofs.Common.{◌≡◌, filter}
use Rattle.std.specs.Prelude.{is_some}
use Rattle.std.specs.List.{range_with_len}
use Rattle.setl_remote.specs.Slots.{slot_at}
use Rattle.setl_rep_layout.proofs.numbers.slot_numbers.Given as goal

abbrev pub invariant-loop-n : goal.invariant-loop-n
invariant-loop-n l = l.list.items ≡ filter (λ q. is_some (slot_at l.slots q)) (range_with_len 1 l.n)
