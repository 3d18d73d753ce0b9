use Rattle.std.proofs.Common.{◌≡◌, ◌+◌, ◌<◌, ℕ, true, false, get_or}
use Rattle.std.specs.Int.{bit_at}
use Rattle.setl_live_reads.proofs.row.handed_of.Given as goal

abbrev pub invariant-slots : goal.invariant-slots
invariant-slots l = record {
  there : (i : ℕ) → i < l.k → get_or l.back (l.base + i) false ≡ true → bit_at l.handed i ≡ 1;
  only : (i : ℕ) → i < 64 → bit_at l.handed i ≡ 1 → get_or l.back (l.base + i) false ≡ true;
}
