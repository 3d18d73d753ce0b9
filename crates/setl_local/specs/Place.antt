-- Places: an object number with a block number.
use Rattle.std.specs.Prelude.{ℕ}
use Rattle.std.specs.Ordering.{nat_cmp, ordering_then}
use Rattle.std.specs.Cmp.{IsTotalOrder, then_total, on_total, nat_cmp_total}
use Rattle.std.specs.FinMap as map
use Rattle.std.proofs.lemmas.Map.Lookups.{exact_pairs, exact_unsigned}
use Rattle.std.specs.declared.cmp.Ordering.{Ordering}

abbrev pub Place : Type 0
Place = ℕ × ℕ

-- by the object, then by the block
abbrev pub place_cmp : Place → Place → Ordering
place_cmp p q = ordering_then (nat_cmp p.0 q.0) (nat_cmp p.1 q.1)

pub place_total : IsTotalOrder place_cmp
place_total = then_total (on_total (λ (p : Place). p.0) nat_cmp_total) (on_total (λ (p : Place). p.1) nat_cmp_total)

pub place_antisymmetric : map.IsAntisymmetric place_cmp
place_antisymmetric = exact_pairs nat_cmp nat_cmp exact_unsigned exact_unsigned
