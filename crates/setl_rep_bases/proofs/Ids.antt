-- The order of names.
use Rattle.std.proofs.Common.{ℕ, ap}
use Rattle.std.specs.Ordering.{nat_cmp}
use Rattle.std.specs.Cmp.{IsTotalOrder, then_total, on_total, nat_cmp_total}
use Rattle.std.specs.FinMap as map
use Rattle.std.proofs.lemmas.Map.Lookups.{exact_pairs, exact_unsigned}
use Rattle.setl_rep_bases.specs.declared.BaseId.{BaseId}
use Rattle.setl_rep_bases.specs.BaseId.{id_cmp}

pub id_total : IsTotalOrder id_cmp
id_total = then_total (on_total (λ (i : BaseId). i.base) nat_cmp_total) (on_total (λ (i : BaseId). i.instance) nat_cmp_total)

-- names that compare alike are one
pub same_id : map.IsAntisymmetric id_cmp
same_id i j h =
    ap (λ (p : ℕ × ℕ). record { base = p.0; instance = p.1 }) (exact_pairs nat_cmp nat_cmp exact_unsigned exact_unsigned (i.base, i.instance) (j.base, j.instance) h)
