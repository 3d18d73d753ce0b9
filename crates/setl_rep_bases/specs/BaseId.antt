-- Names of instances of bases. Each activation of a procedure has instances of its own of the procedure's bases; the main
-- program's activation has the number 0.
use Rattle.std.specs.Prelude.{ℕ, Bool, ◌&&◌, nat_eq, refl}
use Rattle.std.specs.Ordering.{nat_cmp, ordering_then}
use Rattle.std.specs.Coded.{Coded, code_by, coded×, coded_ℕ}
use Rattle.std.specs.declared.cmp.Ordering.{Ordering}
use Rattle.setl_rep_bases.specs.declared.BaseId.{BaseId}

-- by the base, then by the activation
abbrev pub id_cmp : BaseId → BaseId → Ordering
id_cmp i j = ordering_then (nat_cmp i.base j.base) (nat_cmp i.instance j.instance)

-- whether two names are one
abbrev pub is_id : BaseId → BaseId → Bool
is_id i j = nat_eq i.base j.base && nat_eq i.instance j.instance

abbrev pub coded_id : Coded BaseId
coded_id = code_by (ℕ × ℕ) (coded× coded_ℕ coded_ℕ) (λ i. (i.base, i.instance)) (λ p. record { base = p.0; instance = p.1 }) (λ _. refl)

-- the instance that an activation has of a base
abbrev pub id : (base : ℕ) → (instance : ℕ) → BaseId
id b n = record { base = b; instance = n }

-- the main program's instance of a base
abbrev pub main : ℕ → BaseId
main b = id b 0
