-- What is kept at places.
use Rattle.std.specs.Prelude.{refl}
use Rattle.std.specs.Coded.{Coded, code_by, coded×, coded_ℕ}
use Rattle.std.specs.FinSet as set
use Rattle.std.specs.FinMap as map
use Rattle.setl_local.specs.Place.{place_cmp}

pub record FieldState (T : Type 0) : Type 0 where
  -- the places that have room
  pub room : set.FinSet place_cmp
  -- the places whose bit is on
  pub bits : set.FinSet place_cmp
  -- the content of each place that has one
  pub contents : map.FinMap place_cmp T

abbrev pub state_code : {T : Type 0} → Coded T → Coded (FieldState T)
state_code {T} code =
    code_by (set.FinSet place_cmp × (set.FinSet place_cmp × map.FinMap place_cmp T))
    (coded× (set.code (coded× coded_ℕ coded_ℕ)) (coded× (set.code (coded× coded_ℕ coded_ℕ)) (map.code (coded× coded_ℕ coded_ℕ) code)))
    (λ s. (s.room, (s.bits, s.contents))) (λ p. record { room = p.0; bits = p.1.0; contents = p.1.1 }) (λ _. refl)

-- nowhere anything
abbrev pub no_fields : {T : Type 0} → FieldState T
no_fields = record { room = set.empty; bits = set.empty; contents = map.empty }
