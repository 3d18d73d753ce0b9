-- A flow of a level has no more constructors inside one another than the level has places.
use Rattle.std.specs.Prelude.{◌≡◌, refl, ℕ, suc}
use Rattle.std.proofs.Common.{ap}
use Rattle.setl_advise_flows.specs.Flow.{Flow, Set, Tuple, Map, capped}
use Rattle.setl_advise_lattice.specs.declared.level.Flat.{Flat}
use Rattle.setl_advise_lattice.specs.declared.level.Flat.TheVariants as flat
use Rattle.setl_advise_lattice.specs.declared.level.Level.{Level}
use Rattle.setl_advise_lattice.specs.declared.level.Level.TheVariants as level
use Rattle.setl_advise_lattice.specs.code.Levels.{flat_flow, level_flow}

pub within_flat : (f : Flat) → capped 0 (flat_flow f) ≡ flat_flow f
within_flat flat.Nothing = refl
within_flat (flat.Scalar k) = refl
within_flat flat.Any = refl

pub within_level : {P : Type 0} (n : ℕ) (part : P → Flow) → ((f : P) → capped n (part f) ≡ part f) → (f : Level P) → capped (suc n) (level_flow part f) ≡ level_flow part f
within_level n part h level.Nothing = refl
within_level n part h (level.Scalar k) = refl
within_level n part h (level.Set f) = ap Set (h f)
within_level n part h (level.Tuple f) = ap Tuple (h f)
within_level n part h (level.Map f g) = λ i. Map (h f i) (h g i)
within_level n part h level.Any = refl
