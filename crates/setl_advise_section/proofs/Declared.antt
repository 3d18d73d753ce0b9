-- For which flows a mode is advised.
use Rattle.std.proofs.Common.{◌≡◌, refl, Some}
use Rattle.setl_advise_flows.specs.Flow.{Flow, Nothing, Scalar, Set, Tuple, Map, Any}
use Rattle.setl_advise_flows.specs.Advice.{Bases, advised}
use Rattle.setl_advise_section.specs.Text.{or_general}

pub set_declared : (b : Bases) (f : Flow) → advised b (Set f) ≡ Some (or_general (advised b (Set f)))
set_declared b Nothing = refl
set_declared b (Scalar k) = refl
set_declared b (Set f) = refl
set_declared b (Tuple f) = refl
set_declared b (Map f g) = refl
set_declared b Any = refl

pub tuple_declared : (b : Bases) (f : Flow) → advised b (Tuple f) ≡ Some (or_general (advised b (Tuple f)))
tuple_declared b Nothing = refl
tuple_declared b (Scalar k) = refl
tuple_declared b (Set f) = refl
tuple_declared b (Tuple f) = refl
tuple_declared b (Map f g) = refl
tuple_declared b Any = refl

pub map_declared : (b : Bases) (f g : Flow) → advised b (Map f g) ≡ Some (or_general (advised b (Map f g)))
map_declared b Nothing g = refl
map_declared b (Scalar k) g = refl
map_declared b (Set f) g = refl
map_declared b (Tuple f) g = refl
map_declared b (Map f h) g = refl
map_declared b Any g = refl
