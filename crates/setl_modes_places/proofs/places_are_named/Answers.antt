use Rattle.setl_modes_places.proofs.Named.{places_are_named}
use Rattle.setl_modes_places.proofs.places_are_named.Goals as goal

pub returns : goal.returns
returns c = places_are_named
