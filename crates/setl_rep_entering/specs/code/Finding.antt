-- Places that are found in a walk over a value.
use Rattle.std.specs.Prelude.{◌≡◌, ℕ, Bool, true, false, not, ◌&&◌, ◌||◌, ◌++◌, List, [], Option, Some, None}
use Rattle.std.specs.List.{flat_map, list_any}
use Rattle.std.specs.Ordering.{is_eq, ordering_then}
use Rattle.std.specs.declared.cmp.Ordering.{Ordering}
use Rattle.setl_value.specs.Datum.{Datum, set, element_list, set_of}
use Rattle.setl_value.specs.code.DatumOf.{datum}
use Rattle.setl_value.specs.Order.{datum_cmp}
use Rattle.setl_value.specs.Pairs.{pair_parts, images}
use Rattle.setl_set.specs.Sets.{has_datum}
use Rattle.setl_map.specs.code.Points.{part_at}
use Rattle.setl_modes.specs.Modes.{Mode, Elements, Sets, Tuples, SingleMaps, MultiMaps}
use Rattle.setl_modes_places.specs.Places.{at_part, elements_at}
use Rattle.setl_rep_bases.specs.declared.BaseId.{BaseId}
use Rattle.setl_rep_bases.specs.BaseId.{id_cmp, is_id}
use Rattle.setl_rep_bases.specs.Bases.{BasesState, base_at}
use Rattle.setl_rep_entering.specs.declared.places.Place.{Place}
use Rattle.setl_rep_entering.specs.Entering.{values_in, is_named}

-- whether a mode has places of any base
abbrev pub has_places : Mode → Bool
has_places (Elements b m) = true
has_places (Sets f m) = has_places m
has_places (Tuples m) = has_places m
has_places (SingleMaps f d r) = has_places d || has_places r
has_places (MultiMaps f d s) = has_places d || has_places s
has_places m = false

-- whether x is there for the instance i
abbrev pub has_place : BaseId → Datum → List Place → Bool
has_place i x ps = list_any (λ p. is_id i p.base && is_eq (datum_cmp x (datum p.value))) ps

-- whether x isn't a member of the instance i, which its base names in the activation n
abbrev pub is_new : BasesState → (n : ℕ) → BaseId → Datum → Bool
is_new bs n i x = is_named bs n i && not (has_datum x (values_in (base_at bs i)))

-- new has what old has and those of es b that aren't members of the base b
abbrev pub Gains : BasesState → (n : ℕ) → (es : ℕ → List Datum) → List Place → List Place → Type 0
Gains bs n es old new = (i : BaseId) (x : Datum) → has_place i x new ≡ (has_place i x old || (is_new bs n i x && has_datum x (es i.base)))

abbrev pub same_point : Option (Datum × Datum) → Option (Datum × Datum) → Bool
same_point (Some p) (Some q) = is_eq (datum_cmp p.0 q.0)
same_point p q = false

-- whether two neighbours are pairs with one first part
abbrev pub is_at_point : Option Datum → Datum → Bool
is_at_point None d = false
is_at_point (Some a) d = same_point (pair_parts a) (pair_parts d)

-- the values at the places of the set of images of a pair's point
abbrev pub at_images : (Datum → List Datum) → List Datum → Option (Datum × Datum) → List Datum
at_images range f None = []
at_images range f (Some p) = range (set_of (images p.0 f))

-- those of the neighbour before, if there is one
abbrev pub at_neighbour : (Datum → List Datum) → List Datum → Option Datum → List Datum
at_neighbour range f None = []
at_neighbour range f (Some a) = at_images range f (pair_parts a)

-- the values at the places of the first parts of the pairs of a map, and of their images
abbrev pub at_firsts : (b : ℕ) → Mode → List Datum → List Datum
at_firsts b (SingleMaps form d r) ms = flat_map (λ p. at_part (elements_at b d) (part_at true p)) ms
at_firsts b (MultiMaps form d s) ms = flat_map (λ p. at_part (elements_at b d) (part_at true p)) ms
at_firsts b m ms = []

abbrev pub at_seconds : (b : ℕ) → Mode → List Datum → List Datum
at_seconds b (SingleMaps form d r) ms = flat_map (λ p. at_part (elements_at b r) (part_at false p)) ms
at_seconds b (MultiMaps form d s) ms = flat_map (λ p. at_images (elements_at b s) ms (pair_parts p)) ms
at_seconds b m ms = []

abbrev pub at_map : (b : ℕ) → Mode → Datum → List Datum
at_map b m (set ms) = at_firsts b m (element_list ms) ++ at_seconds b m (element_list ms)
at_map b m d = []

-- by instance, then by value
abbrev pub place_cmp : Place → Place → Ordering
place_cmp p q = ordering_then (id_cmp p.base q.base) (datum_cmp (datum p.value) (datum q.value))

-- the same places, in any order and with repeats
abbrev pub HaveSamePlaces : List Place → List Place → Type 0
HaveSamePlaces ps qs = (i : BaseId) (x : Datum) → has_place i x qs ≡ has_place i x ps
