-- What the rest of a source stands for. No public clause cites this module.
use Rattle.std.specs.Prelude.{◌≡◌, ◌+◌, Bool, true, false, List, drop}
use Rattle.setl_value.specs.code.Body.{Body, Members}
use Rattle.setl_value.specs.Pairs.{is_map}
use Rattle.setl_value.specs.code.Places.{HasPlace, rank}
use Rattle.setl_model.specs.Core.{Item}
use Rattle.setl_model.specs.Iterations.{members, singles, letters, place_points}
use Rattle.setl_store_iterator.specs.States.{IteratorState}
use Rattle.setl_store_iterator.specs.Integers.{integers_left}
use Rattle.setl_store_iterator.specs.Points.{points}
use Rattle.setl_store_iterator.specs.declared.rests.MemberAt.{MemberAt}
use Rattle.setl_store_iterator.specs.declared.rests.Rest.{Rest}
use Rattle.setl_store_iterator.specs.declared.rests.Rest.TheVariants as rest

-- the place is that of the index
abbrev pub Stands : Body → MemberAt → Type 0
Stands s at = HasPlace s at.place × (rank s at.place ≡ at.index)

-- the items that are left
abbrev pub left_of : Rest → List Item
left_of (rest.Members s at) = members (drop at.index (Members s))
left_of (rest.Components t at) = singles (drop at t)
left_of (rest.Letters t at) = singles (letters (drop at t))
left_of (rest.Integers steps) = members (integers_left steps)
left_of (rest.Points f at) = points (drop at.index (Members f))
left_of (rest.Places t at) = place_points (at + 1) (drop at t)
left_of (rest.LetterPlaces t at) = place_points (at + 1) (letters (drop at t))

-- whether they are pairs
abbrev pub pairs_of : Rest → Bool
pairs_of (rest.Points f at) = true
pairs_of (rest.Places t at) = true
pairs_of (rest.LetterPlaces t at) = true
pairs_of r = false

-- only a map has arguments, and the place in a set is that of its index
abbrev pub IsSound : Rest → Type 0
IsSound (rest.Members s at) = Stands s at
IsSound (rest.Points f at) = (is_map (Members f) ≡ true) × Stands f at
IsSound r = Unit {0}

abbrev pub state_of : Rest → IteratorState
state_of r = record { pairs = pairs_of r; left = left_of r }
