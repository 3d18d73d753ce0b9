-- What a take leaves and takes out.
use Rattle.std.specs.Prelude.{List, [], ◌∷◌, length, take, slice_get, Option, Some, None}
use Rattle.std.specs.List.{AllByRecursion}
use Rattle.std.specs.List.Sorted.{IsStrictlySortedBy}
use Rattle.std.specs.Option.{unwrap_or}
use Rattle.std.proofs.Common.{subst}
use Rattle.setl_value.specs.Datum.{Datum, tuple, set, part_list, element_list}
use Rattle.setl_value.specs.Order.{IsRising}
use Rattle.setl_value.specs.WellFormed.{EndsIn, IsTrimmed, IsValue, trim}
use Rattle.setl_operators_table.specs.Takes.{Takeout, TakesOut, IsEmpty, CannotTake, least_of, first_of, last_of, take_least, take_first, take_last}
use Rattle.setl_operators_laws.specs.ValueLaws.{IsValueOrOm, LeastIsValue, FirstIsValue, LastIsValue}
use Rattle.setl_operators_laws.specs.Lists.{all_take, OfSome, all_get}
use Rattle.setl_operators_laws.specs.SetValues.{Stands, members, rising_members, set_is_value, higher}
use Rattle.setl_operators_laws.specs.TupleValues.{PartStands, components, trimmed_components, tuple_is_value, part_is_value, trim_is_trimmed, all_trim}

-- it leaves a value and takes out a value or `om`, if it takes something
abbrev LeavesValues : Takeout → Type 0
LeavesValues (TakesOut left taken) = IsValue left × IsValueOrOm taken
LeavesValues IsEmpty = Unit {0}
LeavesValues (CannotTake f) = Unit {0}

least_leaves : (ds : List Datum) → AllByRecursion (Stands 499) ds → IsRising ds → LeavesValues (least_of ds)
unfolding IsStrictlySortedBy
least_leaves [] a r = tt
least_leaves (d ∷ ds) a r = (set_is_value ds a.1 r.1, higher d a.0)

take_least_leaves : (d : Datum) → IsValue d → LeavesValues (take_least d)
take_least_leaves (set ms) h = least_leaves (element_list ms) (members ms h) (rising_members ms h)
take_least_leaves d h = tt

trimmed_rest : (p : Option Datum) (ps : List (Option Datum)) → EndsIn p ps → IsTrimmed ps
trimmed_rest p [] t = tt
trimmed_rest None (q ∷ ps) t = t
trimmed_rest (Some d) (q ∷ ps) t = t

first_leaves : (ps : List (Option Datum)) → AllByRecursion (PartStands 499) ps → IsTrimmed ps → LeavesValues (first_of ps)
first_leaves [] a t = tt
first_leaves (p ∷ ps) a t = (tuple_is_value ps a.1 (trimmed_rest p ps t), part_is_value p a.0)

take_first_leaves : (d : Datum) → IsValue d → LeavesValues (take_first d)
take_first_leaves (tuple ps) h = first_leaves (part_list ps) (components ps h) (trimmed_components ps h)
take_first_leaves d h = tt

taken : (o : Option (Option Datum)) → OfSome (PartStands 499) o → IsValueOrOm (unwrap_or o None)
taken None h = tt
taken (Some p) h = part_is_value p h

last_leaves : (ps : List (Option Datum)) → AllByRecursion (PartStands 499) ps → LeavesValues (last_of ps)
last_leaves [] a = tt
last_leaves (p ∷ ps) a =
    let rest = take (length ps) (p ∷ ps) in (
      tuple_is_value (trim rest) (all_trim (PartStands 499) rest (all_take (PartStands 499) (length ps) (p ∷ ps) a)) (trim_is_trimmed rest),
      taken (slice_get (p ∷ ps) (length ps)) (all_get (PartStands 499) (p ∷ ps) (length ps) a),
    )

take_last_leaves : (d : Datum) → IsValue d → LeavesValues (take_last d)
take_last_leaves (tuple ps) h = last_leaves (part_list ps) (components ps h)
take_last_leaves d h = tt

pub least_is_value : LeastIsValue
least_is_value d left taken h e = subst LeavesValues e (take_least_leaves d h)

pub first_is_value : FirstIsValue
first_is_value d left taken h e = subst LeavesValues e (take_first_leaves d h)

pub last_is_value : LastIsValue
last_is_value d left taken h e = subst LeavesValues e (take_last_leaves d h)
