-- A walk over a set of numbers in the canonical order of its members, a step at a time.
use Rattle.std.specs.Prelude.{◌≡◌, List, [], ◌∷◌, filter, Option, Some, None}
use Rattle.std.specs.Ordering.{nat_cmp}
use Rattle.std.specs.FinSet as set
use Rattle.setl_value.specs.Datum.{Datum}
use Rattle.setl_base.specs.declared.Elt.{Elt}
use Rattle.setl_base.specs.Base.{BaseState, is_above, value_of}
use Rattle.setl_rep_forms.specs.Stands.{members_at}

-- the members at these numbers that are greater than the member `after`, in canonical order; all of them, where there is
-- no such member
abbrev pub left_after : BaseState → set.FinSet nat_cmp → (after : Option Elt) → List Datum
left_after b ns after = filter (is_above b after) (members_at b ns)

-- what is left after `after` is the member that is given, and then what is left after that one; nothing, where none is
abbrev pub IsStep : BaseState → set.FinSet nat_cmp → (after : Option Elt) → Option Elt → Type 0
IsStep b ns after None = left_after b ns after ≡ []
IsStep b ns after (Some e) = (d : Datum) × (value_of b e ≡ Some d) × (left_after b ns after ≡ d ∷ left_after b ns (Some e))
