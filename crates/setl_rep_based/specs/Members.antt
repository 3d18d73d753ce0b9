-- One member more or less in a set of numbers.
use Rattle.std.specs.Prelude.{◌≡◌, Bool, if◌then◌else◌, Some}
use Rattle.std.specs.Ordering.{nat_cmp}
use Rattle.std.specs.FinSet as set
use Rattle.setl_value.specs.Datum.{Datum}
use Rattle.setl_set.specs.Sets.{insert_datum, remove_datum}
use Rattle.setl_base.specs.declared.Elt.{Elt}
use Rattle.setl_base.specs.Base.{BaseState, value_of}
use Rattle.setl_rep_forms.specs.Stands.{members_at}

-- the members at the second numbers are those at the first with the member that e names, or without it
abbrev pub IsPut : BaseState → Elt → (on : Bool) → set.FinSet nat_cmp → set.FinSet nat_cmp → Type 0
IsPut b e on old new = (d : Datum) → value_of b e ≡ Some d → members_at b new ≡ (if on then insert_datum d (members_at b old) else remove_datum d (members_at b old))
