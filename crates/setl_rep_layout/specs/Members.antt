-- The members of bases, as the dump names them.
use Rattle.std.specs.Prelude.{ℕ, List, [], ◌∷◌, map, Option, Some, None}
use Rattle.setl_value.specs.Datum.{Datum}
use Rattle.setl_base.specs.Base.{BaseState}
use Rattle.setl_modes_dump.specs.Dump.{Bases}
use Rattle.setl_rep_bases.specs.BaseId.{main}
use Rattle.setl_rep_bases.specs.Bases.{BasesState, base_at}
use Rattle.setl_rep_forms.specs.Stands.{value_at}

-- the values of a base's members, by their block numbers from 1
abbrev pub values_of : BaseState → List Datum
values_of b = map (λ m. m.value) b.members

-- those of the main program's bases, by the numbers of the bases
abbrev pub members_by : BasesState → Bases
members_by bs n = values_of (base_at bs (main n))

abbrev pub as_list : Option Datum → List Datum
as_list None = []
as_list (Some d) = d ∷ []

-- the value of the living block of a number, as a list of at most one
abbrev pub member_list : BaseState → ℕ → List Datum
member_list b n = as_list (value_at b n)
