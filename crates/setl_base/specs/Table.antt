-- How the table of a base stands for it.
use Rattle.std.specs.Prelude.{◌≡◌, ℕ, ◌<◌, ◌≤◌, ◌^◌, List, length, map, slice_get, Some}
use Rattle.indexmap.specs.IndexMap.{IndexMap}
use Rattle.setl_value.specs.declared.Value.{Value}
use Rattle.setl_value.specs.code.DatumOf.{datum}
use Rattle.setl_value.specs.WellFormed.{IsValue}
use Rattle.setl_base.specs.Base.{Member, BaseState}

-- an entry of the table as a member
abbrev pub member_of : Value × ℕ → Member
member_of e = record { value = datum e.0; generation = e.1 }

abbrev pub members_of : List (Value × ℕ) → List Member
members_of es = map member_of es

abbrev pub base_of : {S : Type 0} → IndexMap Value ℕ S → ℕ → BaseState
base_of table cuts = record { members = members_of table.entries; cuts = cuts }

-- the table of a base with this number of cuts
pub record IsTable {S : Type 0} (table : IndexMap Value ℕ S) (cuts : ℕ) : Type 0 where
  pub values : (i : ℕ) (e : Value × ℕ) → slice_get table.entries i ≡ Some e → IsValue (datum e.0)
  pub generations : (i : ℕ) (e : Value × ℕ) → slice_get table.entries i ≡ Some e → e.1 ≤ cuts
  pub few : length table.entries < 2 ^ 64
