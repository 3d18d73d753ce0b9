-- What is read of bases after a change.
use Rattle.std.specs.Prelude.{◌≡◌, ◌↔◌, ℕ, ◌==◌, ◌&&◌, nat_lt, true, if◌then◌else◌, Some, None}
use Rattle.setl_rep_bases.specs.declared.BaseId.{BaseId}
use Rattle.setl_rep_bases.specs.declared.tables.Instance.{Instance}
use Rattle.setl_rep_bases.specs.BaseId.{is_id}
use Rattle.setl_rep_bases.specs.Bases.{BasesState, instance_at, is_gone, fresh, with_instance, without, without_gone, main_bases}

-- an instance that is put is there, and all others are as before
abbrev pub InstancesArePut : Type 0
InstancesArePut = (bs : BasesState) (i : BaseId) (x : Instance) (j : BaseId) → instance_at (with_instance bs i x) j ≡ (if is_id j i then Some x else instance_at bs j)

abbrev pub InstancesAreTaken : Type 0
InstancesAreTaken = (bs : BasesState) (i j : BaseId) → instance_at (without bs i) j ≡ (if is_id j i then None else instance_at bs j)

abbrev pub GoneAreTaken : Type 0
GoneAreTaken = (bs : BasesState) (j : BaseId) → instance_at (without_gone bs) j ≡ (if is_gone bs j then None else instance_at bs j)

-- the main program's bases are there at first, without members, and nothing else
abbrev pub MainInstancesAreFresh : Type 0
MainInstancesAreFresh = (n : ℕ) (j : BaseId) → instance_at (main_bases n) j ≡ (if nat_lt j.base n && j.instance == 0 then Some fresh else None)

abbrev pub NamesAreExact : Type 0
NamesAreExact = (i j : BaseId) → (is_id i j ≡ true) ↔ (i ≡ j)

-- bases that have the same instances are the same
abbrev pub BasesAgree : Type 0
BasesAgree = (bs cs : BasesState) → bs.count ≡ cs.count → ((i : BaseId) → instance_at bs i ≡ instance_at cs i) → bs ≡ cs
