-- What each change of bases leaves.
use Rattle.std.specs.Prelude.{◌≡◌, ℕ, Bool, Some, None}
use Rattle.setl_value.specs.Datum.{Datum}
use Rattle.setl_base.specs.Base.{BaseState, Member, member_at, entered}
use Rattle.setl_rep_bases.specs.declared.BaseId.{BaseId}
use Rattle.setl_rep_bases.specs.Bases.{BasesState, instance_at, base_at, IsThere, with_entered, with_cut, with_undone, with_added, with_gone, without, without_gone}

-- each instance and each living block of the first bases is there in the second, with its value and generation
pub record AreKept (bs cs : BasesState) : Type 0 where
  pub there : (i : BaseId) → IsThere bs i → IsThere cs i
  pub members : (i : BaseId) (n : ℕ) (m : Member) → member_at (base_at bs i) n ≡ Some m → member_at (base_at cs i) n ≡ Some m

-- a value that is entered leaves the members of its base
abbrev pub EnteringKeepsMembers : Type 0
EnteringKeepsMembers = (b : BaseState) (d : Datum) (n : ℕ) (m : Member) → member_at b n ≡ Some m → member_at (entered b d) n ≡ Some m

-- a value that is entered leaves all blocks
abbrev pub EnteringKeepsBlocks : Type 0
EnteringKeepsBlocks = (bs : BasesState) (i : BaseId) (d : Datum) → AreKept bs (with_entered bs i d)

-- what is there after a cut was there before it
abbrev pub CutsKeepBlocks : Type 0
CutsKeepBlocks = (bs : BasesState) (i : BaseId) (n : ℕ) → IsThere bs i → AreKept (with_cut bs i n) bs × AreKept (with_undone bs i n) bs

-- an instance that is added, goes or comes again leaves all blocks
abbrev pub InstancesKeepBlocks : Type 0
InstancesKeepBlocks = (bs : BasesState) (i : BaseId) → (instance_at bs i ≡ None → AreKept bs (with_added bs i)) × ((gone : Bool) → AreKept bs (with_gone bs i gone))

-- what is there without an instance, or without those that are gone, was there before
abbrev pub RemovalsKeepBlocks : Type 0
RemovalsKeepBlocks = (bs : BasesState) → ((i : BaseId) → AreKept (without bs i) bs) × AreKept (without_gone bs) bs
