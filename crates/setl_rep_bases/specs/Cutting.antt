-- What marks tell, and what is there after a cut to them.
use Rattle.std.specs.Prelude.{◌≡◌, option_and_then}
use Rattle.std.specs.Option.{option_map}
use Rattle.std.specs.FinMap as finmap
use Rattle.setl_rep_bases.specs.declared.BaseId.{BaseId}
use Rattle.setl_rep_bases.specs.Bases.{BasesState, instance_at}
use Rattle.setl_rep_bases.specs.Keeping.{AreKept}
use Rattle.setl_rep_bases.specs.Marks.{Marks, mark_of, marks_of, as_marked, as_cut, cut_all, back_all, AreWithin}

abbrev pub MarksAreRead : Type 0
MarksAreRead = (bs : BasesState) (i : BaseId) → finmap.get (marks_of bs) i ≡ option_map mark_of (instance_at bs i)

abbrev pub CutsAreRead : Type 0
CutsAreRead = (bs : BasesState) (ms : Marks) (i : BaseId) → instance_at (cut_all bs ms) i ≡ option_and_then (λ x. option_map (as_marked x) (finmap.get ms i)) (instance_at bs i)

abbrev pub CountedCutsAreRead : Type 0
CountedCutsAreRead = (bs : BasesState) (ms : Marks) (i : BaseId) → instance_at (back_all bs ms) i ≡ option_and_then (λ x. option_map (as_cut x) (finmap.get ms i)) (instance_at bs i)

-- cut to what is there, nothing goes
abbrev pub NothingIsCut : Type 0
NothingIsCut = (bs : BasesState) → (cut_all bs (marks_of bs) ≡ bs) × AreWithin (marks_of bs) bs

-- what grew is cut to the same blocks
abbrev pub GrownBasesAreCutAlike : Type 0
GrownBasesAreCutAlike = (bs cs : BasesState) (ms : Marks) → AreKept bs cs → AreWithin ms bs → AreKept (cut_all bs ms) (cut_all cs ms) × AreWithin ms cs

-- cuts that count leave the same blocks as those that don't
abbrev pub CountedCutsLeaveTheSame : Type 0
CountedCutsLeaveTheSame = (bs : BasesState) (ms : Marks) → AreKept (cut_all bs ms) (back_all bs ms) × AreKept (back_all bs ms) (cut_all bs ms)

-- the blocks that a cut leaves were there before it
abbrev pub CutBlocksWereThere : Type 0
CutBlocksWereThere = (bs : BasesState) (ms : Marks) → AreKept (cut_all bs ms) bs
