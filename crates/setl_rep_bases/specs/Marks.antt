-- What is kept of the bases beside a mark, and the bases that were there.
use Rattle.std.specs.Prelude.{◌≡◌, ◌<◌, ◌≤◌, ◌^◌, ℕ, Bool, List, [], ◌∷◌, length, map, Some, refl}
use Rattle.std.specs.Option.{option_map_or}
use Rattle.std.specs.Coded.{Coded, code_by, coded×, coded_ℕ, coded_bool}
use Rattle.std.specs.FinMap as finmap
use Rattle.setl_base.specs.Base.{undone, cut_back}
use Rattle.setl_rep_bases.specs.declared.BaseId.{BaseId}
use Rattle.setl_rep_bases.specs.declared.marks.Mark.{Mark}
use Rattle.setl_rep_bases.specs.declared.tables.Instance.{Instance}
use Rattle.setl_rep_bases.specs.BaseId.{id_cmp, coded_id}
use Rattle.setl_rep_bases.specs.Bases.{BasesState, IsThere, base_at}

-- for each instance that was there, how many members it had, and whether it was gone
abbrev pub Marks : Type 0
Marks = finmap.FinMap id_cmp Mark

abbrev coded_mark : Coded Mark
coded_mark = code_by (ℕ × Bool) (coded× coded_ℕ coded_bool) (λ m. (m.count, m.gone)) (λ p. record { count = p.0; gone = p.1 }) (λ _. refl)

abbrev pub coded_marks : Coded Marks
coded_marks = finmap.code coded_id coded_mark

abbrev pub mark_of : Instance → Mark
mark_of x = record { count = length x.base.members; gone = x.gone }

-- of the bases as they are
abbrev pub marks_of : BasesState → Marks
marks_of bs = finmap.from_entries (map (λ e. (e.0, mark_of e.1)) (finmap.entries bs.instances))

-- an instance as it was
abbrev pub as_marked : Instance → Mark → Instance
as_marked x m = record { base = undone x.base m.count; gone = m.gone }

-- the same, by a cut that counts
abbrev pub as_cut : Instance → Mark → Instance
as_cut x m = record { base = cut_back x.base m.count; gone = m.gone }

-- each marked instance as f makes it of its mark
abbrev pub marked : (Instance → Mark → Instance) → Marks → List (BaseId × Instance) → List (BaseId × Instance)
marked f ms [] = []
marked f ms ((i, x) ∷ es) = option_map_or (λ m. (i, f x m) ∷ marked f ms es) (finmap.get ms i) (marked f ms es)

-- The bases that were there: instances that came later aren't, and each other one has the first of its members. The number
-- of cuts stays, since no handle reads it.
abbrev pub cut_all : BasesState → Marks → BasesState
cut_all bs ms = record bs { instances = finmap.from_entries (marked as_marked ms (finmap.entries bs.instances)) }

-- The same, where each base is cut by a cut that counts, so that no handle of a member that goes names one that comes.
abbrev pub back_all : BasesState → Marks → BasesState
back_all bs ms = record bs { instances = finmap.from_entries (marked as_cut ms (finmap.entries bs.instances)) }

-- each marked instance is there, with so many members
abbrev pub AreWithin : Marks → BasesState → Type 0
AreWithin ms bs = (i : BaseId) (m : Mark) → finmap.get ms i ≡ Some m → IsThere bs i × (m.count ≤ length (base_at bs i).members)

-- each base may be cut once more
abbrev pub HaveFewCuts : BasesState → Type 0
HaveFewCuts bs = (i : BaseId) → (base_at bs i).cuts < 2 ^ 63
