-- What each call makes of the bases that a store tells.
use Rattle.std.proofs.Common.{◌≡◌, ◌∙◌, ℕ, zero, suc, Bool, true, false, List, [], ◌∷◌, length, take, map, Option, Some, None, refl, sym, ap}
use Rattle.std.specs.Prelude.{option_and_then, if◌then◌else◌, ◌&&◌, nat_lt, ◌==◌}
use Rattle.std.specs.FinMap as finmap
use Rattle.std.specs.Option.{option_map, option_map_or}
use Rattle.std.proofs.lemmas.List.{length-map, take-map}
use Rattle.setl_value.specs.Datum.{Datum}
use Rattle.setl_modes.specs.Modes.{Mode}
use Rattle.setl_modes_places.specs.Places.{places_of, lengthened}
use Rattle.setl_base.specs.Base.{Member, empty}
use Rattle.setl_rep_bases.specs.declared.marks.Mark.{Mark}
use Rattle.setl_rep_bases.specs.declared.tables.Instance.{Instance}
use Rattle.setl_rep_bases.specs.BaseId.{main}
use Rattle.setl_rep_bases.specs.Bases.{BasesState, instance_at, is_there, base_at, named, fresh, main_bases}
use Rattle.setl_rep_bases.specs.Marks.{Marks, mark_of, marks_of, as_cut, back_all}
use Rattle.setl_rep_bases.specs.Cutting.{MarksAreRead, CountedCutsAreRead}
use Rattle.setl_rep_bases.specs.Reading.{MainInstancesAreFresh}
use Rattle.setl_rep_entering.specs.Entering.{values_in, AreLengthened, BasesAreThere}
use Rattle.setl_rep_entering.specs.Laws.{MembersAreLengthened}
use Rattle.setl_store.specs.declared.cells.Kept.{Kept}
use Rattle.setl_store.specs.Flat.{Here, count_in, base_of, bases_from, bases_of}
use Rattle.setl_store.specs.Gained.{no_members, with_places, with_kept, cut_to_kept, without_kept}

-- in the main program a base names its first instance
by_main : (b : Bool) (n : ℕ) → (if b then main n else main n) ≡ main n
by_main true n = refl
by_main false n = refl

pub named_main : (bs : BasesState) (n : ℕ) → named bs 0 n ≡ main n
named_main bs n = by_main (is_there bs (main n)) n

-- ---- a store of a value

one_longer : MembersAreLengthened → (m : Mode) (d : Datum) (bs cs : BasesState) → BasesAreThere bs 0 m → AreLengthened m d 0 bs cs → (n : ℕ) → values_in (base_at cs (main n)) ≡ lengthened (values_in (base_at bs (main n))) (places_of n m d)
one_longer law m d bs cs there l n =
    ap (λ i. values_in (base_at cs i)) (sym (named_main bs n)) ∙ law m d 0 bs cs there l n
    ∙ ap (λ i. lengthened (values_in (base_at bs i)) (places_of n m d)) (named_main bs n)

all_longer : MembersAreLengthened → (m : Mode) (d : Datum) (bs cs : BasesState) (kept : List (Here × Kept)) → BasesAreThere bs 0 m → AreLengthened m d 0 bs cs → (n count : ℕ) → bases_from n count cs kept ≡ with_places n m d (bases_from n count bs kept)
all_longer law m d bs cs kept there l n zero = refl
all_longer law m d bs cs kept there l n (suc count) =
    let here = one_longer law m d bs cs there l n in
    let rest = all_longer law m d bs cs kept there l (suc n) count in
    λ i. record { members = here i; kept = map (λ k. count_in n k.1.marks) kept } ∷ rest i

pub gained : MembersAreLengthened → (m : Mode) (d : Datum) (bs cs : BasesState) (kept : List (Here × Kept)) → BasesAreThere bs 0 m → AreLengthened m d 0 bs cs → bases_of cs kept ≡ with_places 0 m d (bases_of bs kept)
gained law m d bs cs kept there l = ap (λ n. bases_from 0 n cs kept) l.count ∙ all_longer law m d bs cs kept there l 0 bs.count

-- ---- `ok`

count_by : (o : Option Instance) → option_map_or (λ (m : Mark). m.count) (option_map mark_of o) 0 ≡ length (option_map_or (λ (x : Instance). x.base) o empty).members
count_by None = refl
count_by (Some x) = refl

count_now : MarksAreRead → (bs : BasesState) (ms : Marks) (n : ℕ) → ms ≡ marks_of bs → count_in n ms ≡ length (values_in (base_at bs (main n)))
count_now read bs ms n is =
    ap (λ o. option_map_or (λ (m : Mark). m.count) o 0) (ap (λ ks. finmap.get ks (main n)) is ∙ read bs (main n)) ∙ count_by (instance_at bs (main n))
    ∙ sym (length-map (base_at bs (main n)).members (λ (m : Member). m.value))

all_kept_from : MarksAreRead → (bs : BasesState) (e : Here) (k : Kept) (kept : List (Here × Kept)) → k.marks ≡ marks_of bs → (n count : ℕ) → bases_from n count bs ((e, k) ∷ kept) ≡ with_kept (bases_from n count bs kept)
all_kept_from read bs e k kept is n zero = refl
all_kept_from read bs e k kept is n (suc count) =
    let here = count_now read bs k.marks n is in
    let rest = all_kept_from read bs e k kept is (suc n) count in
    λ i. record { members = values_in (base_at bs (main n)); kept = here i ∷ map (λ q. count_in n q.1.marks) kept } ∷ rest i

pub bases_kept : MarksAreRead → (bs : BasesState) (e : Here) (k : Kept) (kept : List (Here × Kept)) → k.marks ≡ marks_of bs → bases_of bs ((e, k) ∷ kept) ≡ with_kept (bases_of bs kept)
bases_kept read bs e k kept is = all_kept_from read bs e k kept is 0 bs.count

-- ---- `fail`

values_by : (o : Option Instance) (w : Option Mark) →
    map (λ (m : Member). m.value) (option_map_or (λ (x : Instance). x.base) (option_and_then (λ x. option_map (as_cut x) w) o) empty).members
    ≡ take (option_map_or (λ (m : Mark). m.count) w 0) (map (λ (m : Member). m.value) (option_map_or (λ (x : Instance). x.base) o empty).members)
values_by None None = refl
values_by None (Some m) = none_taken m.count
  where
    none_taken : (n : ℕ) → [] ≡ take {A = Datum} n []
    none_taken zero = refl
    none_taken (suc n) = refl
values_by (Some x) None = refl
values_by (Some x) (Some m) = sym (take-map (λ (b : Member). b.value) m.count x.base.members)

values_cut : CountedCutsAreRead → (bs : BasesState) (ms : Marks) (n : ℕ) → values_in (base_at (back_all bs ms) (main n)) ≡ take (count_in n ms) (values_in (base_at bs (main n)))
values_cut read bs ms n =
    ap (λ o. map (λ (m : Member). m.value) (option_map_or (λ (x : Instance). x.base) o empty).members) (read bs ms (main n))
    ∙ values_by (instance_at bs (main n)) (finmap.get ms (main n))

all_cut_from : CountedCutsAreRead → (bs : BasesState) (e : Here) (k : Kept) (kept : List (Here × Kept)) (n count : ℕ) → bases_from n count (back_all bs k.marks) kept ≡ cut_to_kept (bases_from n count bs ((e, k) ∷ kept))
all_cut_from read bs e k kept n zero = refl
all_cut_from read bs e k kept n (suc count) =
    let here = values_cut read bs k.marks n in
    let rest = all_cut_from read bs e k kept (suc n) count in
    λ i. record { members = here i; kept = map (λ q. count_in n q.1.marks) kept } ∷ rest i

pub bases_cut : CountedCutsAreRead → (bs : BasesState) (e : Here) (k : Kept) (kept : List (Here × Kept)) → bases_of (back_all bs k.marks) kept ≡ cut_to_kept (bases_of bs ((e, k) ∷ kept))
bases_cut read bs e k kept = all_cut_from read bs e k kept 0 bs.count

-- ---- `succeed`

all_forgotten_from : (bs : BasesState) (k : Here × Kept) (kept : List (Here × Kept)) (n count : ℕ) → bases_from n count bs kept ≡ without_kept (bases_from n count bs (k ∷ kept))
all_forgotten_from bs k kept n zero = refl
all_forgotten_from bs k kept n (suc count) = ap (λ bs'. base_of bs kept n ∷ bs') (all_forgotten_from bs k kept (suc n) count)

pub bases_forgotten : (bs : BasesState) (k : Here × Kept) (kept : List (Here × Kept)) → bases_of bs kept ≡ without_kept (bases_of bs (k ∷ kept))
bases_forgotten bs k kept = all_forgotten_from bs k kept 0 bs.count

-- ---- the start

members_by : (b : Bool) → map (λ (m : Member). m.value) (option_map_or (λ (x : Instance). x.base) (if b then Some fresh else None) empty).members ≡ []
members_by true = refl
members_by false = refl

none_there : MainInstancesAreFresh → (most n : ℕ) → values_in (base_at (main_bases most) (main n)) ≡ []
none_there fresh_ones most n =
    ap (λ o. map (λ (m : Member). m.value) (option_map_or (λ (x : Instance). x.base) o empty).members) (fresh_ones most (main n)) ∙ members_by (nat_lt n most && 0 == 0)

all_empty : MainInstancesAreFresh → (most n count : ℕ) → bases_from n count (main_bases most) [] ≡ no_members count
all_empty fresh_ones most n zero = refl
all_empty fresh_ones most n (suc count) =
    let here = none_there fresh_ones most n in
    let rest = all_empty fresh_ones most (suc n) count in
    λ i. record { members = here i; kept = [] } ∷ rest i

pub bases_empty : MainInstancesAreFresh → (n : ℕ) (bs : BasesState) → bs ≡ main_bases n → bases_of bs [] ≡ no_members n
bases_empty fresh_ones n bs is = ap (λ cs. bases_of cs []) is ∙ all_empty fresh_ones n 0 n

-- where none are told
pub bases_untold : (bs : BasesState) (kept : List (Here × Kept)) → bs.count ≡ 0 → bases_of bs kept ≡ []
bases_untold bs kept none = ap (λ n. bases_from 0 n bs kept) none
