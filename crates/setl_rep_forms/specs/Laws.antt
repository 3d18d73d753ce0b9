-- What forms stand for as bases change, and as their numbers are combined.
use Rattle.std.specs.Prelude.{◌≡◌, ℕ, List, length, Some, None, true, false}
use Rattle.std.specs.List.{filter_map}
use Rattle.std.specs.Ordering.{nat_cmp}
use Rattle.std.specs.FinSet as set
use Rattle.setl_value.specs.Datum.{Datum}
use Rattle.setl_set.specs.Sets.{has_datum, set_from, insert_datum, remove_datum, union_of, minus_of, meet_of, symm_of}
use Rattle.setl_set.specs.Laws.{IsSetOf}
use Rattle.setl_base.specs.declared.Elt.{Elt}
use Rattle.setl_base.specs.Base.{BaseState, IsBase, find, value_of}
use Rattle.setl_rep_bases.specs.declared.BaseId.{BaseId}
use Rattle.setl_rep_bases.specs.Bases.{BasesState, base_at, IsThere, with_entered, with_cut, with_undone}
use Rattle.setl_rep_bases.specs.Keeping.{AreKept}
use Rattle.setl_rep_forms.specs.Form.{Layout, Form, numbers}
use Rattle.setl_rep_forms.specs.Stands.{AreLiving, value_at, members_at, stands, IsOver}

-- ---- bases that change

-- a form stands for the same over these bases
abbrev pub StaysOver : BasesState → BasesState → Form → Type 0
StaysOver bs cs f = IsOver cs f × (stands cs f ≡ stands bs f)

-- what stands over bases stands for the same over all in which their instances and blocks are kept
abbrev pub FormsStay : Type 0
FormsStay = (bs cs : BasesState) (f : Form) → AreKept bs cs → IsOver bs f → StaysOver bs cs f

-- a value that is entered leaves all forms
abbrev pub FormsStayAsBasesGrow : Type 0
FormsStayAsBasesGrow = (bs : BasesState) (b : BaseId) (d : Datum) (f : Form) → IsOver bs f → StaysOver bs (with_entered bs b d) f

-- a form that stands over the members up to a cut stands for the same before and after it
abbrev pub FormsStayInFrontOfCuts : Type 0
FormsStayInFrontOfCuts =
    (bs : BasesState) (b : BaseId) (n : ℕ) (f : Form) → IsThere bs b
    → (IsOver (with_undone bs b n) f → StaysOver (with_undone bs b n) bs f) × (IsOver (with_cut bs b n) f → StaysOver (with_cut bs b n) bs f)

-- ---- sets of numbers

-- d is the member at one of the numbers
abbrev pub IsAt : BaseState → set.FinSet nat_cmp → Datum → Type 0
IsAt b ns d = (n : ℕ) × (set.contains ns n ≡ true) × (value_at b n ≡ Some d)

abbrev pub SetsHaveTheirMembers : Type 0
SetsHaveTheirMembers = (b : BaseState) (ns : set.FinSet nat_cmp) → IsSetOf (IsAt b ns) (members_at b ns)

-- the members at the numbers of a list, which may come in any order and with repeats
abbrev pub MembersOfLists : Type 0
MembersOfLists = (b : BaseState) (numbers : List ℕ) → members_at b (set.from_list numbers) ≡ set_from (filter_map (value_at b) numbers)

-- two sets on one base that stand for one set have the same numbers
abbrev pub EqualSetsHaveEqualNumbers : Type 0
EqualSetsHaveEqualNumbers =
    (bs : BasesState) (b : BaseId) (x y : Layout) (ms ns : set.FinSet nat_cmp)
    → IsBase (base_at bs b) → IsOver bs (numbers x b ms) → IsOver bs (numbers y b ns)
    → stands bs (numbers x b ms) ≡ stands bs (numbers y b ns) → ms ≡ ns

-- a member of the base is in a set exactly where its number is, and nothing else is
abbrev pub MembersAreTestedByNumber : Type 0
MembersAreTestedByNumber =
    (b : BaseState) (ns : set.FinSet nat_cmp) (d : Datum) → IsBase b
    → ((e : Elt) → value_of b e ≡ Some d → has_datum d (members_at b ns) ≡ set.contains ns e.block)
    × (find b d ≡ None → has_datum d (members_at b ns) ≡ false)

-- union, intersection, difference, symmetric difference of sets on one base, number by number
abbrev pub UnionsGoByNumber : Type 0
UnionsGoByNumber = (b : BaseState) (ms ns : set.FinSet nat_cmp) → members_at b (set.union ms ns) ≡ union_of (members_at b ms) (members_at b ns)

abbrev pub MeetsGoByNumber : Type 0
MeetsGoByNumber = (b : BaseState) (ms ns : set.FinSet nat_cmp) → IsBase b → members_at b (set.intersection ms ns) ≡ meet_of (members_at b ms) (members_at b ns)

abbrev pub DifferencesGoByNumber : Type 0
DifferencesGoByNumber = (b : BaseState) (ms ns : set.FinSet nat_cmp) → IsBase b → members_at b (set.difference ms ns) ≡ minus_of (members_at b ms) (members_at b ns)

abbrev pub SymmetricDifferencesGoByNumber : Type 0
SymmetricDifferencesGoByNumber =
    (b : BaseState) (ms ns : set.FinSet nat_cmp) → IsBase b
    → members_at b (set.union (set.difference ms ns) (set.difference ns ms)) ≡ symm_of (members_at b ms) (members_at b ns)

-- one member more or less
abbrev pub InsertsGoByNumber : Type 0
InsertsGoByNumber =
    (b : BaseState) (ns : set.FinSet nat_cmp) (e : Elt) (d : Datum) → value_of b e ≡ Some d → members_at b (set.insert ns e.block) ≡ insert_datum d (members_at b ns)

abbrev pub RemovesGoByNumber : Type 0
RemovesGoByNumber =
    (b : BaseState) (ns : set.FinSet nat_cmp) (e : Elt) (d : Datum) → IsBase b → value_of b e ≡ Some d → members_at b (set.remove ns e.block) ≡ remove_datum d (members_at b ns)

-- ---- the same by the number of a member

-- d is in a set exactly where the number of its block is
abbrev pub TestedAtNumber : Type 0
TestedAtNumber =
    (b : BaseState) (ns : set.FinSet nat_cmp) (d : Datum) (n : ℕ) → IsBase b → value_at b n ≡ Some d → has_datum d (members_at b ns) ≡ set.contains ns n

abbrev pub InsertsAtNumber : Type 0
InsertsAtNumber = (b : BaseState) (ns : set.FinSet nat_cmp) (d : Datum) (n : ℕ) → value_at b n ≡ Some d → members_at b (set.insert ns n) ≡ insert_datum d (members_at b ns)

abbrev pub RemovesAtNumber : Type 0
RemovesAtNumber =
    (b : BaseState) (ns : set.FinSet nat_cmp) (d : Datum) (n : ℕ) → IsBase b → value_at b n ≡ Some d → members_at b (set.remove ns n) ≡ remove_datum d (members_at b ns)

-- a set has as many members as numbers
abbrev pub CountsGoByNumber : Type 0
CountsGoByNumber = (b : BaseState) (ns : set.FinSet nat_cmp) → IsBase b → AreLiving b ns → length (members_at b ns) ≡ set.len ns
