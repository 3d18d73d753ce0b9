-- For which forms there are kernels, and what a change in place tells.
use Rattle.std.specs.Prelude.{◌≡◌, Bool, true, false, not, ◌&&◌, ◌||◌, if◌then◌else◌, Option, is_some, option_and_then, Result, Ok, Err}
use Rattle.std.specs.Option.{ForSome}
use Rattle.std.specs.Ordering.{nat_cmp}
use Rattle.std.specs.FinSet as set
use Rattle.setl_value.specs.Datum.{Datum}
use Rattle.setl_base.specs.declared.Elt.{Elt}
use Rattle.setl_base.specs.Base.{find, IsLiving}
use Rattle.setl_operators_table.specs.declared.Operator.{Operator}
use Rattle.setl_operators_table.specs.declared.Operator.TheVariants.{Add, Subtract, Multiply, Modulo, With, Less}
use Rattle.setl_operators_table.specs.declared.OpFault.{OpFault}
use Rattle.setl_operators_table.specs.declared.OpFault.TheVariants.{Deep, NoMemory}
use Rattle.setl_operators_table.specs.Outcome.{Outcome, Gives, Fails, DeepFault}
use Rattle.setl_rep_bases.specs.declared.BaseId.{BaseId}
use Rattle.setl_rep_bases.specs.BaseId.{is_id}
use Rattle.setl_rep_bases.specs.Bases.{BasesState, base_at}
use Rattle.setl_rep_forms.specs.Form.{Form, plain, element, numbers, remote}
use Rattle.setl_rep_forms.specs.Stands.{stands}
use Rattle.setl_rep_based.specs.Walk.{IsStep}
use Rattle.setl_rep_kernels.specs.declared.operations.SetOperation.{SetOperation}
use Rattle.setl_rep_kernels.specs.declared.operations.SetOperation.TheVariants.{Union, Difference, Intersection, SymmetricDifference}

-- ---- kinds of forms

-- a value that is held plain or as an element
abbrev pub is_single : Form → Bool
is_single (plain d) = true
is_single (element b e) = true
is_single f = false

-- a set that is held as numbers
abbrev pub is_numbered : Form → Bool
is_numbered (numbers k b ns) = true
is_numbered f = false

abbrev pub is_remote : Form → Bool
is_remote (numbers remote b ns) = true
is_remote f = false

-- two remote sets on one base
abbrev pub are_remote_alike : Form → Form → Bool
are_remote_alike (numbers remote a ms) (numbers remote b ns) = is_id a b
are_remote_alike f g = false

-- whether what the form stands for is a member of the base
abbrev pub is_member : BasesState → BaseId → Form → Bool
is_member bs b x = is_some (option_and_then (find (base_at bs b)) (stands bs x))

-- the two are one form but for what it holds: the same layout on the same base
abbrev pub IsAlike : Form → Form → Type 0
IsAlike (numbers k a ms) (numbers l b ns) = (k ≡ l) × (a ≡ b)
IsAlike f g = f ≡ g

-- ---- operations on two sets

abbrev pub operator_of : SetOperation → Operator
operator_of Union = Add
operator_of Difference = Subtract
operator_of Intersection = Multiply
operator_of SymmetricDifference = Modulo

abbrev pub combined_numbers : SetOperation → set.FinSet nat_cmp → set.FinSet nat_cmp → set.FinSet nat_cmp
combined_numbers Union x y = set.union x y
combined_numbers Difference x y = set.difference x y
combined_numbers Intersection x y = set.intersection x y
combined_numbers SymmetricDifference x y = set.union (set.difference x y) (set.difference y x)

-- ---- changes

-- `with` or `less`
abbrev pub change_of : (on : Bool) → Operator
change_of on = if on then With else Less

-- a value that is held plain or as an element comes in, if it is a member of the base, and goes out
abbrev pub can_change : BasesState → BaseId → (on : Bool) → (x : Form) → Bool
can_change bs b on x = is_single x && (not on || is_member bs b x)

abbrev pub has_change : BasesState → (on : Bool) → (s x : Form) → Bool
has_change bs on (numbers k b ns) x = can_change bs b on x
has_change bs on f x = false

-- what a change in place tells of the operator's outcome, where v is what stands there now: true that it was made, without a
-- charge, false that there is no kernel, and want of memory tells nothing
abbrev pub ChangeTells : Result Bool OpFault → Outcome → Option Datum → Type 0
ChangeTells (Ok true) o v = o ≡ Gives v 0
ChangeTells (Ok false) o v = Unit {0}
ChangeTells (Err Deep) o v = o ≡ Fails DeepFault
ChangeTells (Err NoMemory) o v = Unit {0}
ChangeTells (Err f) o v = ⊥

-- ---- walks

-- a handle after which a walk goes on names a member of the set's base
abbrev pub IsAfter : BasesState → Form → Option Elt → Type 0
IsAfter bs (numbers k b ns) after = ForSome after (IsLiving (base_at bs b))
IsAfter bs f after = Unit {0}

-- the next member of a set of numbers
abbrev pub IsStepOf : BasesState → Form → (after next : Option Elt) → Type 0
IsStepOf bs (numbers k b ns) after next = IsStep (base_at bs b) ns after next
IsStepOf bs f after next = ⊥
