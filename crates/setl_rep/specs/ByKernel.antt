-- Which operators are applied to forms without a plain value of them.
use Rattle.std.specs.Prelude.{Bool, true, false, ◌&&◌, List, [], ◌∷◌}
use Rattle.setl_operators_table.specs.declared.Operator.{Operator}
use Rattle.setl_operators_table.specs.declared.Operator.TheVariants.{Size, Domain, Add, Subtract, Multiply, Modulo, In, NotIn, With, Less, Get, Images}
use Rattle.setl_rep_forms.specs.Form.{Form}
use Rattle.setl_rep_bases.specs.Bases.{BasesState}
use Rattle.setl_rep.specs.ByTable.{is_table, is_table_at}
use Rattle.setl_rep_kernels.specs.Kernels.{is_single, is_numbered, is_remote, are_remote_alike, has_change, IsAlike}

-- one operand: the size of a remote set, and the domain of a map as a table
abbrev pub has_one : Operator → Form → Bool
has_one Size s = is_remote s
has_one Domain f = is_table f
has_one o s = false

-- two operands: membership of what is held plain or as an element in a set of numbers, operations on two remote sets on one base,
-- and the images of a point in a map as a table
abbrev pub has_two : Operator → Form → Form → Bool
has_two In x s = is_numbered s && is_single x
has_two NotIn x s = is_numbered s && is_single x
has_two Add a b = are_remote_alike a b
has_two Subtract a b = are_remote_alike a b
has_two Multiply a b = are_remote_alike a b
has_two Modulo a b = are_remote_alike a b
has_two Get f x = is_table_at f x
has_two Images f x = is_table_at f x
has_two o a b = false

abbrev pub has_kernel : Operator → List Form → Bool
has_kernel o (s ∷ []) = has_one o s
has_kernel o (a ∷ b ∷ []) = has_two o a b
has_kernel o fs = false

-- `with`, where `on` is true, and `less`: a set of numbers, and what is held plain or as an element, which for `with` is a member
-- of the base
abbrev pub has_first_change : BasesState → (on : Bool) → List Form → Bool
has_first_change bs on (s ∷ x ∷ []) = has_change bs on s x
has_first_change bs on fs = false

abbrev pub has_changed : BasesState → Operator → List Form → Bool
has_changed bs With fs = has_first_change bs true fs
has_changed bs Less fs = has_first_change bs false fs
has_changed bs o fs = false

-- the operators that tell a truth value or a number
abbrev pub is_told : Operator → Bool
is_told Size = true
is_told In = true
is_told NotIn = true
is_told o = false

-- the operators on maps
abbrev pub is_mapped : Operator → Bool
is_mapped Domain = true
is_mapped Get = true
is_mapped Images = true
is_mapped o = false

-- the operators that give a set
abbrev pub is_combined : Operator → Bool
is_combined Add = true
is_combined Subtract = true
is_combined Multiply = true
is_combined Modulo = true
is_combined o = false

-- a form like that of the first operand
abbrev pub IsLikeFirst : List Form → Form → Type 0
IsLikeFirst [] g = ⊥
IsLikeFirst (f ∷ fs) g = IsAlike f g
