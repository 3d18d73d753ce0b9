-- What operators on maps that are held as tables give, as forms.
use Rattle.std.specs.Prelude.{◌≡◌, ℕ, Bool, true, false, ◌&&◌, List, [], ◌∷◌, is_some, option_and_then}
use Rattle.std.specs.Option.{ForSome}
use Rattle.setl_operators_table.specs.declared.Operator.{Operator}
use Rattle.setl_operators_table.specs.declared.Operator.TheVariants.{Domain, Get, Images, Lessf}
use Rattle.setl_operators_table.specs.Operators.{op_of}
use Rattle.setl_operators_table.specs.Outcome.{Gives}
use Rattle.setl_rep_bases.specs.Bases.{BasesState}
use Rattle.setl_rep_forms.specs.Form.{Form}
use Rattle.setl_rep_forms.specs.Stands.{stands, IsOver}
use Rattle.setl_rep_images.specs.Kinds.{keeps_one, keeps_sets, point_content, IsOfContent}
use Rattle.setl_rep_images.specs.Without.{IsTableLike, IsWithoutPoint}
use Rattle.setl_rep_kernels.specs.Kernels.{is_single}
use Rattle.setl_rep_maps.specs.Contents.{table_of, IsDomain}

-- ---- for which forms

-- one operand: a map as a table
abbrev pub is_table : Form → Bool
is_table f = is_some (table_of f)

-- two operands: a map as a table, and a point that is held plain or as an element
abbrev pub is_table_at : (f x : Form) → Bool
is_table_at f x = is_single x && is_some (table_of f)

abbrev pub has_point : List Form → Bool
has_point (f ∷ x ∷ []) = is_table_at f x
has_point fs = false

-- ---- what is given

-- the form of the content of the point that x stands for, where it has one
abbrev pub IsImageOf : BasesState → (f x g : Form) → Type 0
IsImageOf bs f x g = IsOfContent (option_and_then (point_content bs f) (stands bs x)) g

-- of one operand: the domain is the set of the numbers of the points
abbrev pub IsOfMap : Operator → (f g : Form) → Type 0
IsOfMap Domain f g = IsDomain f g
IsOfMap o f g = Unit {0}

-- of two: the image of a point, where the map keeps one image for each, and the set of its images, where it keeps sets
abbrev pub IsAtPoint : BasesState → Operator → (f x g : Form) → Type 0
IsAtPoint bs Get f x g = keeps_one f ≡ true → IsImageOf bs f x g
IsAtPoint bs Images f x g = keeps_sets f ≡ true → IsImageOf bs f x g
IsAtPoint bs o f x g = Unit {0}

abbrev pub IsByTable : BasesState → Operator → List Form → Form → Type 0
IsByTable bs o (f ∷ []) g = IsOfMap o f g
IsByTable bs o (f ∷ x ∷ []) g = IsAtPoint bs o f x g
IsByTable bs o fs g = Unit {0}

-- ---- a point less

-- g is f without the images of what x stands for
abbrev pub IsPointLess : BasesState → (f x g : Form) → Type 0
IsPointLess bs f x g = ForSome (stands bs x) (λ d. IsWithoutPoint bs d f g)

-- the same as the operator tells it
pub record IsLessAt (bs : BasesState) (f x g : Form) : Type 0 where
  pub value : (left : ℕ) → op_of Lessf (stands bs f ∷ stands bs x ∷ []) left ≡ Gives (stands bs g) 0
  pub over : IsOver bs g
  pub alike : IsTableLike f g

-- the map as a table like the one before
abbrev pub IsLikeMap : List Form → Form → Type 0
IsLikeMap (f ∷ x ∷ []) g = IsTableLike f g
IsLikeMap fs g = ⊥

abbrev pub has_less : Operator → List Form → Bool
has_less Lessf fs = has_point fs
has_less o fs = false
