-- Updates of values in their declared forms.
use Rattle.std.specs.Prelude.{◌≡◌, ℕ, nat_lt, Bool, true, false, ◌&&◌, [], ◌∷◌, Option, Some, is_some, Result, IfOk, OnErr}
use Rattle.setl_value.specs.Datum.{Datum, depth}
use Rattle.setl_modes.specs.Modes.{Mode, Sets, SingleMaps, MultiMaps}
use Rattle.setl_modes.specs.Fits.{datum_fits}
use Rattle.setl_operators_table.specs.declared.Operator.{Operator}
use Rattle.setl_operators_table.specs.declared.Operator.TheVariants.{Images, Less, PutImages, With}
use Rattle.setl_operators_table.specs.Outcome.{Outcome, Gives, then_with}
use Rattle.setl_operators_table.specs.Operators.{op_of}
use Rattle.std.specs.declared.alloc.AllocError.{AllocError}
use Rattle.setl_rep_bases.specs.Bases.{BasesState}
use Rattle.setl_rep_forms.specs.Form.{Form}
use Rattle.setl_rep_forms.specs.Stands.{stands}
use Rattle.setl_rep_kernels.specs.Kernels.{is_numbered}
use Rattle.setl_rep_building.specs.HasForm.{base_of}
use Rattle.setl_rep_maps.specs.Contents.{table_of}
use Rattle.setl_rep_entering.specs.Entering.{AreLengthened}
use Rattle.setl_rep_updates.specs.InForm.{IsInForm}

-- whether d is included in a set of members of this mode: where these are elements of a base, the set is held as numbers, and d
-- fits their mode and is less than 500 deep
abbrev pub includes_one : Mode → Form → Datum → Bool
includes_one m f d = is_some (base_of m) && (is_numbered f && (nat_lt (depth d) 500 && datum_fits m d))

abbrev pub includes : Mode → Form → Datum → Bool
includes (Sets a m) f d = includes_one m f d
includes m f d = false

-- whether d is put into a map, where its mode is this one: it fits that and is less than 499 deep
abbrev pub is_part : Mode → Datum → Bool
is_part m d = nat_lt (depth d) 499 && datum_fits m d

-- whether the image y is put at x, in a map of this mode: where it has one image for each point and is held as a table
abbrev pub puts : Mode → Form → Datum → Datum → Bool
puts (SingleMaps a d r) f x y = is_some (table_of f) && (is_part d x && is_part r y)
puts m f x y = false

-- whether y comes to the images at x, in a map of this mode: where it has sets of images that are tested one by one and is held
-- as a table
abbrev pub adds_to : Mode → Mode → Form → Datum → Datum → Bool
adds_to d (Sets a k) f x y = is_some (table_of f) && (is_part d x && is_part k y)
adds_to d s f x y = false

abbrev pub adds_image : Mode → Form → Datum → Datum → Bool
adds_image (MultiMaps a d s) f x y = adds_to d s f x y
adds_image m f x y = false

-- whether y goes out of the images of a point, in a map of this mode: where it has sets of images that are tested one by one and
-- is held as a table
abbrev pub has_image_sets : Mode → Bool
has_image_sets (MultiMaps a d (Sets b k)) = true
has_image_sets m = false

abbrev pub cuts_image : Mode → Form → Bool
cuts_image m f = has_image_sets m && is_some (table_of f)

-- what an update of the images of x by an operator and y makes of the whole: the set of the images is read, the operator is applied
-- to it and y, and what that gives is put there
abbrev pub images_by : Operator → Option Datum → Datum → Datum → ℕ → Outcome
images_by o f x y left =
    then_with (op_of Images (f ∷ Some x ∷ []) left) left (λ s now. then_with (op_of o (s ∷ Some y ∷ []) now) now (λ new later. op_of PutImages (f ∷ Some x ∷ new ∷ []) later))

-- `f{x} with:= y`
abbrev pub with_image : Option Datum → Datum → Datum → ℕ → Outcome
with_image f x y left = images_by With f x y left

-- `f{x} less:= y`
abbrev pub less_image : Option Datum → Datum → Datum → ℕ → Outcome
less_image f x y left = images_by Less f x y left

-- What an update leaves, where an operator is to give this of what the form f stood for, by the turns that are left, and g is
-- the form that stands there now. True says that it was made: g stands for what the operator gives, without a charge, and the
-- bases are lengthened by that value. False, and want of memory, say that all is as before.
pub record IsUpdate (m : Mode) (n : ℕ) (gives : ℕ → Outcome) (bs cs : BasesState) (f g : Form) (result : Result Bool AllocError) : Type 0 where
  pub held : IsInForm cs n m g
  pub value : IfOk result (λ t. t ≡ true → (left : ℕ) → gives left ≡ Gives (stands cs g) 0)
  pub lengthened : IfOk result (λ t. t ≡ true → (d : Datum) × (stands cs g ≡ Some d) × AreLengthened m d n bs cs)
  pub nothing : IfOk result (λ t. t ≡ false → (cs ≡ bs) × (g ≡ f))
  pub refused : OnErr result ((cs ≡ bs) × (g ≡ f))
