-- What a change makes of a value, and for which forms it is made in place.
use Rattle.std.specs.Prelude.{ℕ, Bool, [], ◌∷◌, Option, Some, None, is_some}
use Rattle.setl_value.specs.Datum.{Datum}
use Rattle.setl_value.specs.code.DatumOf.{datum, part}
use Rattle.setl_value.specs.declared.Value.{Value}
use Rattle.setl_modes.specs.Modes.{Mode}
use Rattle.setl_operators_table.specs.declared.Operator.TheVariants.{Less, Lessf, Put, With}
use Rattle.setl_operators_table.specs.Outcome.{Outcome}
use Rattle.setl_operators_table.specs.Operators.{op_of}
use Rattle.setl_rep_forms.specs.Form.{Form}
use Rattle.setl_rep_kernels.specs.Kernels.{is_numbered}
use Rattle.setl_rep_maps.specs.Contents.{table_of}
use Rattle.setl_rep_updates.specs.declared.updating.Change.{Change}
use Rattle.setl_rep_updates.specs.declared.updating.Change.TheVariants as to
use Rattle.setl_rep_updates.specs.Updates.{adds_image, cuts_image, includes, less_image, puts, with_image}

-- what it gives, by the turns that are left
abbrev pub given_by : Change → Option Datum → ℕ → Outcome
given_by (to.With x) s = op_of With (s ∷ Some (datum x) ∷ [])
given_by (to.Less x) s = op_of Less (s ∷ Some (datum x) ∷ [])
given_by (to.Lessf x) s = op_of Lessf (s ∷ Some (datum x) ∷ [])
given_by (to.Put x y) s = op_of Put (s ∷ Some (datum x) ∷ part y ∷ [])
given_by (to.WithImage x y) s = with_image s (datum x) (datum y)
given_by (to.LessImage x y) s = less_image s (datum x) (datum y)

-- whether `f(x) := y` is made; `om` only wants a table
abbrev pub puts_part : Mode → Form → Value → Option Value → Bool
puts_part m f x None = is_some (table_of f)
puts_part m f x (Some y) = puts m f (datum x) (datum y)

-- whether it is made in place, in a form of this mode
abbrev pub makes : Mode → Form → Change → Bool
makes m f (to.With x) = includes m f (datum x)
makes m f (to.Less x) = is_numbered f
makes m f (to.Lessf x) = is_some (table_of f)
makes m f (to.Put x y) = puts_part m f x y
makes m f (to.WithImage x y) = adds_image m f (datum x) (datum y)
makes m f (to.LessImage x y) = cuts_image m f
