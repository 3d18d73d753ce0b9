-- The text of a `repr` section, as the programmer would write it. The base of number k has the name `b` with k in decimal.
use Rattle.std.specs.Prelude.{◌≡◌, refl, ℕ, List, [], ◌++◌, codes, Option, Some, None}
use Rattle.std.specs.Fmt.{decimal, digits}
use Rattle.setl_modes.specs.declared.mode.Form.{Form}
use Rattle.setl_modes.specs.declared.mode.Form.TheVariants as form
use Rattle.setl_modes.specs.Modes.{Mode, General, Integers, Strings, Booleans, Atoms, Elements, Sets, Tuples, SingleMaps, MultiMaps}

abbrev pub form_text : Form → List ℕ
form_text form.Plain = []
form_text form.Local = codes "local "
form_text form.Remote = codes "remote "
form_text form.Sparse = codes "sparse "

abbrev pub base_name : ℕ → List ℕ
base_name k = codes "b" ++ decimal k

abbrev pub mode_text : Mode → List ℕ
mode_text General = codes "general"
mode_text Integers = codes "int"
mode_text Strings = codes "string"
mode_text Booleans = codes "boolean"
mode_text Atoms = codes "atom"
mode_text (Elements k m) = codes "elmt " ++ base_name k
mode_text (Sets form m) = form_text form ++ codes "set(" ++ mode_text m ++ codes ")"
mode_text (Tuples m) = codes "tuple(" ++ mode_text m ++ codes ")"
mode_text (SingleMaps form d r) = form_text form ++ codes "smap(" ++ mode_text d ++ codes ") " ++ mode_text r
mode_text (MultiMaps form d s) = form_text form ++ codes "mmap{" ++ mode_text d ++ codes "} " ++ mode_text s

-- `general` is what a variable has that isn't declared
abbrev pub or_general : Option Mode → Mode
or_general None = General
or_general (Some m) = m

-- the line that declares a variable, if it is declared
abbrev pub line_text : (name : List ℕ) → Option Mode → List ℕ
line_text name None = []
line_text name (Some m) = name ++ codes ": " ++ mode_text m ++ codes ";\n"

-- the line of a base
abbrev pub base_text : ℕ → Mode → List ℕ
base_text k m = codes "base " ++ base_name k ++ codes ": " ++ mode_text m ++ codes ";\n"

-- ---- worked rows
a_map : line_text (codes "g") (Some (MultiMaps form.Sparse (Elements 1 Integers) (Sets form.Sparse (Elements 1 Integers)))) ≡ codes "g: sparse mmap{elmt b1} sparse set(elmt b1);\n"
unfolding digits
a_map = refl

a_set : line_text (codes "s") (Some (Sets form.Plain General)) ≡ codes "s: set(general);\n"
a_set = refl

a_base : base_text 1 Strings ≡ codes "base b1: string;\n"
unfolding digits
a_base = refl
