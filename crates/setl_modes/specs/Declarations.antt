-- The `repr` section: its bases with their modes, and the modes of the declared variables.
use Rattle.std.specs.Prelude.{ℕ, suc, Bool, true, false, List, [], ◌∷◌, ◌++◌, map, cond, bytes_eq, Option, Some, None}
use Rattle.setl_tree.specs.declared.mode.Attribute.{Attribute}
use Rattle.setl_tree.specs.declared.mode.Attribute.TheVariants as at
use Rattle.setl_tree.specs.declared.mode.WrittenMode.{WrittenMode, fold-WrittenMode}
use Rattle.setl_tree.specs.declared.mode.Core.TheOpen.{Core-F, WrittenMode-F}
use Rattle.setl_tree.specs.declared.mode.ReprLine.{ReprLine}
use Rattle.setl_tree.specs.declared.mode.ReprLine.TheVariants as rl
use Rattle.setl_tree.specs.declared.tree.Declared.{Declared}
use Rattle.setl_modes.specs.declared.mode.Form.{Form}
use Rattle.setl_modes.specs.declared.mode.Form.TheVariants as form
use Rattle.setl_modes.specs.Modes.{Mode, General, Integers, Strings, Booleans, Atoms, Elements, Sets, Tuples, SingleMaps, MultiMaps}

abbrev pub Name : Type 0
Name = List ℕ

-- The bases so far, with their names and modes, in the order of their declarations.
abbrev pub Bases : Type 0
Bases = List (Name × Mode)

-- the mode of the members of a base, by the number that the first of these has
abbrev pub element_of : ℕ → Bases → Name → Mode
element_of n [] x = General
element_of n (b ∷ bs) x = cond (bytes_eq b.0 x) (Elements n b.1) (element_of (suc n) bs x)

abbrev pub is_element : Mode → Bool
is_element (Elements n m) = true
is_element m = false

-- without an attribute a set or map on a base is sparse, and another one is plain
abbrev pub form_of : Option Attribute → Bool → Form
form_of (Some at.Local) based = form.Local
form_of (Some at.Remote) based = form.Remote
form_of (Some at.Sparse) based = form.Sparse
form_of None true = form.Sparse
form_of None false = form.Plain

abbrev pub core_step : Core-F (Option Attribute → Bases → Mode) (Bases → Mode) → Option Attribute → Bases → Mode
core_step Core-F.General a bs = General
core_step Core-F.Int a bs = Integers
core_step Core-F.Str a bs = Strings
core_step Core-F.Boolean a bs = Booleans
core_step Core-F.Atom a bs = Atoms
core_step (Core-F.Elmt line x) a bs = element_of 0 bs x
core_step (Core-F.Set m) a bs = Sets (form_of a (is_element (m bs))) (m bs)
core_step (Core-F.Tuple m) a bs = Tuples (m bs)
core_step (Core-F.Smap d r) a bs = SingleMaps (form_of a (is_element (d bs))) (d bs) (r bs)
core_step (Core-F.Mmap d s) a bs = MultiMaps (form_of a (is_element (d bs))) (d bs) (s bs)

abbrev pub mode_step : WrittenMode-F (Option Attribute → Bases → Mode) (Bases → Mode) → Bases → Mode
mode_step m bs = m.core m.attribute bs

abbrev pub mode_of : WrittenMode → Bases → Mode
mode_of = fold-WrittenMode (Option Attribute → Bases → Mode) (Bases → Mode) core_step mode_step

abbrev pub all_with : Mode → List Declared → List (Name × Mode)
all_with m ds = map (λ d. (d.name, m)) ds

abbrev pub base_mode : Option WrittenMode → Bases → Mode
base_mode None bs = General
base_mode (Some m) bs = mode_of m bs

-- the bases with those of one more line
abbrev pub with_line : ReprLine → Bases → Bases
with_line (rl.Base line ds m) bs = bs ++ all_with (base_mode m bs) ds
with_line (rl.Variables line ds m) bs = bs

abbrev pub bases_from : Bases → List ReprLine → Bases
bases_from bs [] = bs
bases_from bs (l ∷ ls) = bases_from (with_line l bs) ls

-- the bases of a section
abbrev pub bases_of : List ReprLine → Bases
bases_of ls = bases_from [] ls

abbrev pub line_variables : ReprLine → Bases → List (Name × Mode)
line_variables (rl.Base line ds m) bs = []
line_variables (rl.Variables line ds m) bs = all_with (mode_of m bs) ds

abbrev pub variables_from : Bases → List ReprLine → List (Name × Mode)
variables_from bs [] = []
variables_from bs (l ∷ ls) = line_variables l bs ++ variables_from (with_line l bs) ls

-- the declared variables of a section with their modes
abbrev pub variables_of : List ReprLine → List (Name × Mode)
variables_of ls = variables_from [] ls
