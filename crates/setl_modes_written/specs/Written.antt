-- The modes of a `repr` section as plain data, and their parts.
use Rattle.std.specs.Prelude.{ℕ, Bool, true, false, List, [], ◌∷◌, ◌++◌, Option, Some, is_some}
use Rattle.setl_tree.specs.declared.mode.Attribute.{Attribute}
use Rattle.setl_tree.specs.declared.mode.Attribute.TheVariants as at
use Rattle.setl_tree.specs.declared.mode.WrittenMode.{WrittenMode, fold-WrittenMode}
use Rattle.setl_tree.specs.declared.mode.Core.TheOpen.{Core-F, WrittenMode-F}

-- A mode with the attribute before it.
pub data Written : Type 0 where
  -- general, int, string, boolean or atom
  Simple : Option Attribute → Written
  -- `elmt base`, with the line of the word `elmt` and the bytes of the base's name
  Element : Option Attribute → (line : ℕ) → (base : List ℕ) → Written
  Tuple Set : Option Attribute → Written → Written
  -- smap(d) r and mmap{d} r
  Smap Mmap : Option Attribute → Written → Written → Written

abbrev pub core_step : Core-F (Option Attribute → Written) Written → Option Attribute → Written
core_step Core-F.General a = Simple a
core_step Core-F.Int a = Simple a
core_step Core-F.Str a = Simple a
core_step Core-F.Boolean a = Simple a
core_step Core-F.Atom a = Simple a
core_step (Core-F.Elmt line b) a = Element a line b
core_step (Core-F.Set m) a = Set a m
core_step (Core-F.Tuple m) a = Tuple a m
core_step (Core-F.Smap d r) a = Smap a d r
core_step (Core-F.Mmap d r) a = Mmap a d r

abbrev pub mode_step : WrittenMode-F (Option Attribute → Written) Written → Written
mode_step m = m.core m.attribute

-- the plain data of a mode in a tree
abbrev pub written : WrittenMode → Written
written = fold-WrittenMode (Option Attribute → Written) Written core_step mode_step

-- ---- parts

-- a mode and the modes inside it at every depth, in the order of their first tokens
abbrev pub parts : Written → List Written
parts (Simple a) = Simple a ∷ []
parts (Element a line b) = Element a line b ∷ []
parts (Tuple a m) = Tuple a m ∷ parts m
parts (Set a m) = Set a m ∷ parts m
parts (Smap a d r) = Smap a d r ∷ (parts d ++ parts r)
parts (Mmap a d r) = Mmap a d r ∷ (parts d ++ parts r)

-- the modes inside a mode at every depth
abbrev pub inside : Written → List Written
inside (Simple a) = []
inside (Element a line b) = []
inside (Tuple a m) = parts m
inside (Set a m) = parts m
inside (Smap a d r) = parts d ++ parts r
inside (Mmap a d r) = parts d ++ parts r

-- the attribute before a mode
abbrev pub attribute_of : Written → Option Attribute
attribute_of (Simple a) = a
attribute_of (Element a line b) = a
attribute_of (Tuple a m) = a
attribute_of (Set a m) = a
attribute_of (Smap a d r) = a
attribute_of (Mmap a d r) = a

abbrev pub is_element : Written → Bool
is_element (Element a line b) = true
is_element m = false

abbrev pub is_set : Written → Bool
is_set (Set a m) = true
is_set m = false

-- whether an attribute stands before a mode
abbrev pub has_attribute : Written → Bool
has_attribute m = is_some (attribute_of m)

abbrev is_local_word : Option Attribute → Bool
is_local_word (Some at.Local) = true
is_local_word a = false

-- whether `local` stands before a mode
abbrev pub is_local : Written → Bool
is_local m = is_local_word (attribute_of m)

-- whether a mode is a set or a map whose first mode is an `elmt`
abbrev pub is_based : Written → Bool
is_based (Set a m) = is_element m
is_based (Smap a d r) = is_element d
is_based (Mmap a d r) = is_element d
is_based m = false

-- whether a mode is a tuple of an `elmt`
abbrev pub is_element_tuple : Written → Bool
is_element_tuple (Tuple a m) = is_element m
is_element_tuple m = false

-- whether the second mode of an `mmap` is no set
abbrev pub has_other_images : Written → Bool
has_other_images (Mmap a d r) = is_no_set r
  where
    is_no_set : Written → Bool
    is_no_set (Set b m) = false
    is_no_set n = true
has_other_images m = false
