-- What the modes in a mode are tested for.
use Rattle.std.specs.Prelude.{◌≡◌, refl, codes, Bool, true, false, not, ◌||◌, ◌&&◌, Some, None}
use Rattle.std.specs.List.{list_any}
use Rattle.setl_tree.specs.declared.mode.Attribute.TheVariants as at
use Rattle.setl_modes_written.specs.Written.{Written, Simple, Element, Tuple, Set, Smap, Mmap, parts, inside, has_attribute, is_element, is_based, is_element_tuple, has_other_images}

-- whether a mode is an `elmt` or has an attribute
abbrev pub is_for_variables : Written → Bool
is_for_variables m = is_element m || has_attribute m

-- whether an attribute stands before something else than a set or map whose first mode is an `elmt`
abbrev pub has_stray_attribute : Written → Bool
has_stray_attribute m = has_attribute m && not (is_based m)

-- whether an `elmt` stands inside a mode whose first mode isn't an `elmt`
abbrev pub has_stray_element : Written → Bool
has_stray_element m = list_any is_element (inside m) && not (is_based m || is_element_tuple m)

-- ---- worked rows
abbrev element : Written
element = Element None 1 (codes "b")

-- tuple(elmt b) is allowed, and tuple(tuple(elmt b)) isn't
whole_mode_of_a_tuple : list_any has_stray_element (parts (Tuple None element)) ≡ false
whole_mode_of_a_tuple = refl

inside_two_tuples : list_any has_stray_element (parts (Tuple None (Tuple None element))) ≡ true
inside_two_tuples = refl

-- in smap(elmt b) set(set(elmt b)) and in smap(int) elmt b an `elmt` stands inside a set or map on no base
inside_a_set : list_any has_stray_element (parts (Smap None element (Set None (Set None element)))) ≡ true
inside_a_set = refl

second_mode : list_any has_stray_element (parts (Smap None (Simple None) element)) ≡ true
second_mode = refl

both_modes : list_any has_stray_element (parts (Mmap None element (Set None element))) ≡ false
both_modes = refl

-- local smap(elmt b) set(elmt b) is allowed; local set(int) and remote tuple(elmt b) aren't
on_a_base : list_any has_stray_attribute (parts (Smap (Some at.Local) element (Set None element))) ≡ false
on_a_base = refl

on_no_base : list_any has_stray_attribute (parts (Set (Some at.Local) (Simple None))) ≡ true
on_no_base = refl

before_a_tuple : list_any has_stray_attribute (parts (Tuple (Some at.Remote) element)) ≡ true
before_a_tuple = refl

-- mmap{int} int isn't allowed at any depth; mmap{int} set(int) is
images_are_a_set : list_any has_other_images (parts (Mmap None (Simple None) (Set (Some at.Sparse) (Simple None)))) ≡ false
images_are_a_set = refl

images_are_no_set : list_any has_other_images (parts (Tuple None (Mmap None (Simple None) (Simple None)))) ≡ true
images_are_no_set = refl
