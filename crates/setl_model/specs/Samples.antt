-- Worked programs, each with what it writes.
use Rattle.std.specs.Prelude.{true, false, negsuc, Option, Some, None, List, [], ◌∷◌, codes, pos}
use Rattle.setl_value.specs.Datum.{Datum, bool, int, text, atom, tuple, set, no_part, parts_of, elements_of}
use Rattle.setl_set.specs.Sets.{set_from}
use Rattle.setl_program.specs.Program.{Name, Program}
use Rattle.setl_program.specs.Source.{s, t, number, enumeration, assign, add_to, print, program}

-- no statement
abbrev pub empty_program : Program
empty_program = program []

-- s := {3,1,2,1}; s with:= 5; print(s, 7);
abbrev pub growing_set : Program
growing_set = program (assign s (enumeration (3 ∷ 1 ∷ 2 ∷ 1 ∷ [])) ∷ add_to s (number 5) ∷ print (Name s ∷ number 7 ∷ []) ∷ [])

-- s := {1}; t := s; s with:= 2; print(s, t);
abbrev pub copied_set : Program
copied_set = program (assign s (enumeration (1 ∷ [])) ∷ assign t (Name s) ∷ add_to s (number 2) ∷ print (Name s ∷ Name t ∷ []) ∷ [])

-- print(); print({}, 10, s);
abbrev pub several_lines : Program
several_lines = program (print [] ∷ print (enumeration [] ∷ number 10 ∷ Name s ∷ []) ∷ [])

-- {3,1,2,1}, [1,om,2], 'it''s'
abbrev pub mixed_values : List (Option Datum)
mixed_values =
    Some (set (elements_of (set_from (int (pos 3) ∷ int (pos 1) ∷ int (pos 2) ∷ int (pos 1) ∷ []))))
    ∷ Some (tuple (parts_of (Some (int (pos 1)) ∷ None ∷ Some (int (pos 2)) ∷ [])))
    ∷ Some (text (codes "it's"))
    ∷ []

-- {true, -7, 'it''s', #7}, [], om, false
abbrev pub nested_values : List (Option Datum)
nested_values =
    Some (set (elements_of (bool true ∷ int (negsuc 6) ∷ text (codes "it's") ∷ atom 7 ∷ [])))
    ∷ Some (tuple no_part)
    ∷ None
    ∷ Some (bool false)
    ∷ []
