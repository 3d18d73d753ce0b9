-- Rules 19 to 28, on the declarations of a `repr` section: the lines at which each is broken.
use Rattle.std.specs.Prelude.{◌≡◌, refl, codes, ℕ, Bool, not, ◌||◌, ◌&&◌, List, [], ◌∷◌, ◌++◌, map, Option, Some, None, if◌then◌else◌}
use Rattle.std.specs.List.{list_any}
use Rattle.setl_tree.specs.declared.mode.ReprLine.{ReprLine}
use Rattle.setl_tree.specs.declared.mode.ReprLine.TheVariants as rl
use Rattle.setl_tree.specs.declared.mode.WrittenMode.{WrittenMode}
use Rattle.setl_tree.specs.declared.tree.Declared.{Declared}
use Rattle.setl_tree.specs.declared.tree.Tree.{Tree}
use Rattle.setl_names.specs.Bodies.{Body, main_body, bodies, occurrences}
use Rattle.setl_names.specs.Heads.{declared_entry, lines_again}
use Rattle.setl_names.specs.Names.{Name, has, with_names}
use Rattle.setl_names.specs.Procedures.{is_procedure, param_names}
use Rattle.setl_names.specs.Variables.{variables, var_names}
use Rattle.setl_modes_written.specs.Written.{Written, Element, Smap, written, parts, inside, is_local, has_other_images}
use Rattle.setl_modes_written.specs.Tested.{is_for_variables, has_stray_attribute, has_stray_element}

-- ---- what a section declares

-- the names that a `base` line declares
abbrev pub line_bases : ReprLine → List Declared
line_bases (rl.Base line ds m) = ds
line_bases (rl.Variables line ds m) = []

-- the names whose mode another line declares
abbrev pub line_variables : ReprLine → List Declared
line_variables (rl.Base line ds m) = []
line_variables (rl.Variables line ds m) = ds

-- the bases that a section declares, in their order
abbrev pub declared_bases : List ReprLine → List Declared
declared_bases [] = []
declared_bases (l ∷ ls) = line_bases l ++ declared_bases ls

-- the variables that a section declares, in their order
abbrev pub declared_variables : List ReprLine → List Declared
declared_variables [] = []
declared_variables (l ∷ ls) = line_variables l ++ declared_variables ls

-- the lines of the declared names that pass a test
abbrev pub lines_of_names : (Name → Bool) → List Declared → List ℕ
lines_of_names test [] = []
lines_of_names test (d ∷ ds) = if test d.name then d.line ∷ lines_of_names test ds else lines_of_names test ds

-- the modes in a mode, if there is one
abbrev pub parts_of : Option WrittenMode → List Written
parts_of None = []
parts_of (Some m) = parts (written m)

-- the modes in a `repr` line
abbrev pub line_parts : ReprLine → List Written
line_parts (rl.Base line ds m) = parts_of m
line_parts (rl.Variables line ds m) = parts (written m)

abbrev pub line_of : ReprLine → ℕ
line_of (rl.Base line ds m) = line
line_of (rl.Variables line ds m) = line

-- the lines of the `repr` lines that pass a test
abbrev pub lines_where : (ReprLine → Bool) → List ReprLine → List ℕ
lines_where test [] = []
lines_where test (l ∷ ls) = if test l then line_of l ∷ lines_where test ls else lines_where test ls

-- ---- what a program's names are

-- whether a name is a parameter of a body
abbrev pub is_parameter : List Body → Name → Bool
is_parameter bs x = list_any (λ b. has (param_names b.params) x) bs

-- whether a name is a variable in a statement of a body
abbrev pub is_variable_in : Tree → Body → Name → Bool
is_variable_in t b x = has (variables t.procs (occurrences b)) x

-- whether a name is a variable in a statement
abbrev pub is_variable : Tree → Name → Bool
is_variable t x = list_any (λ b. is_variable_in t b x) (bodies t)

-- whether a name is a procedure, a parameter, a name in `var` or a variable in a statement
abbrev pub is_taken : Tree → Name → Bool
is_taken t x = is_procedure t.procs x || (is_parameter (bodies t) x || (has (var_names t.vars) x || is_variable t x))

-- whether a name is in `var` or a variable in the main program's statements, and no procedure
abbrev pub is_declarable : Tree → Name → Bool
is_declarable t x = (has (var_names t.vars) x || is_variable_in t (main_body t) x) && not (is_procedure t.procs x)

-- ---- tests of modes

-- the lines of the `elmt`s among these modes whose base is none of these
abbrev pub unknown_bases : List Name → List Written → List ℕ
unknown_bases bases [] = []
unknown_bases bases (Element a line b ∷ ms) = if has bases b then unknown_bases bases ms else line ∷ unknown_bases bases ms
unknown_bases bases (m ∷ ms) = unknown_bases bases ms

-- whether `local` stands elsewhere than as the first word of a declared variable's mode
abbrev pub has_stray_local : ReprLine → Bool
has_stray_local (rl.Base line ds m) = list_any is_local (parts_of m)
has_stray_local (rl.Variables line ds m) = list_any is_local (inside (written m))

-- ---- the rules

-- 19. No base is declared twice.
abbrev pub rule_19 : Tree → List ℕ
rule_19 t = lines_again [] (map declared_entry (declared_bases t.modes))

-- 20. A base's name is no procedure, parameter, `var` name or variable in a statement.
abbrev pub rule_20 : Tree → List ℕ
rule_20 t = lines_of_names (is_taken t) (declared_bases t.modes)

-- 21. Each `elmt b` names a base of an earlier `repr` line. Here the bases of the lines before are known.
abbrev pub rule_21 : (known : List Name) → List ReprLine → List ℕ
rule_21 known [] = []
rule_21 known (l ∷ ls) = unknown_bases known (line_parts l) ++ rule_21 (with_names known (var_names (line_bases l))) ls

-- 22. A base's mode has no `elmt`, `local`, `remote` or `sparse`.
abbrev pub rule_22 : List ReprLine → List ℕ
rule_22 [] = []
rule_22 (rl.Base line ds (Some m) ∷ ls) = if list_any is_for_variables (parts (written m)) then m.line ∷ rule_22 ls else rule_22 ls
rule_22 (l ∷ ls) = rule_22 ls

-- 23. No variable is declared twice in `repr`.
abbrev pub rule_23 : Tree → List ℕ
rule_23 t = lines_again [] (map declared_entry (declared_variables t.modes))

-- 24. A variable declared in `repr` is in `var` or is a variable in the main program's statements, and is no procedure.
abbrev pub rule_24 : Tree → List ℕ
rule_24 t = lines_of_names (λ x. not (is_declarable t x)) (declared_variables t.modes)

-- 25. `local` stands only as the first word of a declared variable's mode.
abbrev pub rule_25 : List ReprLine → List ℕ
rule_25 ls = lines_where has_stray_local ls

-- 26. `local`, `remote` and `sparse` stand only before a `set`, `smap` or `mmap` whose first mode is an `elmt`.
abbrev pub rule_26 : List ReprLine → List ℕ
rule_26 ls = lines_where (λ l. list_any has_stray_attribute (line_parts l)) ls

-- 27. No `elmt` stands inside a `set`, `smap` or `mmap` whose first mode isn't an `elmt`, nor inside a `tuple` unless it is
-- the tuple's whole mode.
abbrev pub rule_27 : List ReprLine → List ℕ
rule_27 ls = lines_where (λ l. list_any has_stray_element (line_parts l)) ls

-- 28. The second mode of an `mmap` is a `set`, with or without an attribute.
abbrev pub rule_28 : List ReprLine → List ℕ
rule_28 ls = lines_where (λ l. list_any has_other_images (line_parts l)) ls

-- ---- worked row: the lines of the `elmt`s that name no known base
abbrev base : Name
base = codes "b"

unknown_and_known : unknown_bases (base ∷ []) (parts (Smap None (Element None 3 (codes "c")) (Element None 1 base))) ≡ 3 ∷ []
unknown_and_known = refl
