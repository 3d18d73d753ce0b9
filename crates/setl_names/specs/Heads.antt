-- Rules 1 to 8: whether the program's `end` breaks the first, and of the others the lines of the breaks.
use Rattle.std.specs.Prelude.{ℕ, Bool, false, not, List, [], ◌∷◌, map, Option, Some, None, if◌then◌else◌, bytes_eq}
use Rattle.setl_tree.specs.declared.tree.Declared.{Declared}
use Rattle.setl_tree.specs.declared.tree.Param.{Param}
use Rattle.setl_tree.specs.declared.tree.Proc.{Proc}
use Rattle.setl_tree.specs.declared.tree.Tree.{Tree}
use Rattle.setl_names.specs.declared.head.Entry.{Entry}
use Rattle.setl_names.specs.Names.{Name, has, with_name}
use Rattle.setl_names.specs.Procedures.{is_procedure}

-- ---- names with their lines

abbrev pub proc_entry : Proc → Entry
proc_entry p = record { line = p.line; name = p.name }

abbrev pub param_entry : Param → Entry
param_entry p = record { line = p.line; name = p.name }

abbrev pub declared_entry : Declared → Entry
declared_entry d = record { line = d.line; name = d.name }

-- the lines of the entries whose name is a procedure's
abbrev pub lines_of_procedures : List Proc → List Entry → List ℕ
lines_of_procedures procs [] = []
lines_of_procedures procs (e ∷ es) = if is_procedure procs e.name then e.line ∷ lines_of_procedures procs es else lines_of_procedures procs es

-- the lines of the procedures of this name
abbrev pub lines_of : Name → List Proc → List ℕ
lines_of x [] = []
lines_of x (p ∷ ps) = if bytes_eq p.name x then p.line ∷ lines_of x ps else lines_of x ps

-- the lines of the entries whose name stands earlier, or is among these
abbrev pub lines_again : List Name → List Entry → List ℕ
lines_again names [] = []
lines_again names (e ∷ es) = if has names e.name then e.line ∷ lines_again (with_name names e.name) es else lines_again (with_name names e.name) es

-- whether a name behind an `end` is another one
abbrev pub is_other : Option Name → Name → Bool
is_other None x = false
is_other (Some y) x = not (bytes_eq y x)

-- ---- the rules

-- 1. The name after `end program` is the program's name.
abbrev pub rule_1 : Tree → Bool
rule_1 t = is_other t.end_name t.name

-- 2. The name after `end proc` is that procedure's name.
abbrev pub rule_2 : List Proc → List ℕ
rule_2 [] = []
rule_2 (p ∷ ps) = if is_other p.end_name p.name then p.end_line ∷ rule_2 ps else rule_2 ps

-- 3. No two procedures have the same name.
abbrev pub rule_3 : List Proc → List ℕ
rule_3 ps = lines_again [] (map proc_entry ps)

-- 4. No procedure has the program's name.
abbrev pub rule_4 : Name → List Proc → List ℕ
rule_4 x ps = lines_of x ps

-- 5. No name stands twice in `var`.
abbrev pub rule_5 : List Declared → List ℕ
rule_5 ds = lines_again [] (map declared_entry ds)

-- 6. No name in `var` is a procedure's name.
abbrev pub rule_6 : List Proc → List Declared → List ℕ
rule_6 ps ds = lines_of_procedures ps (map declared_entry ds)

-- 7. No name stands twice in one parameter list.
abbrev pub rule_7 : List Param → List ℕ
rule_7 xs = lines_again [] (map param_entry xs)

-- 8. No parameter has a procedure's name.
abbrev pub rule_8 : List Proc → List Param → List ℕ
rule_8 ps xs = lines_of_procedures ps (map param_entry xs)
