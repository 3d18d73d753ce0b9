-- The breaks of a program's rules, and the first of them.
use Rattle.std.specs.Prelude.{ℕ, Bool, ◌||◌, ◌&&◌, nat_lt, nat_eq, List, [], ◌∷◌, ◌++◌, fold, Option, Some, None, if◌then◌else◌}
use Rattle.setl_tree.specs.declared.tree.Declared.{Declared}
use Rattle.setl_tree.specs.declared.tree.Param.{Param}
use Rattle.setl_tree.specs.declared.tree.Proc.{Proc}
use Rattle.setl_tree.specs.declared.tree.Tree.{Tree}
use Rattle.setl_names.specs.declared.broken.Break.{Break}
use Rattle.setl_names.specs.declared.occurrence.Occurrence.{Occurrence}
use Rattle.setl_names.specs.Names.{Name}
use Rattle.setl_names.specs.Bodies.{Body, bodies, occurrences}
use Rattle.setl_names.specs.Heads.{rule_1, rule_2, rule_3, rule_4, rule_5, rule_6, rule_7, rule_8}
use Rattle.setl_names.specs.Rules.{rule_9, rule_10, rule_11, rule_12, rule_13, rule_14, rule_15, rule_16, rule_17, rule_18}

abbrev pub break_at : ℕ → ℕ → Break
break_at line rule = record { line = line; rule = rule }

-- breaks of one rule at these lines
abbrev pub tagged : ℕ → List ℕ → List Break
tagged rule [] = []
tagged rule (line ∷ lines) = break_at line rule ∷ tagged rule lines

-- a break, if there is one
abbrev pub broken : ℕ → ℕ → Bool → List Break
broken line rule b = if b then break_at line rule ∷ [] else []

abbrev pub occurrence_breaks : List Proc → Occurrence → List Break
occurrence_breaks procs u =
    broken u.line 9 (rule_9 procs u.what) ++ (broken u.line 10 (rule_10 procs u.what) ++ (broken u.line 11 (rule_11 procs u.what)
    ++ (broken u.line 12 (rule_12 procs u.what) ++ (broken u.line 13 (rule_13 procs u.what) ++ (broken u.line 14 (rule_14 procs u.what)
    ++ (broken u.line 15 (rule_15 procs u.what) ++ (broken u.line 16 (rule_16 procs u.what) ++ (broken u.line 17 (rule_17 procs u.what)
    ++ broken u.line 18 (rule_18 procs u.what)))))))))

abbrev pub all_occurrence_breaks : List Proc → List Occurrence → List Break
all_occurrence_breaks procs [] = []
all_occurrence_breaks procs (u ∷ us) = occurrence_breaks procs u ++ all_occurrence_breaks procs us

-- the breaks in the statements of a body
abbrev pub body_breaks : List Proc → Body → List Break
body_breaks procs b = all_occurrence_breaks procs (occurrences b)

abbrev pub all_body_breaks : List Proc → List Body → List Break
all_body_breaks procs [] = []
all_body_breaks procs (b ∷ bs) = body_breaks procs b ++ all_body_breaks procs bs

-- the breaks in a parameter list
abbrev pub list_breaks : List Proc → List Param → List Break
list_breaks procs params = tagged 7 (rule_7 params) ++ tagged 8 (rule_8 procs params)

abbrev pub param_breaks : List Proc → List Proc → List Break
param_breaks procs [] = []
param_breaks procs (p ∷ ps) = list_breaks procs p.params ++ param_breaks procs ps

-- the breaks of the procedures' names
abbrev pub proc_breaks : Name → List Proc → List Break
proc_breaks name procs = tagged 2 (rule_2 procs) ++ (tagged 3 (rule_3 procs) ++ tagged 4 (rule_4 name procs))

-- the breaks in `var`
abbrev pub var_breaks : List Proc → List Declared → List Break
var_breaks procs vars = tagged 5 (rule_5 vars) ++ tagged 6 (rule_6 procs vars)

-- the breaks outside statements
abbrev pub head_breaks : Tree → List Break
head_breaks t = broken t.end_line 1 (rule_1 t) ++ (proc_breaks t.name t.procs ++ (var_breaks t.procs t.vars ++ param_breaks t.procs t.procs))

-- all breaks of the rules 1 to 18
abbrev pub breaks : Tree → List Break
breaks t = head_breaks t ++ all_body_breaks t.procs (bodies t)

-- a lower line, or the same line and a rule of a lower number
abbrev pub precedes : Break → Break → Bool
precedes a b = nat_lt a.line b.line || (nat_eq a.line b.line && nat_lt a.rule b.rule)

abbrev pub earlier : Option Break → Break → Option Break
earlier None b = Some b
earlier (Some a) b = if precedes b a then Some b else Some a

-- the first of some breaks by line, then by number
abbrev pub first_break : List Break → Option Break
first_break bs = fold earlier None bs
