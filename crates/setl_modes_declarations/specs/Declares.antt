-- The declarations of a program: its bases and declared variables with their modes, or its first break of the rules 19 to 28.
use Rattle.std.specs.Prelude.{◌≡◌, List, [], ◌++◌, map, Some, None, Result, Ok, Err}
use Rattle.setl_tree.specs.declared.mode.ReprLine.{ReprLine}
use Rattle.setl_tree.specs.declared.tree.Tree.{Tree}
use Rattle.setl_names.specs.declared.broken.Break.{Break}
use Rattle.setl_names.specs.declared.broken.RuleFault.{RuleFault}
use Rattle.setl_names.specs.declared.broken.RuleFault.TheVariants as fault
use Rattle.setl_names.specs.Breaks.{tagged, first_break, break_at}
use Rattle.setl_names.specs.Names.{Name}
use Rattle.setl_modes.specs.declared.mode.ModeTable.{ModeTable}
use Rattle.setl_modes.specs.declared.mode.NamedMode.{NamedMode}
use Rattle.setl_modes.specs.Modes.{Mode, mode_of}
use Rattle.setl_modes.specs.Declarations.{bases_of, variables_of}
use Rattle.setl_modes_declarations.specs.Rules.{rule_19, rule_20, rule_21, rule_22, rule_23, rule_24, rule_25, rule_26, rule_27, rule_28}

-- the breaks in the names that a section declares
abbrev pub name_breaks : Tree → List Break
name_breaks t = tagged 19 (rule_19 t) ++ (tagged 20 (rule_20 t) ++ (tagged 23 (rule_23 t) ++ tagged 24 (rule_24 t)))

-- the breaks in the modes of a section
abbrev pub mode_breaks : List ReprLine → List Break
mode_breaks ls =
    tagged 21 (rule_21 [] ls) ++ (tagged 22 (rule_22 ls)
    ++ (tagged 25 (rule_25 ls) ++ (tagged 26 (rule_26 ls) ++ (tagged 27 (rule_27 ls) ++ tagged 28 (rule_28 ls)))))

-- all breaks of the rules 19 to 28
abbrev pub breaks : Tree → List Break
breaks t = name_breaks t ++ mode_breaks t.modes

-- names with the modes that they stand for
abbrev pub named_modes : List NamedMode → List (Name × Mode)
named_modes ds = map (λ d. (d.name, mode_of d.mode)) ds

-- The bases and the declared variables with their modes where no rule is broken; else the rule and the line of the first
-- break. Want of memory may come at any time.
abbrev pub Declares : Tree → Result ModeTable RuleFault → Type 0
Declares t (Ok table) = (first_break (breaks t) ≡ None) × ((named_modes table.bases ≡ bases_of t.modes) × (named_modes table.vars ≡ variables_of t.modes))
Declares t (Err (fault.Broken rule line)) = first_break (breaks t) ≡ Some (break_at line rule)
Declares t (Err fault.NoMemory) = Unit {0}
