-- Name resolution of a program: the names of its bodies, or its first break of a rule.
use Rattle.std.specs.Prelude.{◌≡◌, List, map, Some, None, Result, Ok, Err}
use Rattle.setl_tree.specs.declared.tree.Tree.{Tree}
use Rattle.setl_names.specs.declared.bodies.BodyNames.{BodyNames}
use Rattle.setl_names.specs.declared.broken.RuleFault.{RuleFault}
use Rattle.setl_names.specs.declared.broken.RuleFault.TheVariants as fault
use Rattle.setl_names.specs.Bodies.{bodies}
use Rattle.setl_names.specs.Breaks.{breaks, first_break, break_at}
use Rattle.setl_names.specs.Variables.{body_names, var_names}

-- the names of each body, the main program first
abbrev pub all_names : Tree → List BodyNames
all_names t = map (body_names t.procs (var_names t.vars)) (bodies t)

-- The names where no rule is broken; else the rule and the line of the first break. Want of memory may come at any time.
abbrev pub Resolves : Tree → Result (List BodyNames) RuleFault → Type 0
Resolves t (Ok names) = (first_break (breaks t) ≡ None) × (names ≡ all_names t)
Resolves t (Err (fault.Broken rule line)) = first_break (breaks t) ≡ Some (break_at line rule)
Resolves t (Err fault.NoMemory) = Unit {0}
