-- The rules that a program keeps, and the answer of a test of them.
use Rattle.std.specs.Prelude.{◌≡◌, nat_lt, if◌then◌else◌, List, ◌++◌, map, Option, Some, None, Result, Ok, Err}
use Rattle.setl_tree.specs.declared.tree.Tree.{Tree}
use Rattle.setl_modes.specs.Declarations.{variables_of}
use Rattle.setl_modes.specs.Modes.{mode_of}
use Rattle.setl_modes.specs.declared.mode.NamedMode.{NamedMode}
use Rattle.setl_names.specs.Breaks as names
use Rattle.setl_names.specs.Breaks.{first_break, break_at}
use Rattle.setl_names.specs.Names.{Name}
use Rattle.setl_names.specs.declared.broken.Break.{Break}
use Rattle.setl_names.specs.declared.broken.RuleFault.{RuleFault}
use Rattle.setl_names.specs.declared.broken.RuleFault.TheVariants as fault
use Rattle.setl_names_walk.specs.Breaking as walk
use Rattle.setl_modes_declarations.specs.Breaking as declared
use Rattle.setl_modes_declarations.specs.Declares as declarations

-- the name by which a rule is broken, where it is by a name: that of the first thing on the line which breaks it there
abbrev pub breaking_name : Tree → Break → Option Name
breaking_name t b = if nat_lt b.rule 19 then walk.breaking_name t b else declared.breaking_name t b

-- all breaks: of the rules of names, and of those of declarations
abbrev pub all_breaks : Tree → List Break
all_breaks t = names.breaks t ++ declarations.breaks t

-- the earlier of two breaks that may not be there
abbrev pub earlier_of : Option Break → Option Break → Option Break
earlier_of first None = first
earlier_of first (Some b) = names.earlier first b

-- the modes of the declared variables of a tree, in the order of their declarations
abbrev pub AreModes : Tree → List NamedMode → Type 0
AreModes tree modes = map (λ d. (d.name, mode_of d.mode)) modes ≡ variables_of tree.modes

-- No rule is broken, and these are the modes of the declared variables; or this is the first break by line, and then by
-- rule.
abbrev pub KeepsRules : Tree → Result (List NamedMode) RuleFault → Type 0
KeepsRules tree (Ok modes) = (first_break (all_breaks tree) ≡ None) × AreModes tree modes
KeepsRules tree (Err (fault.Broken rule line)) = first_break (all_breaks tree) ≡ Some (break_at line rule)
KeepsRules tree (Err fault.NoMemory) = Unit {0}
