-- The `repr` section that is advised for a program.
use Rattle.std.specs.Prelude.{◌≡◌, ◌+◌, ℕ, Bool, cond, List, [], ◌++◌, map, slice_get, Option, Some, None}
use Rattle.setl_tree.specs.declared.tree.Tree.{Tree}
use Rattle.setl_names.specs.Names.{Name}
use Rattle.setl_names.specs.Resolves.{all_names}
use Rattle.setl_names.specs.Variables.{var_names}
use Rattle.setl_names.specs.declared.bodies.BodyNames.{BodyNames}
use Rattle.setl_model_runs.specs.Variable.{Variable, name_of}
use Rattle.setl_program.specs.Program.{Program}
use Rattle.setl_program.specs.ProgramOf.{main_scope, program_of}
use Rattle.setl_program.specs.Scope.{variable_of}
use Rattle.setl_advise_flows.specs.Flow.{Flow, Whole, Letters}
use Rattle.setl_advise_flows.specs.Expressions.{Flows, Solves}
use Rattle.setl_advise_names.specs.Free.{IsFirstFree}
use Rattle.setl_advise_order.specs.Order.{AreBelow, AreWithin}
use Rattle.setl_advise_section.specs.Section.{Variables, is_used, section_text}
use Rattle.setl_advise_section.specs.code.Numbers.{bases_of}
use Rattle.setl_advise_section.specs.declared.lines.Numbers.{Numbers}

-- ---- the variables

abbrev pub slots_of : Option BodyNames → List Name
slots_of None = []
slots_of (Some b) = b.slots

-- the main program's own names, where its names stand first
abbrev pub main_slots : List BodyNames → List Name
main_slots bodies = slots_of (slice_get bodies 0)

-- the variables of the main program: those in `var`, then the others in the order in which their names first stand in its
-- statements, without names that a former binds
abbrev pub main_variables : Tree → List Variable
main_variables t = map (variable_of (main_scope t)) (var_names t.vars) ++ map (variable_of (main_scope t)) (main_slots (all_names t))

abbrev pub with_flow : Flows → Variable → Name × Flow
with_flow s x = (name_of x, s.of x)

-- variables by their names, with their flows
abbrev pub with_flows : Flows → List Variable → Variables
with_flows s xs = map (with_flow s) xs

-- ---- their flows

-- The flows meet all that the program asks, and are the least that do, of those of at most three constructors inside one
-- another.
pub record AreLeast (p : Program) (s : Flows) : Type 0 where
  pub within : AreWithin s
  pub solves : Solves p s
  pub least : (u : Flows) → AreWithin u → Solves p u → AreBelow s u

-- ---- the names of bases

-- the number from which the next base has one, where this one has this number or isn't used
abbrev pub behind : Bool → ℕ → ℕ
behind used number = cond used (number + 1) number

-- the bases of the integers, the strings and the atoms that are used have the first names that aren't among these
pub record AreFirstFree (names : List Name) (numbers : Numbers) (vs : Variables) : Type 0 where
  pub whole : IsFirstFree names 1 numbers.whole
  pub letters : IsFirstFree names (behind (is_used Whole vs) numbers.whole) numbers.letters
  pub token : IsFirstFree names (behind (is_used Letters vs) numbers.letters) numbers.token

-- ---- the section

-- The text of the section that declares the main program's variables by its least flows.
pub record IsAdvice (names : List Name) (t : Tree) (text : List ℕ) : Type 0 where
  pub flows : Flows
  pub least : AreLeast (program_of t) flows
  pub numbers : Numbers
  pub named : AreFirstFree names numbers (with_flows flows (main_variables t))
  pub text_is : text ≡ section_text (bases_of numbers) (with_flows flows (main_variables t))
