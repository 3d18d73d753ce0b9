-- The variables of parts.
use Rattle.std.specs.Prelude.{List, [], ◌∷◌, ◌++◌}
use Rattle.setl_model_runs.specs.Variable.{Variable}
use Rattle.setl_program.specs.declared.stmt.Branch.{Branch, out-Branch}
use Rattle.setl_program.specs.declared.stmt.Selector.{Selector}
use Rattle.setl_program.specs.declared.stmt.Selector.TheVariants as s
use Rattle.setl_program.specs.Program.{Binding, Member, Components, Point, Exprs, Arguments, no_argument, rd_argument, wr_argument, rw_argument}
use Rattle.setl_program.specs.code.Plain.{plain_expr, plain_block}
use Rattle.setl_model.specs.Slots.{variables_in}
use Rattle.setl_code.specs.Names.{in_expr, in_block}
use Rattle.setl_code.specs.Names as names

-- those of a binding before its source, and behind it
abbrev pub before : Binding → List Variable
before (Member k x) = x ∷ []
before (Components k xs) = variables_in xs
before (Point y x) = y ∷ []

abbrev pub behind : Binding → List Variable
behind (Member k x) = []
behind (Components k xs) = []
behind (Point y x) = x ∷ []

-- those of the first of some arguments
abbrev pub part_variables : Arguments → List Variable
part_variables no_argument = []
part_variables (rd_argument e rest) = in_expr e
part_variables (wr_argument x rest) = x ∷ []
part_variables (rw_argument x rest) = x ∷ []

abbrev pub selector_variables : Selector → List Variable
selector_variables (s.Round e) = in_expr (plain_expr e)
selector_variables (s.Brace e) = in_expr (plain_expr e)

-- those of an iterator
abbrev pub around : Binding × Exprs → List Variable
around i = names.around i.0 (names.in_exprs i.1)

-- those of further branches of a choice
abbrev pub branch_variables : List Branch → List Variable
branch_variables [] = []
branch_variables (branch ∷ branches) = in_expr (plain_expr (out-Branch branch).condition) ++ in_block (plain_block (out-Branch branch).body) ++ branch_variables branches
