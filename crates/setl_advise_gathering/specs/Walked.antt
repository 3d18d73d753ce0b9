-- The conditions of parts that stand in lists.
use Rattle.std.specs.Prelude.{ℕ, List, [], ◌∷◌, ◌++◌}
use Rattle.setl_model_runs.specs.Variable.{Variable}
use Rattle.setl_program.specs.declared.stmt.Branch.{Branch, out-Branch}
use Rattle.setl_program.specs.declared.stmt.Selector.{Selector}
use Rattle.setl_program.specs.declared.stmt.Selector.TheVariants as s
use Rattle.setl_program.specs.Program.{Binding, Exprs, Procedure}
use Rattle.setl_program.specs.code.Plain.{plain_expr, plain_block}
use Rattle.setl_advise_conditions.specs.Conditions.{Anything, Condition}
use Rattle.setl_advise_conditions.specs.Parts.{stored, binding_conditions, expr_conditions, exprs_conditions, block_conditions}

-- those of what is read
abbrev pub all_read : List Variable → List Condition
all_read [] = []
all_read (x ∷ xs) = stored x Anything ∷ all_read xs

module _ (procedures : List Procedure) where
  abbrev pub iterator_conditions : Binding × Exprs → List Condition
  iterator_conditions i = binding_conditions i.0 i.1 ++ exprs_conditions procedures i.1

  abbrev pub selector_conditions : Selector → List Condition
  selector_conditions (s.Round e) = expr_conditions procedures (plain_expr e)
  selector_conditions (s.Brace e) = expr_conditions procedures (plain_expr e)

  -- those of further branches of a choice
  abbrev pub branch_conditions : (body : ℕ) → List Branch → List Condition
  branch_conditions n [] = []
  branch_conditions n (b ∷ bs) =
      expr_conditions procedures (plain_expr (out-Branch b).condition) ++ block_conditions procedures n (plain_block (out-Branch b).body) ++ branch_conditions n bs
