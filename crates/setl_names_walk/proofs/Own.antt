-- Which names mean a variable of the body's own.
use Rattle.std.proofs.Common.{◌≡◌, Bool, true, false, cond, not, List, ◌∷◌, ◌&&◌, Some, refl}
use Rattle.setl_tree.specs.declared.tree.Proc.{Proc}
use Rattle.setl_names.specs.Names.{Name, has}
use Rattle.setl_names.specs.Procedures.{is_procedure}
use Rattle.setl_names_walk.specs.Own.{is_own_name}
use Rattle.setl_names.specs.Variables.{OfFormer, OfParameter, OfProgram, OfBody, if_variable, of_body, is_of_body}

of_body_step : (params vars : List Name) (x : Name) (xs : List Name) → of_body params vars (x ∷ xs) ≡ cond (not (has params x) && not (has vars x)) (x ∷ of_body params vars xs) (of_body params vars xs)
of_body_step params vars x xs = by (has params x) (has vars x)
  where
    by : (p v : Bool) → cond (is_of_body (cond false OfFormer (cond p OfParameter (cond v OfProgram OfBody)))) (x ∷ of_body params vars xs) (of_body params vars xs) ≡ cond (not p && not v) (x ∷ of_body params vars xs) (of_body params vars xs)
    by true v = refl
    by false true = refl
    by false false = refl

-- the names with one more name that stands in a statement
pub own_step : (procs : List Proc) (params vars : List Name) (x : Name) (xs : List Name) → of_body params vars (if_variable procs (Some x) xs) ≡ cond (is_own_name procs params vars x) (x ∷ of_body params vars xs) (of_body params vars xs)
own_step procs params vars x xs = by (is_procedure procs x)
  where
    by : (b : Bool) → of_body params vars (cond b xs (x ∷ xs)) ≡ cond (not b && (not (has params x) && not (has vars x))) (x ∷ of_body params vars xs) (of_body params vars xs)
    by true = refl
    by false = of_body_step params vars x xs
