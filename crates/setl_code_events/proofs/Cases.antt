-- What holds of a halt and of each move that goes on holds of a move by cases.
use Rattle.std.proofs.Common.{◌≡◌, ℕ, ◌-◌, true, false, List, [], ◌∷◌, Option, None, Some, refl}
use Rattle.setl_value.specs.Datum.{Datum, bool, int, text, atom, tuple, set}
use Rattle.setl_operators_table.specs.Outcome.{Outcome, Gives, Fails, Overspends}
use Rattle.setl_model_runs.specs.Turns.{left_after}
use Rattle.setl_model_runs.specs.Events.{End}
use Rattle.setl_model_runs.specs.Run.{Move, Halts}
use Rattle.setl_model.specs.World.{branch, go_with}
use Rattle.setl_code.specs.CodeCore.{Held, There, Gone, Operand, value_of, Popped, Pops, Lacks, CodeCore, holding}
use Rattle.setl_code.specs.Machine.{on_value, on_top, on_popped, on_held, on_rest, turn, with_outcome}

module _ (P : Move CodeCore → Type 0) (halts : (e : End) → P (Halts e)) where
  pub by_value : (o : Option (Option Datum)) (f : Option Datum → Move CodeCore) → ((v : Option Datum) → o ≡ Some v → P (f v)) → P (on_value o f)
  by_value None f h = halts _
  by_value (Some v) f h = h v refl

  pub by_top : (xs : List Operand) (f : Option Datum → List Operand → Move CodeCore) → ((v : Option Datum) (ys : List Operand) → P (f v ys)) → P (on_top xs f)
  by_top [] f h = halts _
  by_top (o ∷ xs) f h = by_value (value_of o) (λ v. f v xs) (λ v e. h v xs)

  pub by_popped : (p : Popped) (f : List (Option Datum) → List Operand → Move CodeCore) → ((vs : List (Option Datum)) (ys : List Operand) → p ≡ Pops vs ys → P (f vs ys)) → P (on_popped p f)
  by_popped Lacks f h = halts _
  by_popped (Pops vs ys) f h = h vs ys refl

  pub by_held : (x : Held) (f : Option Datum → Move CodeCore) → ((v : Option Datum) → x ≡ There v → P (f v)) → P (on_held x f)
  by_held Gone f h = halts _
  by_held (There v) f h = h v refl

  pub by_rest : (o : Option (List Operand)) (f : List Operand → Move CodeCore) → ((xs : List Operand) → P (f xs)) → P (on_rest o f)
  by_rest None f h = halts _
  by_rest (Some xs) f h = h xs

  by_charge : (left : Option ℕ) (k : CodeCore) (f : CodeCore → Move CodeCore) → ((n : ℕ) → P (f (record k { world = record k.world { left = n } }))) → P (go_with holding left k f)
  by_charge None k f h = halts _
  by_charge (Some n) k f h = h n

  pub by_turn : (k : CodeCore) (f : CodeCore → Move CodeCore) → ((n : ℕ) → P (f (record k { world = record k.world { left = n } }))) → P (turn k f)
  by_turn k f h = by_charge (left_after 1 k.world.left) k f h

  pub by_outcome : (o : Outcome) (line : ℕ) (k : CodeCore) (f : Option Datum → CodeCore → Move CodeCore) → ((v : Option Datum) (n : ℕ) → o ≡ Gives v n → P (f v (record k { world = record k.world { left = k.world.left - n } }))) → P (with_outcome o line k f)
  by_outcome (Gives v n) line k f h = h v n refl
  by_outcome (Fails fault) line k f h = halts _
  by_outcome Overspends line k f h = halts _

  pub by_branch : (v : Option Datum) (line : ℕ) (f g : Move CodeCore) → P f → P g → P (branch v line f g)
  by_branch (Some (bool true)) line f g h i = h
  by_branch (Some (bool false)) line f g h i = i
  by_branch (Some (int z)) line f g h i = halts _
  by_branch (Some (text t)) line f g h i = halts _
  by_branch (Some (atom n)) line f g h i = halts _
  by_branch (Some (tuple ps)) line f g h i = halts _
  by_branch (Some (set ms)) line f g h i = halts _
  by_branch None line f g h i = halts _
