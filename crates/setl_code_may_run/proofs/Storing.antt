-- The code of stores is placed.
use Rattle.std.proofs.Common.{ℕ, List, [], ◌∷◌, ◌++◌, Some, None}
use Rattle.setl_model_runs.specs.Variable.{Variable}
use Rattle.setl_program.specs.Program.{Slots, Binding, Member, Components, Point, Iterators, no_iterator, more_iterators, Arguments, no_argument, rd_argument, wr_argument, rw_argument}
use Rattle.setl_program.specs.Placed.{PlacedVariables, PlacedSlots, PlacedBinding, PlacedIterators, PlacedArguments}
use Rattle.setl_model.specs.Slots.{variables_in}
use Rattle.setl_model.specs.Iterations.{bound_by, all_bound}
use Rattle.setl_code.specs.Generated.{store_slots, bind, clear, set_by, read_all}
use Rattle.setl_code_may_run.proofs.Pieces.{PlacedPiece}

module _ (vars : List (List ℕ)) where
  pub slots_placed : (xs : Slots) (line at : ℕ) → PlacedSlots vars xs → PlacedPiece vars (store_slots line xs at)
  slots_placed [] line at g = tt
  slots_placed (None ∷ xs) line at g = (tt, slots_placed xs line _ g)
  slots_placed (Some x ∷ xs) line at g = (g.0, slots_placed xs line _ g.1)

  pub binding_placed : (b : Binding) (line at : ℕ) → PlacedBinding vars b → PlacedPiece vars (bind line b at)
  binding_placed (Member k x) line at g = (g, tt)
  binding_placed (Components k xs) line at g = (tt, slots_placed xs line _ g)
  binding_placed (Point y x) line at g = (g.1, (g.0, tt))

  pub clear_placed : (xs : List Variable) (line at : ℕ) → PlacedVariables vars xs → PlacedPiece vars (clear line xs at)
  clear_placed [] line at g = tt
  clear_placed (x ∷ xs) line at g = (tt, (g.0, clear_placed xs line _ g.1))

  pub reads_placed : (xs : List Variable) (line at : ℕ) → PlacedVariables vars xs → PlacedPiece vars (read_all line xs at)
  reads_placed [] line at g = tt
  reads_placed (x ∷ xs) line at g = (tt, ((g.0, tt), reads_placed xs line _ g.1))

  -- what a call sets
  pub set_placed : (all : Arguments) → PlacedArguments vars all → PlacedSlots vars (set_by all)
  set_placed no_argument g = tt
  set_placed (rd_argument e rest) g = set_placed rest g.1
  set_placed (wr_argument x rest) g = (g.0, set_placed rest g.1)
  set_placed (rw_argument x rest) g = (g.0, set_placed rest g.1)

  -- ---- bound variables

  both : (xs ys : List Variable) → PlacedVariables vars xs → PlacedVariables vars ys → PlacedVariables vars (xs ++ ys)
  both [] ys g h = h
  both (x ∷ xs) ys g h = (g.0, both xs ys g.1 h)

  in_slots : (xs : Slots) → PlacedSlots vars xs → PlacedVariables vars (variables_in xs)
  in_slots [] g = tt
  in_slots (None ∷ xs) g = in_slots xs g
  in_slots (Some x ∷ xs) g = (g.0, in_slots xs g.1)

  in_binding : (b : Binding) → PlacedBinding vars b → PlacedVariables vars (variables_in (bound_by b))
  in_binding (Member k x) g = (g, tt)
  in_binding (Components k xs) g = in_slots xs g
  in_binding (Point y x) g = (g.0, (g.1, tt))

  pub bound_placed : (is : Iterators) → PlacedIterators vars is → PlacedVariables vars (all_bound is)
  bound_placed no_iterator g = tt
  bound_placed (more_iterators b es rest) g = both (variables_in (bound_by b)) (all_bound rest) (in_binding b g.0) (bound_placed rest g.2)
