-- Marked code pushes what its code pushes.
use Rattle.std.proofs.Common.{ℕ, zero, suc, List, [], ◌∷◌, Option, Some, None, slice_get, sym, subst, inl, inr}
use Rattle.std.specs.List.{AllByRecursion}
use Rattle.setl_model_runs.specs.Variable.{Variable}
use Rattle.setl_operators_laws.specs.Lists.{OfSome, all_get}
use Rattle.setl_code.specs.Code.{Instr, Load, Step, Body}
use Rattle.setl_code_marked.specs.Marked.{as_take, Marks, MarksStep, MarksBodies}
use Rattle.setl_code_values.specs.Standing.{InstrStands, BodyStands}
use Rattle.setl_top_values.specs.Constants.{MarkedConstantsAreValues}
use Rattle.setl_top_values.proofs.Pieces.{StepStands}

-- what holds at each place of a list holds of all of it
all_at : {X : Type 0} (P : X → Type 0) (xs : List X) → ((i : ℕ) → OfSome P (slice_get xs i)) → AllByRecursion P xs
all_at P [] h = tt
all_at P (x ∷ xs) h = (h zero, all_at P xs (λ i. h (suc i)))

as_take_stands : (i : Instr) → InstrStands i → InstrStands (as_take i)
as_take_stands (Load x) h = tt
as_take_stands i h = h

module _ (declared : List Variable) (n : ℕ) where
  instr_marked : (b : Body) (at : ℕ) (i j : Instr) → Marks declared n b at i j → InstrStands i → InstrStands j
  instr_marked b at i j m h = elim m [
    | inl last ↦ subst InstrStands (sym last.1) (as_take_stands i h)
    | inr other ↦ subst InstrStands (sym other.1) h
  ]

  step_marked : (b : Body) (at : ℕ) (s t : Option Step) → MarksStep declared n b at s t → OfSome StepStands s → OfSome StepStands t
  step_marked b at None None m h = tt
  step_marked b at (Some s) (Some t) m h = instr_marked b at s.1 t.1 m.1 h
  step_marked b at None (Some t) m h = absurd m
  step_marked b at (Some s) None m h = absurd m

  body_marked : (b d : Option Body) → MarksBodies declared n b d → OfSome BodyStands b → OfSome BodyStands d
  body_marked None None m h = tt
  body_marked (Some b) (Some d) m h = all_at StepStands d.steps (λ at. step_marked b at (slice_get b.steps at) (slice_get d.steps at) (m.steps at) (all_get StepStands b.steps at h))
  body_marked None (Some d) m h = absurd m
  body_marked (Some b) None m h = absurd m

pub marked_constants : MarkedConstantsAreValues
marked_constants declared c m marked h = all_at BodyStands m.bodies (λ n. body_marked declared n (slice_get c.bodies n) (slice_get m.bodies n) (marked.bodies n) (all_get BodyStands c.bodies n h))
