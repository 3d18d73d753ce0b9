-- States that are the same have the same dump.
use Rattle.std.proofs.Common.{◌≡◌, ◌∙◌, ◌⊎◌, inl, inr, true, false, List, [], ◌∷◌, ◌++◌, refl, sym, ap}
use Rattle.std.proofs.lemmas.Bool.{or_left, or_right}
use Rattle.setl_model_runs.specs.Variable.{Variable, Global, Own, Bound, is_variable, name_of, Environment, value_in}
use Rattle.setl_model_runs.specs.VariableLaws.{variable_itself}
use Rattle.setl_model_runs.specs.Events.{Event}
use Rattle.setl_model_runs.specs.Run.{State}
use Rattle.setl_modes.specs.Modes.{Mode}
use Rattle.setl_modes_dump.specs.Dump.{Bases, variable_line, base_lines}
use Rattle.setl_model.specs.Core.{InCall, Activation, Frame, Core}
use Rattle.setl_model.specs.Entered.{entered}
use Rattle.setl_model.specs.Dump.{main_own, declared_value, variable_lines}
use Rattle.setl_code.specs.Code.{Code}
use Rattle.setl_code.specs.Names.{is_among}
use Rattle.setl_code.specs.CodeCore.{There, Gone, Cells, held_in, main_held, outermost, CodeCore}
use Rattle.setl_code.specs.CodeCore.{Activation as CodeActivation}
use Rattle.setl_code.specs.Sound.{may_take}
use Rattle.setl_code_events.specs.Told.{value_held}
use Rattle.setl_code_simulation.specs.States.{Alike, BodyAtWork, bodies_at_work}
use Rattle.setl_code_simulation.specs.States as plain
use Rattle.setl_code_marked.specs.Marked.{declared_in}
use Rattle.setl_code_marked_simulation.specs.States.{AlikeButTaken, SameActivations, SameCore, SameState}
use Rattle.setl_code_layout.specs.Layout.{code_layout}
use Rattle.setl_code_layout.specs.Layout as code
use Rattle.setl_code_layout.specs.Claims.{StatesLayOutAlike, MarkedStatesLayOutAlike}

-- ---- what may not be taken

stays : (declared : List Variable) (x : Variable) → is_among declared x ≡ true → may_take declared x ≡ false
stays declared (Global name) h = refl
stays declared (Own body name) h = rw h refl
stays declared (Bound former name) h = rw h refl

-- ---- the outermost activation

module _ (declared : List Variable) (c : Code) where
  -- a body is at work
  one_at_work : (own : Environment) (work : List Frame) → SameActivations declared c [] (bodies_at_work own work) → ⊥
  one_at_work own [] h = h
  one_at_work own (InCall (Activation name backs outer) ∷ work) h = h
  one_at_work own (f ∷ work) h = one_at_work own work h

  -- the outermost activation is the main program's
  outermost_same : (now : CodeActivation) (callers : List CodeActivation) (own : Environment) (work : List Frame) → SameActivations declared c (now ∷ callers) (bodies_at_work own work) → AlikeButTaken declared (outermost now callers).own (main_own own work)
  outermost_same now [] own [] h = h.0.values
  outermost_same now (a ∷ callers) own [] h = absurd h.1
  outermost_same now [] own (InCall (Activation name backs outer) ∷ work) h = absurd (one_at_work outer work h.1)
  outermost_same now (a ∷ callers) own (InCall (Activation name backs outer) ∷ work) h = outermost_same a callers outer work h.1
  outermost_same now callers own (f ∷ work) h = outermost_same now callers own work h

  -- what may not be taken is there
  there : (x : Variable) (s : Cells) (e : Environment) → may_take declared x ≡ false → AlikeButTaken declared s e → held_in s x ≡ There (value_in e x)
  there x s e kept alike = go (alike x)
    where
      go : (held_in s x ≡ There (value_in e x)) ⊎ ((held_in s x ≡ Gone) × (may_take declared x ≡ true)) → held_in s x ≡ There (value_in e x)
      go (inl same) = same
      go (inr gone) = let taken = gone.1 in cc

  main_there : (k : CodeCore) (m : Core) → SameCore declared c k m → (x : Variable) → may_take declared x ≡ false → main_held x k ≡ There (declared_value x m)
  main_there k m h (Global name) kept = h.globals (Global name)
  main_there k m h (Own body name) kept = there (Own body name) _ _ kept (outermost_same k.now k.callers m.shared.own m.work h.activations)
  main_there k m h (Bound former name) kept = there (Bound former name) _ _ kept (outermost_same k.now k.callers m.shared.own m.work h.activations)

-- ---- the dump

lines_same : (bases : Bases) (modes : List (Variable × Mode)) (k : CodeCore) (m : Core) → ((x : Variable) → is_among (declared_in modes) x ≡ true → main_held x k ≡ There (declared_value x m)) → variable_lines bases modes m ≡ code.variable_lines bases modes k
lines_same bases [] k m values = refl
lines_same bases (d ∷ ds) k m values =
    let first = values d.0 (or_left (is_variable d.0 d.0) (is_among (declared_in ds) d.0) (variable_itself d.0)) in
    let later = lines_same bases ds k m (λ x h. values x (or_right (is_variable x d.0) (is_among (declared_in ds) x) h)) in
    let one : variable_line bases (name_of d.0) d.1 (declared_value d.0 m) ≡ variable_line bases (name_of d.0) d.1 (value_held (main_held d.0 k)) = ap (λ h. variable_line bases (name_of d.0) d.1 (value_held h)) (sym first) in
    λ i. one i ++ later i

pub marked_states_alike : MarkedStatesLayOutAlike
marked_states_alike modes c s t same = record {
  values = values;
  dump = λ names.
      ap (λ es. base_lines (bases es) 0 names ++ variable_lines (bases es) modes t.core) (sym same.events)
      ∙ ap (λ rest. base_lines (bases s.events) 0 names ++ rest) (lines_same (bases s.events) modes s.core t.core values);
}
  where
    bases : List Event → Bases
    bases es b = entered modes b es

    values : (x : Variable) → is_among (declared_in modes) x ≡ true → main_held x s.core ≡ There (declared_value x t.core)
    values x h = main_there (declared_in modes) c s.core t.core same.core x (stays (declared_in modes) x h)

-- ---- where nothing was taken

module _ (declared : List Variable) (c : Code) where
  nothing_taken : (acts : List CodeActivation) (bs : List BodyAtWork) → plain.SameActivations c acts bs → SameActivations declared c acts bs
  nothing_taken [] [] h = tt
  nothing_taken [] (b ∷ bs) h = h
  nothing_taken (a ∷ acts) [] h = h
  nothing_taken (a ∷ acts) (b ∷ bs) h = (record { body = h.0.body; values = λ x. inl (h.0.values x) }, nothing_taken acts bs h.1)

  pub as_marked : (s : State CodeCore) (t : State Core) → plain.SameState c s t → SameState declared c s t
  as_marked s t h = record {
    core = record { world = h.core.world; globals = h.core.globals; activations = nothing_taken (s.core.now ∷ s.core.callers) (bodies_at_work t.core.shared.own t.core.work) h.core.activations };
    out = h.out;
    events = h.events;
  }

pub states_alike : StatesLayOutAlike
states_alike modes c s t same = marked_states_alike modes c s t (as_marked (declared_in modes) c s t same)
