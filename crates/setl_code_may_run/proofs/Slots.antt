-- Code fits where the plain code that it stands for is placed.
use Rattle.std.proofs.Common.{◌≡◌, ◌≤◌, ◌<◌, ℕ, zero, suc, ◌+◌, List, [], ◌∷◌, ◌++◌, map, length, refl, ap, subst, arith}
use Rattle.std.proofs.lemmas.List.{length-append, length-map}
use Rattle.setl_tree.specs.declared.tree.Param.{Param}
use Rattle.setl_model_runs.specs.Variable.{Variable, Global, Own}
use Rattle.setl_program.specs.ProgramOf.{parameter_of}
use Rattle.setl_program.specs.Placed.{PlacedVariable}
use Rattle.setl_code.specs.declared.code.Slot.{Slot}
use Rattle.setl_code.specs.declared.code.Slot.TheVariants as slot
use Rattle.setl_code.specs.declared.code.OwnName.{OwnName}
use Rattle.setl_code.specs.declared.code.Alteration.{Alteration}
use Rattle.setl_code.specs.declared.code.Alteration.TheVariants as alteration
use Rattle.setl_code.specs.declared.code.Instr.{Instr}
use Rattle.setl_code.specs.declared.code.Instr.TheVariants as i
use Rattle.setl_code.specs.declared.code.Step.{Step}
use Rattle.setl_code.specs.declared.code.Body.{Body}
use Rattle.setl_code.specs.Code as plain
use Rattle.setl_code.specs.Plain.{plain_name, own_variables, variable_at, Variables, plain_slot, plain_alteration, plain_instr, plain_step, plain_bodies}
use Rattle.setl_code.specs.MayRun.{HasSlot, CanAlter, InstrFits, StepsFit, Differ, BodiesFit}
use Rattle.setl_code_may_run.proofs.Pieces.{PlacedAlteration, PlacedInstr, PlacedSteps}

-- ---- bodies as plain data

parameters_again : (n : ℕ) (ps : List Param) (ys : List Variable) → map (λ p. Own n p.name) (map parameter_of ps) ++ ys ≡ map (λ p. Own n p.name) ps ++ ys
parameters_again n [] ys = refl
parameters_again n (p ∷ ps) ys = ap (λ xs. Own n p.name ∷ xs) (parameters_again n ps ys)

as_many_own : (n : ℕ) (ps : List Param) (names : List OwnName) → length (own_variables n ps names) ≡ length ps + length names
as_many_own n ps names = simp (length-append, length-map)

module _ (vars : List (List ℕ)) where
  -- the variables of a body differ, and its steps are placed
  abbrev pub PlacedBodies : ℕ → List plain.Body → Type 0
  PlacedBodies n [] = Unit {0}
  PlacedBodies n (b ∷ bs) = Differ (map (λ p. Own n p.name) b.parameters ++ b.names) × PlacedSteps vars b.steps × PlacedBodies (suc n) bs

  -- ---- instructions

  -- a place at which a variable of the program stands is there
  place_there : (xs : List Variable) (k : ℕ) → PlacedVariable vars (variable_at xs k) → k < length xs
  place_there [] k h = let no : 1 ≤ 0 = h in omega (arith, no)
  place_there (x ∷ xs) zero h = omega arith
  place_there (x ∷ xs) (suc k) h = let less : k < length xs = place_there xs k h in omega (arith, less)

  slot_there : (xs : Variables) (s : Slot) → PlacedVariable vars (plain_slot xs s) → HasSlot (length xs.global) (length xs.own) s
  slot_there xs (slot.Global k) h = place_there xs.global k h
  slot_there xs (slot.Own k) h = place_there xs.own k h

  alteration_fits : (a : Alteration) → PlacedAlteration (plain_alteration a) → CanAlter a
  alteration_fits alteration.Put h = tt
  alteration_fits (alteration.Combine o) h = h
  alteration_fits (alteration.TakeOut k) h = tt

  instr_fits : (xs : Variables) (what : Instr) → PlacedInstr vars (plain_instr xs what) → InstrFits (length xs.global) (length xs.own) what
  instr_fits xs (i.Load x) h = slot_there xs x h
  instr_fits xs (i.Take x) h = slot_there xs x h
  instr_fits xs (i.Store x) h = slot_there xs x h
  instr_fits xs (i.Operate o n) h = h
  instr_fits xs (i.Alter a x bs) h = (slot_there xs x h.0, alteration_fits a h.1)
  instr_fits xs what h = tt

  steps_fit : (xs : Variables) (ss : List Step) → PlacedSteps vars (map (plain_step xs) ss) → StepsFit (length xs.global) (length xs.own) ss
  steps_fit xs [] h = tt
  steps_fit xs (s ∷ ss) h = (instr_fits xs s.what h.0, steps_fit xs ss h.1)

  -- ---- bodies

  pub bodies_fit : (gs : List (List ℕ)) (n : ℕ) (bs : List Body) → PlacedBodies n (plain_bodies (map Global gs) n bs) → BodiesFit (length gs) n bs
  bodies_fit gs n [] h = tt
  bodies_fit gs n (b ∷ bs) h =
      let xs : Variables = record { global = map Global gs; own = own_variables n b.parameters b.names } in (
        subst Differ (parameters_again n b.parameters (map (plain_name n) b.names)) h.0,
        subst (λ k. StepsFit (length gs) k b.steps) (as_many_own n b.parameters b.names)
            (subst (λ k. StepsFit k (length xs.own) b.steps) (length-map gs Global) (steps_fit xs b.steps h.1)),
        bodies_fit gs (suc n) bs h.2,
      )
