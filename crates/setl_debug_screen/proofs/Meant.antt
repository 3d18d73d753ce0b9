-- A core that is the same as one of the meaning shows what is meant.
use Rattle.std.proofs.Common.{◌≡◌, ◌∙◌, refl, sym, ap, subst, ℕ, List, [], ◌∷◌, ◌++◌}
use Rattle.setl_model_runs.specs.Events.{End}
use Rattle.setl_model_runs.specs.Variable.{Variable, Environment, Global, Own, Bound}
use Rattle.setl_program.specs.Program.{Program}
use Rattle.setl_model.specs.Core.{Frame, InCall, Activation, Core, read_variable}
use Rattle.setl_code.specs.CodeCore.{There, CodeCore, held}
use Rattle.setl_code.specs.CodeOf.{code_of}
use Rattle.setl_code.specs.Plain.{Variables}
use Rattle.setl_code_simulation.specs.States.{BodyAtWork, IsBody, bodies_at_work, SameActivation, SameActivations, SameCore}
use Rattle.setl_store.specs.Operands.{IsThere}
use Rattle.setl_store.specs.Standing.{variables, variables_in}
use Rattle.setl_debug_screen.specs.Lines.{place_line, variable_line, variable_lines}
use Rattle.setl_debug_screen.specs.Shown.{IsShown, procedure_in_hand}
use Rattle.setl_debug_screen.specs.code.Standing.{named_line, held_line, held_lines}

-- the first body at work has the procedure in hand and the own variables
record IsFirst (bs : List BodyAtWork) (own : Environment) (work : List Frame) : Type 0 where
  pub others : List BodyAtWork
  pub is : bs ≡ record { procedure = procedure_in_hand work; own = own } ∷ others

first_at_work : (own : Environment) (work : List Frame) → IsFirst (bodies_at_work own work) own work
first_at_work own [] = record { others = []; is = refl }
first_at_work own (InCall (Activation name backs outer) ∷ work) = record { others = bodies_at_work outer work; is = refl }
first_at_work own (f ∷ work) = let r = first_at_work own work in record { others = r.others; is = r.is }

in_hand : (p : Program) (k : CodeCore) (m : Core) → SameCore (code_of p) k m → SameActivation (code_of p) k.now (record { procedure = procedure_in_hand m.work; own = m.shared.own })
in_hand p k m s = let r = first_at_work m.shared.own m.work in (subst (SameActivations (code_of p) (k.now ∷ k.callers)) r.is s.activations).0

-- each slot holds what the variable holds
holds : (p : Program) (k : CodeCore) (m : Core) → SameCore (code_of p) k m → (x : Variable) → held x k ≡ There (read_variable x m.shared)
holds p k m s (Global name) = s.globals (Global name)
holds p k m s (Own body name) = (in_hand p k m s).values (Own body name)
holds p k m s (Bound former name) = (in_hand p k m s).values (Bound former name)

pub nothing_taken : (p : Program) (k : CodeCore) (m : Core) → SameCore (code_of p) k m → (x : Variable) → IsThere (held x k)
nothing_taken p k m s x = subst IsThere (sym (holds p k m s x)) tt

pub body_in_hand : (p : Program) (k : CodeCore) (m : Core) → SameCore (code_of p) k m → IsBody (code_of p) k.now.body (procedure_in_hand m.work)
body_in_hand p k m s = (in_hand p k m s).body

-- ---- lines

one_line : (p : Program) (k : CodeCore) (m : Core) → SameCore (code_of p) k m → (x : Variable) → held_line k x ≡ variable_line x (read_variable x m.shared)
one_line p k m s (Global name) = ap (named_line name) (holds p k m s (Global name))
one_line p k m s (Own body name) = ap (named_line name) (holds p k m s (Own body name))
one_line p k m s (Bound former name) = refl

all_lines : (p : Program) (k : CodeCore) (m : Core) → SameCore (code_of p) k m → (xs : List Variable) → held_lines xs k ≡ variable_lines xs (λ x. read_variable x m.shared)
all_lines p k m s [] = refl
all_lines p k m s (x ∷ xs) = ap (λ l. l ++ held_lines xs k) (one_line p k m s x) ∙ ap (λ ls. variable_line x (read_variable x m.shared) ++ ls) (all_lines p k m s xs)

pub shows : (p : Program) (k : CodeCore) (m : Core) (turns : ℕ) (end : End) → variables k ≡ variables_in (code_of p) k.now.body → SameCore (code_of p) k m →
    IsShown p turns end m (place_line turns (procedure_in_hand m.work) end ++ (held_lines (variables k).global k ++ held_lines (variables k).own k))
shows p k m turns end names s =
    let lines : List Variable → List ℕ = λ xs. variable_lines xs (λ x. read_variable x m.shared) in
    record {
      body = k.now.body;
      number = body_in_hand p k m s;
      lines = ap (λ (vs : Variables). place_line turns (procedure_in_hand m.work) end ++ (held_lines vs.global k ++ held_lines vs.own k)) names
          ∙ ap (λ ls. place_line turns (procedure_in_hand m.work) end ++ (ls ++ held_lines (variables_in (code_of p) k.now.body).own k)) (all_lines p k m s (variables_in (code_of p) k.now.body).global)
          ∙ ap (λ ls. place_line turns (procedure_in_hand m.work) end ++ (lines (variables_in (code_of p) k.now.body).global ++ ls)) (all_lines p k m s (variables_in (code_of p) k.now.body).own);
    }
