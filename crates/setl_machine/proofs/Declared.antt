-- Which variables are declared.
use Rattle.std.proofs.Common.{◌≡◌, ◌≢◌, ◌∙◌, ℕ, zero, suc, true, List, [], ◌∷◌, refl, sym, ap, subst, arith, Option, None, Some}
use Rattle.std.specs.Prelude.{slice_get, cond, IfSome}
use Rattle.setl_value.specs.Datum.{Datum}
use Rattle.setl_program.specs.Program.{Parameter}
use Rattle.setl_model_runs.specs.Run.{Store}
use Rattle.setl_model_runs.specs.Variable.{Global, Own, Bound}
use Rattle.setl_model.specs.Calls.{bindings}
use Rattle.setl_model.specs.Step.{declared_mode}
use Rattle.setl_code.specs.Code.{Body, Code}
use Rattle.setl_machine_control.specs.Declaring.{Modes, tested, AreOfMain, IsBare}
use Rattle.setl_machine_control.specs.Laws.{takes_any, apart}

-- no own variable of another body is declared
pub not_declared : (modes : Modes) → AreOfMain modes → (n : ℕ) (name : List ℕ) → declared_mode modes (Own (suc n) name) ≡ None
not_declared [] h n name = refl
not_declared ((Global a, m) ∷ ms) h n name = not_declared ms h.1 n name
not_declared ((Own zero a, m) ∷ ms) h n name =
    let ne : 0 ≢ suc n = omega arith in
    ap (λ t. cond t (Some m) (declared_mode ms (Own (suc n) name))) (apart 0 (suc n) a name ne) ∙ not_declared ms h.1 n name
not_declared ((Own (suc k) a, m) ∷ ms) h n name = absurd h.0
not_declared ((Bound former a, m) ∷ ms) h n name = absurd h.0

-- each of these stores has a value that its variable takes
abbrev pub AllTaken : Modes → List Store → Type 0
AllTaken modes [] = Unit {0}
AllTaken modes (x ∷ xs) = (tested modes x.0 x.1 ≡ true) × AllTaken modes xs

binding_taken : (modes : Modes) → AreOfMain modes → (n : ℕ) (ps : List Parameter) (vs : List (Option Datum)) → AllTaken modes (bindings (suc n) ps vs)
binding_taken modes h n [] vs = tt
binding_taken modes h n (p ∷ ps) [] = (takes_any modes (Own (suc n) p.name) None (not_declared modes h n p.name), binding_taken modes h n ps [])
binding_taken modes h n (p ∷ ps) (v ∷ vs) = (takes_any modes (Own (suc n) p.name) v (not_declared modes h n p.name), binding_taken modes h n ps vs)

abbrev pub TakesAll : Modes → ℕ → List (Option Datum) → Option Body → Type 0
TakesAll modes n vs b = IfSome b (λ b. AllTaken modes (bindings n b.parameters vs))

bare_taken : (modes : Modes) (vs : List (Option Datum)) (b : Option Body) → IfSome b (λ b. b.parameters ≡ []) → TakesAll modes 0 vs b
bare_taken modes vs None h = tt
bare_taken modes vs (Some b) h = subst (λ ps. AllTaken modes (bindings 0 ps vs)) (sym h) tt

others_taken : (modes : Modes) → AreOfMain modes → (n : ℕ) (vs : List (Option Datum)) (b : Option Body) → TakesAll modes (suc n) vs b
others_taken modes h n vs None = tt
others_taken modes h n vs (Some b) = binding_taken modes h n b.parameters vs

-- the parameters of a body take all values
pub parameters_taken : (modes : Modes) (c : Code) → AreOfMain modes → IsBare c → (n : ℕ) (vs : List (Option Datum)) → TakesAll modes n vs (slice_get c.bodies n)
parameters_taken modes c h bare zero vs = bare_taken modes vs (slice_get c.bodies 0) bare
parameters_taken modes c h bare (suc n) vs = others_taken modes h n vs (slice_get c.bodies (suc n))
