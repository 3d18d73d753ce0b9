-- The names of the bodies of a code.
use Rattle.std.proofs.Common.{◌≡◌, ◌∙◌, refl, sym, ap, ℕ, zero, suc, List, [], ◌∷◌, map, Option, None, Some, slice_get, arith}
use Rattle.std.specs.Prelude.{◌<◌}
use Rattle.std.specs.Option.{option_map}
use Rattle.setl_model_runs.specs.Variable.{Variable, Global}
use Rattle.setl_code.specs.declared.code.Body.{Body}
use Rattle.setl_code.specs.declared.code.Code.{Code}
use Rattle.setl_code.specs.Plain.{plain_bodies, plain_code}
use Rattle.setl_code_simulation.specs.States.{IsBody}
use Rattle.setl_debug_screen.specs.Lines.{place_name}

names_at : (vars : List Variable) (n : ℕ) (bs : List Body) (k : ℕ) → option_map (λ b. b.name) (slice_get (plain_bodies vars n bs) k) ≡ option_map (λ b. b.name) (slice_get bs k)
names_at vars n [] zero = refl
names_at vars n [] (suc k) = refl
names_at vars n (b ∷ bs) zero = refl
names_at vars n (b ∷ bs) (suc k) = names_at vars (suc n) bs k

-- the body of this number is not the main program's
pub named : (c : Code) (n : ℕ) (b : Body) → 0 < n → slice_get c.bodies n ≡ Some b → (procedure : Option (List ℕ)) → IsBody (plain_code c) n procedure → b.name ≡ place_name procedure
named c zero b some get procedure is = absurd (omega (arith, some))
named c (suc k) b some get None is = absurd is
named c (suc k) b some get (Some name) is =
    let e : Some b.name ≡ Some name = sym (ap (option_map (λ b. b.name)) get) ∙ sym (names_at (map Global c.vars) 0 c.bodies (suc k)) ∙ is in
    cc

pub none_named : (c : Code) (n : ℕ) → 0 < n → slice_get c.bodies n ≡ None → (procedure : Option (List ℕ)) → IsBody (plain_code c) n procedure → [] ≡ place_name procedure
none_named c zero some get procedure is = absurd (omega (arith, some))
none_named c (suc k) some get None is = absurd is
none_named c (suc k) some get (Some name) is =
    let e : None ≡ Some name = sym (ap (option_map (λ b. b.name)) get) ∙ sym (names_at (map Global c.vars) 0 c.bodies (suc k)) ∙ is in
    absurd (cc)
