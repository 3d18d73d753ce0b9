-- The variables at places, by their names.
use Rattle.std.proofs.Common.{◌≡◌, ◌∙◌, ℕ, zero, suc, ◌+◌, ◌-◌, ◌<◌, ◌≤◌, List, [], ◌∷◌, ◌++◌, length, map, slice_get, slice_index_or, Some, refl, ap, arith}
use Rattle.std.specs.Option.{unwrap_or}
use Rattle.std.proofs.lemmas.List.{length-append, length-map}
use Rattle.setl_tree.specs.declared.tree.Param.{Param}
use Rattle.setl_model.specs.Calls.{parameter}
use Rattle.setl_model_runs.specs.Variable.{Variable, Global, Own}
use Rattle.setl_program.specs.ProgramOf.{parameter_of}
use Rattle.setl_code.specs.declared.code.Body.{Body}
use Rattle.setl_code.specs.declared.code.Code.{Code}
use Rattle.setl_code.specs.declared.code.OwnName.{OwnName}
use Rattle.setl_code.specs.Plain.{own_variables, plain_bodies, plain_name, variable_at}
use Rattle.setl_store.specs.MainProgram.{main_variables}
use Rattle.setl_store.specs.Standing.{variables_by}

pub global_at : (names : List (List ℕ)) (k : ℕ) (d : List ℕ) → k < length names → variable_at (map Global names) k ≡ Global (slice_index_or names k d)
global_at [] k d h = absurd (omega (arith, h))
global_at (x ∷ xs) zero d h = refl
global_at (x ∷ xs) (suc k) d h = global_at xs k d (omega (arith, h))

pub parameter_at : (ps : List Param) (ns : List OwnName) (k : ℕ) (d : Param) → k < length ps → variable_at (own_variables 0 ps ns) k ≡ Own 0 (slice_index_or ps k d).name
parameter_at [] ns k d h = absurd (omega (arith, h))
parameter_at (p ∷ ps) ns zero d h = refl
parameter_at (p ∷ ps) ns (suc k) d h = parameter_at ps ns k d (omega (arith, h))

only_name : (ns : List OwnName) (k : ℕ) (d : OwnName) → k < length ns → variable_at (map (plain_name 0) ns) k ≡ plain_name 0 (slice_index_or ns k d)
only_name [] k d h = absurd (omega (arith, h))
only_name (n ∷ ns) zero d h = refl
only_name (n ∷ ns) (suc k) d h = only_name ns k d (omega (arith, h))

pub name_at : (ps : List Param) (ns : List OwnName) (k : ℕ) (d : OwnName) → length ps ≤ k → k < length ps + length ns → variable_at (own_variables 0 ps ns) k ≡ plain_name 0 (slice_index_or ns (k - length ps) d)
name_at [] ns k d low h = let e : k ≡ k - length {A = Param} [] = omega arith in only_name ns k d (omega (arith, h)) ∙ ap (λ j. plain_name 0 (slice_index_or ns j d)) e
name_at (p ∷ ps) ns zero d low h = absurd (omega (arith, low))
name_at (p ∷ ps) ns (suc k) d low h =
    let e : k - length ps ≡ suc k - length (p ∷ ps) = omega arith in
    name_at ps ns k d (omega (arith, low)) (omega (arith, h)) ∙ ap (λ j. plain_name 0 (slice_index_or ns j d)) e

pub own_count : (ps : List Param) (ns : List OwnName) → length (own_variables 0 ps ns) ≡ length ps + length ns
own_count ps ns =
    let all = length-append (map (λ (p : Param). Own 0 p.name) ps) (map (plain_name 0) ns) in
    omega (arith, all, length-map ps (λ (p : Param). Own 0 p.name), length-map ns (plain_name 0))

-- ---- the main body's own variables

same_parameters : (ps : List Param) → map (parameter 0) (map parameter_of ps) ≡ map (λ p. Own 0 p.name) ps
same_parameters [] = refl
same_parameters (p ∷ ps) = ap (λ l. Own 0 p.name ∷ l) (same_parameters ps)

some_same : {A : Type 0} (x y : A) → Some x ≡ Some y → x ≡ y
some_same x y e = ap (λ o. unwrap_or o x) e

first_body : (vars : List Variable) (bs : List Body) (b : Body) → slice_get bs 0 ≡ Some b → variables_by 0 (slice_get (plain_bodies vars 0 bs) 0) ≡ own_variables 0 b.parameters b.names
first_body vars [] b e = absurd (cc)
first_body vars (c ∷ cs) b e =
    ap (λ l. l ++ map (plain_name 0) c.names) (same_parameters c.parameters) ∙ ap (λ (d : Body). own_variables 0 d.parameters d.names) (some_same c b e)

pub own_is : (code : Code) (b : Body) → slice_get code.bodies 0 ≡ Some b → (main_variables code).own ≡ own_variables 0 b.parameters b.names
own_is code b e = first_body (map Global code.vars) code.bodies b e
