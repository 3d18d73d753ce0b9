-- The variables of slots.
use Rattle.std.proofs.Common.{arith, ◌≡◌, ◌∙◌, refl, ap, ℕ, zero, suc, List, [], ◌∷◌, ◌++◌, map, length, Some, None}
use Rattle.std.specs.Prelude.{◌<◌, ◌+◌, slice_get}
use Rattle.setl_model_runs.specs.Variable.{Variable, Global, Own}
use Rattle.std.specs.Option.{option_map}
use Rattle.setl_tree.specs.declared.tree.Param.{Param}
use Rattle.setl_program.specs.ProgramOf.{parameter_of}
use Rattle.setl_model.specs.Calls.{parameter}
use Rattle.setl_store.specs.Standing.{variables_by}
use Rattle.setl_code.specs.declared.code.Body.{Body}
use Rattle.setl_code.specs.declared.code.Code.{Code}
use Rattle.setl_code.specs.Plain.{variable_at, own_variables, plain_body, plain_bodies, plain_code, plain_name}
use Rattle.setl_code.specs.CodeCore.{Cells}

pub found : (xs : List Variable) (k : ℕ) (x : Variable) → slice_get xs k ≡ Some x → variable_at xs k ≡ x
found [] k x h = absurd (cc)
found (y ∷ ys) zero x h = cc
found (y ∷ ys) (suc k) x h = found ys k x h

pub inside : (cells : Cells) (k : ℕ) (x : Variable) → slice_get (map (λ c. c.0) cells) k ≡ Some x → k < length cells
inside [] k x h = absurd (cc)
inside (c ∷ cs) zero x h = omega arith
inside (c ∷ cs) (suc k) x h = let less = inside cs k x h in omega (arith, less)

-- behind some others
pub later : (xs ys : List Variable) (k : ℕ) → slice_get (xs ++ ys) (length xs + k) ≡ slice_get ys k
later [] ys k = let e : 0 + k ≡ k = omega arith in ap (slice_get ys) e
later (x ∷ xs) ys k = let e : suc (length xs) + k ≡ suc (length xs + k) = omega arith in ap (slice_get (x ∷ (xs ++ ys))) e ∙ later xs ys k

-- before some others
pub earlier : (xs ys : List Variable) (k : ℕ) (x : Variable) → slice_get xs k ≡ Some x → slice_get (xs ++ ys) k ≡ Some x
earlier [] ys k x h = absurd (cc)
earlier (y ∷ xs) ys zero x h = h
earlier (y ∷ xs) ys (suc k) x h = earlier xs ys k x h

-- ---- bodies

bodies_at : (vars : List Variable) (n : ℕ) (bs : List Body) (k : ℕ) → slice_get (plain_bodies vars n bs) k ≡ option_map (plain_body vars (n + k)) (slice_get bs k)
bodies_at vars n [] zero = refl
bodies_at vars n [] (suc k) = refl
bodies_at vars n (b ∷ bs) zero = let e : n ≡ n + 0 = omega arith in ap (λ j. Some (plain_body vars j b)) e
bodies_at vars n (b ∷ bs) (suc k) = let e : suc n + k ≡ n + suc k = omega arith in bodies_at vars (suc n) bs k ∙ ap (λ j. option_map (plain_body vars j) (slice_get bs k)) e

parameters_at : (n : ℕ) (ps : List Param) → map (parameter n) (map parameter_of ps) ≡ map (λ p. Own n p.name) ps
parameters_at n [] = refl
parameters_at n (p ∷ ps) = ap (λ xs. Own n p.name ∷ xs) (parameters_at n ps)

pub own_of : (c : Code) (n : ℕ) (b : Body) → slice_get c.bodies n ≡ Some b → variables_by n (slice_get (plain_code c).bodies n) ≡ own_variables n b.parameters b.names
own_of c n b h =
    let vars = map Global c.vars in
    ap (variables_by n) (bodies_at vars 0 c.bodies n ∙ ap (option_map (plain_body vars (0 + n))) h)
    ∙ ap (λ xs. xs ++ map (plain_name (0 + n)) b.names) (parameters_at n b.parameters)
    ∙ ap (λ k. map (λ p. Own n p.name) b.parameters ++ map (plain_name k) b.names) (plus_zero n)
  where
    plus_zero : (k : ℕ) → 0 + k ≡ k
    plus_zero k = omega arith

pub none_of : (c : Code) (n : ℕ) → slice_get c.bodies n ≡ None → variables_by n (slice_get (plain_code c).bodies n) ≡ []
none_of c n h = let vars = map Global c.vars in ap (variables_by n) (bodies_at vars 0 c.bodies n ∙ ap (option_map (plain_body vars (0 + n))) h)
