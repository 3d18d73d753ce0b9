-- The variables of the bodies of a code.
use Rattle.std.proofs.Common.{◌≡◌, ℕ, zero, suc, ◌+◌, ◌<◌, List, [], ◌∷◌, ◌++◌, length, map, refl, sym, ap, ◌∙◌, subst, arith, Option, Some, None}
use Rattle.std.specs.Prelude.{slice_get}
use Rattle.std.specs.Option.{option_map}
use Rattle.setl_tree.specs.declared.tree.Param.{Param}
use Rattle.setl_model_runs.specs.Variable.{Variable, Global, Own, Bound}
use Rattle.setl_program.specs.ProgramOf.{parameter_of}
use Rattle.setl_model.specs.Calls.{parameter}
use Rattle.setl_code.specs.declared.code.Body.{Body}
use Rattle.setl_code.specs.declared.code.Code.{Code}
use Rattle.setl_code.specs.declared.code.OwnName.{OwnName}
use Rattle.setl_code.specs.declared.code.OwnName.TheVariants as name
use Rattle.setl_code.specs.CodeCore.{Held, CodeCore, held, held_in, with_held, write}
use Rattle.setl_code.specs.Plain.{plain_name, own_variables, variable_at, plain_body, plain_bodies, plain_code}
use Rattle.setl_code.specs.MayRun.{Differ, StepsFit, BodiesFit, MayRun}
use Rattle.setl_store.specs.Flat.{names_of}
use Rattle.setl_store.specs.Standing.{variables_by}

-- ---- variables of a body

abbrev pub IsOwn : Variable → Type 0
IsOwn (Global name) = ⊥
IsOwn (Own body name) = Unit {0}
IsOwn (Bound former name) = Unit {0}

abbrev pub AllOwn : List Variable → Type 0
AllOwn [] = Unit {0}
AllOwn (x ∷ xs) = IsOwn x × AllOwn xs

pub own_at : (xs : List Variable) (k : ℕ) → AllOwn xs → k < length xs → IsOwn (variable_at xs k)
own_at [] k a h = absurd (omega (arith, h))
own_at (x ∷ xs) zero a h = a.0
own_at (x ∷ xs) (suc k) a h = own_at xs k a.1 (omega (arith, h))

pub own_held : (x : Variable) (k : CodeCore) → IsOwn x → held x k ≡ held_in k.now.own x
own_held (Global name) k h = absurd h
own_held (Own body name) k h = refl
own_held (Bound former name) k h = refl

abbrev pub with_own : CodeCore → Variable → Held → CodeCore
with_own k x h = record k { now = record k.now { own = with_held k.now.own x h } }

pub own_write : (x : Variable) (h : Held) (k : CodeCore) → IsOwn x → write x h k ≡ with_own k x h
own_write (Global name) v k h = absurd h
own_write (Own body name) v k h = refl
own_write (Bound former name) v k h = refl

pub global_held : (xs : List (List ℕ)) (i : ℕ) (k : CodeCore) → i < length xs → held (variable_at (map Global xs) i) k ≡ held_in k.globals (variable_at (map Global xs) i)
global_held [] i k h = absurd (omega (arith, h))
global_held (x ∷ xs) zero k h = refl
global_held (x ∷ xs) (suc i) k h = global_held xs i k (omega (arith, h))

abbrev pub with_global : CodeCore → Variable → Held → CodeCore
with_global k x h = record k { globals = with_held k.globals x h }

pub global_write : (xs : List (List ℕ)) (i : ℕ) (h : Held) (k : CodeCore) → i < length xs → write (variable_at (map Global xs) i) h k ≡ with_global k (variable_at (map Global xs) i) h
global_write [] i v k h = absurd (omega (arith, h))
global_write (x ∷ xs) zero v k h = refl
global_write (x ∷ xs) (suc i) v k h = global_write xs i v k (omega (arith, h))

-- ---- the variables of a body by its number

own_append : (xs ys : List Variable) → AllOwn xs → AllOwn ys → AllOwn (xs ++ ys)
own_append [] ys a b = b
own_append (x ∷ xs) ys a b = (a.0, own_append xs ys a.1 b)

own_parameters : (n : ℕ) (ps : List Param) → AllOwn (map (λ p. Own n p.name) ps)
own_parameters n [] = tt
own_parameters n (p ∷ ps) = (tt, own_parameters n ps)

own_name : (n : ℕ) (x : OwnName) → IsOwn (plain_name n x)
own_name n (name.Body x) = tt
own_name n (name.Former former x) = tt

own_names : (n : ℕ) (xs : List OwnName) → AllOwn (map (plain_name n) xs)
own_names n [] = tt
own_names n (x ∷ xs) = (own_name n x, own_names n xs)

abbrev pub own_of : ℕ → Body → List Variable
own_of n b = own_variables n b.parameters b.names

abbrev pub own_by : ℕ → Option Body → List Variable
own_by n None = []
own_by n (Some b) = own_of n b

pub own_by_own : (n : ℕ) (b : Option Body) → AllOwn (own_by n b)
own_by_own n None = tt
own_by_own n (Some b) = own_append (map (λ p. Own n p.name) b.parameters) (map (plain_name n) b.names) (own_parameters n b.parameters) (own_names n b.names)

parameters_same : (n : ℕ) (ps : List Param) → map (parameter n) (map parameter_of ps) ≡ map (λ p. Own n p.name) ps
parameters_same n [] = refl
parameters_same n (p ∷ ps) = ap (λ l. Own n p.name ∷ l) (parameters_same n ps)

pub body_at : (vars : List Variable) (m : ℕ) (bs : List Body) (k j : ℕ) → j ≡ m + k → slice_get (plain_bodies vars m bs) k ≡ option_map (plain_body vars j) (slice_get bs k)
body_at vars m [] k j e = refl
body_at vars m (b ∷ bs) zero j e = ap (λ i. Some (plain_body vars i b)) (omega (arith, e))
body_at vars m (b ∷ bs) (suc k) j e = body_at vars (suc m) bs k j (omega (arith, e))

by_same : (vars : List Variable) (n : ℕ) (b : Option Body) → variables_by n (option_map (plain_body vars n) b) ≡ own_by n b
by_same vars n None = refl
by_same vars n (Some b) = ap (λ l. l ++ map (plain_name n) b.names) (parameters_same n b.parameters)

pub names_same : (code : Code) (n : ℕ) → names_of (plain_code code) n ≡ own_by n (slice_get code.bodies n)
names_same code n = ap (variables_by n) (body_at (map Global code.vars) 0 code.bodies n n (omega arith)) ∙ by_same (map Global code.vars) n (slice_get code.bodies n)

pub names_own : (code : Code) (n : ℕ) → AllOwn (names_of (plain_code code) n)
names_own code n = subst AllOwn (sym (names_same code n)) (own_by_own n (slice_get code.bodies n))

-- what is known of a body
abbrev pub BodyFits : ℕ → ℕ → Option Body → Type 0
BodyFits globals n None = Unit {0}
BodyFits globals n (Some b) = Differ (own_of n b) × StepsFit globals (length b.parameters + length b.names) b.steps

pub body_fits : (globals m : ℕ) (bs : List Body) (k j : ℕ) → j ≡ m + k → BodiesFit globals m bs → BodyFits globals j (slice_get bs k)
body_fits globals m [] k j e h = tt
body_fits globals m (b ∷ bs) zero j e h = subst (λ i. BodyFits globals i (Some b)) (omega (arith, e)) (h.0, h.1)
body_fits globals m (b ∷ bs) (suc k) j e h = body_fits globals (suc m) bs k j (omega (arith, e)) h.2

differ_by : (globals n : ℕ) (b : Option Body) → BodyFits globals n b → Differ (own_by n b)
differ_by globals n None h = tt
differ_by globals n (Some b) h = h.0

pub names_differ : (code : Code) (n : ℕ) → MayRun code → Differ (names_of (plain_code code) n)
names_differ code n h = subst Differ (sym (names_same code n)) (differ_by (length code.vars) n (slice_get code.bodies n) (body_fits (length code.vars) 0 code.bodies n n (omega arith) h.1))
