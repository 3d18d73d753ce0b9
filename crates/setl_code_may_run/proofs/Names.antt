-- The variables of a body, and those that all bodies see, stand for themselves alone.
use Rattle.std.proofs.Common.{◌≡◌, ℕ, Bool, true, false, cond, ◌||◌, List, [], ◌∷◌, ◌++◌, map, refl, sym, ap, ◌∙◌, subst, bytes_eq}
use Rattle.std.proofs.lemmas.Slice.Eq.{bytes_eq-Decides}
use Rattle.std.proofs.lemmas.Bool.{eq-eqb}
use Rattle.setl_names.specs.Names.{has}
use Rattle.setl_model_runs.specs.Variable.{Variable, Global, Own, is_variable}
use Rattle.setl_model_runs.specs.VariableLaws.{same_variable, variable_itself}
use Rattle.setl_program.specs.Program.{Block, Parameter}
use Rattle.setl_program.specs.Placed.{NamesDiffer}
use Rattle.setl_code.specs.Names.{is_among, is_parameter, is_own, in_block, first_among, own_names}
use Rattle.setl_code.specs.MayRun.{Differ}

neither : (a b : Bool) → a ≡ false → b ≡ false → a || b ≡ false
neither false b h g = g
neither true b h g = cc

either_left : (a b : Bool) → a ≡ true → a || b ≡ true
either_left true b h = refl
either_left false b h = cc

either_right : (a b : Bool) → b ≡ true → a || b ≡ true
either_right true b h = refl
either_right false b h = h

none_left : (a b : Bool) → a || b ≡ false → a ≡ false
none_left false b h = refl
none_left true b h = h

none_right : (a b : Bool) → a || b ≡ false → b ≡ false
none_right false b h = h
none_right true b h = cc

-- ---- variables that all bodies see

among_globals : (vars : List (List ℕ)) (x : List ℕ) → is_among (map Global vars) (Global x) ≡ has vars x
among_globals [] x = refl
among_globals (y ∷ vars) x = ap (λ b. bytes_eq x y || b) (among_globals vars x)

pub globals_differ : (vars : List (List ℕ)) → NamesDiffer vars → Differ (map Global vars)
globals_differ [] g = tt
globals_differ (x ∷ vars) g = (among_globals vars x ∙ g.0, globals_differ vars g.1)

-- ---- own names

-- a variable that stands before isn't named again
not_again : (ps : List Parameter) (seen xs : List Variable) (y : Variable) → is_among seen y ≡ true → is_among (first_among ps seen xs) y ≡ false
not_again ps seen [] y h = refl
not_again ps seen (x ∷ xs) y h =
    go (is_own ps x) (is_among seen x) refl (not_again ps seen xs y h) (not_again ps (x ∷ seen) xs y (either_right (is_variable y x) (is_among seen y) h))
  where
    apart : is_among seen x ≡ false → (b : Bool) → is_variable y x ≡ b → b ≡ false
    apart n false e = refl
    apart n true e = let there : is_among seen x ≡ true = subst (λ z. is_among seen z ≡ true) (same_variable y x e) h in cc

    go : (own old : Bool) → is_among seen x ≡ old → is_among (first_among ps seen xs) y ≡ false → is_among (first_among ps (x ∷ seen) xs) y ≡ false → is_among (cond own (cond old (first_among ps seen xs) (x ∷ first_among ps (x ∷ seen) xs)) (first_among ps seen xs)) y ≡ false
    go false old e rest new = rest
    go true true e rest new = rest
    go true false e rest new = neither (is_variable y x) _ (apart e (is_variable y x) refl) new

names_differ : (ps : List Parameter) (seen xs : List Variable) → Differ (first_among ps seen xs)
names_differ ps seen [] = tt
names_differ ps seen (x ∷ xs) = go (is_own ps x) (is_among seen x) (names_differ ps seen xs) (names_differ ps (x ∷ seen) xs)
  where
    go : (own old : Bool) → Differ (first_among ps seen xs) → Differ (first_among ps (x ∷ seen) xs) → Differ (cond own (cond old (first_among ps seen xs) (x ∷ first_among ps (x ∷ seen) xs)) (first_among ps seen xs))
    go false old rest new = rest
    go true true rest new = rest
    go true false rest new = (not_again ps (x ∷ seen) xs x (either_left (is_variable x x) (is_among seen x) (variable_itself x)), new)

-- ---- parameters

-- no parameter is named
no_parameter : (ps : List Parameter) (seen xs : List Variable) (n : ℕ) (name : List ℕ) → is_parameter ps name ≡ true → is_among (first_among ps seen xs) (Own n name) ≡ false
no_parameter ps seen [] n name h = refl
no_parameter ps seen (x ∷ xs) n name h = go (is_own ps x) refl (is_among seen x) (no_parameter ps seen xs n name h) (no_parameter ps (x ∷ seen) xs n name h)
  where
    other : is_own ps x ≡ true → (b : Bool) → is_variable (Own n name) x ≡ b → b ≡ false
    other own false e = refl
    other own true e =
        let kept : cond (is_parameter ps name) false true ≡ true = subst (λ z. is_own ps z ≡ true) (sym (same_variable (Own n name) x e)) own in
        sym (rw h at kept)

    go : (own : Bool) → is_own ps x ≡ own → (old : Bool) → is_among (first_among ps seen xs) (Own n name) ≡ false → is_among (first_among ps (x ∷ seen) xs) (Own n name) ≡ false → is_among (cond own (cond old (first_among ps seen xs) (x ∷ first_among ps (x ∷ seen) xs)) (first_among ps seen xs)) (Own n name) ≡ false
    go false e old rest new = rest
    go true e true rest new = rest
    go true e false rest new = neither (is_variable (Own n name) x) _ (other e (is_variable (Own n name) x) refl) new

-- a name that is no parameter's and isn't among some variables
apart_from_all : (n : ℕ) (ps : List Parameter) (ys : List Variable) (x : List ℕ) → has (map (λ q. q.name) ps) x ≡ false → is_among ys (Own n x) ≡ false → is_among (map (λ p. Own n p.name) ps ++ ys) (Own n x) ≡ false
apart_from_all n [] ys x g h = h
apart_from_all n (p ∷ ps) ys x g h =
    rw (eq-eqb n n refl) (neither (bytes_eq x p.name) _ (none_left (bytes_eq x p.name) _ g) (apart_from_all n ps ys x (none_right (bytes_eq x p.name) _ g) h))

parameters_differ : (n : ℕ) (ps : List Parameter) (ys : List Variable) → NamesDiffer (map (λ q. q.name) ps) → ((name : List ℕ) → is_parameter ps name ≡ true → is_among ys (Own n name) ≡ false) → Differ ys → Differ (map (λ p. Own n p.name) ps ++ ys)
parameters_differ n [] ys g h d = d
parameters_differ n (p ∷ ps) ys g h d = (
  apart_from_all n ps ys p.name g.0 (h p.name (either_left (bytes_eq p.name p.name) _ ((bytes_eq-Decides p.name p.name).1 refl))),
  parameters_differ n ps ys g.1 (λ name e. h name (either_right (bytes_eq p.name name) _ e)) d,
)

-- the parameters of a body and its own names
pub own_differ : (n : ℕ) (ps : List Parameter) (b : Block) → NamesDiffer (map (λ q. q.name) ps) → Differ (map (λ p. Own n p.name) ps ++ own_names ps b)
own_differ n ps b g = parameters_differ n ps (own_names ps b) g (λ name e. no_parameter ps [] (in_block b) n name e) (names_differ ps [] (in_block b))
