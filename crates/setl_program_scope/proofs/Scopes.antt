-- Scopes: which former binds a name.
use Rattle.std.proofs.Common.{◌≡◌, ◌∙◌, ℕ, Bool, true, false, true≢false, cond, ◌||◌, List, [], ◌∷◌, Option, Some, None, refl, sym, ap}
use Rattle.std.specs.Option.{is_some}
use Rattle.std.proofs.lemmas.List.Folds.{list_any-append}
use Rattle.setl_names.specs.Names.{Name, has}
use Rattle.setl_names.specs.Variables as meaning
use Rattle.setl_program.specs.Scope.{Former, Scope, names_of_formers, innermost, former_of, of_former, variable_by, variable_of}
use Rattle.setl_program_scope.specs.Places.{variable_in}

found_or : (found : Option ℕ) (b : Bool) (m : ℕ) → is_some (cond b (Some m) found) ≡ (b || is_some found)
found_or found true m = refl
found_or found false m = refl

moved : (a b c : Bool) → (a || (b || c)) ≡ ((b || a) || c)
moved true true c = refl
moved true false c = refl
moved false true c = refl
moved false false c = refl

-- a former is found where one was found before, or where formers bind the name
is_found : (found : Option ℕ) (fs : List Former) (x : Name) → is_some (innermost found fs x) ≡ (has (names_of_formers fs) x || is_some found)
is_found found [] x = refl
is_found found (f ∷ fs) x =
    is_found (cond (has f.names x) (Some f.number) found) fs x
    ∙ ap (λ (b : Bool). has (names_of_formers fs) x || b) (found_or found (has f.names x) f.number)
    ∙ moved (has (names_of_formers fs) x) (has f.names x) (is_some found)
    ∙ ap (λ (b : Bool). b || is_some found) (sym (list_any-append _ f.names (names_of_formers fs)))

or_false : (b : Bool) → (b || false) ≡ b
or_false true = refl
or_false false = refl

-- what a name means where it is no former's own
abbrev rest : Scope → Name → meaning.Variable
rest s x = meaning.variable [] s.parameters s.vars x

by_former : (s : Scope) (x : Name) (r : Option ℕ) (b : Bool) → is_some r ≡ b → former_of s x ≡ r → variable_by s x (cond b meaning.OfFormer (rest s x)) ≡ variable_in s x r
by_former s x (Some m) true e found = ap (λ (o : Option ℕ). of_former o s x) found
by_former s x (Some m) false e found = absurd (true≢false e)
by_former s x None true e found = absurd (true≢false (sym e))
by_former s x None false e found = refl

-- the variable of a name by the former that is found
pub variable_found : (s : Scope) (x : Name) → variable_of s x ≡ variable_in s x (former_of s x)
variable_found s x = by_former s x (former_of s x) (has (names_of_formers s.formers) x) (is_found None s.formers x ∙ or_false (has (names_of_formers s.formers) x)) refl
