-- The names that a program has, and those that the code lists.
use Rattle.std.proofs.Common.{◌≡◌, ℕ, Bool, true, false, cond, not, List, [], ◌∷◌, ◌++◌, ◌||◌, ◌&&◌, map, take, refl, ap, sym, ◌∙◌, bytes_eq}
use Rattle.std.specs.List.{list_any}
use Rattle.std.specs.Cmp.Lexicographic.{bytes_decides}
use Rattle.setl_tree.specs.declared.tree.Declared.{Declared}
use Rattle.setl_tree.specs.declared.tree.Proc.{Proc}
use Rattle.setl_tree.specs.declared.tree.Tree.{Tree}
use Rattle.setl_names.specs.declared.head.Entry.{Entry}
use Rattle.setl_names.specs.Bodies.{Body, main_body, bodies, occurrences}
use Rattle.setl_names.specs.Names.{Name, has, in_order}
use Rattle.setl_names.specs.Procedures.{is_procedure, param_names}
use Rattle.setl_names.specs.Resolves.{all_names}
use Rattle.setl_names.specs.Variables.{OfFormer, OfParameter, OfProgram, OfBody, variable, variables, of_body, is_of_body, body_names, var_names}
use Rattle.setl_names_walk.specs.Breaking.{first_at}
use Rattle.setl_modes_declarations.specs.Breaking.{is_undeclarable}
use Rattle.setl_modes_declarations.specs.Rules.{is_parameter, is_variable_in, is_taken, is_declarable, lines_of_names}
use Rattle.setl_modes_declarations.specs.code.Taken.{names_of_all, variable_names, is_among, is_none_of}
use Rattle.setl_modes_declarations.proofs.NameLists.{or_false, has_append, has_with_names, has_in_order}

-- whether a name is no parameter and not in `var`
abbrev is_own : (params vars : List Name) → Name → Bool
is_own params vars x = not (has params x) && not (has vars x)

own_as : (params vars : List Name) (x : Name) → is_of_body (variable [] params vars x) ≡ is_own params vars x
own_as params vars x = by (has params x) (has vars x)
  where
    by : (p v : Bool) → is_of_body (cond false OfFormer (cond p OfParameter (cond v OfProgram OfBody))) ≡ not p && not v
    by true v = refl
    by false true = refl
    by false false = refl

and_false : (a : Bool) → a && false ≡ false
and_false true = refl
and_false false = refl

-- a name among those of the body's own
has_of_body : (params vars xs : List Name) (x : Name) → has (of_body params vars xs) x ≡ has xs x && is_own params vars x
has_of_body params vars [] x = refl
has_of_body params vars (y ∷ ys) x = by (bytes_eq x y) (is_of_body (variable [] params vars y)) (is_own params vars x) refl refl refl (has_of_body params vars ys x)
  where
    by : (e o w : Bool) → bytes_eq x y ≡ e → is_of_body (variable [] params vars y) ≡ o → is_own params vars x ≡ w →
        has (of_body params vars ys) x ≡ has ys x && is_own params vars x →
        has (cond o (y ∷ of_body params vars ys) (of_body params vars ys)) x ≡ (e || has ys x) && is_own params vars x
    by true true true ee eo ew later = ap (λ b. b || has (of_body params vars ys) x) ee ∙ sym ew
    by true true false ee eo ew later =
        let same : x ≡ y = (bytes_decides x y).0 ee in
        let own : is_own params vars x ≡ true = ap (is_own params vars) same ∙ sym (own_as params vars y) ∙ eo in
        ap (λ b. b || has (of_body params vars ys) x) ee ∙ sym own
    by true false true ee eo ew later =
        let same : x ≡ y = (bytes_decides x y).0 ee in
        let other : is_own params vars x ≡ false = ap (is_own params vars) same ∙ sym (own_as params vars y) ∙ eo in
        later ∙ ap (λ b. has ys x && b) other ∙ and_false (has ys x) ∙ sym other
    by true false false ee eo ew later = later ∙ ap (λ b. has ys x && b) ew ∙ and_false (has ys x) ∙ sym ew
    by false true w ee eo ew later = ap (λ b. b || has (of_body params vars ys) x) ee ∙ later
    by false false w ee eo ew later = later

-- whether a name is a variable in a statement of a body
abbrev stands : List Proc → Name → Body → Bool
stands procs x b = has (variables procs (occurrences b)) x

regrouped : (p s q r : Bool) → (p || (s && (not p && not false))) || (q || r) ≡ (p || q) || (s || r)
regrouped true s q r = refl
regrouped false true true r = refl
regrouped false true false r = refl
regrouped false false q r = refl

-- the names of one body
names_of_one : (procs : List Proc) (vars : List Name) (b : Body) (x : Name) →
    has (param_names b.params ++ in_order (of_body (param_names b.params) vars (variables procs (occurrences b)))) x ≡ has (param_names b.params) x || (stands procs x b && is_own (param_names b.params) vars x)
names_of_one procs vars b x =
    let params : List Name = param_names b.params in
    let own : List Name = of_body params vars (variables procs (occurrences b)) in
    has_append params (in_order own) x
    ∙ ap (λ t. has params x || t) (has_in_order own x ∙ has_of_body params vars (variables procs (occurrences b)) x)

-- a name that isn't in `var` is among those of some bodies where it is a parameter or a variable in a statement
among_bodies : (procs : List Proc) (vars : List Name) (x : Name) → has vars x ≡ false → (bs : List Body) →
    has (names_of_all (map (body_names procs vars) bs)) x ≡ is_parameter bs x || list_any (stands procs x) bs
among_bodies procs vars x out [] = refl
among_bodies procs vars x out (b ∷ bs) =
    let params : List Name = param_names b.params in
    let own : List Name = in_order (of_body params vars (variables procs (occurrences b))) in
    let later : List Name = names_of_all (map (body_names procs vars) bs) in
    has_append (params ++ own) later x
    ∙ ap (λ t. t || has later x) (names_of_one procs vars b x ∙ ap (λ v. has params x || (stands procs x b && (not (has params x) && not v))) out)
    ∙ ap (λ t. (has params x || (stands procs x b && (not (has params x) && not false))) || t) (among_bodies procs vars x out bs)
    ∙ regrouped (has params x) (stands procs x b) (is_parameter bs x) (list_any (stands procs x) bs)

or_true : (a : Bool) → a || true ≡ true
or_true true = refl
or_true false = refl

-- a name is in `var` or among those of some bodies
pub among_all : (procs : List Proc) (vars : List Declared) (bs : List Body) (x : Name) →
    has (variable_names vars (map (body_names procs (var_names vars)) bs)) x ≡ is_parameter bs x || (has (var_names vars) x || list_any (stands procs x) bs)
among_all procs vars bs x =
    let names : List Name = names_of_all (map (body_names procs (var_names vars)) bs) in
    has_with_names (in_order (var_names vars)) names x
    ∙ ap (λ t. t || has names x) (has_in_order (var_names vars) x)
    ∙ by (has (var_names vars) x) refl
  where
    by : (v : Bool) → has (var_names vars) x ≡ v → v || has (names_of_all (map (body_names procs (var_names vars)) bs)) x ≡ is_parameter bs x || (v || list_any (stands procs x) bs)
    by true in_var = sym (or_true (is_parameter bs x))
    by false out = among_bodies procs (var_names vars) x out bs

-- ---- the rules

taken_same : (t : Tree) (x : Name) → is_among t.procs (variable_names t.vars (all_names t)) x ≡ is_taken t x
taken_same t x = ap (λ b. is_procedure t.procs x || b) (among_all t.procs t.vars (bodies t) x)

pub taken_alike : (t : Tree) (ds : List Declared) → lines_of_names (is_among t.procs (variable_names t.vars (all_names t))) ds ≡ lines_of_names (is_taken t) ds
taken_alike t ds = ap (λ (test : Name → Bool). lines_of_names test ds) (λ k x. taken_same t x k)

main_same : (t : Tree) (x : Name) → has (variable_names t.vars (take 1 (all_names t))) x ≡ has (var_names t.vars) x || is_variable_in t (main_body t) x
main_same t x = among_all t.procs t.vars (main_body t ∷ []) x ∙ ap (λ b. has (var_names t.vars) x || b) (or_false (is_variable_in t (main_body t) x))

pub declarable_alike : (t : Tree) (ds : List Declared) → lines_of_names (is_none_of t.procs (variable_names t.vars (take 1 (all_names t)))) ds ≡ lines_of_names (λ x. not (is_declarable t x)) ds
declarable_alike t ds = ap (λ (test : Name → Bool). lines_of_names test ds) (λ k x. not (main_same t x k && not (is_procedure t.procs x)))

-- ---- the first of an entry's name

pub taken_names : (t : Tree) (line : ℕ) (es : List Entry) → first_at (is_among t.procs (variable_names t.vars (all_names t))) line es ≡ first_at (is_taken t) line es
taken_names t line es = ap (λ (test : Name → Bool). first_at test line es) (λ k x. taken_same t x k)

pub undeclarable_names : (t : Tree) (line : ℕ) (es : List Entry) → first_at (is_none_of t.procs (variable_names t.vars (take 1 (all_names t)))) line es ≡ first_at (is_undeclarable t) line es
undeclarable_names t line es = ap (λ (test : Name → Bool). first_at test line es) (λ k x. not (main_same t x k && not (is_procedure t.procs x)))
