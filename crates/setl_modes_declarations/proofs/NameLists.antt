-- Names among names.
use Rattle.std.proofs.Common.{◌≡◌, Bool, true, false, cond, List, [], ◌∷◌, ◌++◌, ◌||◌, refl, ap, sym, subst, ◌∙◌, bytes_eq, ℕ, suc, ◌+◌, ◌<◌, drop, length, get_or, add-one, drop-cons}
use Rattle.std.specs.Cmp.Lexicographic.{bytes_decides}
use Rattle.setl_names.specs.declared.bodies.BodyNames.{BodyNames}
use Rattle.setl_names.specs.Names.{Name, has, with_name, with_names, in_order}
use Rattle.setl_modes_declarations.specs.code.Taken.{names_of_body, names_of_all}

pub or_assoc : (a b c : Bool) → (a || b) || c ≡ a || (b || c)
or_assoc true b c = refl
or_assoc false b c = refl

pub or_false : (a : Bool) → a || false ≡ a
or_false true = refl
or_false false = refl

pub has_append : (xs ys : List Name) (x : Name) → has (xs ++ ys) x ≡ has xs x || has ys x
has_append [] ys x = refl
has_append (z ∷ xs) ys x = ap (λ b. bytes_eq x z || b) (has_append xs ys x) ∙ sym (or_assoc (bytes_eq x z) (has xs x) (has ys x))

-- a name that is there is found again
again : (b : Bool) (xs : List Name) (x y : Name) → bytes_eq x y ≡ b → has xs y ≡ true → has xs x ≡ has xs x || b
again true xs x y same there =
    let e : x ≡ y = (bytes_decides x y).0 same in
    let found : has xs x ≡ true = subst (λ z. has xs z ≡ true) (sym e) there in
    rw found refl
again false xs x y same there = sym (or_false (has xs x))

has_with_name : (xs : List Name) (y x : Name) → has (with_name xs y) x ≡ has xs x || bytes_eq x y
has_with_name xs y x = by (has xs y) refl
  where
    by : (b : Bool) → has xs y ≡ b → has (cond b xs (xs ++ y ∷ [])) x ≡ has xs x || bytes_eq x y
    by true there = again (bytes_eq x y) xs x y refl there
    by false there = has_append xs (y ∷ []) x ∙ ap (λ b. has xs x || b) (or_false (bytes_eq x y))

pub has_with_names : (xs ys : List Name) (x : Name) → has (with_names xs ys) x ≡ has xs x || has ys x
has_with_names xs [] x = sym (or_false (has xs x))
has_with_names xs (y ∷ ys) x =
    has_with_names (with_name xs y) ys x
    ∙ ap (λ b. b || has ys x) (has_with_name xs y x)
    ∙ or_assoc (has xs x) (bytes_eq x y) (has ys x)

pub has_in_order : (xs : List Name) (x : Name) → has (in_order xs) x ≡ has xs x
has_in_order xs x = has_with_names [] xs x

-- names behind one another
pub with_names_append : (xs ys zs : List Name) → with_names (with_names xs ys) zs ≡ with_names xs (ys ++ zs)
with_names_append xs [] zs = refl
with_names_append xs (y ∷ ys) zs = with_names_append (with_name xs y) ys zs

split : (bodies : List BodyNames) (i : ℕ) (b : BodyNames) → i < length bodies → b ≡ get_or bodies i b → drop i bodies ≡ b ∷ drop (i + 1) bodies
split bodies i b h is = drop-cons bodies i b h ∙ ap (λ (z : BodyNames). z ∷ drop (suc i) bodies) (sym is) ∙ ap (λ n. b ∷ drop n bodies) (sym (add-one i))

-- the names of one more body
pub body_put : (bodies : List BodyNames) (i : ℕ) (b : BodyNames) (names new whole : List Name) → i < length bodies → b ≡ get_or bodies i b → new ≡ with_names names (names_of_body b) →
    with_names names (names_of_all (drop i bodies)) ≡ whole → with_names new (names_of_all (drop (i + 1) bodies)) ≡ whole
body_put bodies i b names new whole h is en inv =
    ap (λ (z : List Name). with_names z (names_of_all (drop (i + 1) bodies))) en
    ∙ with_names_append names (names_of_body b) (names_of_all (drop (i + 1) bodies))
    ∙ ap (λ (z : List BodyNames). with_names names (names_of_all z)) (sym (split bodies i b h is))
    ∙ inv
