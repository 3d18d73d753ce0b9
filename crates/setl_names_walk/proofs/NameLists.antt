-- Names put behind names.
use Rattle.std.proofs.Common.{◌≡◌, Bool, true, false, cond, List, [], ◌∷◌, ◌++◌, ◌||◌, take, length, refl, ap, sym, subst, ◌∙◌, bytes_eq, append_assoc}
use Rattle.std.proofs.lemmas.List.{append-nil}
use Rattle.std.proofs.Math.Seq.{take-append_seam}
use Rattle.std.specs.Cmp.Lexicographic.{bytes_decides}
use Rattle.setl_names.specs.Names.{Name, has, with_name, with_names, in_order}
use Rattle.setl_names.specs.Variables.{of_body}

-- names behind one another
pub with_names_append : (xs ys zs : List Name) → with_names (with_names xs ys) zs ≡ with_names xs (ys ++ zs)
with_names_append xs [] zs = refl
with_names_append xs (y ∷ ys) zs = with_names_append (with_name xs y) ys zs

longer : (b : Bool) (xs : List Name) (y : Name) (all : List Name) → ((ws : List Name) × (all ≡ cond b xs (xs ++ y ∷ []) ++ ws)) → (ws : List Name) × (all ≡ xs ++ ws)
longer true xs y all g = g
longer false xs y all g = (y ∷ g.0, g.1 ∙ append_assoc xs (y ∷ []) g.0)

grown : (xs ys : List Name) → (ws : List Name) × (with_names xs ys ≡ xs ++ ws)
grown xs [] = ([], sym (append-nil xs))
grown xs (y ∷ ys) = longer (has xs y) xs y (with_names (with_name xs y) ys) (grown (with_name xs y) ys)

-- the names that were there stay in front
pub taken_back : (xs ys : List Name) → take (length xs) (with_names xs ys) ≡ xs
taken_back xs ys = ap (take (length xs)) (grown xs ys).1 ∙ take-append_seam xs (grown xs ys).0

-- ---- which names are there

or_assoc : (a b c : Bool) → (a || b) || c ≡ a || (b || c)
or_assoc true b c = refl
or_assoc false b c = refl

or_false : (a : Bool) → a || false ≡ a
or_false true = refl
or_false false = refl

has_append : (xs ys : List Name) (x : Name) → has (xs ++ ys) x ≡ has xs x || has ys x
has_append [] ys x = refl
has_append (z ∷ xs) ys x = ap (λ b. bytes_eq x z || b) (has_append xs ys x) ∙ sym (or_assoc (bytes_eq x z) (has xs x) (has ys x))

-- a name that is there is found again
again : (b h : Bool) (xs : List Name) (x y : Name) → bytes_eq x y ≡ b → has xs y ≡ true → has xs x ≡ has xs x || b
again true h xs x y same there =
    let e : x ≡ y = (bytes_decides x y).0 same in
    let found : has xs x ≡ true = subst (λ z. has xs z ≡ true) (sym e) there in
    rw found refl
again false h xs x y same there = sym (or_false (has xs x))

has_with_name : (xs : List Name) (y x : Name) → has (with_name xs y) x ≡ has xs x || bytes_eq x y
has_with_name xs y x = by (has xs y) refl
  where
    by : (b : Bool) → has xs y ≡ b → has (cond b xs (xs ++ y ∷ [])) x ≡ has xs x || bytes_eq x y
    by true there = again (bytes_eq x y) true xs x y refl there
    by false there = has_append xs (y ∷ []) x ∙ ap (λ b. has xs x || b) (or_false (bytes_eq x y))

has_with_names : (xs ys : List Name) (x : Name) → has (with_names xs ys) x ≡ has xs x || has ys x
has_with_names xs [] x = sym (or_false (has xs x))
has_with_names xs (y ∷ ys) x =
    has_with_names (with_name xs y) ys x
    ∙ ap (λ b. b || has ys x) (has_with_name xs y x)
    ∙ or_assoc (has xs x) (bytes_eq x y) (has ys x)

pub has_in_order : (xs : List Name) (x : Name) → has (in_order xs) x ≡ has xs x
has_in_order xs x = has_with_names [] xs x

-- the order of parameters and names in `var` doesn't matter
pub own_in_order : (params vars : List Name) (xs : List Name) → of_body (in_order params) (in_order vars) xs ≡ of_body params vars xs
own_in_order params vars [] = refl
own_in_order params vars (x ∷ xs) = rw (has_in_order params x, has_in_order vars x, own_in_order params vars xs) refl
