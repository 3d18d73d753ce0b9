-- Laws of whether a name is among names.
use Rattle.std.proofs.Common.{◌≡◌, ◌∙◌, Bool, true, false, cond, List, [], ◌∷◌, ◌++◌, refl, sym, ap, bytes_eq}
use Rattle.std.specs.Prelude.{◌||◌}
use Rattle.std.specs.Cmp.Lexicographic.{bytes_decides}
use Rattle.setl_names.specs.Names.{Name, has, with_name, with_names}

or_no : (b : Bool) → b || false ≡ b
or_no true = refl
or_no false = refl

or_both : (b : Bool) → b || true ≡ true
or_both true = refl
or_both false = refl

or_grouped : (a b c : Bool) → (a || b) || c ≡ a || (b || c)
or_grouped true b c = refl
or_grouped false b c = refl

has_end : (xs : List Name) (y x : Name) → has (xs ++ y ∷ []) x ≡ has xs x || bytes_eq x y
has_end [] y x = or_no (bytes_eq x y)
has_end (z ∷ xs) y x = ap (λ b. bytes_eq x z || b) (has_end xs y x) ∙ sym (or_grouped (bytes_eq x z) (has xs x) (bytes_eq x y))

-- with one more name they have what they had, and it
has_with : (xs : List Name) (y x : Name) → has (with_name xs y) x ≡ has xs x || bytes_eq x y
has_with xs y x = by (has xs y) refl
  where
    there : (b : Bool) → has xs y ≡ true → bytes_eq x y ≡ b → has xs x ≡ has xs x || b
    there false is same = sym (or_no (has xs x))
    there true is same = ap (has xs) ((bytes_decides x y).0 same) ∙ is ∙ sym (or_both (has xs x))

    by : (b : Bool) → has xs y ≡ b → has (cond b xs (xs ++ y ∷ [])) x ≡ has xs x || bytes_eq x y
    by true is = there (bytes_eq x y) is refl
    by false is = has_end xs y x

-- names with others behind them have what either has
pub has_all : (xs ys : List Name) (x : Name) → has (with_names xs ys) x ≡ has xs x || has ys x
has_all xs [] x = sym (or_no (has xs x))
has_all xs (y ∷ ys) x = has_all (with_name xs y) ys x ∙ ap (λ b. b || has ys x) (has_with xs y x) ∙ or_grouped (has xs x) (bytes_eq x y) (has ys x)
