-- A store changes what one variable holds.
use Rattle.std.specs.Prelude.{◌≡◌, Bool, true, false, [], ◌∷◌, ◌&&◌, nat_eq, cond, Option, refl, bytes_eq}
use Rattle.std.proofs.Common.{sym, ap, subst}
use Rattle.std.proofs.lemmas.Bool.{eqb-true, eq-eqb}
use Rattle.std.proofs.lemmas.Slice.Eq.{bytes_eq-Decides}
use Rattle.setl_value.specs.Datum.{Datum}
use Rattle.setl_model_runs.specs.Variable.{Variable, Global, Own, Bound, is_variable, Environment, value_in, with_value}

both_true : (a b : Bool) → a && b ≡ true → (a ≡ true) × (b ≡ true)
both_true true true h = (refl, refl)
both_true true false h = (refl, h)
both_true false b h = cc

-- the test of variables is equality
pub same_variable : (x y : Variable) → is_variable x y ≡ true → x ≡ y
same_variable (Global a) (Global b) h = ap Global ((bytes_eq-Decides a b).0 h)
same_variable (Own n a) (Own m b) h =
    let both = both_true (nat_eq n m) (bytes_eq a b) h in λ i. Own (eqb-true n m both.0 i) ((bytes_eq-Decides a b).0 both.1 i)
same_variable (Bound n a) (Bound m b) h =
    let both = both_true (nat_eq n m) (bytes_eq a b) h in λ i. Bound (eqb-true n m both.0 i) ((bytes_eq-Decides a b).0 both.1 i)
same_variable x y h = cc

pub variable_itself : (x : Variable) → is_variable x x ≡ true
variable_itself (Global a) = (bytes_eq-Decides a a).1 refl
variable_itself (Own n a) = rw (eq-eqb n n refl) ((bytes_eq-Decides a a).1 refl)
variable_itself (Bound n a) = rw (eq-eqb n n refl) ((bytes_eq-Decides a a).1 refl)

-- a variable holds what was stored last
pub value_stored : (e : Environment) (x : Variable) (v : Option Datum) → value_in (with_value e x v) x ≡ v
value_stored [] x v = rw (variable_itself x) refl
value_stored (b ∷ bs) x v = go (is_variable b.0 x) refl (value_stored bs x v)
  where
    go : (t : Bool) → is_variable b.0 x ≡ t → value_in (with_value bs x v) x ≡ v → value_in (cond t ((x, v) ∷ bs) (b ∷ with_value bs x v)) x ≡ v
    go true h ih = rw (variable_itself x) refl
    go false h ih = rw h ih

-- every other variable holds what it held
pub value_elsewhere : (e : Environment) (x y : Variable) (v : Option Datum) → is_variable x y ≡ false → value_in (with_value e x v) y ≡ value_in e y
value_elsewhere [] x y v other = rw other refl
value_elsewhere (b ∷ bs) x y v other = go (is_variable b.0 x) refl (value_elsewhere bs x y v other)
  where
    go : (t : Bool) → is_variable b.0 x ≡ t → value_in (with_value bs x v) y ≡ value_in bs y → value_in (cond t ((x, v) ∷ bs) (b ∷ with_value bs x v)) y ≡ value_in (b ∷ bs) y
    go true h ih =
        let apart : is_variable b.0 y ≡ false = subst (λ z. is_variable z y ≡ false) (sym (same_variable b.0 x h)) other in
        rw (other, apart) refl
    go false h ih = ap (λ w. cond (is_variable b.0 y) b.1 w) ih
