-- Tables of places by names.
use Rattle.std.proofs.Common.{◌≡◌, ◌∙◌, ℕ, zero, suc, ◌+◌, ◌<◌, Bool, true, false, List, [], ◌∷◌, length, drop, Some, None, refl, sym, ap, arith, bytes_eq}
use Rattle.std.specs.Prelude.{◌||◌, cond}
use Rattle.std.specs.Global.{Vec}
use Rattle.indexmap.specs.IndexMap.{IndexMap, insert_entry}
use Rattle.setl_names.specs.ByName.{put_at, same_key, value_at}
use Rattle.setl_model_runs.specs.Variable.{Variable, is_variable}
use Rattle.setl_model_runs.specs.VariableLaws.{same_variable}
use Rattle.setl_code.specs.Names.{is_among}
use Rattle.setl_code.specs.Plain.{variable_at}
use Rattle.setl_store_layout.specs.Places.{place_from, Finds}

-- ---- one name more

-- one entry more
pub put : {S T : Type 0} (old : IndexMap (Vec ℕ) ℕ S) (new : IndexMap (Vec ℕ) ℕ T) (key : Vec ℕ) (name : List ℕ) (at place : ℕ) → key.items ≡ name → place ≡ at → new.entries ≡ insert_entry same_key old.entries key place →
    (x : List ℕ) → value_at new x ≡ cond (bytes_eq x name) (Some at) (value_at old x)
put old new key name at place named same made x = put_at old new key place made x ∙ (λ i. cond (bytes_eq x (named i)) (Some (same i)) (value_at old x))

at_front : (xs : List Variable) (n : ℕ) → n < length xs → drop n xs ≡ variable_at xs n ∷ drop (suc n) xs
at_front [] n h = absurd (omega (arith, h))
at_front (x ∷ xs) zero h = refl
at_front (x ∷ xs) (suc n) h = at_front xs n (omega (arith, h))

module _ {S : Type 0} (as_name : List ℕ → Variable) (xs : List Variable) (n m : ℕ) (next : m ≡ suc n) (within : n < length xs) where
  -- the variable before is one with a name
  pub finds_more : {T : Type 0} (old : IndexMap (Vec ℕ) ℕ S) (new : IndexMap (Vec ℕ) ℕ T) (name : List ℕ) → ((x : List ℕ) → is_variable (as_name x) (variable_at xs n) ≡ bytes_eq x name) →
      ((x : List ℕ) → value_at new x ≡ cond (bytes_eq x name) (Some n) (value_at old x)) → Finds as_name m (drop m xs) old → Finds as_name n (drop n xs) new
  finds_more old new name named puts finds x =
      let behind : value_at old x ≡ place_from (suc n) (drop (suc n) xs) (as_name x) = finds x ∙ ap (λ k. place_from k (drop k xs) (as_name x)) next in
      puts x ∙ (λ i. cond (sym (named x) i) (Some n) (behind i)) ∙ sym (ap (λ l. place_from n l (as_name x)) (at_front xs n within))

  -- it has no name that is asked for
  pub finds_less : (table : IndexMap (Vec ℕ) ℕ S) → ((x : List ℕ) → is_variable (as_name x) (variable_at xs n) ≡ false) → Finds as_name m (drop m xs) table → Finds as_name n (drop n xs) table
  finds_less table other finds x =
      let behind : value_at table x ≡ place_from (suc n) (drop (suc n) xs) (as_name x) = finds x ∙ ap (λ k. place_from k (drop k xs) (as_name x)) next in
      behind ∙ (λ i. cond (sym (other x) i) (Some n) (place_from (suc n) (drop (suc n) xs) (as_name x))) ∙ sym (ap (λ l. place_from n l (as_name x)) (at_front xs n within))

-- ---- what is found

pub record Found (n : ℕ) (xs : List Variable) (x : Variable) (k : ℕ) : Type 0 where
  pub place : ℕ
  pub is : k ≡ n + place
  pub within : place < length xs
  pub variable : variable_at xs place ≡ x

pub found : (n : ℕ) (xs : List Variable) (x : Variable) (k : ℕ) → place_from n xs x ≡ Some k → Found n xs x k
found n [] x k e = absurd (cc)
found n (y ∷ ys) x k e = by (is_variable x y) refl (λ later. found (suc n) ys x k later) e
  where
    by : (b : Bool) → is_variable x y ≡ b → (place_from (suc n) ys x ≡ Some k → Found (suc n) ys x k) → cond b (Some n) (place_from (suc n) ys x) ≡ Some k → Found n (y ∷ ys) x k
    by true t further e = let same : k ≡ n = cc in record { place = 0; is = omega (arith, same); within = omega arith; variable = sym (same_variable x y t) }
    by false t further e = let f = further e in record { place = suc f.place; is = omega (arith, f.is); within = omega (arith, f.within); variable = f.variable }

-- what is found from the front on
pub found_within : (xs : List Variable) (x : Variable) (k : ℕ) → place_from 0 xs x ≡ Some k → k < length xs
found_within xs x k e = let f = found 0 xs x k e in omega (arith, f.is, f.within)

pub found_is : (xs : List Variable) (x : Variable) (k : ℕ) → place_from 0 xs x ≡ Some k → variable_at xs k ≡ x
found_is xs x k e =
    let f = found 0 xs x k e in
    let same : k ≡ f.place = omega (arith, f.is) in
    ap (variable_at xs) same ∙ f.variable

pub missing : (n : ℕ) (xs : List Variable) (x : Variable) → place_from n xs x ≡ None → is_among xs x ≡ false
missing n [] x e = refl
missing n (y ∷ ys) x e = by (is_variable x y) refl (λ later. missing (suc n) ys x later) e
  where
    by : (b : Bool) → is_variable x y ≡ b → (place_from (suc n) ys x ≡ None → is_among ys x ≡ false) → cond b (Some n) (place_from (suc n) ys x) ≡ None → is_among (y ∷ ys) x ≡ false
    by true t further e = absurd (cc)
    by false t further e = ap (λ b. b || is_among ys x) t ∙ further e
