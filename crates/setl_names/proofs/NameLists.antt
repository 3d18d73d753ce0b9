-- Lists of names and the keys that stand for them.
use Rattle.std.proofs.Common.{◌≡◌, ℕ, Bool, true, false, cond, List, [], ◌∷◌, ◌++◌, ◌||◌, map, take, length, refl, ap, sym, ◌∙◌, bytes_eq, append_assoc}
use Rattle.std.proofs.lemmas.List.{take-map}
use Rattle.std.proofs.Math.Seq.{take-append_seam}
use Rattle.std.specs.Global.{Vec}
use Rattle.std.specs.List.{list_any}
use Rattle.indexmap.specs.IndexSet.{insert_key}
use Rattle.setl_names.specs.Names.{Name, BeginsWith, has, with_name}

abbrev pub items_of : Vec ℕ → List ℕ
items_of v = v.items

abbrev pub same_key : Vec ℕ → Vec ℕ → Bool
same_key x y = bytes_eq x.items y.items

-- a name is among the keys as it is among the names
pub has_key : (x : Name) (ks : List (Vec ℕ)) → list_any (λ (v : Vec ℕ). bytes_eq x v.items) ks ≡ has (map items_of ks) x
has_key x [] = refl
has_key x (k ∷ ks) = ap (λ b. bytes_eq x k.items || b) (has_key x ks)

map_end : (ks : List (Vec ℕ)) (k : Vec ℕ) → map items_of (ks ++ k ∷ []) ≡ map items_of ks ++ k.items ∷ []
map_end [] k = refl
map_end (x ∷ ks) k = ap (λ z. x.items ∷ z) (map_end ks k)

by_test : (b : Bool) (ks : List (Vec ℕ)) (k : Vec ℕ) → map items_of (cond b ks (ks ++ k ∷ [])) ≡ cond b (map items_of ks) (map items_of ks ++ k.items ∷ [])
by_test true ks k = refl
by_test false ks k = map_end ks k

-- a key that is put stands for a name that is put
pub with_key : (ks : List (Vec ℕ)) (k : Vec ℕ) → map items_of (insert_key same_key ks k) ≡ with_name (map items_of ks) k.items
with_key ks k = by_test (list_any (same_key k) ks) ks k ∙ ap (λ b. cond b (map items_of ks) (map items_of ks ++ k.items ∷ [])) (has_key k.items ks)

pub taken : (n : ℕ) (ks : List (Vec ℕ)) → map items_of (take n ks) ≡ take n (map items_of ks)
taken n ks = sym (take-map items_of n ks)

one_more : (b : Bool) (all xs : List Name) (y : Name) → BeginsWith all xs → BeginsWith (cond b all (all ++ y ∷ [])) xs
one_more true all xs y f = f
one_more false all xs y f = (f.0 ++ y ∷ [], ap (λ (zs : List Name). zs ++ y ∷ []) f.1 ∙ append_assoc xs f.0 (y ∷ []))

-- names that begin with these still do with one more name
pub begins_more : (all xs : List Name) (y : Name) → BeginsWith all xs → BeginsWith (with_name all y) xs
begins_more all xs y f = one_more (has all y) all xs y f

-- the names in front, taken back
pub front : (all xs : List Name) → BeginsWith all xs → take (length xs) all ≡ xs
front all xs f = ap (take (length xs)) f.1 ∙ take-append_seam xs f.0
