-- Tables by names, and what one more entry makes of them.
use Rattle.std.proofs.Common.{◌≡◌, ◌∙◌, ℕ, Bool, true, false, cond, List, [], ◌∷◌, Option, Some, None, refl, sym, ap, true≢false, bytes_eq}
use Rattle.std.specs.Global.{Vec}
use Rattle.std.specs.Map.{lookup}
use Rattle.std.specs.Cmp.Lexicographic.{bytes_decides}
use Rattle.indexmap.specs.IndexMap.{IndexMap, insert_entry}

-- the value at a name among entries
abbrev pub among : {T : Type 0} → List (Vec ℕ × T) → List ℕ → Option T
among es name = lookup (λ (key : Vec ℕ). bytes_eq name key.items) es

-- the value at a name
abbrev pub value_at : {T S : Type 0} → IndexMap (Vec ℕ) T S → List ℕ → Option T
value_at table name = among table.entries name

abbrev pub same_key : Vec ℕ → Vec ℕ → Bool
same_key x y = bytes_eq x.items y.items

twice : {T : Type 0} (b : Bool) (x y : Option T) (z : Option T) → cond b x z ≡ cond b x (cond b y z)
twice true x y z = refl
twice false x y z = refl

-- a name isn't two keys that differ
swapped : {T : Type 0} (a b : Bool) (x y z : Option T) → (a ≡ true → b ≡ true → ⊥) → cond a x (cond b y z) ≡ cond b y (cond a x z)
swapped true true x y z n = absurd (n refl refl)
swapped true false x y z n = refl
swapped false true x y z n = refl
swapped false false x y z n = refl

inserted : {T : Type 0} (es : List (Vec ℕ × T)) (k : Vec ℕ) (v : T) (name : List ℕ) → among (insert_entry same_key es k v) name ≡ cond (bytes_eq name k.items) (Some v) (among es name)
inserted [] k v name = refl
inserted {T} (e ∷ es) k v name = by (same_key k e.0) refl (inserted es k v name)
  where
    by : (b : Bool) → same_key k e.0 ≡ b → among (insert_entry same_key es k v) name ≡ cond (bytes_eq name k.items) (Some v) (among es name) → among (cond b ((e.0, v) ∷ es) (e ∷ insert_entry same_key es k v)) name ≡ cond (bytes_eq name k.items) (Some v) (among (e ∷ es) name)
    by true h later =
        let same : e.0.items ≡ k.items = sym ((bytes_decides k.items e.0.items).0 h) in
        ap (λ xs. cond (bytes_eq name xs) (Some v) (among es name)) same
        ∙ twice (bytes_eq name k.items) (Some v) (Some e.1) (among es name)
        ∙ ap (λ xs. cond (bytes_eq name k.items) (Some v) (cond (bytes_eq name xs) (Some e.1) (among es name))) (sym same)
    by false h later =
        ap (cond (bytes_eq name e.0.items) (Some e.1)) later
        ∙ swapped (bytes_eq name e.0.items) (bytes_eq name k.items) (Some e.1) (Some v) (among es name)
        (λ p q. true≢false (sym ((bytes_decides k.items e.0.items).1 (sym ((bytes_decides name k.items).0 q) ∙ (bytes_decides name e.0.items).0 p)) ∙ h))

-- one more entry is found at its name, and at the others what was found before
pub put_at : {T S U : Type 0} (old : IndexMap (Vec ℕ) T S) (new : IndexMap (Vec ℕ) T U) (key : Vec ℕ) (v : T) → new.entries ≡ insert_entry same_key old.entries key v →
    (name : List ℕ) → value_at new name ≡ cond (bytes_eq name key.items) (Some v) (value_at old name)
put_at old new key v e name = ap (λ es. among es name) e ∙ inserted old.entries key v name

-- nothing is found in an empty table
pub none_at : {T S : Type 0} (table : IndexMap (Vec ℕ) T S) → table.entries ≡ [] → (name : List ℕ) → value_at table name ≡ None
none_at table e name = ap (λ es. among es name) e

-- equality of names is symmetric
pub turned : (x y : List ℕ) → bytes_eq x y ≡ bytes_eq y x
turned x y = by (bytes_eq x y) (bytes_eq y x) refl refl
  where
    by : (a b : Bool) → bytes_eq x y ≡ a → bytes_eq y x ≡ b → a ≡ b
    by true true p q = refl
    by false false p q = refl
    by true false p q = sym ((bytes_decides y x).1 (sym ((bytes_decides x y).0 p))) ∙ q
    by false true p q = sym p ∙ (bytes_decides x y).1 (sym ((bytes_decides y x).0 q))
