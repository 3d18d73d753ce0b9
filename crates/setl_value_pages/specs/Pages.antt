-- A list that is cut in pages, and places in it.
use Rattle.std.specs.Prelude.{◌≡◌, ℕ, ◌+◌, ◌-◌, ◌≤◌, List, [], ◌∷◌, ◌++◌, length, take, slice_index_or, refl}
use Rattle.std.specs.declared.rc.Rc.{Rc}
use Rattle.std.specs.declared.vec.Vec.{Vec}
use Rattle.std.specs.declared.alloc.Global.{Global}

-- the items of a shared page
abbrev pub items : {X : Type 0} → Rc (Vec X Global) Global → List X
items p = p.value.items

-- pages one after the other
abbrev pub joined : {X : Type 0} → List (List X) → List X
joined [] = []
joined (p ∷ ps) = p ++ joined ps

-- a page has 1 to 64 items
abbrev pub IsPage : {X : Type 0} → List X → Type 0
IsPage p = (1 ≤ length p) × (length p ≤ 64)

-- the k-th page, and no item past the last page
abbrev pub page_at : {X : Type 0} → List (List X) → ℕ → List X
page_at ps k = slice_index_or ps k []

-- a place in the k-th page, at its i-th item or after its last one; without pages the one place is in the page 0
abbrev pub IsIn : {X : Type 0} → List (List X) → ℕ → ℕ → Type 0
IsIn ps k i = (k ≤ length ps - 1) × (i ≤ length (page_at ps k))

-- how many items stand before it
abbrev pub rank_in : {X : Type 0} → List (List X) → ℕ → ℕ → ℕ
rank_in ps k i = length (joined (take k ps)) + i

joined_pages : joined {X = ℕ} ((1 ∷ 2 ∷ []) ∷ (3 ∷ []) ∷ []) ≡ 1 ∷ 2 ∷ 3 ∷ []
joined_pages = refl

-- after the last item of a page, and at the first one of the next, are two places of the same rank
rank_behind : rank_in {X = ℕ} ((1 ∷ 2 ∷ []) ∷ (3 ∷ []) ∷ []) 0 2 ≡ 2
rank_behind = refl

rank_of_next : rank_in {X = ℕ} ((1 ∷ 2 ∷ []) ∷ (3 ∷ []) ∷ []) 1 0 ≡ 2
rank_of_next = refl
