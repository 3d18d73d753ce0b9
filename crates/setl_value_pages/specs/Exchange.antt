-- What a change of a part of the items does to the pages.
use Rattle.std.specs.Prelude.{◌≡◌, ◌≤◌, ℕ, zero, suc, ◌+◌, ◌-◌, ◌/◌, min, sum, List, [], ◌∷◌, ◌++◌, length, map, nat_lt, take, drop, if◌then◌else◌, ⊤, refl}
use Rattle.std.specs.List.{AllByRecursion}
use Rattle.std.proofs.Common.{arith}
use Rattle.setl_value_pages.specs.Pages.{IsPage, joined, page_at}

-- xs stands in the place of the items from the i-th place of the page k to before the j-th of the page l: some pages
-- stand in the place of these pages, and the others are as before
pub record Exchanges {X : Type 0} (old new : List (List X)) (k i l j : ℕ) (xs : List X) : Type 0 where
  pub by : List (List X)
  pub pages : AllByRecursion IsPage by
  pub whole : joined by ≡ take i (page_at old k) ++ (xs ++ drop j (page_at old l))
  pub changed : new ≡ take k old ++ (by ++ drop (suc l) old)

-- how many items each page has
abbrev pub page_sizes : {X : Type 0} → List (List X) → List ℕ
page_sizes ps = map length ps

-- the sizes after an item is put on the k-th page: one of 64 becomes two of 32 and 33
abbrev pub put_size : List ℕ → ℕ → List ℕ
put_size [] k = 1 ∷ []
put_size (n ∷ ns) zero = if nat_lt n 64 then suc n ∷ ns else 32 ∷ 33 ∷ ns
put_size (n ∷ ns) (suc k) = n ∷ put_size ns k

-- an item is put on one of the pages
abbrev pub PutsOnPage : {X : Type 0} → List (List X) → List (List X) → Type 0
PutsOnPage old new = (k : ℕ) × (page_sizes new ≡ put_size (page_sizes old) k)

-- the sizes after an item of the k-th page is taken out: a page of one goes
abbrev pub cut_size : List ℕ → ℕ → List ℕ
cut_size [] k = []
cut_size (n ∷ ns) zero = if nat_lt 1 n then (n - 1) ∷ ns else ns
cut_size (n ∷ ns) (suc k) = n ∷ cut_size ns k

-- each page but the last has `most` items, and the last not more
abbrev pub AreFilled : ℕ → List ℕ → Type 0
AreFilled most [] = ⊤
AreFilled most (n ∷ []) = n ≤ most
AreFilled most (n ∷ m ∷ ns) = (n ≡ most) × AreFilled most (m ∷ ns)

-- the size of pages of which as few as can be hold so many items evenly
abbrev pub even_size : ℕ → ℕ
even_size count = min (count / ((count - 1) / 64 + 1) + 1) 64

-- the size of new pages: full ones where there were none
abbrev pub new_size : List ℕ → ℕ → ℕ
new_size [] count = 64
new_size (n ∷ ns) count = even_size count

-- other pages stand in the place of those from the page k up to the page l, filled evenly, as few as can be
abbrev pub Refills : (old new : List ℕ) → (k l : ℕ) → Type 0
Refills old new k l = (by : List ℕ) × AreFilled (new_size old (sum by)) by × (new ≡ take k old ++ (by ++ drop (suc l) old))

-- a page stands behind the others, unless it is empty
abbrev pub Ends : {X : Type 0} → List (List X) → List X → List (List X) → Type 0
Ends old [] new = new ≡ old
Ends old (x ∷ xs) new = new ≡ old ++ (x ∷ xs) ∷ []

-- two pages of 32 and 33 items
abbrev pub AreHalves : {X : Type 0} → List (List X) → Type 0
AreHalves (l ∷ r ∷ []) = (length l ≡ 32) × (length r ≡ 33)
AreHalves ps = ⊥

with_room : put_size (64 ∷ 63 ∷ 64 ∷ []) 1 ≡ 64 ∷ 64 ∷ 64 ∷ []
with_room = refl

without_room : put_size (1 ∷ 64 ∷ 2 ∷ []) 1 ≡ 1 ∷ 32 ∷ 33 ∷ 2 ∷ []
without_room = refl

cut_among : cut_size (64 ∷ 63 ∷ 64 ∷ []) 1 ≡ 64 ∷ 62 ∷ 64 ∷ []
cut_among = refl

cut_the_last : cut_size (64 ∷ 1 ∷ 2 ∷ []) 1 ≡ 64 ∷ 2 ∷ []
cut_the_last = refl

-- 130 items take three pages, of 44, 44 and 42
even_of_three : even_size 130 ≡ 44
even_of_three = refl

even_of_one : even_size 64 ≡ 64
even_of_one = refl

filled_evenly : AreFilled (even_size 130) (44 ∷ 44 ∷ 42 ∷ [])
filled_evenly = (refl, (refl, omega arith))
