-- Heights that fall along the ways of steps, and the state of the search for them.
use Rattle.std.specs.Prelude.{◌≡◌, ℕ, ◌+◌, ◌*◌, ◌<◌, ◌≤◌, Bool, true, false, if◌then◌else◌, List, [], ◌∷◌, ◌++◌, length, slice_get, slice_set, get_or, nat_eq, Option, Some, None}
use Rattle.std.specs.List.{Contains, sum_by}
use Rattle.setl_live_reads.specs.declared.node.Way.{Way}
use Rattle.setl_live_reads.specs.Paths.{ways}
use Rattle.setl_image_rounds.specs.declared.search.Search.{Search}

-- a step leads to another
abbrev pub Leads : List Way → (at to : ℕ) → Type 0
Leads all at to = (way : Way) × (slice_get all at ≡ Some way) × Contains (ways way (at + 1)) to

-- Each step is higher than those where it leads; what stands behind the last step has height 0. So no way comes back to
-- the step where it began.
abbrev pub Fall : List Way → List ℕ → Type 0
Fall all heights = (at to : ℕ) → Leads all at to → get_or heights to 0 < get_or heights at 0

-- ---- the search

abbrev pub one_if_zero : ℕ → ℕ
one_if_zero n = if nat_eq n 0 then 1 else 0

abbrev pub one_if_not : Bool → ℕ
one_if_not b = if b then 0 else 1

-- each step where this one leads has a lower height, and one that isn't 0
abbrev pub IsAbove : List Way → List ℕ → ℕ → Type 0
IsAbove all heights at = (to : ℕ) → Leads all at to → (get_or heights to 0 < get_or heights at 0) × (to < length all → 0 < get_or heights to 0)

-- A depth-first search that goes on. A step that is done has a height from 1 on, by the order in which they were done; the
-- others have 0. A step that was entered and isn't done stands on the path.
pub record Searching (all : List Way) (s : Search) : Type 0 where
  pub heights : length s.heights.items ≡ length all
  pub entered : length s.entered.items ≡ length all
  pub above : (at : ℕ) → 0 < get_or s.heights.items at 0 → IsAbove all s.heights.items at
  pub most : (at : ℕ) → get_or s.heights.items at 0 ≤ s.done
  pub counted : s.done + sum_by one_if_zero s.heights.items ≡ length all
  pub inside : (k : ℕ) → k < length s.path.items → get_or s.path.items k 0 < length all
  pub chain : (k : ℕ) → k + 1 < length s.path.items → Leads all (get_or s.path.items k 0) (get_or s.path.items (k + 1) 0)
  pub there : (at : ℕ) → get_or s.entered.items at false ≡ true → get_or s.heights.items at 0 ≡ 0 → (k : ℕ) × (k < length s.path.items) × (get_or s.path.items k 0 ≡ at)

-- ---- what becomes of it

-- a step was entered
pub record Entered (s : Search) (to : ℕ) (t : Search) : Type 0 where
  pub heights : t.heights.items ≡ s.heights.items
  pub done : t.done ≡ s.done
  pub entered : t.entered.items ≡ slice_set s.entered.items to true
  pub path : t.path.items ≡ s.path.items ++ to ∷ []

-- a step was done
pub record Done (s : Search) (at : ℕ) (t : Search) : Type 0 where
  pub heights : t.heights.items ≡ slice_set s.heights.items at (s.done + 1)
  pub done : t.done ≡ s.done + 1
  pub entered : t.entered.items ≡ s.entered.items
  pub path : t.path.items ≡ s.path.items

-- the path lost its last step
pub record Left (s : Search) (top : ℕ) (t : Search) : Type 0 where
  pub heights : t.heights.items ≡ s.heights.items
  pub done : t.done ≡ s.done
  pub entered : t.entered.items ≡ s.entered.items
  pub path : s.path.items ≡ t.path.items ++ top ∷ []

-- the last step of the path
abbrev pub IsTop : Search → ℕ → Type 0
IsTop s at = (front : List ℕ) × (s.path.items ≡ front ++ at ∷ [])

-- what is left to do
abbrev pub room : Search → ℕ
room s = 2 * sum_by one_if_not s.entered.items + sum_by one_if_zero s.heights.items + length s.path.items

-- the search went on: what is done and entered stays so
pub record Stepped (all : List Way) (s t : Search) : Type 0 where
  pub searching : Searching all t
  pub done : (at : ℕ) → 0 < get_or s.heights.items at 0 → 0 < get_or t.heights.items at 0
  pub entered : (at : ℕ) → get_or s.entered.items at false ≡ true → get_or t.entered.items at false ≡ true
  pub less : room t < room s

-- a step where this one leads that isn't done, if there is one
abbrev pub IsOpenWay : List Way → List ℕ → ℕ → Option ℕ → Type 0
IsOpenWay all heights at None = (to : ℕ) → Leads all at to → to < length all → 0 < get_or heights to 0
IsOpenWay all heights at (Some to) = Leads all at to × (to < length all) × (get_or heights to 0 ≡ 0)
