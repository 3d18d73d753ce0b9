-- What later calls do to a base, and that a number that `back` frees comes again only with a higher generation.
use Rattle.std.specs.Prelude.{◌≡◌, ℕ, ◌<◌, ◌≤◌, List, [], ◌∷◌, map, length, Some, None}
use Rattle.setl_value.specs.Datum.{Datum}
use Rattle.setl_base.specs.declared.Elt.{Elt}
use Rattle.setl_base.specs.Base.{BaseState, IsBase, IsLiving, value_of, entered, cut_back, undone}

-- what a call that changes a base does to it
pub data Change : Type 0 where
  enter : Datum → Change
  back : ℕ → Change
  undo : ℕ → Change

abbrev pub changed : BaseState → Change → BaseState
changed b (enter d) = entered b d
changed b (back n) = cut_back b n
changed b (undo n) = undone b n

-- the base after these changes
abbrev pub later : BaseState → List Change → BaseState
later b [] = b
later b (x ∷ xs) = later (changed b x) xs

-- ---- what one change leaves

-- entering a value leaves every living block
abbrev pub EnteringKeeps : Type 0
EnteringKeeps = (b : BaseState) (d : Datum) (e : Elt) (x : Datum) → value_of b e ≡ Some x → value_of (entered b d) e ≡ Some x

-- after values were entered, `undo` to the number of members before them gives the base before them
abbrev pub UndoGivesBack : Type 0
UndoGivesBack =
    (b : BaseState) (ds : List Datum) → (length b.members ≤ length (later b (map enter ds)).members) × (undone (later b (map enter ds)) (length b.members) ≡ b)

-- both cuts to n members leave the blocks up to n and end the others
abbrev pub CutsKeepTheFront : Type 0
CutsKeepTheFront =
    (b : BaseState) (n : ℕ) (e : Elt) → (e.block ≤ n → (value_of (cut_back b n) e ≡ value_of b e) × (value_of (undone b n) e ≡ value_of b e)) × (n < e.block → (value_of (cut_back b n) e ≡ None) × (value_of (undone b n) e ≡ None))

-- ---- what all later changes leave

-- whatever follows a `back` to n members, a block with the number of a block e that it cut has a higher generation than e
abbrev pub NumbersRise : Type 0
NumbersRise =
    (b : BaseState) (n : ℕ) (changes : List Change) (e f : Elt) → IsBase b → IsLiving b e → n < e.block → IsLiving (later (cut_back b n) changes) f → f.block ≡ e.block → e.generation < f.generation

-- a handle whose block `back` cut never names a living block again
abbrev pub HandlesEnd : Type 0
HandlesEnd =
    (b : BaseState) (n : ℕ) (changes : List Change) (e : Elt) → IsBase b → IsLiving b e → n < e.block → ¬ IsLiving (later (cut_back b n) changes) e
