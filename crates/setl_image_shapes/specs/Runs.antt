-- Stacks of kinds in one table: each is a run of one kind on a stack that was made before.
use Rattle.std.specs.Prelude.{◌≡◌, ℕ, zero, suc, ◌<◌, Bool, true, false, List, [], ◌∷◌, ◌++◌, length, get_or, Option, Some, None, refl}
use Rattle.std.specs.Coded.{Coded, code_by, coded_ℕ}
use Rattle.setl_code.specs.Shapes.{Kind, AResult, ACollection, AnIterator, APairIterator, Shape, without_results, without_levels}
use Rattle.setl_image_shapes.specs.declared.stacks.Kind as rust
use Rattle.setl_image_shapes.specs.declared.stacks.Kind.TheVariants as kind
use Rattle.setl_image_shapes.specs.declared.stacks.Run.{Run}
use Rattle.setl_image_shapes.specs.declared.stacks.Part.{Part}

-- ---- kinds

abbrev pub plain_kind : rust.Kind → Kind
plain_kind kind.Value = AResult
plain_kind kind.Collection = ACollection
plain_kind kind.Iterator = AnIterator
plain_kind kind.PairIterator = APairIterator

abbrev kind_number : Kind → ℕ
kind_number AResult = 0
kind_number ACollection = 1
kind_number AnIterator = 2
kind_number APairIterator = 3

abbrev kind_numbered : ℕ → Kind
kind_numbered zero = AResult
kind_numbered (suc zero) = ACollection
kind_numbered (suc (suc zero)) = AnIterator
kind_numbered (suc (suc (suc n))) = APairIterator

pub kind_back : (k : Kind) → kind_numbered (kind_number k) ≡ k
kind_back AResult = refl
kind_back ACollection = refl
kind_back AnIterator = refl
kind_back APairIterator = refl

-- a kind is stored as a number
abbrev pub kind_code : Coded Kind
kind_code = code_by ℕ coded_ℕ kind_number kind_numbered kind_back

-- whether it is an iterator of either kind
abbrev pub is_level : Kind → Bool
is_level AResult = false
is_level ACollection = false
is_level AnIterator = true
is_level APairIterator = true

-- ---- stacks

-- so many of a kind on a stack
abbrev pub on : Kind → ℕ → Shape → Shape
on k zero s = s
on k (suc n) s = k ∷ on k n s

-- the stacks that runs make, behind those that stand already
abbrev pub made : List Shape → List Run → List Shape
made found [] = found
made found (r ∷ rs) = made (found ++ on (plain_kind r.kind) r.count (get_or found r.below []) ∷ []) rs

-- each run has a length and stands on a stack made before, where so many stand already
abbrev pub AreMade : ℕ → List Run → Type 0
AreMade n [] = Unit {0}
AreMade n (r ∷ rs) = (0 < r.count) × (r.below < n) × AreMade (suc n) rs

-- ---- what becomes of them

-- the stacks that were there are there
abbrev pub Grown : List Shape → List Shape → Type 0
Grown old new = (k : ℕ) → k < length old → (k < length new) × (get_or new k [] ≡ get_or old k [])

-- the stack of this number is the shape
abbrev pub IsAt : List Shape → ℕ → Shape → Type 0
IsAt stacks k s = (k < length stacks) × (get_or stacks k [] ≡ s)

-- the number of the shape's stack is found, if there is a shape
abbrev pub Finds : List Shape → Option ℕ → Option Shape → Type 0
Finds stacks None shape = shape ≡ None
Finds stacks (Some k) shape = (k < length stacks) × (shape ≡ Some (get_or stacks k []))

-- a stack as a run on another one, if it isn't empty
abbrev pub IsTop : List Shape → ℕ → Option Run → Type 0
IsTop stacks k None = (k ≡ 0) × (get_or stacks k [] ≡ [])
IsTop stacks k (Some r) = (0 < r.count) × (r.below < length stacks) × (get_or stacks k [] ≡ on (plain_kind r.kind) r.count (get_or stacks r.below []))

-- without so many results, or iterators, on top
abbrev pub without : Bool → ℕ → Shape → Option Shape
without true = without_levels
without false = without_results

-- parts on a stack, the first one on top
abbrev pub laid : List Part → Shape → Shape
laid [] s = s
laid (p ∷ ps) s = on (plain_kind p.kind) p.count (laid ps s)
