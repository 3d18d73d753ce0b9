-- Tables of shapes, and the walk that finds one.
use Rattle.std.specs.Prelude.{◌≡◌, ℕ, suc, ◌+◌, ◌*◌, ◌<◌, ◌≤◌, ◌⊎◌, Bool, true, false, List, [], ◌∷◌, ◌++◌, length, map, get_or, slice_get, slice_set, Option, Some, None, option_map}
use Rattle.std.specs.List.{Contains, sum_by}
use Rattle.setl_code.specs.Shapes.{Shape}
use Rattle.setl_code.specs.Sound.{Table, shape_at, says, all_said, is_fine}
use Rattle.setl_image_shapes.specs.declared.effect.Effect.{Effect}
use Rattle.setl_image_shapes.specs.declared.walk.Walk.{Walk}
use Rattle.setl_image_shapes.specs.Joins.{collections}
use Rattle.setl_image_shapes.specs.Effects.{leads}
use Rattle.setl_image_shapes.specs.Runs.{Grown}

-- the table tells no lack at this step, and tells the shapes where the step leads
abbrev pub IsClosed : List Effect → Table → ℕ → Type 0
IsClosed effects table at = (e : Effect) (s : Shape) → slice_get effects at ≡ Some e → shape_at table at ≡ Some s → is_fine table (leads e (suc at) s) ≡ true

-- A table of shapes that each step keeps.
pub record IsTable (effects : List Effect) (table : Table) : Type 0 where
  pub whole : length table ≡ length effects
  pub starts : shape_at table 0 ≡ Some []
  pub fine : (at : ℕ) → IsClosed effects table at

-- ---- the walk

-- each shape that the first table says serves where the second one says a shape
abbrev pub Serve : Table → Table → Type 0
Serve table other = (at : ℕ) (s : Shape) → shape_at table at ≡ Some s → says (shape_at other at) s ≡ true

abbrev pub one_if_none : Option Shape → ℕ
one_if_none None = 1
one_if_none (Some s) = 0

-- how many steps aren't reached
abbrev pub unreached : Table → ℕ
unreached table = sum_by one_if_none table

-- each step that is reached adds at most one collection
abbrev pub FewBegun : Table → Type 0
FewBegun table = (at : ℕ) (s : Shape) → shape_at table at ≡ Some s → collections s + unreached table ≤ length table

abbrev pub FewMore : Table → List (ℕ × Shape) → Type 0
FewMore table [] = Unit {0}
FewMore table (o ∷ os) = (collections o.1 + unreached table ≤ suc (length table)) × FewMore table os

abbrev pub weight : ℕ → Option Shape → ℕ
weight n None = suc n
weight n (Some s) = collections s

-- what is left to do
abbrev pub room : Table → List ℕ → ℕ
room table pending = 2 * sum_by (weight (length table)) table + length pending

-- The shapes arrived at their steps. A step whose shape became another one is pending.
pub record Arrived (table : Table) (pending : List ℕ) (outs : List (ℕ × Shape)) (table' : Table) (pending' : List ℕ) : Type 0 where
  pub size : length table' ≡ length table
  pub said : all_said table' outs ≡ true
  pub weaker : (at : ℕ) (s : Shape) → says (shape_at table at) s ≡ true → says (shape_at table' at) s ≡ true
  pub stays : (at : ℕ) → (Contains pending' at → ⊥) → shape_at table' at ≡ shape_at table at
  pub kept : (at : ℕ) → Contains pending at → Contains pending' at
  pub inside : (at : ℕ) → Contains pending' at → Contains pending at ⊎ (at < length table)
  pub fewer : unreached table' ≤ unreached table
  pub few : FewBegun table → FewMore table outs → FewBegun table' × (room table' pending' ≤ room table pending)
  pub serve : (other : Table) → Serve table other → all_said other outs ≡ true → Serve table' other

-- No table that these shapes serve says them there.
abbrev pub Refused : Table → List (ℕ × Shape) → Type 0
Refused table outs = (other : Table) → length other ≡ length table → Serve table other → all_said other outs ≡ true → ⊥

-- the shapes that were found
abbrev pub table_of : List Shape → List (Option ℕ) → Table
table_of stacks found = map (option_map (λ k. get_or stacks k [])) found

-- each number is that of a stack
abbrev pub AreThere : List Shape → List (Option ℕ) → Type 0
AreThere stacks found = (at k : ℕ) → get_or found at None ≡ Some k → k < length stacks

-- The walk goes on over a table: each step is pending or closed.
pub record Going (effects : List Effect) (table : Table) (rest : List ℕ) : Type 0 where
  pub size : length table ≡ length effects
  pub pending : (at : ℕ) → Contains rest at → at < length effects
  pub starts : says (shape_at table 0) [] ≡ true
  pub closed : (at : ℕ) → (Contains rest at → ⊥) → IsClosed effects table at
  pub few : FewBegun table
  pub serve : (other : Table) → IsTable effects other → Serve table other

-- the shapes arrived, or no table says them
abbrev pub Comes : Bool → Table → List ℕ → List (ℕ × Shape) → Table → List ℕ → Type 0
Comes true table pending outs table' pending' = Arrived table pending outs table' pending'
Comes false table pending outs table' pending' = Refused table outs

-- a step has another stack, and is pending
pub record Changed (w : Walk) (to number : ℕ) (v : Walk) : Type 0 where
  pub stacks : v.stacks ≡ w.stacks
  pub found : v.found.items ≡ slice_set w.found.items to (Some number)
  pub pending : v.pending.items ≡ w.pending.items ++ to ∷ []

-- the same for the walk, whose stacks stay
abbrev pub Came : Bool → Walk → List (ℕ × Shape) → Walk → Type 0
Came so w outs v = AreThere v.stacks v.found.items × Grown w.stacks v.stacks × Comes so (table_of w.stacks w.found.items) w.pending.items outs (table_of v.stacks v.found.items) v.pending.items

-- the walk goes on with less left to do, or there is no table
abbrev pub GoesOn : Bool → List Effect → Walk → Walk → Type 0
GoesOn true effects w v = AreThere v.stacks v.found.items × Going effects (table_of v.stacks v.found.items) v.pending.items × (room (table_of v.stacks v.found.items) v.pending.items ≤ room (table_of w.stacks w.found.items) w.pending.items)
GoesOn false effects w v = (table : Table) → IsTable effects table → ⊥

-- there is a table, or there is none
abbrev pub HasTable : Bool → List Effect → Type 0
HasTable true effects = (table : Table) × IsTable effects table
HasTable false effects = (table : Table) → IsTable effects table → ⊥
