-- What a closure makes of the part at one selector in place. No public clause cites this module.
use Rattle.std.specs.Prelude.{◌≡◌, ◌<◌, ◌≤◌, ◌+◌, max, ℕ, ℤ, pos, int_le, true, false, List, [], ◌∷◌, Option, Some, Result, Ok, slice_get}
use Rattle.std.specs.Borrow.{MutBor}
use Rattle.std.specs.Fn.{Once}
use Rattle.setl_value.specs.declared.Value.{Value}
use Rattle.setl_value.specs.Datum.{Datum, depth}
use Rattle.setl_value.specs.code.Changing.{Leaves}
use Rattle.setl_tuple.specs.Tuples.{index_of}
use Rattle.setl_operators_table.specs.declared.OpFault.{OpFault}
use Rattle.setl_operators_table.specs.declared.Taken.{Taken}
use Rattle.setl_program.specs.declared.kinds.Taking.{Taking}
use Rattle.setl_operators_table.specs.declared.Operator.{Operator}
use Rattle.setl_operators_table.specs.declared.Operator.TheVariants.{Less}
use Rattle.setl_operators_table.specs.Operators.{op_of}
use Rattle.setl_operators_table.specs.Outcome.{Gives, value}
use Rattle.setl_model.specs.Core.{Round, Brace}
use Rattle.setl_model.specs.Places.{combined, part_of, take_out, with_part_at}
use Rattle.setl_machine_updates.specs.Parts.{TakesOne}
use Rattle.setl_machine_updates.specs.Updates.{Updates}

module _ {F R : Type 0} (g : Once F (MutBor Value × Unit {0}) (R × (MutBor Value × Unit {0}))) (change : F) where
  -- the whole has a value at x, and a call of the closure changed it; where that is as before, so is the whole
  pub record ChangesPart (x whole : Datum) (r : R) (now : Datum) (IsSame : Type 0) : Type 0 where
    pub old : Datum
    pub new : Datum
    pub there : (left : ℕ) → part_of (Round (Some x)) (Some whole) left ≡ Gives (Some old) 0
    pub left : Leaves g change old r new
    pub written : (left : ℕ) → with_part_at (Round (Some x)) (Some whole) (Some new) left ≡ value now
    pub same : new ≡ old → IsSame

  -- a call of the closure changed a part of the whole, which is then at least as deep as before, and no deeper than it and a tuple
  -- of the new part
  pub record Deepens (whole : Datum) (r : R) (now : Datum) : Type 0 where
    pub old : Datum
    pub new : Datum
    pub left : Leaves g change old r new
    pub inside : depth old < depth whole
    pub deeper : depth whole ≤ depth now
    pub bound : depth now ≤ max (depth whole) (depth new + 1)

-- the part at x is combined with a value, where that is what the whole is now
pub record CombinesAt (o : Operator) (x y : Datum) (turns : ℕ) (whole now : Datum) (r : Result ℕ OpFault) : Type 0 where
  pub updates : Updates (combined (Round (Some x) ∷ []) (Some whole) (λ p left. op_of o (p ∷ Some y ∷ []) left) turns) turns (Some now) r

-- the images of a point combined with one datum are what they are combined with another
abbrev pub CombinesAlike : Operator → Datum → Operator → Datum → Type 0
CombinesAlike o d p e =
    (whole : Option Datum) (x : Datum) (left : ℕ)
    → combined (Brace (Some x) ∷ []) whole (λ v now. op_of o (v ∷ Some d ∷ []) now) left ≡ combined (Brace (Some x) ∷ []) whole (λ v now. op_of p (v ∷ Some e ∷ []) now) left

-- a set without a member
pub record IsLessened (d old new : Datum) : Type 0 where
  pub given : (left : ℕ) → op_of Less (Some old ∷ Some d ∷ []) left ≡ value new

-- a value was taken out of a set or a tuple, or it is empty and as before
pub record IsTakenOut (end : Taking) (old new : Datum) (t : Taken) : Type 0 where
  pub taken : TakesOne (take_out end (Some old)) (Some new) (Ok t)
  pub empty : t.stored ≡ false → new ≡ old

-- at a place, counted from 1, a component stands, at this index, that is at most 498 deep
pub record IsShallowAt (t : List (Option Datum)) (place : ℤ) (i : ℕ) : Type 0 where
  pub component : Datum
  pub from_one : int_le (pos 1) place ≡ true
  pub at : index_of place ≡ i
  pub there : slice_get t i ≡ Some (Some component)
  pub shallow : depth component < 499
