-- What a closure that is handed a value in place makes of it.
use Rattle.std.specs.Prelude.{◌≡◌, ℕ, ◌≤◌, ◌<◌, List, slice_set}
use Rattle.std.specs.Borrow.{MutBor}
use Rattle.std.specs.Fn.{Once, FnOnceReturnsAtMut}
use Rattle.setl_value_pages.specs.Pages.{page_at}
use Rattle.setl_value.specs.declared.Value.{Value}
use Rattle.setl_value.specs.Datum.{Datum, depth}
use Rattle.setl_value.specs.Pairs.{pair}
use Rattle.setl_value.specs.code.DatumOf.{datum}

module _ {F R : Type 0} (g : Once F (MutBor Value × Unit {0}) (R × (MutBor Value × Unit {0}))) (f : F) where
  -- a call at a value that stands for d may answer r and leave one that stands for e
  pub record Leaves (d : Datum) (r : R) (e : Datum) : Type 0 where
    pub before : Value
    pub after : Value
    pub was : datum before ≡ d
    pub met : FnOnceReturnsAtMut g f before r after
    pub is : datum after ≡ e

  -- each such call leaves a datum with P
  abbrev pub AlwaysLeaves : Datum → (Datum → Type 0) → Type 0
  AlwaysLeaves d P = (r : R) (e : Datum) → Leaves d r e → P e

  -- each such call leaves a datum that is at least as deep, and below a bound
  abbrev pub Grows : Datum → ℕ → Type 0
  Grows d bound = AlwaysLeaves d (λ e. (depth d ≤ depth e) × (depth e < bound))

  -- such a call changed the second part of a pair, which then is e
  pub record ChangesPair (d : Datum) (r : R) (e : Datum) : Type 0 where
    pub first : Datum
    pub old : Datum
    pub new : Datum
    pub was : d ≡ pair first old
    pub left : Leaves old r new
    pub is : e ≡ pair first new

  -- where d is a pair, each call at its second part leaves one that isn't too deep for a member
  abbrev pub PairGrows : Datum → Type 0
  PairGrows d = (x y : Datum) → d ≡ pair x y → Grows y 499

  -- each such call at the second part of the pair d leaves a pair with P
  abbrev pub AlwaysChanges : Datum → (Datum → Type 0) → Type 0
  AlwaysChanges d P = (r : R) (e : Datum) → ChangesPair d r e → P e

-- the pages after m takes the place of the i-th member of the k-th page
abbrev pub with_member : List (List Datum) → ℕ → ℕ → Datum → List (List Datum)
with_member ps k i m = slice_set ps k (slice_set (page_at ps k) i m)
