-- Places among the members of a set: what stands before a place, and the place of a datum.
use Rattle.std.specs.Prelude.{◌≡◌, ℕ, ◌≤◌, false, List, [], ◌∷◌, Some, length, take, drop}
use Rattle.std.specs.List.{AllByRecursion}
use Rattle.std.specs.Ordering.{is_lt}
use Rattle.std.specs.declared.cmp.Ordering.TheVariants.{Less}
use Rattle.setl_value.specs.declared.places.Cursor.{Cursor}
use Rattle.setl_value_pages.specs.Pages.{IsIn, rank_in}
use Rattle.setl_value.specs.code.Body.{Body}
use Rattle.setl_value.specs.Datum.{Datum, tuple_of}
use Rattle.setl_value.specs.Order.{datum_cmp}

-- a place of the set, at a member or after the last one
unfoldable pub HasPlace : Body → Cursor → Type 0
HasPlace b c = IsIn b.pages c.page c.index

-- how many members stand before it
unfoldable pub rank : Body → Cursor → ℕ
rank b c = rank_in b.pages c.page c.index

-- the first i members are below d, and d is below the others
pub record IsPlace (d : Datum) (ds : List Datum) (i : ℕ) : Type 0 where
  pub within : i ≤ length ds
  pub before : AllByRecursion (λ e. datum_cmp e d ≡ Less) (take i ds)
  pub after : AllByRecursion (λ e. datum_cmp d e ≡ Less) (drop i ds)

-- the first i members are below d, and none of the others is
pub record IsBound (d : Datum) (ds : List Datum) (i : ℕ) : Type 0 where
  pub within : i ≤ length ds
  pub before : AllByRecursion (λ e. datum_cmp e d ≡ Less) (take i ds)
  pub after : AllByRecursion (λ e. is_lt (datum_cmp e d) ≡ false) (drop i ds)

-- the first low members are below d, and none of those from high on is
pub record IsBetween (d : Datum) (ds : List Datum) (low high : ℕ) : Type 0 where
  pub ordered : low ≤ high
  pub within : high ≤ length ds
  pub before : AllByRecursion (λ e. datum_cmp e d ≡ Less) (take low ds)
  pub after : AllByRecursion (λ e. is_lt (datum_cmp e d) ≡ false) (drop high ds)

-- the tuple of x alone, which stands before all pairs whose first part is x and behind those of smaller ones
abbrev pub point : Datum → Datum
point x = tuple_of (Some x ∷ [])
