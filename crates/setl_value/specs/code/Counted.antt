-- What the body of a set keeps beside its pages.
use Rattle.std.specs.Prelude.{◌≡◌, ℕ, List, length}
use Rattle.std.specs.List.{AllByRecursion}
use Rattle.setl_value_pages.specs.Pages.{IsPage, joined}
use Rattle.setl_value.specs.Datum.{Datum, depth, set_of}
use Rattle.setl_value.specs.Pairs.{other_count}
use Rattle.setl_value.specs.WellFormed.{IsSetList}

-- each page has 1 to 64 members, all members are those of a set, and they are counted
pub record IsCounted (ps : List (List Datum)) (count deep others : ℕ) : Type 0 where
  pub pages : AllByRecursion IsPage ps
  pub members : IsSetList (joined ps)
  pub counted : count ≡ length (joined ps)
  pub deepest : deep ≡ depth (set_of (joined ps))
  pub no_pairs : others ≡ other_count (joined ps)
