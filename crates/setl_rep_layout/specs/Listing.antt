-- Lists of the numbers that pass a test.
use Rattle.std.specs.Prelude.{◌≡◌, ℕ, nat_eq, Bool, List, is_some}
use Rattle.std.specs.List.{list_any}
use Rattle.std.specs.List.Sorted.{IsStrictlyIncreasing}
use Rattle.setl_rep_forms.specs.Form.{Form}
use Rattle.setl_rep_maps.specs.Contents.{content_of}

-- the list rises and has each number that passes the test, and no other
pub record ListsExactly (test : ℕ → Bool) (ns : List ℕ) : Type 0 where
  pub rising : IsStrictlyIncreasing ns
  pub members : (n : ℕ) → list_any (nat_eq n) ns ≡ test n

-- whether a map has a content at a number
abbrev pub has_content : Form → ℕ → Bool
has_content f n = is_some (content_of f n)
