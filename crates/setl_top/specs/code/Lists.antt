-- What becomes of a listing that is to be written.
use Rattle.std.specs.Prelude.{◌≡◌, ℕ, List}
use Rattle.setl_tree.specs.declared.tree.Tree.{Tree}
use Rattle.setl_top_status.specs.Seen.{Seen, SeenFiles, LoadsOnce}
use Rattle.setl_top_status.specs.code.Writes.{Written}
use Rattle.setl_top_status.specs.declared.status.Status.{Status}
use Rattle.setl_top.specs.Listings.{IsListing}
use Rattle.setl_top.specs.code.Loads.{Loaded, NotLoaded}

-- the listing of a tree's program was to be written to the output
pub record WritesListing (tree : Tree) (out out' err err' : Seen (List ℕ)) (ends : Status) : Type 0 where
  pub text : List ℕ
  pub is_listing : IsListing tree text
  pub written : Written text out out' err err' ends

-- what a listing of a file does, by what is seen of the files, of the output and of the error output before and after
pub data Lists (name : List ℕ) (files files' : SeenFiles) (out out' err err' : Seen (List ℕ)) : Status → Type 0 where
  listed_so : (tree : Tree) (ends : Status) → Loaded files.held name tree → LoadsOnce name files files' → WritesListing tree out out' err err' ends → Lists name files files' out out' err err' ends
  not_listed : (ends : Status) → NotLoaded name files files' err err' ends → out' ≡ out → Lists name files files' out out' err err' ends
