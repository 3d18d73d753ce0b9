-- What a closure that is handed a content in place makes of it.
use Rattle.std.specs.Prelude.{◌≡◌, ℕ, Some}
use Rattle.std.specs.Borrow.{MutBor}
use Rattle.std.specs.Fn.{Once, FnOnceReturnsAtMut}
use Rattle.setl_rep_forms.specs.declared.held.Held.{Held}
use Rattle.setl_rep_forms.specs.Form.{Form, Entries}
use Rattle.setl_rep_forms.specs.FormOf.{form}
use Rattle.setl_rep_tables.specs.Tables.{content_in}
use Rattle.setl_rep_maps.specs.Contents.{content_of, PutsContent}
use Rattle.setl_rep_maps.specs.code.Entries.{PutsEntry}

module _ {F R : Type 0} (g : Once F (MutBor Held × Unit {0}) (R × (MutBor Held × Unit {0}))) (f : F) where
  -- a call at a content with the form of the one that the map had at the number n answered r, and the map has there what it
  -- left; where that has the form that was there, so has the map
  pub record ChangesContent (n : ℕ) (r : R) (old new : Form) : Type 0 where
    pub before : Held
    pub after : Held
    pub was : content_of old n ≡ Some (form before)
    pub met : FnOnceReturnsAtMut g f before r after
    pub put : PutsContent n (Some (form after)) old new
    pub same : form after ≡ form before → new ≡ old

  -- the same for the entries of a table
  pub record ChangesEntry (n : ℕ) (r : R) (old new : Entries) : Type 0 where
    pub before : Held
    pub after : Held
    pub was : content_in old n ≡ Some (form before)
    pub met : FnOnceReturnsAtMut g f before r after
    pub put : PutsEntry n (Some (form after)) old new
    pub same : form after ≡ form before → new ≡ old
