-- Values in their forms over bases, as contracts see them. Element blocks, bases and the forms based on them are those of
-- the data representation sublanguage (Schwartz, Dewar, Dubinsky and Schonberg, Programming with Sets, 1986).
use Rattle.std.specs.Prelude.{ℕ, ◌+◌, Bool, List, [], ◌∷◌, Option, Some, None}
use Rattle.std.specs.Ordering.{nat_cmp}
use Rattle.std.specs.FinSet as set
use Rattle.setl_value.specs.Datum.{Datum}
use Rattle.setl_base.specs.declared.Elt.{Elt}
use Rattle.setl_rep_bases.specs.declared.BaseId.{BaseId}

-- where the numbers of a set or map lie
pub data Layout : Type 0 where
  remote sparse : Layout

mutual
  -- A value, or `om`, in its form. A set is held as the numbers of its members' blocks, a map as a content for each
  -- number, a tuple as handles. `many` says that a content stands for the set of a point's images.
  pub data Form : Type 0 where
    om : Form
    plain : Datum → Form
    element : (base : BaseId) → Elt → Form
    numbers : Layout → (base : BaseId) → set.FinSet nat_cmp → Form
    table : Layout → (base : BaseId) → (many : Bool) → Entries → Form
    handles : (base : BaseId) → List (Option Elt) → Form

  -- the contents of a map, each with its number
  pub data Entries : Type 0 where
    no_entry : Entries
    entry_then : ℕ → Form → Entries → Entries

-- the contents of these slots, the first of which has the number n
abbrev pub slots_from : ℕ → List (Option Form) → Entries
slots_from n [] = no_entry
slots_from n (None ∷ cs) = slots_from (n + 1) cs
slots_from n (Some c ∷ cs) = entry_then n c (slots_from (n + 1) cs)

abbrev pub entries_of : List (ℕ × Form) → Entries
entries_of [] = no_entry
entries_of (e ∷ es) = entry_then e.0 e.1 (entries_of es)
