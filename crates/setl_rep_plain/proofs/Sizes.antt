-- How large forms are: the measure of the walk.
use Rattle.std.proofs.Common.{◌≡◌, ℕ, Bool, ◌+◌, ◌≤◌, ◌⊎◌, ⊎_elim, arith, ap, subst}
use Rattle.setl_rep_bases.specs.Bases.{BasesState}
use Rattle.setl_base.specs.Base.{BaseState}
use Rattle.setl_rep_forms.specs.Form.{Form, table, Entries, no_entry, entry_then}
use Rattle.setl_rep_forms.specs.Stands.{AreOver}
use Rattle.setl_rep_plain.specs.Entries.{IsEntryOver}

abbrev mutual
  pub size : Form → ℕ
  size (table layout base many es) = sizes es + 3
  size f = 0

  pub sizes : Entries → ℕ
  sizes no_entry = 0
  sizes (entry_then n c es) = size c + sizes es

-- the number n has the content c in one of the entries
abbrev pub IsEntry : Entries → ℕ → Form → Type 0
IsEntry no_entry n c = ⊥
IsEntry (entry_then k d es) n c = ((k ≡ n) × (d ≡ c)) ⊎ IsEntry es n c

pub entry_size : (es : Entries) (n : ℕ) (c : Form) → IsEntry es n c → size c ≤ sizes es
entry_size no_entry n c e = absurd e
entry_size (entry_then k d es) n c e = ⊎_elim (λ s. omega (arith, ap size s.1)) (λ r. omega (arith, entry_size es n c r)) e

pub entry_over : (bs : BasesState) (b : BaseState) (many : Bool) (es : Entries) (n : ℕ) (c : Form) → AreOver bs b many es → IsEntry es n c → IsEntryOver bs b many n c
entry_over bs b many no_entry n c o e = absurd e
entry_over bs b many (entry_then k d es) n c o e =
    ⊎_elim
    (λ s. subst (λ m. IsEntryOver bs b many m c) s.0 (subst (IsEntryOver bs b many k) s.1 (o.0, o.1, o.2)))
    (λ r. entry_over bs b many es n c o.3 r)
    e
