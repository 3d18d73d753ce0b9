-- Tables as entries.
use Rattle.std.proofs.Common.{◌≡◌, ℕ, zero, suc, Bool, true, false, nat_eq, cond, List, [], ◌∷◌, map, Option, Some, None, refl, ap, sym, ◌∙◌}
use Rattle.std.specs.List.{AllByRecursion, IsDistinct}
use Rattle.std.specs.Map.{keys_of, lookup}
use Rattle.std.specs.Option.{option_map}
use Rattle.std.proofs.lemmas.Map.Keys.{IsDistinct-head, IsDistinct-tail}
use Rattle.setl_remote.specs.Slots.{slot_at, PutsSlot}
use Rattle.setl_sparse.specs.Entries.{content_at, Puts}
use Rattle.setl_rep_forms.specs.declared.held.Held.{Held}
use Rattle.setl_rep_forms.specs.Form.{Entries, entries_of, slots_from}
use Rattle.setl_rep_forms.specs.FormOf.{form}
use Rattle.setl_rep_tables.specs.Tables.{content_in, IsKeyed, SlotsAreKeyed}
use Rattle.setl_rep_building.specs.Contents.{PutsEntry}

abbrev pub sparse_entries : List (ℕ × Held) → Entries
sparse_entries es = entries_of (map (λ e. (e.0, form e.1)) es)

abbrev pub remote_entries : List (Option Held) → Entries
remote_entries cs = slots_from 0 (map (option_map form) cs)

-- ---- sparse

contents : (es : List (ℕ × Held)) (n : ℕ) → content_in (sparse_entries es) n ≡ option_map form (lookup (nat_eq n) es)
contents [] n = refl
contents (e ∷ es) n = by (nat_eq n e.0) (contents es n)
  where
    by : (t : Bool) → content_in (sparse_entries es) n ≡ option_map form (lookup (nat_eq n) es) → cond t (Some (form e.1)) (content_in (sparse_entries es) n) ≡ option_map form (cond t (Some e.1) (lookup (nat_eq n) es))
    by true h = refl
    by false h = h

absent : (es : List (ℕ × Held)) (n : ℕ) → AllByRecursion (λ y. nat_eq n y ≡ false) (keys_of es) → content_in (sparse_entries es) n ≡ None
absent [] n h = refl
absent (e ∷ es) n h = ap (λ t. cond t (Some (form e.1)) (content_in (sparse_entries es) n)) h.0 ∙ absent es n h.1

pub sparse_keyed : (es : List (ℕ × Held)) → IsDistinct nat_eq (keys_of es) → IsKeyed (sparse_entries es)
sparse_keyed [] d = tt
sparse_keyed (e ∷ es) d = (absent es e.0 (IsDistinct-head nat_eq e.0 (keys_of es) d), sparse_keyed es (IsDistinct-tail nat_eq e.0 (keys_of es) d))

-- a content that is put, by what is found before and after
put_found : (f : ℕ → Option Held) (g : ℕ → Option Held) (n : ℕ) (c : Held) (q : ℕ) → g q ≡ cond (nat_eq n q) (Some c) (f q) → option_map form (g q) ≡ cond (nat_eq n q) (Some (form c)) (option_map form (f q))
put_found f g n c q h = ap (option_map form) h ∙ by (nat_eq n q)
  where
    by : (t : Bool) → option_map form (cond t (Some c) (f q)) ≡ cond t (Some (form c)) (option_map form (f q))
    by true = refl
    by false = refl

pub sparse_put : (old new : List (ℕ × Held)) (n : ℕ) (c : Held) → Puts n (Some c) old new → PutsEntry n (form c) (sparse_entries old) (sparse_entries new)
sparse_put old new n c h q = contents new q ∙ put_found (content_at old) (content_at new) n c q (h q) ∙ ap (cond (nat_eq n q) (Some (form c))) (sym (contents old q))

-- ---- remote

slots : (cs : List (Option Held)) (n : ℕ) → slot_at (map (option_map form) cs) n ≡ option_map form (slot_at cs n)
slots [] n = refl
slots (c ∷ cs) zero = refl
slots (c ∷ cs) (suc n) = slots cs n

pub remote_put : SlotsAreKeyed → (old new : List (Option Held)) (n : ℕ) (c : Held) → PutsSlot n (Some c) old new → PutsEntry n (form c) (remote_entries old) (remote_entries new)
remote_put keyed old new n c h q =
    (keyed (map (option_map form) new)).1 q ∙ slots new q ∙ put_found (slot_at old) (slot_at new) n c q (h q)
    ∙ ap (cond (nat_eq n q) (Some (form c))) (sym (slots old q) ∙ sym ((keyed (map (option_map form) old)).1 q))
