-- The contents of slots and sparse tables, as entries.
use Rattle.std.proofs.Common.{◌≡◌, ℕ, zero, suc, inl, inr, Bool, true, false, nat_eq, cond, List, [], ◌∷◌, map, Option, Some, None, refl, ap, sym, subst, ◌∙◌}
use Rattle.std.specs.Prelude.{option_copied, ◌⊎◌, OnErr, Result, Ok, Err}
use Rattle.std.specs.Borrow.{Bor}
use Rattle.std.specs.declared.rc.Rc.{Rc}
use Rattle.std.specs.declared.alloc.Global.{Global}
use Rattle.std.specs.List.{AllByRecursion, IsDistinct}
use Rattle.std.specs.Map.{keys_of, lookup}
use Rattle.std.specs.Option.{option_map}
use Rattle.std.proofs.lemmas.Map.Keys.{IsDistinct-head, IsDistinct-tail}
use Rattle.setl_remote.specs.Slots.{slot_at, PutsSlot, IsSlotCopy, AreSlotCopies}
use Rattle.setl_sparse.specs.Entries.{content_at, Puts, AreCopies}
use Rattle.setl_rep_forms.specs.declared.held.Held.{Held}
use Rattle.setl_rep_forms.specs.declared.held.Held.TheVariants.{RemoteMap, SparseMap}
use Rattle.setl_rep_forms.specs.Form.{Form, entries_of, slots_from, table, remote, sparse}
use Rattle.setl_rep_forms.specs.FormOf.{form, of_remote_map, of_sparse_map}
use Rattle.setl_rep_tables.specs.Tables.{content_in, IsKeyed, SlotsAreKeyed}
use Rattle.setl_rep_bases.specs.declared.BaseId.{BaseId}
use Rattle.setl_rep_maps.specs.Contents.{PutsContent}
use Rattle.setl_rep_maps.specs.code.Lent.{lent_form}
use Rattle.setl_rep_maps.specs.code.Entries.{sparse_entries, remote_entries, PutsEntry}

pub lent_is : (o : Option (Bor Held)) → lent_form o ≡ option_map form (option_copied o)
lent_is None = refl
lent_is (Some h) = refl

-- ---- sparse

pub contents : (es : List (ℕ × Held)) (n : ℕ) → content_in (sparse_entries es) n ≡ option_map form (lookup (nat_eq n) es)
contents [] n = refl
contents (e ∷ es) n = by (nat_eq n e.0) (contents es n)
  where
    by : (t : Bool) → content_in (sparse_entries es) n ≡ option_map form (lookup (nat_eq n) es) → cond t (Some (form e.1)) (content_in (sparse_entries es) n) ≡ option_map form (cond t (Some e.1) (lookup (nat_eq n) es))
    by true h = refl
    by false h = h

pub absent : (es : List (ℕ × Held)) (n : ℕ) → AllByRecursion (λ y. nat_eq n y ≡ false) (keys_of es) → content_in (sparse_entries es) n ≡ None
absent [] n h = refl
absent (e ∷ es) n h = ap (λ t. cond t (Some (form e.1)) (content_in (sparse_entries es) n)) h.0 ∙ absent es n h.1

pub sparse_keyed : (es : List (ℕ × Held)) → IsDistinct nat_eq (keys_of es) → IsKeyed (sparse_entries es)
sparse_keyed [] d = tt
sparse_keyed (e ∷ es) d = (absent es e.0 (IsDistinct-head nat_eq e.0 (keys_of es) d), sparse_keyed es (IsDistinct-tail nat_eq e.0 (keys_of es) d))

-- ---- remote

pub slots : (cs : List (Option Held)) (n : ℕ) → slot_at (map (option_map form) cs) n ≡ option_map form (slot_at cs n)
slots [] n = refl
slots (c ∷ cs) zero = refl
slots (c ∷ cs) (suc n) = slots cs n

-- ---- puts

pub at_err : {X Y P : Type 0} (r : Result X Y) → P → OnErr r P
at_err (Ok x) h = tt
at_err (Err y) h = h

-- a content that is put, or taken out, by what is found before and after
put_found : (f : ℕ → Option Held) (g : ℕ → Option Held) (n : ℕ) (c : Option Held) (q : ℕ) → g q ≡ cond (nat_eq n q) c (f q) → option_map form (g q) ≡ cond (nat_eq n q) (option_map form c) (option_map form (f q))
put_found f g n c q h = ap (option_map form) h ∙ by (nat_eq n q)
  where
    by : (t : Bool) → option_map form (cond t c (f q)) ≡ cond t (option_map form c) (option_map form (f q))
    by true = refl
    by false = refl

pub sparse_put : (old new : List (ℕ × Held)) (n : ℕ) (c : Option Held) → Puts n c old new → PutsEntry n (option_map form c) (sparse_entries old) (sparse_entries new)
sparse_put old new n c h q = contents new q ∙ put_found (content_at old) (content_at new) n c q (h q) ∙ ap (cond (nat_eq n q) (option_map form c)) (sym (contents old q))

pub remote_put : SlotsAreKeyed → (old new : List (Option Held)) (n : ℕ) (c : Option Held) → PutsSlot n c old new → PutsEntry n (option_map form c) (remote_entries old) (remote_entries new)
remote_put keyed old new n c h q =
    (keyed (map (option_map form) new)).1 q ∙ slots new q ∙ put_found (slot_at old) (slot_at new) n c q (h q)
    ∙ ap (cond (nat_eq n q) (option_map form c)) (sym (slots old q) ∙ sym ((keyed (map (option_map form) old)).1 q))

-- ---- clones

abbrev IsCloned : Held → Held → Type 0
IsCloned h copy = form copy ≡ form h

slot_cloned : (c d : Option Held) → IsSlotCopy IsCloned c d → option_map form d ≡ option_map form c
slot_cloned None None h = refl
slot_cloned None (Some d) h = absurd h
slot_cloned (Some c) None h = absurd h
slot_cloned (Some c) (Some d) h = ap Some h

slots_cloned : (cs ds : List (Option Held)) → AreSlotCopies IsCloned cs ds → map (option_map form) ds ≡ map (option_map form) cs
slots_cloned [] [] h = refl
slots_cloned [] (d ∷ ds) h = absurd h
slots_cloned (c ∷ cs) [] h = absurd h
slots_cloned (c ∷ cs) (d ∷ ds) h = ap (λ x. x ∷ map (option_map form) ds) (slot_cloned c d h.0) ∙ ap (λ l. option_map form c ∷ l) (slots_cloned cs ds h.1)

-- the slots themselves, or a clone of them
pub remote_cloned : (cs ds : List (Option Held)) → (ds ≡ cs) ⊎ AreSlotCopies IsCloned cs ds → remote_entries ds ≡ remote_entries cs
remote_cloned cs ds (inl h) = ap remote_entries h
remote_cloned cs ds (inr h) = ap (slots_from 0) (slots_cloned cs ds h)

abbrev formed : ℕ × Held → ℕ × Form
formed e = (e.0, form e.1)

entry_cloned : (e f : ℕ × Held) → (f.0 ≡ e.0) × IsCloned e.1 f.1 → formed f ≡ formed e
entry_cloned e f h =
    let same : (n k : ℕ) (c d : Form) → n ≡ k → c ≡ d → ◌≡◌ {A = ℕ × Form} (n, c) (k, d) = λ n k c d p q. subst (λ m. ◌≡◌ {A = ℕ × Form} (n, c) (m, d)) p (ap (λ x. let t : ℕ × Form = (n, x) in t) q) in
    same f.0 e.0 (form f.1) (form e.1) h.0 h.1

table_cloned : (es fs : List (ℕ × Held)) → AreCopies IsCloned es fs → map formed fs ≡ map formed es
table_cloned [] [] h = refl
table_cloned [] (f ∷ fs) h = absurd h
table_cloned (e ∷ es) [] h = absurd h
table_cloned (e ∷ es) (f ∷ fs) h = ap (λ x. x ∷ map formed fs) (entry_cloned e f h.0) ∙ ap (λ l. formed e ∷ l) (table_cloned es fs h.1)

pub sparse_cloned : (es fs : List (ℕ × Held)) → (fs ≡ es) ⊎ AreCopies IsCloned es fs → sparse_entries fs ≡ sparse_entries es
sparse_cloned es fs (inl h) = ap sparse_entries h
sparse_cloned es fs (inr h) = ap entries_of (table_cloned es fs h)

-- ---- maps with other entries

pub remote_same : (b : BaseId) (many : Bool) (old new : Rc (List (Option Held)) Global) → remote_entries new.value ≡ remote_entries old.value → form (RemoteMap b many new) ≡ form (RemoteMap b many old)
remote_same b many old new e = of_remote_map b many new ∙ ap (table remote b many) e ∙ sym (of_remote_map b many old)

pub sparse_same : (b : BaseId) (many : Bool) (old new : Rc (List (ℕ × Held)) Global) → sparse_entries new.value ≡ sparse_entries old.value → form (SparseMap b many new) ≡ form (SparseMap b many old)
sparse_same b many old new e = of_sparse_map b many new ∙ ap (table sparse b many) e ∙ sym (of_sparse_map b many old)

pub sparse_puts : (b : BaseId) (many : Bool) (n : ℕ) (c : Option Form) (old new : Rc (List (ℕ × Held)) Global) → PutsEntry n c (sparse_entries old.value) (sparse_entries new.value) → PutsContent n c (form (SparseMap b many old)) (form (SparseMap b many new))
sparse_puts b many n c old new h =
    subst (λ f. PutsContent n c f (form (SparseMap b many new))) (sym (of_sparse_map b many old))
    (subst (λ f. PutsContent n c (table sparse b many (sparse_entries old.value)) f) (sym (of_sparse_map b many new)) (refl, refl, refl, h))
