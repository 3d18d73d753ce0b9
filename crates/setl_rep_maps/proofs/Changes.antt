-- A content that is changed where it stands.
use Rattle.std.proofs.Common.{◌≡◌, ◌∙◌, ℕ, zero, suc, ◌+◌, Bool, true, false, nat_eq, eq-eqb, eqb-true, cond, List, [], ◌∷◌, map, Option, Some, None, refl, sym, ap, subst}
use Rattle.std.proofs.lemmas.Map.Keys.{IsDistinct-head, IsDistinct-tail}
use Rattle.std.proofs.lemmas.Bool.{false≢true}
use Rattle.std.specs.Prelude.{option_copied}
use Rattle.std.specs.Borrow.{Bor, MutBor}
use Rattle.std.specs.Fn.{Once, FnOnceReturnsAtMut}
use Rattle.std.specs.List.{AllByRecursion, IsDistinct}
use Rattle.std.specs.Map.{keys_of}
use Rattle.std.specs.declared.rc.Rc.{Rc}
use Rattle.std.specs.declared.alloc.Global.{Global}
use Rattle.std.specs.Option.{option_map, is_some}
use Rattle.setl_remote.specs.Slots.{slot_at, PutsSlot}
use Rattle.setl_sparse.specs.Entries.{content_at, Puts}
use Rattle.setl_rep_bases.specs.declared.BaseId.{BaseId}
use Rattle.setl_rep_forms.specs.declared.held.Held.{Held}
use Rattle.setl_rep_forms.specs.declared.held.Held.TheVariants.{RemoteMap, SparseMap}
use Rattle.setl_rep_forms.specs.Form.{Form, Entries, no_entry, entry_then, slots_from, table, remote, sparse}
use Rattle.setl_rep_forms.specs.FormOf.{form, of_remote_map, of_sparse_map}
use Rattle.setl_rep_tables.specs.Tables.{content_in, SlotsAreKeyed}
use Rattle.setl_rep_maps.specs.Contents.{content_of, PutsContent}
use Rattle.setl_rep_maps.specs.code.Changing.{ChangesContent, ChangesEntry}
use Rattle.setl_rep_maps.specs.code.Entries.{remote_entries, sparse_entries, PutsEntry}
use Rattle.setl_rep_maps.proofs.Entries.{contents, absent, slots, sparse_put, remote_put, remote_same, sparse_same}

-- ---- two puts at one number

module _ {T : Type 0} (f g h : ℕ → Option T) (n : ℕ) where
  put_again : (c d : Option T) → ((q : ℕ) → g q ≡ cond (nat_eq n q) c (f q)) → ((q : ℕ) → h q ≡ cond (nat_eq n q) d (g q)) → (q : ℕ) → h q ≡ cond (nat_eq n q) d (f q)
  put_again c d p r q = r q ∙ ap (cond (nat_eq n q) d) (p q) ∙ by (nat_eq n q)
    where
      by : (t : Bool) → cond t d (cond t c (f q)) ≡ cond t d (f q)
      by true = refl
      by false = refl

pub slot_put_again : (old mid new : List (Option Held)) (n : ℕ) (c d : Option Held) → PutsSlot n c old mid → PutsSlot n d mid new → PutsSlot n d old new
slot_put_again old mid new n c d = put_again (slot_at old) (slot_at mid) (slot_at new) n c d

pub content_put_again : (old mid new : List (ℕ × Held)) (n : ℕ) (c d : Option Held) → Puts n c old mid → Puts n d mid new → Puts n d old new
content_put_again old mid new n c d = put_again (content_at old) (content_at mid) (content_at new) n c d

-- ---- whether there is a content

none_there : {T : Type 0} (o : Option T) → is_some o ≡ false → o ≡ None
none_there None h = refl
none_there (Some x) h = absurd (false≢true (sym h))

formed_there : (o : Option Held) → is_some (option_map form o) ≡ is_some o
formed_there None = refl
formed_there (Some x) = refl

pub copied_there : (o : Option (Bor Held)) → is_some (option_copied o) ≡ is_some o
copied_there None = refl
copied_there (Some x) = refl

slot_in : SlotsAreKeyed → (cs : List (Option Held)) (n : ℕ) → content_in (remote_entries cs) n ≡ option_map form (slot_at cs n)
slot_in keyed cs n = (keyed (map (option_map form) cs)).1 n ∙ slots cs n

pub no_slot : SlotsAreKeyed → (cs : List (Option Held)) (n : ℕ) → is_some (slot_at cs n) ≡ false → content_in (remote_entries cs) n ≡ None
no_slot keyed cs n h = slot_in keyed cs n ∙ ap (option_map form) (none_there (slot_at cs n) h)

pub no_content : (es : List (ℕ × Held)) (n : ℕ) → is_some (content_at es n) ≡ false → content_in (sparse_entries es) n ≡ None
no_content es n h = contents es n ∙ ap (option_map form) (none_there (content_at es n) h)

pub slot_is_there : SlotsAreKeyed → (old mid : List (Option Held)) (n : ℕ) → remote_entries mid ≡ remote_entries old → is_some (slot_at old n) ≡ true → is_some (slot_at mid n) ≡ true
slot_is_there keyed old mid n same h =
    sym (formed_there (slot_at mid n)) ∙ ap is_some (sym (slot_in keyed mid n) ∙ ap (λ es. content_in es n) same ∙ slot_in keyed old n) ∙ formed_there (slot_at old n) ∙ h

pub content_is_there : (old mid : List (ℕ × Held)) (n : ℕ) → sparse_entries mid ≡ sparse_entries old → is_some (content_at old n) ≡ true → is_some (content_at mid n) ≡ true
content_is_there old mid n same h =
    sym (formed_there (content_at mid n)) ∙ ap is_some (sym (contents mid n) ∙ ap (λ es. content_in es n) same ∙ contents old n) ∙ formed_there (content_at old n) ∙ h

-- ---- the form of a content

pub slot_formed : SlotsAreKeyed → (old mid : List (Option Held)) (n : ℕ) (h : Held) → remote_entries mid ≡ remote_entries old → slot_at mid n ≡ Some h → content_in (remote_entries old) n ≡ Some (form h)
slot_formed keyed old mid n h same is = ap (λ es. content_in es n) (sym same) ∙ slot_in keyed mid n ∙ ap (option_map form) is

pub content_formed : (old mid : List (ℕ × Held)) (n : ℕ) (h : Held) → sparse_entries mid ≡ sparse_entries old → content_at mid n ≡ Some h → content_in (sparse_entries old) n ≡ Some (form h)
content_formed old mid n h same is = ap (λ es. content_in es n) (sym same) ∙ contents mid n ∙ ap (option_map form) is

pub remote_formed : (b : BaseId) (many : Bool) (old : Rc (List (Option Held)) Global) (n : ℕ) (h : Held) → content_in (remote_entries old.value) n ≡ Some (form h) → content_of (form (RemoteMap b many old)) n ≡ Some (form h)
remote_formed b many old n h is = ap (λ z. content_of z n) (of_remote_map b many old) ∙ is

pub sparse_formed : (b : BaseId) (many : Bool) (old : Rc (List (ℕ × Held)) Global) (n : ℕ) (h : Held) → content_in (sparse_entries old.value) n ≡ Some (form h) → content_of (form (SparseMap b many old)) n ≡ Some (form h)
sparse_formed b many old n h is = ap (λ z. content_of z n) (of_sparse_map b many old) ∙ is

-- ---- a content that has the form that was there

some_form : (c d : Form) → Some c ≡ Some d → c ≡ d
some_form c d e = cc

form_again : (o : Option Held) (v w : Held) → o ≡ Some v → form w ≡ form v → Some (form w) ≡ option_map form o
form_again o v w is e = ap (λ f. Some f) e ∙ ap (option_map form) (sym is)

-- by what is found before and after
found_again : (f g : ℕ → Option Held) (n : ℕ) (v w : Held) → f n ≡ Some v → form w ≡ form v → ((q : ℕ) → g q ≡ cond (nat_eq n q) (Some w) (f q)) → (q : ℕ) → option_map form (g q) ≡ option_map form (f q)
found_again f g n v w is e put q = ap (option_map form) (put q) ∙ by (nat_eq n q) refl
  where
    by : (t : Bool) → nat_eq n q ≡ t → option_map form (cond t (Some w) (f q)) ≡ option_map form (f q)
    by true t = form_again (f n) v w is e ∙ ap (λ k. option_map form (f k)) (eqb-true n q t)
    by false t = refl

slots_alike : (xs ys : List (Option Form)) (k : ℕ) → ((q : ℕ) → slot_at xs q ≡ slot_at ys q) → slots_from k xs ≡ slots_from k ys
slots_alike [] [] k p = refl
slots_alike [] (y ∷ ys) k p = by y (p zero) (slots_alike [] ys (k + 1) (λ q. p (suc q)))
  where
    by : (o : Option Form) → None ≡ o → no_entry ≡ slots_from (k + 1) ys → no_entry ≡ slots_from k (o ∷ ys)
    by None e r = r
    by (Some c) e r = let no : ⊥ = cc in absurd no
slots_alike (x ∷ xs) [] k p = by x (p zero) (slots_alike xs [] (k + 1) (λ q. p (suc q)))
  where
    by : (o : Option Form) → o ≡ None → slots_from (k + 1) xs ≡ no_entry → slots_from k (o ∷ xs) ≡ no_entry
    by None e r = r
    by (Some c) e r = let no : ⊥ = cc in absurd no
slots_alike (x ∷ xs) (y ∷ ys) k p = by x y (p zero) (slots_alike xs ys (k + 1) (λ q. p (suc q)))
  where
    by : (o u : Option Form) → o ≡ u → slots_from (k + 1) xs ≡ slots_from (k + 1) ys → slots_from k (o ∷ xs) ≡ slots_from k (u ∷ ys)
    by None None e r = r
    by (Some c) (Some d) e r = let same : c ≡ d = cc in (λ i. entry_then k (same i) (r i))
    by None (Some d) e r = let no : ⊥ = cc in absurd no
    by (Some c) None e r = let no : ⊥ = cc in absurd no

pub slots_again : (mid new : List (Option Held)) (n : ℕ) (v w : Held) → slot_at mid n ≡ Some v → PutsSlot n (Some w) mid new → form w ≡ form v → remote_entries new ≡ remote_entries mid
slots_again mid new n v w is put e =
    slots_alike (map (option_map form) new) (map (option_map form) mid) 0 (λ q. slots new q ∙ found_again (slot_at mid) (slot_at new) n v w is e put q ∙ sym (slots mid q))

-- two tables with the same numbers in the same places, and the same forms at them
keys_first : (j k : ℕ) (js ks : List ℕ) → j ∷ js ≡ k ∷ ks → j ≡ k
keys_first j k js ks e = cc

keys_rest : (j k : ℕ) (js ks : List ℕ) → j ∷ js ≡ k ∷ ks → js ≡ ks
keys_rest j k js ks e = cc

entries_alike : (xs ys : List (ℕ × Held)) → keys_of xs ≡ keys_of ys → IsDistinct nat_eq (keys_of ys) → ((q : ℕ) → content_in (sparse_entries xs) q ≡ content_in (sparse_entries ys) q) → sparse_entries xs ≡ sparse_entries ys
entries_alike [] [] k d p = refl
entries_alike [] (y ∷ ys) k d p = let no : ⊥ = cc in absurd no
entries_alike (x ∷ xs) [] k d p = let no : ⊥ = cc in absurd no
entries_alike (x ∷ xs) (y ∷ ys) k d p = (λ i. entry_then (number i) (first i) (entries_alike xs ys rest (IsDistinct-tail nat_eq y.0 (keys_of ys) d) (λ q. by q (nat_eq q y.0) refl) i))
  where
    number : x.0 ≡ y.0
    number = keys_first x.0 y.0 (keys_of xs) (keys_of ys) k

    rest : keys_of xs ≡ keys_of ys
    rest = keys_rest x.0 y.0 (keys_of xs) (keys_of ys) k

    at_first : (n : ℕ) (f : Form) (es : Entries) → n ≡ y.0 → content_in (entry_then n f es) y.0 ≡ Some f
    at_first n f es e = ap (λ t. cond t (Some f) (content_in es y.0)) (eq-eqb y.0 n (sym e))

    first : form x.1 ≡ form y.1
    first = some_form (form x.1) (form y.1) (sym (at_first x.0 (form x.1) (sparse_entries xs) number) ∙ p y.0 ∙ at_first y.0 (form y.1) (sparse_entries ys) refl)

    none_behind : (es : List (ℕ × Held)) → keys_of es ≡ keys_of ys → content_in (sparse_entries es) y.0 ≡ None
    none_behind es e = absent es y.0 (subst (AllByRecursion (λ z. nat_eq y.0 z ≡ false)) (sym e) (IsDistinct-head nat_eq y.0 (keys_of ys) d))

    behind : (n q : ℕ) (f : Form) (es : Entries) → n ≡ y.0 → nat_eq q y.0 ≡ false → content_in (entry_then n f es) q ≡ content_in es q
    behind n q f es e t = ap (λ s. cond s (Some f) (content_in es q)) (ap (λ m. nat_eq q m) e ∙ t)

    by : (q : ℕ) (t : Bool) → nat_eq q y.0 ≡ t → content_in (sparse_entries xs) q ≡ content_in (sparse_entries ys) q
    by q true t =
        let same : q ≡ y.0 = eqb-true q y.0 t in
        ap (content_in (sparse_entries xs)) same ∙ none_behind xs rest ∙ sym (none_behind ys refl) ∙ ap (content_in (sparse_entries ys)) (sym same)
    by q false t = sym (behind x.0 q (form x.1) (sparse_entries xs) number t) ∙ p q ∙ behind y.0 q (form y.1) (sparse_entries ys) refl t

pub contents_again : (mid new : List (ℕ × Held)) (n : ℕ) (v w : Held) → keys_of new ≡ keys_of mid → IsDistinct nat_eq (keys_of mid) → content_at mid n ≡ Some v → Puts n (Some w) mid new → form w ≡ form v → sparse_entries new ≡ sparse_entries mid
contents_again mid new n v w k d is put e = entries_alike new mid k d (λ q. contents new q ∙ found_again (content_at mid) (content_at new) n v w is e put q ∙ sym (contents mid q))

-- ---- a content that a call changed

module _ {F R : Type 0} (g : Once F (MutBor Held × Unit {0}) (R × (MutBor Held × Unit {0}))) (f : F) (n : ℕ) (r : R) where
  pub slot_changed : SlotsAreKeyed → (old mid new : List (Option Held)) (v w : Held) → remote_entries mid ≡ remote_entries old → slot_at mid n ≡ Some v → FnOnceReturnsAtMut g f v r w → PutsSlot n (Some w) mid new → ChangesEntry g f n r (remote_entries old) (remote_entries new)
  slot_changed keyed old mid new v w same was met put = record {
    before = v;
    after = w;
    was = slot_formed keyed old mid n v same was;
    met = met;
    put = subst (λ es. PutsEntry n (Some (form w)) es (remote_entries new)) same (remote_put keyed mid new n (Some w) put);
    same = λ e. slots_again mid new n v w was put e ∙ same;
  }

  pub content_changed : (old mid new : List (ℕ × Held)) (v w : Held) → keys_of new ≡ keys_of mid → IsDistinct nat_eq (keys_of mid) → sparse_entries mid ≡ sparse_entries old → content_at mid n ≡ Some v → FnOnceReturnsAtMut g f v r w → Puts n (Some w) mid new → ChangesEntry g f n r (sparse_entries old) (sparse_entries new)
  content_changed old mid new v w keys distinct same was met put = record {
    before = v;
    after = w;
    was = content_formed old mid n v same was;
    met = met;
    put = subst (λ es. PutsEntry n (Some (form w)) es (sparse_entries new)) same (sparse_put mid new n (Some w) put);
    same = λ e. contents_again mid new n v w keys distinct was put e ∙ same;
  }

  pub remote_changed : (b : BaseId) (many : Bool) (old new : Rc (List (Option Held)) Global) → ChangesEntry g f n r (remote_entries old.value) (remote_entries new.value) → ChangesContent g f n r (form (RemoteMap b many old)) (form (RemoteMap b many new))
  remote_changed b many old new e = record {
    before = e.before;
    after = e.after;
    was = remote_formed b many old n e.before e.was;
    met = e.met;
    put =
        subst (λ z. PutsContent n (Some (form e.after)) z (form (RemoteMap b many new))) (sym (of_remote_map b many old))
        (subst (λ z. PutsContent n (Some (form e.after)) (table remote b many (remote_entries old.value)) z) (sym (of_remote_map b many new)) (refl, refl, refl, e.put));
    same = λ h. remote_same b many old new (e.same h);
  }

  pub sparse_changed : (b : BaseId) (many : Bool) (old new : Rc (List (ℕ × Held)) Global) → ChangesEntry g f n r (sparse_entries old.value) (sparse_entries new.value) → ChangesContent g f n r (form (SparseMap b many old)) (form (SparseMap b many new))
  sparse_changed b many old new e = record {
    before = e.before;
    after = e.after;
    was = sparse_formed b many old n e.before e.was;
    met = e.met;
    put =
        subst (λ z. PutsContent n (Some (form e.after)) z (form (SparseMap b many new))) (sym (of_sparse_map b many old))
        (subst (λ z. PutsContent n (Some (form e.after)) (table sparse b many (sparse_entries old.value)) z) (sym (of_sparse_map b many new)) (refl, refl, refl, e.put));
    same = λ h. sparse_same b many old new (e.same h);
  }
