-- Walks of the entries of maps.
use Rattle.std.proofs.Common.{◌≡◌, ℕ, zero, suc, ◌+◌, ◌<◌, ◌≤◌, Bool, List, [], ◌∷◌, ◌++◌, length, map, drop, slice_get, Option, Some, None, inl, inr, refl, ap, sym, ◌∙◌, arith}
use Rattle.std.specs.Option.{option_map, unwrap_or}
use Rattle.std.proofs.lemmas.Bool.{false≢true}
use Rattle.setl_base.specs.Base.{BaseState}
use Rattle.setl_remote.specs.Slots.{slot_at}
use Rattle.setl_value.specs.Datum.{Datum}
use Rattle.setl_rep_bases.specs.Bases.{BasesState}
use Rattle.setl_rep_forms.specs.declared.held.Held.{Held}
use Rattle.setl_rep_forms.specs.Form.{Form, Entries, slots_from}
use Rattle.setl_rep_forms.specs.FormOf.{form}
use Rattle.setl_rep_forms.specs.Stands.{stands, pairs_in, pairs_of, value_at, AreOver}
use Rattle.setl_rep_plain.specs.Entries.{sparse_entries, remote_entries}
use Rattle.setl_rep_plain.proofs.Sizes.{IsEntry}

pub joined : (xs ys zs : List Datum) → (xs ++ ys) ++ zs ≡ xs ++ (ys ++ zs)
joined [] ys zs = refl
joined (x ∷ xs) ys zs = ap (λ l. x ∷ l) (joined xs ys zs)

pub put_none : (xs : List Datum) → xs ++ [] ≡ xs
put_none [] = refl
put_none (x ∷ xs) = ap (λ l. x ∷ l) (put_none xs)

some_same : {A : Type 0} {x y : A} → Some x ≡ Some y → x ≡ y
some_same p = cc

-- ---- sparse

pub sparse_entry : (es : List (ℕ × Held)) (i n : ℕ) (c : Held) → slice_get es i ≡ Some (n, c) → IsEntry (sparse_entries es) n (form c)
sparse_entry [] i n c h = absurd (cc)
sparse_entry (e ∷ es) zero n c h = inl (ap (λ (o : Option (ℕ × Held)). unwrap_or (option_map (λ (p : ℕ × Held). p.0) o) n) h, ap (λ (o : Option (ℕ × Held)). unwrap_or (option_map (λ (p : ℕ × Held). form p.1) o) (form c)) h)
sparse_entry (e ∷ es) (suc i) n c h = inr (sparse_entry es i n c h)

sparse_first : (bs : BasesState) (b : BaseState) (many : Bool) (es : List (ℕ × Held)) (i n : ℕ) (c : Held) → slice_get es i ≡ Some (n, c)
    → pairs_in bs b many (sparse_entries (drop i es)) ≡ pairs_of many (value_at b n) (stands bs (form c)) ++ pairs_in bs b many (sparse_entries (drop (suc i) es))
sparse_first bs b many [] i n c h = absurd (cc)
sparse_first bs b many (e ∷ es) zero n c h = ap (λ (p : ℕ × Held). pairs_of many (value_at b p.0) (stands bs (form p.1)) ++ pairs_in bs b many (sparse_entries es)) (some_same h)
sparse_first bs b many (e ∷ es) (suc i) n c h = sparse_first bs b many es i n c h

pub sparse_next : (bs : BasesState) (b : BaseState) (many : Bool) (es : List (ℕ × Held)) (i n : ℕ) (c : Held) (xs ys all : List Datum) → slice_get es i ≡ Some (n, c)
    → ys ≡ xs ++ pairs_of many (value_at b n) (stands bs (form c)) → xs ++ pairs_in bs b many (sparse_entries (drop i es)) ≡ all
    → ys ++ pairs_in bs b many (sparse_entries (drop (i + 1) es)) ≡ all
sparse_next bs b many es i n c xs ys all h p q =
    let k : i + 1 ≡ suc i = omega arith in
    (λ j. p j ++ pairs_in bs b many (sparse_entries (drop (k j) es)))
    ∙ joined xs (pairs_of many (value_at b n) (stands bs (form c))) (pairs_in bs b many (sparse_entries (drop (suc i) es)))
    ∙ ap (λ l. xs ++ l) (sym (sparse_first bs b many es i n c h))
    ∙ q

drop_past : {A : Type 0} (xs : List A) (n : ℕ) → length xs ≤ n → drop n xs ≡ []
drop_past [] zero h = refl
drop_past [] (suc n) h = refl
drop_past (x ∷ xs) zero h = absurd (omega arith)
drop_past (x ∷ xs) (suc n) h = drop_past xs n (omega arith)

pub sparse_end : (bs : BasesState) (b : BaseState) (many : Bool) (es : List (ℕ × Held)) (i : ℕ) (xs all : List Datum) → length es ≤ i → xs ++ pairs_in bs b many (sparse_entries (drop i es)) ≡ all → xs ≡ all
sparse_end bs b many es i xs all h q = sym (put_none xs) ∙ ap (λ l. xs ++ pairs_in bs b many (sparse_entries l)) (sym (drop_past es i h)) ∙ q

-- ---- remote

abbrev forms : List (Option Held) → List (Option Form)
forms cs = map (option_map form) cs

-- the slots from the number n on
abbrev pub later : List (Option Held) → ℕ → Entries
later cs n = slots_from n (forms (drop n cs))

slot_entry_from : (cs : List (Option Held)) (j k n : ℕ) (c : Held) → j + k ≡ n → slot_at cs k ≡ Some c → IsEntry (slots_from j (forms cs)) n (form c)
slot_entry_from [] j k n c e h = absurd (cc)
slot_entry_from (None ∷ cs) j zero n c e h = absurd (cc)
slot_entry_from (None ∷ cs) j (suc k) n c e h = slot_entry_from cs (j + 1) k n c (omega (arith, e)) h
slot_entry_from (Some d ∷ cs) j zero n c e h = inl (omega (arith, e), ap (λ (o : Option Held). unwrap_or (option_map form o) (form c)) h)
slot_entry_from (Some d ∷ cs) j (suc k) n c e h = inr (slot_entry_from cs (j + 1) k n c (omega (arith, e)) h)

pub slot_entry : (cs : List (Option Held)) (n : ℕ) (c : Held) → slot_at cs n ≡ Some c → IsEntry (remote_entries cs) n (form c)
slot_entry cs n c h = slot_entry_from cs 0 n n c (omega arith) h

abbrev pub slot_pairs : BasesState → BaseState → Bool → ℕ → Option Held → List Datum
slot_pairs bs b many n None = []
slot_pairs bs b many n (Some c) = pairs_of many (value_at b n) (stands bs (form c))

slots_first : (bs : BasesState) (b : BaseState) (many : Bool) (cs : List (Option Held)) (j k : ℕ) → k < length cs
    → pairs_in bs b many (slots_from j (forms (drop k cs))) ≡ slot_pairs bs b many j (slot_at cs k) ++ pairs_in bs b many (slots_from (j + 1) (forms (drop (suc k) cs)))
slots_first bs b many [] j k h = absurd (omega arith)
slots_first bs b many (None ∷ cs) j zero h = refl
slots_first bs b many (Some c ∷ cs) j zero h = refl
slots_first bs b many (None ∷ cs) j (suc k) h = slots_first bs b many cs j k (omega arith)
slots_first bs b many (Some c ∷ cs) j (suc k) h = slots_first bs b many cs j k (omega arith)

-- the first slot has no content, since no block has the number 0
pub slots_start : (bs : BasesState) (b : BaseState) (many : Bool) (cs : List (Option Held)) → AreOver bs b many (remote_entries cs) → pairs_in bs b many (later cs 1) ≡ pairs_in bs b many (remote_entries cs)
slots_start bs b many [] o = refl
slots_start bs b many (None ∷ cs) o = refl
slots_start bs b many (Some c ∷ cs) o = absurd (false≢true o.0)

pub slots_next : (bs : BasesState) (b : BaseState) (many : Bool) (cs : List (Option Held)) (n : ℕ) (xs ys all : List Datum) → n < length cs
    → ys ≡ xs ++ slot_pairs bs b many n (slot_at cs n) → xs ++ pairs_in bs b many (later cs n) ≡ all → ys ++ pairs_in bs b many (later cs (n + 1)) ≡ all
slots_next bs b many cs n xs ys all h p q =
    let k : n + 1 ≡ suc n = omega arith in
    (λ j. p j ++ pairs_in bs b many (slots_from (n + 1) (forms (drop (k j) cs))))
    ∙ joined xs (slot_pairs bs b many n (slot_at cs n)) (pairs_in bs b many (slots_from (n + 1) (forms (drop (suc n) cs))))
    ∙ ap (λ l. xs ++ l) (sym (slots_first bs b many cs n n h))
    ∙ q

pub slots_end : (bs : BasesState) (b : BaseState) (many : Bool) (cs : List (Option Held)) (n : ℕ) (xs all : List Datum) → length cs ≤ n → xs ++ pairs_in bs b many (later cs n) ≡ all → xs ≡ all
slots_end bs b many cs n xs all h q = sym (put_none xs) ∙ ap (λ l. xs ++ pairs_in bs b many (slots_from n (forms l))) (sym (drop_past cs n h)) ∙ q

pub no_content : (bs : BasesState) (b : BaseState) (many : Bool) (n : ℕ) (o : Option Held) → o ≡ None → (xs : List Datum) → xs ≡ xs ++ slot_pairs bs b many n o
no_content bs b many n None e xs = sym (put_none xs)
no_content bs b many n (Some c) e xs = absurd (cc)

pub one_content : (bs : BasesState) (b : BaseState) (many : Bool) (n : ℕ) (o : Option Held) (c : Held) → o ≡ Some c → (xs ys : List Datum) → ys ≡ xs ++ pairs_of many (value_at b n) (stands bs (form c)) → ys ≡ xs ++ slot_pairs bs b many n o
one_content bs b many n None c e xs ys p = absurd (cc)
one_content bs b many n (Some d) c e xs ys p = p ∙ ap (λ (q : Option Held). xs ++ slot_pairs bs b many n q) (sym e)
