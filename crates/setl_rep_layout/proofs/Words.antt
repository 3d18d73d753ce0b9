-- Texts behind blanks.
use Rattle.std.proofs.Common.{◌≡◌, ◌∙◌, ℕ, List, [], ◌∷◌, ◌++◌, Result, Ok, Err, refl, ap, sym}
use Rattle.std.specs.Prelude.{OnOk, IfOk}
use Rattle.std.proofs.lemmas.List.{append-nil, append_assoc}
use Rattle.setl_text.specs.Texts.{spaced, inner_text}
use Rattle.setl_value.specs.Datum.{Datum}
use Rattle.setl_rep_layout.specs.Texts.{after_blanks, inner_texts}

pub spaced_after : (t : List ℕ) (ts : List (List ℕ)) → spaced (t ∷ ts) ≡ t ++ after_blanks ts
spaced_after t [] = sym (append-nil t)
spaced_after t (u ∷ ts) = ap (λ l. t ++ 32 ∷ l) (spaced_after u ts)

-- the texts of some values and of those behind them
pub inner_split : (xs ys : List Datum) → after_blanks (inner_texts (xs ++ ys)) ≡ after_blanks (inner_texts xs) ++ after_blanks (inner_texts ys)
inner_split [] ys = refl
inner_split (x ∷ xs) ys = ap (λ l. 32 ∷ inner_text x ++ l) (inner_split xs ys) ∙ ap (λ l. 32 ∷ l) (sym (append_assoc (inner_text x) (after_blanks (inner_texts xs)) (after_blanks (inner_texts ys))))

-- one part of a text more
pub next_part : (into new text rest all : List ℕ) → new ≡ into ++ text → into ++ (text ++ rest) ≡ all → new ++ rest ≡ all
next_part into new text rest all p q = ap (λ l. l ++ rest) p ∙ append_assoc into text rest ∙ q

-- ---- answers

pub on_ok : {V E P Q : Type 0} (r : Result V E) → (P → Q) → OnOk r P → OnOk r Q
on_ok (Ok v) f p = f p
on_ok (Err e) f p = p

pub if_ok : {V E : Type 0} {P Q : V → Type 0} (r : Result V E) → ((v : V) → P v → Q v) → IfOk r P → IfOk r Q
if_ok (Ok v) f p = f v p
if_ok (Err e) f p = p

-- a text in two parts, and in three
pub two_parts : (t0 t1 new w d all : List ℕ) → t1 ≡ t0 ++ w → w ++ d ≡ all → new ≡ t1 ++ d → new ≡ t0 ++ all
two_parts t0 t1 new w d all p q r = r ∙ ap (λ l. l ++ d) p ∙ append_assoc t0 w d ∙ ap (λ l. t0 ++ l) q

pub three_parts : (t0 t1 t2 new w d all : List ℕ) → t1 ≡ t0 ++ w → t2 ≡ t1 ++ 32 ∷ [] → w ++ 32 ∷ d ≡ all → new ≡ t2 ++ d → new ≡ t0 ++ all
three_parts t0 t1 t2 new w d all p o q r = r ∙ ap (λ l. l ++ d) o ∙ append_assoc t1 (32 ∷ []) d ∙ ap (λ l. l ++ 32 ∷ d) p ∙ append_assoc t0 w (32 ∷ d) ∙ ap (λ l. t0 ++ l) q

pub both : {V E : Type 0} {P Q R : V → Type 0} (r : Result V E) → IfOk r P → IfOk r Q → ((v : V) → P v → Q v → R v) → IfOk r R
both (Ok v) p q f = f v p q
both (Err e) p q f = p
