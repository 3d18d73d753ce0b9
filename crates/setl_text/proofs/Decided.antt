-- Bytes that leave the denotation open: what follows them decides it.
use Rattle.std.proofs.Common.{◌≡◌, ℕ, ◌+◌, ◌-◌, ◌*◌, Bool, true, false, List, [], ◌∷◌, ◌++◌, refl, sym, ap, ◌∙◌, Some, Option, inl, inr, append_assoc}
use Rattle.setl_value.specs.Datum.{Datum, int}
use Rattle.setl_text.specs.Bytes.{Bracket, signed}
use Rattle.setl_text.specs.Denoted.{Fault, Form, Wide, Deep, IsDecided}
use Rattle.setl_text.specs.Reading.{Denotes, AtEnd, NotForm, TooWide, Token, Between, AfterMinus, InNumber, InWord, InString, AfterQuote, Open, opened, failing, within, finish, resume, read_denotation}
use Rattle.setl_text.specs.code.Scans.{token_of, TokenFits, IsShallow}
use Rattle.setl_text.specs.declared.scan.Piece.{Piece}
use Rattle.setl_text.proofs.Runs.{denoted_runs}
use Rattle.setl_text.proofs.Fails.{read_fails}
use Rattle.setl_text.proofs.FirstFault.{WordFits, continues}
use Rattle.setl_text.proofs.Going.{Went}

word_fits : (t : Token) → TokenFits t → WordFits t
word_fits Between h = tt
word_fits AfterMinus h = tt
word_fits (InNumber negative n) h = tt
word_fits (InWord v wanted) h = h
word_fits (InString t) h = tt
word_fits (AfterQuote t) h = tt

-- ---- no denotation whatever follows

longer : (v w : Option Datum) (rest : List ℕ) (b : ℕ) → Denotes w [] ≡ Denotes v (rest ++ b ∷ []) → ⊥
longer v w [] b e = cc
longer v w (c ∷ rest) b e = cc

digit_more : (t : Bool) (negative : Bool) (n : ℕ) (v : Option Datum) (rest : List ℕ) → within negative (n * 10 + (48 - 48)) ≡ t → resume (48 ∷ []) (InNumber negative n) [] ≡ Denotes v (rest ++ 48 ∷ []) → ⊥
digit_more true negative n v rest w e = longer v (Some (int (signed negative (n * 10 + (48 - 48))))) rest 48 (rw w at e)
digit_more false negative n v rest w e = wide (rw w at e)
  where
    wide : TooWide ≡ Denotes v (rest ++ 48 ∷ []) → ⊥
    wide e = cc

not_closed : (t : Token) (k : Bracket) (got : List (Option Datum)) (os : List Open) (v : Option Datum) (rest : List ℕ) → finish t (opened k got ∷ os) ≡ Denotes v rest → ⊥
not_closed Between k got os v rest e = cc
not_closed AfterMinus k got os v rest e = cc
not_closed (InNumber negative n) k got os v rest e = cc
not_closed (InWord d []) k got os v rest e = cc
not_closed (InWord d (w ∷ ws)) k got os v rest e = cc
not_closed (InString t) k got os v rest e = cc
not_closed (AfterQuote t) k got os v rest e = cc

no_denotation : (t : Token) (os : List Open) (v : Option Datum) (rest : List ℕ) → ((more : List ℕ) → resume more t os ≡ Denotes v (rest ++ more)) → ⊥
no_denotation t (opened k got ∷ os) v rest h = not_closed t k got os v (rest ++ []) (h [])
no_denotation Between [] v rest h = (let e : AtEnd ≡ Denotes v (rest ++ []) = h [] in cc)
no_denotation AfterMinus [] v rest h = (let e : NotForm ≡ Denotes v (rest ++ []) = h [] in cc)
no_denotation (InNumber negative n) [] v rest h = digit_more (within negative (n * 10 + (48 - 48))) negative n v rest refl (h (48 ∷ []))
no_denotation (InWord d []) [] v rest h = (let e : NotForm ≡ Denotes v (rest ++ 97 ∷ []) = h (97 ∷ []) in cc)
no_denotation (InWord d (w ∷ ws)) [] v rest h = (let e : NotForm ≡ Denotes v (rest ++ []) = h [] in cc)
no_denotation (InString t) [] v rest h = (let e : NotForm ≡ Denotes v (rest ++ []) = h [] in cc)
no_denotation (AfterQuote t) [] v rest h = (let e : NotForm ≡ Denotes v (rest ++ 39 ∷ []) = h (39 ∷ []) in cc)

-- ---- no fault whatever follows

no_fault : (f : Fault) (v : Option Datum) (rest : List ℕ) → failing f ≡ Denotes v rest → ⊥
no_fault Form v rest e = cc
no_fault Wide v rest e = cc
no_fault Deep v rest e = cc

-- ---- so neither is decided

pub undecided : (kept gave : List ℕ) (t : Token) (os : List Open) → TokenFits t → ((more : List ℕ) → read_denotation (kept ++ (gave ++ more)) ≡ resume more t os) → IsDecided kept → ⊥
undecided kept gave t os fits same (inl d) =
    no_denotation t os d.0 (d.1 ++ gave) (λ more. sym (same more) ∙ denoted_runs (d.2 (gave ++ more)) ∙ ap (Denotes d.0) (sym (append_assoc d.1 gave more)))
undecided kept gave t os fits same (inr d) =
    let c = continues t os (word_fits t fits) in
    no_fault d.0 c.1 c.2 (sym (read_fails (d.1 (gave ++ c.0))) ∙ same c.0 ∙ c.3)

-- nor are those that a reader took to the last one without an end
pub open_ended : (kept : List ℕ) (left : Option (List ℕ)) (kept' : List ℕ) (left' : Option (List ℕ)) (p : Piece) (os : List Open) → (kept' ≡ []) × (TokenFits (token_of p) × IsShallow os) → Went kept left kept' left' (token_of p) os → IsDecided kept → ⊥
open_ended kept left kept' left' p os none w = undecided kept w.gave (token_of p) os none.1.0 (λ more. w.same more ∙ ap (λ l. resume (l ++ more) (token_of p) os) none.0)
