-- Where a fault of form stands: the bytes before it can be continued to a denotation, and those up to it can't.
use Rattle.std.proofs.Common.{◌≡◌, ℕ, ◌+◌, ◌-◌, ◌*◌, Bool, true, false, cond, nat_lt, List, [], ◌∷◌, ◌++◌, length, refl, sym, ap, ◌∙◌, Some, None, Option, arith, eqb}
use Rattle.std.specs.List.{AllByRecursion}
use Rattle.std.proofs.lemmas.Bool.{lt-leb, le-leb, eq-eqb}
use Rattle.setl_value.specs.Datum.{Datum, bool, int, text}
use Rattle.setl_text.specs.Bytes.{Bracket, Brace, Square, IsLow, closing, is_digit, is_letter, lower, signed}
use Rattle.setl_text.specs.Denoted.{Form, Wide, Deep, collected}
use Rattle.setl_text.specs.Reading.{Denotes, NotForm, Token, Between, AfterMinus, InNumber, InWord, InString, AfterQuote, Open, opened, Step, Goes, Ends, EndsBefore, Fails, Placed, Whole, Inside, Unfit, put_value, taken, gap_at, open_bracket, close_bracket, begin, before, within, step, finish, proceed, resume}
use Rattle.setl_text.specs.Laws.{StopsThere, FormStandsFirst}
use Rattle.setl_text.proofs.Tokens.{after, after_before, after_end}
use Rattle.setl_text.proofs.Runs.{denoted_runs, close_runs}
use Rattle.setl_text.proofs.Fails.{read_fails, low_rue, low_alse}
use Rattle.setl_text.proofs.Exact.{reads_exactly}

-- a word still wants letters in lower case
abbrev pub WordFits : Token → Type 0
WordFits (InWord v wanted) = AllByRecursion IsLow wanted
WordFits t = Unit {0}

abbrev GoesFit : Step → Type 0
GoesFit (Goes t os) = WordFits t
GoesFit s = Unit {0}

fit_either : (c : Bool) (s t : Step) → GoesFit s → GoesFit t → GoesFit (cond c s t)
fit_either true s t p q = p
fit_either false s t p q = q

taken_fits : (p : Placed) → GoesFit (taken p)
taken_fits (Whole v) = tt
taken_fits (Inside os) = tt
taken_fits Unfit = tt

close_fits : (k : Bracket) (os : List Open) → GoesFit (close_bracket k os)
close_fits Brace [] = tt
close_fits Square [] = tt
close_fits Brace (opened Brace got ∷ os) = taken_fits (put_value (Some (collected Brace got)) os)
close_fits Brace (opened Square got ∷ os) = tt
close_fits Square (opened Brace got ∷ os) = tt
close_fits Square (opened Square got ∷ os) = taken_fits (put_value (Some (collected Square got)) os)

open_fits : (k : Bracket) (os : List Open) → GoesFit (open_bracket k os)
open_fits k os = fit_either (nat_lt (length os) 500) _ _ tt tt

begin_fits : (os : List Open) (b : ℕ) → GoesFit (begin os b)
begin_fits os b =
    fit_either (gap_at os b) _ _ tt (fit_either (is_digit b) _ _ tt (fit_either (is_letter b) _ _ (fit_either (eqb (lower b) 116) _ _ low_rue (fit_either (eqb (lower b) 102) _ _ low_alse tt))
    (fit_either (eqb b 123) _ _ (open_fits Brace os) (fit_either (eqb b 91) _ _ (open_fits Square os) (fit_either (eqb b 125) _ _ (close_fits Brace os) (fit_either (eqb b 93) _ _ (close_fits Square os)
    (fit_either (eqb b 42) _ _ (taken_fits (put_value None os)) (fit_either (eqb b 39) _ _ tt (fit_either (eqb b 45) _ _ tt tt)))))))))

before_fits : (p : Placed) (b : ℕ) → GoesFit (before p b)
before_fits (Whole v) b = tt
before_fits (Inside os) b = begin_fits os b
before_fits Unfit b = tt

step_fits : (t : Token) (os : List Open) (b : ℕ) → WordFits t → GoesFit (step t os b)
step_fits Between os b h = begin_fits os b
step_fits AfterMinus os b h = fit_either (is_digit b) _ _ tt tt
step_fits (InNumber s n) os b h = fit_either (is_digit b) _ _ (fit_either (within s (n * 10 + (b - 48))) _ _ tt tt) (before_fits (put_value (Some (int (signed s n))) os) b)
step_fits (InWord v []) os b h = fit_either (is_letter b) _ _ tt (before_fits (put_value (Some (bool v)) os) b)
step_fits (InWord v (w ∷ ws)) os b h = fit_either (eqb (lower b) w) _ _ h.1 tt
step_fits (InString t) os b h = fit_either (eqb b 39) _ _ tt (fit_either (eqb b 10) _ _ tt tt)
step_fits (AfterQuote t) os b h = fit_either (eqb b 39) _ _ tt (before_fits (put_value (Some (text t)) os) b)

-- ---- each state can be continued

abbrev pub Continues : Token → List Open → Type 0
Continues t os = (more : List ℕ) × (v : Option Datum) × (rest : List ℕ) × (resume more t os ≡ Denotes v rest)

-- closing what is open
closes : (d : Datum) (os : List Open) → (more : List ℕ) × (v : Option Datum) × (rest : List ℕ) × (after (put_value (Some d) os) more ≡ Denotes v rest)
closes d [] = ([], Some d, [], refl)
closes d (opened k got ∷ os) =
    let outer = closes (collected k (got ++ Some d ∷ [])) os in
    (closing k ∷ outer.0, outer.1, outer.2, close_runs k (got ++ Some d ∷ []) outer.0 os ∙ outer.3)

-- a value whose token ends before a byte that closes something, or at the end
abbrev NoPart : Token → Datum → Type 0
NoPart t d = (os : List Open) → (finish t os ≡ after (put_value (Some d) os) []) × ((k : Bracket) (bs : List ℕ) → resume (closing k ∷ bs) t os ≡ after (put_value (Some d) os) (closing k ∷ bs))

ends : (t : Token) (d : Datum) (os : List Open) → NoPart t d → Continues t os
unfolding closes
ends t d [] h = ([], Some d, [], (h []).0)
ends t d (opened k got ∷ os) h =
    let outer = closes d (opened k got ∷ os) in
    (outer.0, outer.1, outer.2, (h (opened k got ∷ os)).1 k _ ∙ outer.3)

number_ends : (s : Bool) (n : ℕ) → NoPart (InNumber s n) (int (signed s n))
number_ends s n os = (after_end (int (signed s n)) os, by)
  where
    by : (k : Bracket) (bs : List ℕ) → resume (closing k ∷ bs) (InNumber s n) os ≡ after (put_value (Some (int (signed s n))) os) (closing k ∷ bs)
    by Brace bs = after_before (int (signed s n)) os 125 bs
    by Square bs = after_before (int (signed s n)) os 93 bs

word_ends : (v : Bool) → NoPart (InWord v []) (bool v)
word_ends v os = (after_end (bool v) os, by)
  where
    by : (k : Bracket) (bs : List ℕ) → resume (closing k ∷ bs) (InWord v []) os ≡ after (put_value (Some (bool v)) os) (closing k ∷ bs)
    by Brace bs = after_before (bool v) os 125 bs
    by Square bs = after_before (bool v) os 93 bs

string_ends : (t : List ℕ) → NoPart (AfterQuote t) (text t)
string_ends t os = (after_end (text t) os, by)
  where
    by : (k : Bracket) (bs : List ℕ) → resume (closing k ∷ bs) (AfterQuote t) os ≡ after (put_value (Some (text t)) os) (closing k ∷ bs)
    by Brace bs = after_before (text t) os 125 bs
    by Square bs = after_before (text t) os 93 bs

one_more : (b : ℕ) (t u : Token) (os : List Open) → ((bs : List ℕ) → resume (b ∷ bs) t os ≡ resume bs u os) → Continues u os → Continues t os
one_more b t u os h c = (b ∷ c.0, c.1, c.2, h c.0 ∙ c.3)

low_same : (w : ℕ) → IsLow w → eqb (lower w) w ≡ true
low_same w low = eq-eqb (lower w) w (rw (lt-leb w 90 (omega arith), le-leb 65 w (omega arith)) refl)

word_continues : (v : Bool) (wanted : List ℕ) (os : List Open) → AllByRecursion IsLow wanted → Continues (InWord v wanted) os
word_continues v [] os low = ends (InWord v []) (bool v) os (word_ends v)
word_continues v (w ∷ ws) os low = one_more w (InWord v (w ∷ ws)) (InWord v ws) os (λ bs. rw (low_same w low.0) refl) (word_continues v ws os low.1)

closes_open : (k : Bracket) (got : List (Option Datum)) (os : List Open) → Continues Between (opened k got ∷ os)
closes_open k got os =
    let outer = closes (collected k got) os in
    (closing k ∷ outer.0, outer.1, outer.2, close_runs k got outer.0 os ∙ outer.3)

pub continues : (t : Token) (os : List Open) → WordFits t → Continues t os
continues Between [] h = (42 ∷ [], None, [], refl)
continues Between (opened k got ∷ os) h = closes_open k got os
continues AfterMinus os h = one_more 48 AfterMinus (InNumber true 0) os (λ bs. refl) (ends (InNumber true 0) (int (signed true 0)) os (number_ends true 0))
continues (InNumber s n) os h = ends (InNumber s n) (int (signed s n)) os (number_ends s n)
continues (InWord v wanted) os h = word_continues v wanted os h
continues (InString t) os h = one_more 39 (InString t) (AfterQuote t) os (λ bs. refl) (ends (AfterQuote t) (text t) os (string_ends t))
continues (AfterQuote t) os h = ends (AfterQuote t) (text t) os (string_ends t)

-- ---- the place

-- with the first of the other bytes nothing is denoted any more
abbrev StopsBy : Token → List Open → List ℕ → List ℕ → Type 0
StopsBy t os front [] = Unit {0}
StopsBy t os front (b ∷ rest) = (more : List ℕ) → resume (front ++ b ∷ more) t os ≡ NotForm

-- the bytes up to the place and those from it on, by what is computed of them
record Stands (bs : List ℕ) (t : Token) (os : List Open) : Type 0 where
  up_to : List ℕ
  from : List ℕ
  parts : bs ≡ up_to ++ from
  before_it : (more : List ℕ) × (v : Option Datum) × (left : List ℕ) × (resume (up_to ++ more) t os ≡ Denotes v left)
  at_it : StopsBy t os up_to from

stops_later : (b : ℕ) (t u : Token) (os new : List Open) (up_to from : List ℕ) → step t os b ≡ Goes u new → StopsBy u new up_to from → StopsBy t os (b ∷ up_to) from
stops_later b t u os new up_to [] e h = tt
stops_later b t u os new up_to (c ∷ from) e h = λ more. ap (λ s. proceed s b (up_to ++ c ∷ more) (resume (up_to ++ c ∷ more))) e ∙ h more

stands_later : (b : ℕ) (bs : List ℕ) (t u : Token) (os new : List Open) → step t os b ≡ Goes u new → Stands bs u new → Stands (b ∷ bs) t os
stands_later b bs t u os new e h = record {
  up_to = b ∷ h.up_to;
  from = h.from;
  parts = ap (λ l. b ∷ l) h.parts;
  before_it = (h.before_it.0, h.before_it.1, h.before_it.2, ap (λ s. proceed s b (h.up_to ++ h.before_it.0) (resume (h.up_to ++ h.before_it.0))) e ∙ h.before_it.3);
  at_it = stops_later b t u os new h.up_to h.from e h.at_it;
}

stands_by : (b : ℕ) (bs : List ℕ) (t : Token) (os : List Open) (s : Step) → step t os b ≡ s → GoesFit s → WordFits t → proceed s b bs (resume bs) ≡ NotForm → ((u : Token) (new : List Open) → WordFits u → resume bs u new ≡ NotForm → Stands bs u new) → Stands (b ∷ bs) t os
stands_by b bs t os (Goes u new) e fit word h more = stands_later b bs t u os new e (more u new fit h)
stands_by b bs t os (Ends v) e fit word h more = absurd (cc)
stands_by b bs t os (EndsBefore v) e fit word h more = absurd (cc)
stands_by b bs t os (Fails Wide) e fit word h more = absurd (cc)
stands_by b bs t os (Fails Deep) e fit word h more = absurd (cc)
stands_by b bs t os (Fails Form) e fit word h more = record {
  up_to = [];
  from = b ∷ bs;
  parts = refl;
  before_it = continues t os word;
  at_it = λ l. ap (λ s. proceed s b l (resume l)) e;
}

stands : (bs : List ℕ) (t : Token) (os : List Open) → WordFits t → resume bs t os ≡ NotForm → Stands bs t os
stands [] t os word h = record { up_to = []; from = []; parts = refl; before_it = continues t os word; at_it = tt }
stands (b ∷ bs) t os word h = stands_by b bs t os (step t os b) refl (step_fits t os b word) word h (λ u new fit e. stands bs u new fit e)

stops_there : (up_to from : List ℕ) → StopsBy Between [] up_to from → StopsThere up_to from
stops_there up_to [] h = tt
stops_there up_to (b ∷ from) h = λ more v rest d. form_or_value v rest (sym (denoted_runs d) ∙ h more)
  where
    form_or_value : (v : Option Datum) (rest : List ℕ) → Denotes v rest ≡ NotForm → ⊥
    form_or_value v rest e = cc

pub form_stands_first : FormStandsFirst
form_stands_first bs fails =
    let place = stands bs Between [] tt (read_fails fails) in
    let more = place.before_it in
    (place.up_to, place.from, place.parts, (more.0, more.1, more.2, (reads_exactly (place.up_to ++ more.0) (Denotes more.1 more.2)).1 more.3), stops_there place.up_to place.from place.at_it)
