-- A denotation is computed as what it is.
use Rattle.std.proofs.Common.{◌≡◌, ℕ, suc, ◌+◌, ◌-◌, ◌<◌, ◌≤◌, Bool, true, false, eqb, List, [], ◌∷◌, ◌++◌, map, length, refl, sym, ap, ◌∙◌, arith, Some, None, Option, append_assoc, append-nil}
use Rattle.std.specs.Prelude.{codes}
use Rattle.std.proofs.lemmas.Bool.{ne_eqb, eq-eqb, lt-ltb, le-ltb}
use Rattle.setl_value.specs.Datum.{Datum, bool, int}
use Rattle.setl_value.specs.WellFormed.{IsWide}
use Rattle.setl_text.specs.Bytes.{is_digit, is_letter, lower, front, behind, number_from, signed, Bracket, Brace, Square, opening, closing}
use Rattle.setl_text.specs.Denoted.{spelling, collected, Admits, Single, natural, negative, word, string, om, Item, single, bracketed, Items, nothing, gap, member, Denoted, blank, item, OnlyBlanks, Deep}
use Rattle.setl_text.specs.Reading.{Reading, Denotes, AtEnd, Between, AfterMinus, InNumber, InString, Open, opened, Step, Goes, Fails, begin, first_letter, after_minus, taken, put_value, Inside, within, proceed, resume, read_denotation}
use Rattle.setl_text.proofs.Classes.{begin_digit, begin_letter}
use Rattle.setl_text.proofs.Tokens.{after, after_taken, number_runs, is_within, spelled, word_runs, string_runs}

-- the step that a byte makes is this one
pub by_step : (b : ℕ) (bs : List ℕ) (s t : Step) (r : Reading) → s ≡ t → proceed t b bs (resume bs) ≡ r → proceed s b bs (resume bs) ≡ r
by_step b bs s t r same next = ap (λ u. proceed u b bs (resume bs)) same ∙ next

-- ---- a byte that begins something, whatever is open

pub begin_minus : (os : List Open) → begin os 45 ≡ Goes AfterMinus os
begin_minus [] = refl
begin_minus (o ∷ os) = refl

pub begin_quote : (os : List Open) → begin os 39 ≡ Goes (InString []) os
begin_quote [] = refl
begin_quote (o ∷ os) = refl

pub begin_om : (os : List Open) → begin os 42 ≡ taken (put_value None os)
begin_om [] = refl
begin_om (o ∷ os) = refl

pub begin_bracket : (k : Bracket) (os : List Open) → length os < 500 → begin os (opening k) ≡ Goes Between (opened k [] ∷ os)
begin_bracket Brace [] h = refl
begin_bracket Square [] h = refl
begin_bracket Brace (o ∷ os) h = rw (lt-ltb (length (o ∷ os)) 500 h) refl
begin_bracket Square (o ∷ os) h = rw (lt-ltb (length (o ∷ os)) 500 h) refl

pub begin_deep : (k : Bracket) (os : List Open) → 500 ≤ length os → begin os (opening k) ≡ Fails Deep
begin_deep Brace [] h = absurd (omega arith)
begin_deep Square [] h = absurd (omega arith)
begin_deep Brace (o ∷ os) h = rw (le-ltb (length (o ∷ os)) 500 h) refl
begin_deep Square (o ∷ os) h = rw (le-ltb (length (o ∷ os)) 500 h) refl

-- ---- one token

natural_runs : (b : ℕ) (bs : List ℕ) (os : List Open) → is_digit b ≡ true → IsWide (signed false (number_from 0 (front is_digit (b ∷ bs))))
    → resume (b ∷ bs) Between os ≡ after (put_value (Some (int (signed false (number_from 0 (front is_digit (b ∷ bs)))))) os) (behind is_digit bs)
natural_runs b bs os e wide =
    let is = spelled b bs e in
    by_step b bs _ _ _ (begin_digit os b e)
    (number_runs false (b - 48) bs os (ap (within false) (sym is) ∙ is_within false _ wide)
    ∙ ap (λ m. after (put_value (Some (int (signed false m))) os) (behind is_digit bs)) (sym is))

negative_runs : (b : ℕ) (bs : List ℕ) (os : List Open) → is_digit b ≡ true → IsWide (signed true (number_from 0 (front is_digit (b ∷ bs))))
    → resume (b ∷ bs) AfterMinus os ≡ after (put_value (Some (int (signed true (number_from 0 (front is_digit (b ∷ bs)))))) os) (behind is_digit bs)
negative_runs b bs os e wide =
    let is = spelled b bs e in
    let goes : after_minus os b ≡ Goes (InNumber true (b - 48)) os = rw e refl in
    by_step b bs _ _ _ goes
    (number_runs true (b - 48) bs os (ap (within true) (sym is) ∙ is_within true _ wide)
    ∙ ap (λ m. after (put_value (Some (int (signed true m))) os) (behind is_digit bs)) (sym is))

-- the letters of a word are those that its first letter asks for
word_first : (v : Bool) (b : ℕ) (bs : List ℕ) (os : List Open) → lower b ∷ map lower (front is_letter bs) ≡ spelling v → proceed (first_letter b os) b bs (resume bs) ≡ after (put_value (Some (bool v)) os) (behind is_letter bs)
word_first true b bs os is =
    let first : lower b ≡ 116 = cc in
    let rest : map lower (front is_letter bs) ≡ codes "rue" = cc in
    rw (eq-eqb (lower b) 116 first) (word_runs true (codes "rue") bs os rest)
word_first false b bs os is =
    let first : lower b ≡ 102 = cc in
    let rest : map lower (front is_letter bs) ≡ codes "alse" = cc in
    let other : eqb (lower b) 116 ≡ false = ne_eqb (lower b) 116 (λ e. absurd (omega arith)) in
    rw (other, eq-eqb (lower b) 102 first) (word_runs false (codes "alse") bs os rest)

pub single_runs : {bs : List ℕ} {v : Option Datum} {rest : List ℕ} → Single bs v rest → (os : List Open) → resume bs Between os ≡ after (put_value v os) rest
single_runs (natural b bs e wide) os = natural_runs b bs os e wide
single_runs (negative b bs e wide) os = by_step 45 (b ∷ bs) _ _ _ (begin_minus os) (negative_runs b bs os e wide)
single_runs (word v b bs e is) os = by_step b bs _ _ _ (begin_letter os b e) (word_first v b bs os (sym (rw e refl) ∙ is))
single_runs (string t rest lines end) os = by_step 39 _ _ _ _ (begin_quote os) (string_runs t rest os lines end)
single_runs (om rest) os = by_step 42 rest _ _ _ (begin_om os) (after_taken (put_value None os) 42 rest)

-- ---- sets and tuples

pub put_is : (k : Bracket) (v : Option Datum) (got : List (Option Datum)) (os : List Open) → Admits k v → put_value v (opened k got ∷ os) ≡ Inside (opened k (got ++ v ∷ []) ∷ os)
put_is Brace None got os admits = absurd admits
put_is Square None got os admits = refl
put_is k (Some d) got os admits = refl

pub close_runs : (k : Bracket) (vs : List (Option Datum)) (rest : List ℕ) (os : List Open) → resume (closing k ∷ rest) Between (opened k vs ∷ os) ≡ after (put_value (Some (collected k vs)) os) rest
close_runs Brace vs rest os = after_taken (put_value (Some (collected Brace vs)) os) 125 rest
close_runs Square vs rest os = after_taken (put_value (Some (collected Square vs)) os) 93 rest

mutual
  pub item_runs : {room : ℕ} {bs : List ℕ} {v : Option Datum} {rest : List ℕ} → Item room bs v rest → (os : List Open) → length os + room ≡ 500 → resume bs Between os ≡ after (put_value v os) rest
  item_runs (single s) os h = single_runs s os
  item_runs (bracketed {room} k {bs} {vs} {rest} inner) os h =
      let few : length os < 500 = omega arith in
      by_step (opening k) bs _ _ _ (begin_bracket k os few) (items_runs inner [] os (omega arith) ∙ close_runs k vs rest os)

  pub items_runs : {k : Bracket} {room : ℕ} {bs : List ℕ} {vs : List (Option Datum)} {rest : List ℕ} → Items k room bs vs rest → (got : List (Option Datum)) (os : List Open) → suc (length os) + room ≡ 500
      → resume bs Between (opened k got ∷ os) ≡ resume rest Between (opened k (got ++ vs) ∷ os)
  items_runs {k} {room} {bs} nothing got os h = ap (λ l. resume bs Between (opened k l ∷ os)) (sym (append-nil got))
  items_runs (gap b e more) got os h = rw e (items_runs more got os h)
  items_runs {k} (member {mid = mid} {v = v} {vs = vs} {rest = rest} one admits more) got os h =
      item_runs one (opened k got ∷ os) h
      ∙ ap (λ p. after p mid) (put_is k v got os admits)
      ∙ items_runs more (got ++ v ∷ []) os h
      ∙ ap (λ l. resume rest Between (opened k l ∷ os)) (append_assoc got (v ∷ []) vs)

pub denoted_runs : {bs : List ℕ} {v : Option Datum} {rest : List ℕ} → Denoted bs v rest → read_denotation bs ≡ Denotes v rest
denoted_runs (blank b e more) = rw e (denoted_runs more)
denoted_runs (item one) = item_runs one [] refl

pub blanks_run : (bs : List ℕ) → OnlyBlanks bs → read_denotation bs ≡ AtEnd
blanks_run [] all = refl
blanks_run (b ∷ bs) all = rw all.0 (blanks_run bs all.1)
