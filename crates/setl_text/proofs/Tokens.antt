-- What the computed reading makes of the bytes of one integer, word or string.
use Rattle.std.proofs.Common.{◌≡◌, ℕ, suc, zero, ◌+◌, ◌-◌, ◌*◌, ◌^◌, ◌≤◌, Bool, true, false, cond, leb, eqb, List, [], ◌∷◌, ◌++◌, map, refl, sym, ap, ◌∙◌, arith, Some, Option, append_assoc, append-nil, zero-add, inl, inr}
use Rattle.std.specs.List.{AllByRecursion}
use Rattle.std.proofs.lemmas.Bool.{and_parts, leb-true, ltb-true, ne_eqb, eq-eqb, eqb-true, lt-ltb, true≢false, cases_Bool}
use Rattle.std.proofs.lemmas.Bool.Decides.{nat_tests}
use Rattle.setl_value.specs.Datum.{Datum, bool, int, text}
use Rattle.setl_value.specs.WellFormed.{IsWide}
use Rattle.setl_text.specs.Bytes.{IsLow, is_digit, is_letter, lower, front, behind, number_from, signed}
use Rattle.setl_text.specs.Texts.{doubled}
use Rattle.setl_text.specs.Denoted.{NoQuote, NotNewline, EndsLine}
use Rattle.setl_text.specs.Reading.{Reading, Denotes, NotForm, TooWide, Between, InNumber, InWord, InString, AfterQuote, Open, opened, before, within, taken, put_value, Placed, Whole, Inside, Unfit, placed_at_end, proceed, resume}

-- what follows where a value or `om` was placed and these bytes are left
abbrev pub after : Placed → List ℕ → Reading
after (Whole v) rest = Denotes v rest
after (Inside os) rest = resume rest Between os
after Unfit rest = NotForm

pub after_taken : (p : Placed) (b : ℕ) (bs : List ℕ) → proceed (taken p) b bs (resume bs) ≡ after p bs
after_taken (Whole v) b bs = refl
after_taken (Inside os) b bs = refl
after_taken Unfit b bs = refl

pub after_before : (d : Datum) (os : List Open) (b : ℕ) (bs : List ℕ) → proceed (before (put_value (Some d) os) b) b bs (resume bs) ≡ after (put_value (Some d) os) (b ∷ bs)
after_before d [] b bs = refl
after_before d (opened k got ∷ os) b bs = refl

pub after_end : (d : Datum) (os : List Open) → placed_at_end (put_value (Some d) os) ≡ after (put_value (Some d) os) []
after_end d [] = refl
after_end d (opened k got ∷ os) = refl

-- ---- integers

pub within_below : (negative : Bool) (m n : ℕ) → m ≤ n → within negative n ≡ true → within negative m ≡ true
within_below true m n h w = lt-ltb m (2 ^ 127 + 1) (let p = ltb-true n (2 ^ 127 + 1) w in omega arith)
within_below false m n h w = lt-ltb m (2 ^ 127) (let p = ltb-true n (2 ^ 127) w in omega arith)

pub grows : (n : ℕ) (bs : List ℕ) → n ≤ number_from n bs
grows n [] = omega arith
grows n (b ∷ bs) = omega (arith, grows (n * 10 + (b - 48)) bs)

abbrev integer : Bool → ℕ → Option Datum
integer negative n = Some (int (signed negative n))

number_by : (t : Bool) (negative : Bool) (n b : ℕ) (bs : List ℕ) (os : List Open) → is_digit b ≡ t
    → within negative (number_from n (cond t (b ∷ front is_digit bs) [])) ≡ true
    → ((m : ℕ) → within negative (number_from m (front is_digit bs)) ≡ true → resume bs (InNumber negative m) os ≡ after (put_value (integer negative (number_from m (front is_digit bs))) os) (behind is_digit bs))
    → resume (b ∷ bs) (InNumber negative n) os ≡ after (put_value (integer negative (number_from n (cond t (b ∷ front is_digit bs) []))) os) (cond t (behind is_digit bs) (b ∷ bs))
number_by true negative n b bs os e w more =
    let m = n * 10 + (b - 48) in
    let fits : within negative m ≡ true = within_below negative m (number_from m (front is_digit bs)) (grows m (front is_digit bs)) w in
    rw (e, fits) (more m w)
number_by false negative n b bs os e w more = rw e (after_before (int (signed negative n)) os b bs)

pub number_runs : (negative : Bool) (n : ℕ) (bs : List ℕ) (os : List Open) → within negative (number_from n (front is_digit bs)) ≡ true → resume bs (InNumber negative n) os ≡ after (put_value (integer negative (number_from n (front is_digit bs))) os) (behind is_digit bs)
number_runs negative n [] os w = after_end (int (signed negative n)) os
number_runs negative n (b ∷ bs) os w = number_by (is_digit b) negative n b bs os refl w (λ m v. number_runs negative m bs os v)

wide_by : (t : Bool) (negative : Bool) (n b : ℕ) (bs : List ℕ) (os : List Open) → is_digit b ≡ t
    → within negative n ≡ true
    → within negative (number_from n (cond t (b ∷ front is_digit bs) [])) ≡ false
    → ((m : ℕ) → within negative m ≡ true → within negative (number_from m (front is_digit bs)) ≡ false → resume bs (InNumber negative m) os ≡ TooWide)
    → resume (b ∷ bs) (InNumber negative n) os ≡ TooWide
wide_by true negative n b bs os e small w more =
    let m = n * 10 + (b - 48) in
    elim (cases_Bool (within negative m)) [ inl fits ↦ rw (e, fits) (more m fits w) | inr wide ↦ rw (e, wide) refl ]
wide_by false negative n b bs os e small w more = absurd (true≢false (sym small ∙ w))

pub wide_runs : (negative : Bool) (n : ℕ) (bs : List ℕ) (os : List Open) → within negative n ≡ true → within negative (number_from n (front is_digit bs)) ≡ false → resume bs (InNumber negative n) os ≡ TooWide
wide_runs negative n [] os small w = absurd (true≢false (sym small ∙ w))
wide_runs negative n (b ∷ bs) os small w = wide_by (is_digit b) negative n b bs os refl small w (λ m s v. wide_runs negative m bs os s v)

pub is_within : (negative : Bool) (n : ℕ) → IsWide (signed negative n) → within negative n ≡ true
is_within true zero w = refl
is_within true (suc n) w = lt-ltb (suc n) (2 ^ 127 + 1) (omega arith)
is_within false n w = lt-ltb n (2 ^ 127) w

pub is_wide : (negative : Bool) (n : ℕ) → within negative n ≡ true → IsWide (signed negative n)
is_wide true zero w = omega arith
is_wide true (suc n) w = let p = ltb-true (suc n) (2 ^ 127 + 1) w in omega arith
is_wide false n w = ltb-true n (2 ^ 127) w

pub not_within : (negative : Bool) (n : ℕ) → (IsWide (signed negative n) → ⊥) → within negative n ≡ false
not_within negative n never = elim (cases_Bool (within negative n)) [ inl fits ↦ absurd (never (is_wide negative n fits)) | inr e ↦ e ]

pub spelled : (b : ℕ) (bs : List ℕ) → is_digit b ≡ true → number_from 0 (front is_digit (b ∷ bs)) ≡ number_from (b - 48) (front is_digit bs)
spelled b bs e = rw e (ap (λ n. number_from n (front is_digit bs)) (zero-add (b - 48)))

pub digit_within : (negative : Bool) (b : ℕ) → is_digit b ≡ true → within negative (b - 48) ≡ true
digit_within negative b e = within_below negative (b - 48) 9 (let p = leb-true b 57 (and_parts (leb 48 b) (leb b 57) e).1 in omega arith) (nine negative)
  where
    nine : (negative : Bool) → within negative 9 ≡ true
    nine true = refl
    nine false = refl

-- ---- words

word_by : (t : Bool) (v : Bool) (wanted : List ℕ) (b : ℕ) (bs : List ℕ) (os : List Open) → is_letter b ≡ t
    → map lower (cond t (b ∷ front is_letter bs) []) ≡ wanted
    → ((ws : List ℕ) → map lower (front is_letter bs) ≡ ws → resume bs (InWord v ws) os ≡ after (put_value (Some (bool v)) os) (behind is_letter bs))
    → resume (b ∷ bs) (InWord v wanted) os ≡ after (put_value (Some (bool v)) os) (cond t (behind is_letter bs) (b ∷ bs))
word_by true v [] b bs os e is more = absurd (cc)
word_by true v (w ∷ ws) b bs os e is more =
    let same : lower b ≡ w = cc in
    let rest : map lower (front is_letter bs) ≡ ws = cc in
    rw (eq-eqb (lower b) w same) (more ws rest)
word_by false v [] b bs os e is more = rw e (after_before (bool v) os b bs)
word_by false v (w ∷ ws) b bs os e is more = absurd (cc)

pub word_runs : (v : Bool) (wanted bs : List ℕ) (os : List Open) → map lower (front is_letter bs) ≡ wanted → resume bs (InWord v wanted) os ≡ after (put_value (Some (bool v)) os) (behind is_letter bs)
word_runs v [] [] os is = after_end (bool v) os
word_runs v (w ∷ ws) [] os is = absurd (cc)
word_runs v wanted (b ∷ bs) os is = word_by (is_letter b) v wanted b bs os refl is (λ ws h. word_runs v ws bs os h)

pub no_low : (b w : ℕ) → is_letter b ≡ false → IsLow w → eqb (lower b) w ≡ false
no_low b w e low = ne_eqb (lower b) w (λ is. grind (arith, nat_tests))

word_fails_by : (t : Bool) (v : Bool) (wanted : List ℕ) (b : ℕ) (bs : List ℕ) (os : List Open) → is_letter b ≡ t → AllByRecursion IsLow wanted
    → (map lower (cond t (b ∷ front is_letter bs) []) ≡ wanted → ⊥)
    → ((ws : List ℕ) → AllByRecursion IsLow ws → (map lower (front is_letter bs) ≡ ws → ⊥) → resume bs (InWord v ws) os ≡ NotForm)
    → resume (b ∷ bs) (InWord v wanted) os ≡ NotForm
word_fails_by true v [] b bs os e low never more = rw e refl
word_fails_by true v (w ∷ ws) b bs os e low never more =
    elim (cases_Bool (eqb (lower b) w)) [
      | inl same ↦ rw same (more ws low.1 (λ is. never (ap (λ c. c ∷ map lower (front is_letter bs)) (eqb-true (lower b) w same) ∙ ap (λ l. w ∷ l) is)))
      | inr other ↦ rw other refl
    ]
word_fails_by false v [] b bs os e low never more = absurd (never refl)
word_fails_by false v (w ∷ ws) b bs os e low never more = rw (no_low b w e low.0) refl

pub word_fails : (v : Bool) (wanted bs : List ℕ) (os : List Open) → AllByRecursion IsLow wanted → (map lower (front is_letter bs) ≡ wanted → ⊥) → resume bs (InWord v wanted) os ≡ NotForm
word_fails v [] [] os low never = absurd (never refl)
word_fails v (w ∷ ws) [] os low never = refl
word_fails v wanted (b ∷ bs) os low never = word_fails_by (is_letter b) v wanted b bs os refl low never (λ ws l h. word_fails v ws bs os l h)

-- ---- strings

quote_ends : (got rest : List ℕ) (os : List Open) → NoQuote rest → resume rest (AfterQuote got) os ≡ after (put_value (Some (text got)) os) rest
quote_ends got [] os never = after_end (text got) os
quote_ends got (b ∷ bs) os never = rw (ne_eqb b 39 never) (after_before (text got) os b bs)

-- one more byte of a string, which stands doubled where it is an apostrophe
string_by : (t : Bool) (b : ℕ) (bs got : List ℕ) (os : List Open) → eqb b 39 ≡ t → NotNewline b → (r : Reading) → resume bs (InString (got ++ b ∷ [])) os ≡ r → resume (cond t (39 ∷ 39 ∷ bs) (b ∷ bs)) (InString got) os ≡ r
string_by true b bs got os e never r more = ap (λ c. resume bs (InString (got ++ c ∷ [])) os) (sym (eqb-true b 39 e)) ∙ more
string_by false b bs got os e never r more = rw (e, ne_eqb b 10 never) more

doubled_more : (t : Bool) (b : ℕ) (bs rest : List ℕ) → cond t (39 ∷ 39 ∷ bs) (b ∷ bs) ++ rest ≡ cond t (39 ∷ 39 ∷ (bs ++ rest)) (b ∷ (bs ++ rest))
doubled_more true b bs rest = refl
doubled_more false b bs rest = refl

pub string_part : (t rest got : List ℕ) (os : List Open) → AllByRecursion NotNewline t → resume (doubled t ++ rest) (InString got) os ≡ resume rest (InString (got ++ t)) os
string_part [] rest got os never = ap (λ l. resume rest (InString l) os) (sym (append-nil got))
string_part (b ∷ t) rest got os never =
    rw (doubled_more (eqb b 39) b (doubled t) rest)
    (string_by (eqb b 39) b (doubled t ++ rest) got os refl never.0 _ (string_part t rest (got ++ b ∷ []) os never.1 ∙ ap (λ l. resume rest (InString l) os) (append_assoc got (b ∷ []) t)))

pub string_runs : (t rest : List ℕ) (os : List Open) → AllByRecursion NotNewline t → NoQuote rest → resume (doubled t ++ 39 ∷ rest) (InString []) os ≡ after (put_value (Some (text t)) os) rest
string_runs t rest os never end = string_part t (39 ∷ rest) [] os never ∙ quote_ends t rest os end

pub string_fails : (t rest : List ℕ) (os : List Open) → AllByRecursion NotNewline t → EndsLine rest → resume (doubled t ++ rest) (InString []) os ≡ NotForm
string_fails t [] os never end = string_part t [] [] os never
string_fails t (b ∷ bs) os never end = string_part t (b ∷ bs) [] os never ∙ rw end refl
