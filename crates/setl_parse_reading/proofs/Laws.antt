-- What reading and a language have to do with each other, for each way to make a larger one of smaller ones.
use Rattle.std.proofs.Common.{◌≡◌, ℕ, zero, suc, ◌+◌, ◌≤◌, Bool, true, false, not, cond, List, [], ◌∷◌, ◌++◌, length, Option, Some, None, Result, Ok, Err, refl, sym, ap, subst, ◌∙◌, append_assoc, arith, inl, inr, ◌⊎◌, length-append}
use Rattle.std.proofs.lemmas.List.{append-nil}
use Rattle.setl_tree.specs.Tokens.{Token, Tokens}
use Rattle.setl_tree.specs.declared.kind.Kind.{Kind}
use Rattle.setl_tree.specs.declared.kind.Kind.TheVariants as k
use Rattle.setl_parse_reading.specs.declared.fault.Fault.{Fault}
use Rattle.setl_tree.specs.Lang.{Lang, Then, Split, IsToken, Means}
use Rattle.setl_tree.specs.Lang as lang
use Rattle.setl_tree.specs.Lang.{line_of}
use Rattle.setl_parse_reading.specs.code.Reading.{Outcome, Reader, next_kind, same_kind, is, but, rest_of, and_then, ◌>>=◌, pure, peek, take_if, open_if, open_meant, expect, opening, opening_one_of, meant, one_of, is_some, begins_as, many_from, many, more, separated, listed, optional, lined, name}
use Rattle.setl_parse_reading.proofs.EveryKind.{same_kind_is, same_kind_self, every, all_of, kinds}

-- what was read, and the tokens that spell it
pub record Took {A : Type 0} (L : Tokens → A → Type 0) (toks : Tokens) (a : A) (rest : Tokens) : Type 0 where
  pub used : Tokens
  pub parts : toks ≡ used ++ rest
  pub spelled : L used a

abbrev pub always : Kind → Bool
always k = true

-- what is read is spelled so
pub record Sound {A : Type 0} (r : Reader A) (L : Tokens → A → Type 0) : Type 0 where
  pub took : (toks : Tokens) (a : A) (rest : Tokens) → r toks ≡ Ok (a, rest) → Took L toks a rest

-- what is spelled so is read, where a token follows at which it may stop
pub record Complete {A : Type 0} (r : Reader A) (L : Tokens → A → Type 0) (stops : Kind → Bool) : Type 0 where
  pub reads : (used rest : Tokens) (a : A) → L used a → stops (next_kind rest) ≡ true → r (used ++ rest) ≡ Ok (a, rest)

pub record Law {A : Type 0} (r : Reader A) (L : Tokens → A → Type 0) (stops : Kind → Bool) : Type 0 where
  pub sound : Sound r L
  pub complete : Complete r L stops

pub law_of : {A : Type 0} {r : Reader A} {L : Tokens → A → Type 0} {stops : Kind → Bool}
    → ((toks : Tokens) (a : A) (rest : Tokens) → r toks ≡ Ok (a, rest) → Took L toks a rest)
    → ((used rest : Tokens) (a : A) → L used a → stops (next_kind rest) ≡ true → r (used ++ rest) ≡ Ok (a, rest)) → Law r L stops
law_of took reads = record { sound = record { took = took }; complete = record { reads = reads } }

-- the value of a step that did not fail
pub bind_ok : {A B : Type 0} (r : Outcome A) (f : A → Reader B) (y : B × Tokens) → and_then r f ≡ Ok y → (x : A × Tokens) × (r ≡ Ok x) × (f x.0 x.1 ≡ Ok y)
bind_ok (Ok x) f y e = (x, refl, e)
bind_ok (Err d) f y e = absurd cc

abbrev pub done : {A : Type 0} → A → Result A Fault
done x = Ok x

pub ok_parts : {A : Type 0} (a b : A) (i j : Tokens) → done {A = A × Tokens} (a, i) ≡ done {A = A × Tokens} (b, j) → (a ≡ b) × (i ≡ j)
ok_parts {A = A} a b i j e =
    let x : A × Tokens = (a, i) in
    let y : A × Tokens = (b, j) in
    let p : x ≡ y = cc in
    (ap (λ (x : A × Tokens). x.0) p, ap (λ (x : A × Tokens). x.1) p)

pub law_pure : {A : Type 0} (a : A) → Law (pure a) (lang.pure a) always
law_pure a = law_of
    (λ toks b rest e. let p = ok_parts a b toks rest e in record { used = []; parts = p.1; spelled = (refl, p.0) })
    (λ used rest b spelled stop. rw (spelled.0, spelled.1) refl)

-- Behind tokens of the language that stop as they may, the token q holds of comes first.
pub record Follows {A : Type 0} (L : Tokens → A → Type 0) (stops q : Kind → Bool) : Type 0 where
  pub holds : (toks rest : Tokens) (a : A) → L toks a → stops (next_kind rest) ≡ true → q (next_kind (toks ++ rest)) ≡ true

-- the second is true wherever the first is
pub record Within (p q : Kind → Bool) : Type 0 where
  pub at : (k : Kind) → p k ≡ true → q k ≡ true

pub same : {p : Kind → Bool} → Within p p
same = record { at = λ k h. h }

pub within_always : {p : Kind → Bool} → Within p always
within_always = record { at = λ k h. refl }

pub follows_pure : {A : Type 0} {a : A} {stops q : Kind → Bool} → Within stops q → Follows (lang.pure a) stops q
follows_pure h = record { holds = λ toks rest b s at. rw s.0 (h.at (next_kind rest) at) }

pub law_then : {A B : Type 0} {r : Reader A} {f : A → Reader B} {L : Tokens → A → Type 0} {M : A → Tokens → B → Type 0} {stops stops2 : Kind → Bool}
    → Law r L stops → ((a : A) → Law (f a) (M a) stops2) → ((a : A) → Follows (M a) stops2 stops) → Law (r >>= f) (Then L M) stops2
law_then {r = r} {f = f} one two follow = law_of
    (λ toks b rest e.
    let x = bind_ok (r toks) f (b, rest) e in
    let t = one.sound.took toks x.0.0 x.0.1 x.1 in
    let u = (two x.0.0).sound.took x.0.1 b rest x.2 in
    record {
      used = t.used ++ u.used;
      parts = t.parts ∙ ap (λ (z : Tokens). t.used ++ z) u.parts ∙ sym (append_assoc t.used u.used rest);
      spelled = record { front = t.used; back = u.used; value = x.0.0; parts = refl; first = t.spelled; second = u.spelled };
    })
    (λ used rest b s stop.
    let whole : used ++ rest ≡ s.front ++ (s.back ++ rest) = ap (λ (z : Tokens). z ++ rest) s.parts ∙ append_assoc s.front s.back rest in
    let first = one.complete.reads s.front (s.back ++ rest) s.value s.first ((follow s.value).holds s.back rest b s.second stop) in
    let both : and_then (r (used ++ rest)) f ≡ f s.value (s.back ++ rest) = rw (whole, first) refl in
    both ∙ (two s.value).complete.reads s.back rest b s.second stop)

-- ---- where a language begins

pub record BeginsWith (p : Kind → Bool) (toks : Tokens) : Type 0 where
  pub first : Token
  pub others : Tokens
  pub parts : toks ≡ first ∷ others
  pub holds : p first.kind ≡ true

pub record Begins {A : Type 0} (p : Kind → Bool) (L : Tokens → A → Type 0) : Type 0 where
  pub at : (toks : Tokens) (a : A) → L toks a → BeginsWith p toks

pub next_of : (p : Kind → Bool) (toks rest : Tokens) → BeginsWith p toks → p (next_kind (toks ++ rest)) ≡ true
next_of p toks rest b = rw b.parts b.holds

pub begins_token : {p : Kind → Bool} (k : Kind) → p k ≡ true → Begins p (lang.token k)
begins_token k h = record { at = λ toks t s. record { first = t; others = []; parts = s.alone; holds = rw s.kind h } }

pub begins_then : {A B : Type 0} {p : Kind → Bool} {L : Tokens → A → Type 0} {M : A → Tokens → B → Type 0} → Begins p L → Begins p (Then L M)
begins_then h = record {
  at = λ toks b s.
      let f = h.at s.front s.value s.first in
      record { first = f.first; others = f.others ++ s.back; parts = s.parts ∙ ap (λ (z : Tokens). z ++ s.back) f.parts; holds = f.holds };
}

pub begins_or : {A : Type 0} {p : Kind → Bool} {L M : Tokens → A → Type 0} → Begins p L → Begins p M → Begins p (λ toks a. L toks a ⊎ M toks a)
begins_or one two = record { at = λ toks a s. elim s [ inl l ↦ one.at toks a l | inr m ↦ two.at toks a m ] }

pub begins_within : {A : Type 0} {p q : Kind → Bool} {L : Tokens → A → Type 0} → Begins p L → Within p q → Begins q L
begins_within one h = record { at = λ toks a s. let b = one.at toks a s in record { first = b.first; others = b.others; parts = b.parts; holds = h.at b.first.kind b.holds } }

-- ---- one token

take_is : (b : Bool) (toks : Tokens) (t : Token) (rest : Tokens) → take_if b toks ≡ Ok (t, rest) → (b ≡ true) × (toks ≡ t ∷ rest)
take_is true [] t rest e = absurd cc
take_is true (x ∷ xs) t rest e = let p = ok_parts x t xs rest e in (refl, rw (p.0, p.1) refl)
take_is false toks t rest e = absurd cc

pub law_expect : (k : Kind) → Law (expect k) (lang.token k) always
unfolding expect
law_expect k = law_of
    (λ toks t rest e.
    let p = take_is (same_kind (next_kind toks) k) toks t rest e in
    let is : next_kind toks ≡ k = same_kind_is (next_kind toks) k p.0 in
    record { used = t ∷ []; parts = p.1; spelled = record { alone = refl; kind = ap next_kind (sym p.1) ∙ is } })
    (λ used rest t s stop. rw (s.alone, s.kind, same_kind_self) refl)

meant_is : {A : Type 0} (o : Option A) (toks : Tokens) (a : A) (rest : Tokens) → meant o toks ≡ Ok (a, rest) → (o ≡ Some a) × (rest_of toks ≡ rest)
meant_is (Some x) toks a rest e = let p = ok_parts x a (rest_of toks) rest e in (ap Some p.0, p.1)
meant_is None toks a rest e = absurd cc

-- what means something is no end
abbrev pub NotEnd : {A : Type 0} → (Kind → Option A) → Type 0
NotEnd meaning = meaning k.SourceEnd ≡ None

one_of_sound : {A : Type 0} (meaning : Kind → Option A) → NotEnd meaning → (toks : Tokens) (a : A) (rest : Tokens) → one_of meaning toks ≡ Ok (a, rest) → Took (lang.one_of meaning) toks a rest
unfolding one_of
one_of_sound meaning end [] a rest e = let p = meant_is (meaning k.SourceEnd) [] a rest e in absurd (cc (end, p.0))
one_of_sound meaning end (t ∷ toks) a rest e =
    let p = meant_is (meaning t.kind) (t ∷ toks) a rest e in
    record { used = t ∷ []; parts = ap (λ (z : Tokens). t ∷ z) p.1; spelled = record { it = t; alone = refl; means = p.0 } }

pub law_one_of : {A : Type 0} (meaning : Kind → Option A) → NotEnd meaning → Law (one_of meaning) (lang.one_of meaning) always
unfolding one_of
law_one_of meaning end = law_of
    (one_of_sound meaning end)
    (λ used rest a s stop. rw (s.alone, s.means) refl)

pub begins_one_of : {A : Type 0} (meaning : Kind → Option A) → Begins (λ kind. is_some (meaning kind)) (lang.one_of meaning)
begins_one_of meaning = record { at = λ toks a s. record { first = s.it; others = []; parts = s.alone; holds = rw s.means refl } }

-- ---- a choice by the next token

pub not_is : (b : Bool) → not b ≡ true → b ≡ false
not_is true e = absurd cc
not_is false e = refl

choose_sound : {A : Type 0} (b : Bool) (r q : Reader A) (L M : Tokens → A → Type 0) (stops : Kind → Bool) → Law r L stops → Law q M stops
    → (toks : Tokens) (a : A) (rest : Tokens) → cond b r q toks ≡ Ok (a, rest) → Took (λ t x. L t x ⊎ M t x) toks a rest
choose_sound true r q L M stops one two toks a rest e = let t = one.sound.took toks a rest e in record { used = t.used; parts = t.parts; spelled = inl t.spelled }
choose_sound false r q L M stops one two toks a rest e = let t = two.sound.took toks a rest e in record { used = t.used; parts = t.parts; spelled = inr t.spelled }

choose_reads : {A : Type 0} (p : Kind → Bool) (r q : Reader A) (L M : Tokens → A → Type 0) (stops : Kind → Bool) → Law r L stops → Law q M stops
    → Follows L stops p → Follows M stops (λ k. not (p k))
    → (used rest : Tokens) (a : A) → L used a ⊎ M used a → stops (next_kind rest) ≡ true → (peek >>= λ kind. cond (p kind) r q) (used ++ rest) ≡ Ok (a, rest)
choose_reads p r q L M stops one two if_one if_two used rest a s stop = elim s [
  | inl l ↦ rw (if_one.holds used rest a l stop) (one.complete.reads used rest a l stop)
  | inr m ↦ rw (not_is (p (next_kind (used ++ rest))) (if_two.holds used rest a m stop)) (two.complete.reads used rest a m stop)
]

pub law_choose : {A : Type 0} (p : Kind → Bool) {r q : Reader A} {L M : Tokens → A → Type 0} {stops : Kind → Bool} → Law r L stops → Law q M stops
    → Follows L stops p → Follows M stops (λ k. not (p k)) → Law (peek >>= λ kind. cond (p kind) r q) (λ t x. L t x ⊎ M t x) stops
law_choose p {r = r} {q = q} {L = L} {M = M} {stops = stops} one two if_one if_two = law_of
    (λ toks a rest e. choose_sound (p (next_kind toks)) r q L M stops one two toks a rest e)
    (choose_reads p r q L M stops one two if_one if_two)

-- the same language in other words, and stopping at fewer tokens
pub law_as : {A : Type 0} {r : Reader A} {L M : Tokens → A → Type 0} {stops : Kind → Bool} → Law r L stops
    → ((toks : Tokens) (a : A) → L toks a → M toks a) → ((toks : Tokens) (a : A) → M toks a → L toks a) → Law r M stops
law_as law to from = law_of
    (λ toks a rest e. let t = law.sound.took toks a rest e in record { used = t.used; parts = t.parts; spelled = to t.used a t.spelled })
    (λ used rest a s stop. law.complete.reads used rest a (from used a s) stop)

pub law_stops : {A : Type 0} {r : Reader A} {L : Tokens → A → Type 0} {stops fewer : Kind → Bool} → Law r L stops → Within fewer stops → Law r L fewer
law_stops law h = record { sound = law.sound; complete = record { reads = λ used rest a s stop. law.complete.reads used rest a s (h.at (next_kind rest) stop) } }

-- ---- many

many_sound : {A : Type 0} (begins : Kind → Bool) (item : Reader A) (L : Tokens → A → Type 0) (stops : Kind → Bool) → Law item L stops
    → (n : ℕ) (found : List A) (toks : Tokens) (all : List A) (rest : Tokens) → many_from begins item n found toks ≡ Ok (all, rest)
    → (more : List A) × (all ≡ found ++ more) × Took (lang.many L) toks more rest
unfolding many_from
many_sound begins item L stops law zero found toks all rest e =
    let p = ok_parts found all toks rest e in
    ([], sym p.0 ∙ sym (append-nil found), record { used = []; parts = p.1; spelled = refl })
many_sound {A = A} begins item L stops law (suc n) found toks all rest e =
    let go : (b : Bool) → cond b (item >>= λ x. many_from begins item n (found ++ x ∷ [])) (pure found) toks ≡ Ok (all, rest)
    → (more : List A) × (all ≡ found ++ more) × Took (lang.many L) toks more rest =
    λ b. elim b as (λ b. cond b (item >>= λ x. many_from begins item n (found ++ x ∷ [])) (pure found) toks ≡ Ok (all, rest)
    → (more : List A) × (all ≡ found ++ more) × Took (lang.many L) toks more rest) [
      | true ↦ λ e.
          let x = bind_ok (item toks) (λ x. many_from begins item n (found ++ x ∷ [])) (all, rest) e in
          let t = law.sound.took toks x.0.0 x.0.1 x.1 in
          let m = many_sound begins item L stops law n (found ++ x.0.0 ∷ []) x.0.1 all rest x.2 in (
            x.0.0 ∷ m.0,
            m.1 ∙ append_assoc found (x.0.0 ∷ []) m.0,
            record {
              used = t.used ++ m.2.used;
              parts = t.parts ∙ ap (λ (z : Tokens). t.used ++ z) m.2.parts ∙ sym (append_assoc t.used m.2.used rest);
              spelled = record { front = t.used; back = m.2.used; parts = refl; first = t.spelled; second = m.2.spelled };
            },
          )
      | false ↦ λ e.
          let p = ok_parts found all toks rest e in
          ([], sym p.0 ∙ sym (append-nil found), record { used = []; parts = p.1; spelled = refl })
    ] in
    go (begins (next_kind toks)) e

pub next_many : {A : Type 0} (p : Kind → Bool) (L : Tokens → A → Type 0) (stops q : Kind → Bool) → Begins p L → Within p q → Within stops q
    → (toks rest : Tokens) (xs : List A) → lang.many L toks xs → stops (next_kind rest) ≡ true → q (next_kind (toks ++ rest)) ≡ true
next_many p L stops q bs h stop toks rest [] s at = rw s (stop.at (next_kind rest) at)
next_many p L stops q bs h stop toks rest (x ∷ xs) s at =
    let b = bs.at s.front x s.first in
    let whole : toks ≡ b.first ∷ (b.others ++ s.back) = s.parts ∙ ap (λ (z : Tokens). z ++ s.back) b.parts in
    rw whole (h.at b.first.kind b.holds)

many_complete : {A : Type 0} (begins : Kind → Bool) (item : Reader A) (L : Tokens → A → Type 0) (stops_item stops : Kind → Bool) → Law item L stops_item → Begins begins L
    → Within begins stops_item → Within stops stops_item → Within stops (λ k. not (begins k))
    → (n : ℕ) (found : List A) (used rest : Tokens) (xs : List A) → lang.many L used xs → stops (next_kind rest) ≡ true → length used ≤ n
    → many_from begins item n found (used ++ rest) ≡ Ok (found ++ xs, rest)
unfolding many_from
many_complete begins item L stops_item stops law bs go stop off zero found used rest [] s at fits = rw (s, append-nil found) refl
many_complete begins item L stops_item stops law bs go stop off (suc n) found used rest [] s at fits = rw (s, not_is (begins (next_kind rest)) (off.at (next_kind rest) at), append-nil found) refl
many_complete begins item L stops_item stops law bs go stop off zero found used rest (x ∷ xs) s at fits =
    let b = bs.at s.front x s.first in
    let e : used ≡ b.first ∷ (b.others ++ s.back) = s.parts ∙ ap (λ (z : Tokens). z ++ s.back) b.parts in
    absurd (omega (arith, ap length e))
many_complete begins item L stops_item stops law bs go stop off (suc n) found used rest (x ∷ xs) s at fits =
    let b = bs.at s.front x s.first in
    let whole : used ++ rest ≡ s.front ++ (s.back ++ rest) = ap (λ (z : Tokens). z ++ rest) s.parts ∙ append_assoc s.front s.back rest in
    let next : begins (next_kind (s.front ++ (s.back ++ rest))) ≡ true = next_of begins s.front (s.back ++ rest) b in
    let first = law.complete.reads s.front (s.back ++ rest) x s.first (next_many begins L stops stops_item bs go stop s.back rest xs s.second at) in
    let long : length used ≡ suc (length b.others) + length s.back = ap length s.parts ∙ length-append s.front s.back ∙ ap (λ (z : Tokens). length z + length s.back) b.parts in
    let others = many_complete begins item L stops_item stops law bs go stop off n (found ++ x ∷ []) s.back rest xs s.second at (omega arith) in
    rw (whole, next, first) (others ∙ ap (λ (z : List _). Ok (z, rest)) (append_assoc found (x ∷ []) xs))

pub law_many : {A : Type 0} {begins : Kind → Bool} {item : Reader A} {L : Tokens → A → Type 0} {stops_item stops : Kind → Bool} → Law item L stops_item → Begins begins L
    → Within begins stops_item → Within stops stops_item → Within stops (λ k. not (begins k))
    → Law (many begins item) (lang.many L) stops
law_many {begins = begins} {item = item} {L = L} {stops_item = stops_item} {stops = stops} law bs go stop off = law_of
    (λ toks xs rest e.
    let m = many_sound begins item L stops_item law (length toks) [] toks xs rest e in
    subst (λ (z : List _). Took (lang.many L) toks z rest) (sym m.1) m.2)
    (λ used rest xs s at. many_complete begins item L stops_item stops law bs go stop off (length (used ++ rest)) [] used rest xs s at (omega (arith, length-append used rest)))

-- a reader that ends by making a value
pub law_map : {A B : Type 0} {r : Reader A} {L : Tokens → A → Type 0} {stops : Kind → Bool} (f : A → B) → Law r L stops → Law (r >>= λ a. pure (f a)) (Then L (λ a. lang.pure (f a))) stops
law_map f law = law_then law (λ a. law_stops (law_pure (f a)) within_always) (λ a. follows_pure same)

-- ---- what stands in front, for each way to make a language

pub follows_begins : {A : Type 0} {p : Kind → Bool} {L : Tokens → A → Type 0} {stops q : Kind → Bool} → Begins p L → Within p q → Follows L stops q
follows_begins bs h = record { holds = λ toks rest a s at. let b = bs.at toks a s in rw b.parts (h.at b.first.kind b.holds) }

pub follows_token : {A : Type 0} (k : Kind) {M : Token → Tokens → A → Type 0} {stops q : Kind → Bool} → q k ≡ true → Follows (Then (lang.token k) M) stops q
follows_token k h = follows_begins (begins_then (begins_token k h)) same

pub follows_then : {A B : Type 0} {L : Tokens → A → Type 0} {M : A → Tokens → B → Type 0} {stops mid q : Kind → Bool} → Follows L mid q → ((a : A) → Follows (M a) stops mid) → Follows (Then L M) stops q
follows_then one two = record {
  holds = λ toks rest b s at.
      let whole : toks ++ rest ≡ s.front ++ (s.back ++ rest) = ap (λ (z : Tokens). z ++ rest) s.parts ∙ append_assoc s.front s.back rest in
      rw whole (one.holds s.front (s.back ++ rest) s.value s.first ((two s.value).holds s.back rest b s.second at));
}

pub follows_many : {A : Type 0} {p : Kind → Bool} {L : Tokens → A → Type 0} {stops q : Kind → Bool} → Begins p L → Within p q → Within stops q → Follows (lang.many L) stops q
follows_many {p = p} {L = L} {stops = stops} {q = q} bs h stop = record { holds = λ toks rest xs s at. next_many p L stops q bs h stop toks rest xs s at }

pub follows_or : {A : Type 0} {L M : Tokens → A → Type 0} {stops q : Kind → Bool} → Follows L stops q → Follows M stops q → Follows (λ t a. L t a ⊎ M t a) stops q
follows_or one two = record { holds = λ toks rest a s at. elim s [ inl l ↦ one.holds toks rest a l at | inr m ↦ two.holds toks rest a m at ] }

pub follows_map : {A B : Type 0} {f : A → B} {L : Tokens → A → Type 0} {stops q : Kind → Bool} → Follows L stops q → Follows (Then L (λ a. lang.pure (f a))) stops q
follows_map one = follows_then one (λ a. follows_pure same)

many_first : {A B : Type 0} {p q : Kind → Bool} {L : Tokens → A → Type 0} {M : List A → Tokens → B → Type 0} → Begins p L → Within p q → ((xs : List A) → Begins q (M xs))
    → (toks : Tokens) (b : B) (xs : List A) (front back : Tokens) → toks ≡ front ++ back → lang.many L front xs → M xs back b → BeginsWith q toks
many_first one h two toks b [] front back parts first second =
    let f = (two []).at back b second in
    record { first = f.first; others = f.others; parts = parts ∙ ap (λ (z : Tokens). z ++ back) first ∙ f.parts; holds = f.holds }
many_first one h two toks b (x ∷ xs) front back parts first second =
    let f = one.at first.front x first.first in
    record { first = f.first; others = f.others ++ first.back ++ back; parts = parts ∙ ap (λ (z : Tokens). z ++ back) (first.parts ∙ ap (λ (z : Tokens). z ++ first.back) f.parts); holds = h.at f.first.kind f.holds }

-- any number of parts, and then one that begins otherwise
pub begins_many : {A B : Type 0} {p q : Kind → Bool} {L : Tokens → A → Type 0} {M : List A → Tokens → B → Type 0} → Begins p L → Within p q → ((xs : List A) → Begins q (M xs)) → Begins q (Then (lang.many L) M)
begins_many {L = L} {M = M} one h two = record { at = λ toks b s. many_first one h two toks b s.value s.front s.back s.parts s.first s.second }

-- ---- a choice by the kind of the next token

pub took_as : {A : Type 0} {L M : Tokens → A → Type 0} {toks : Tokens} {a : A} {rest : Tokens} → Took L toks a rest → ((used : Tokens) (a : A) → L used a → M used a) → Took M toks a rest
took_as {a = a} t to = record { used = t.used; parts = t.parts; spelled = to t.used a t.spelled }

pub next_token : {A : Type 0} {k : Kind} {M : Token → Tokens → A → Type 0} {toks : Tokens} {a : A} (rest : Tokens) → Then (lang.token k) M toks a → next_kind (toks ++ rest) ≡ k
next_token {toks = toks} rest s =
    let whole : next_kind (toks ++ rest) ≡ s.value.kind = ap (λ (z : Tokens). next_kind (z ++ rest)) (s.parts ∙ ap (λ (z : Tokens). z ++ s.back) s.first.alone) in
    whole ∙ s.first.kind

-- an alternative that begins with the token of a kind is read as the choice at that kind
pub chosen : {A : Type 0} (k : Kind) (by : Kind → Reader A) {L : Tokens → A → Type 0} {stops : Kind → Bool} → Law (by k) L stops → Begins (is k) L
    → (used rest : Tokens) (a : A) → L used a → stops (next_kind rest) ≡ true → (peek >>= by) (used ++ rest) ≡ Ok (a, rest)
chosen k by law begins used rest a s stop =
    let next : next_kind (used ++ rest) ≡ k = same_kind_is (next_kind (used ++ rest)) k (next_of (is k) used rest (begins.at used a s)) in
    let same : (peek >>= by) (used ++ rest) ≡ by k (used ++ rest) = ap (λ (z : Kind). by z (used ++ rest)) next in
    same ∙ law.complete.reads used rest a s stop

-- ---- a token that opens a nesting

no_token : {A : Type 0} (b : Bool) (f : Token → Reader A) (toks : Tokens) (a : A) (rest : Tokens) → and_then (open_if 0 b toks) f ≡ Ok (a, rest) → ⊥
no_token true f toks a rest e = cc
no_token false f toks a rest e = cc

pub no_room : {A : Type 0} (k : Kind) (f : Token → Reader A) (toks : Tokens) (a : A) (rest : Tokens) → (opening 0 k >>= f) toks ≡ Ok (a, rest) → ⊥
unfolding opening
no_room k f toks a rest e = no_token (same_kind (next_kind toks) k) f toks a rest e

pub no_meaning : {A B : Type 0} (o : Option A) (f : A → Reader B) (toks : Tokens) (b : B) (rest : Tokens) → and_then (open_meant 0 o toks) f ≡ Ok (b, rest) → ⊥
no_meaning (Some a) f toks b rest e = cc
no_meaning None f toks b rest e = cc

pub law_opening : {A : Type 0} (room : ℕ) (k : Kind) {f : Token → Reader A} {M : Token → Tokens → A → Type 0} {stops : Kind → Bool}
    → ((inside : ℕ) → room ≡ suc inside → (t : Token) → Law (f t) (M t) stops) → Law (opening room k >>= f) (Then (lang.opening room k) M) stops
unfolding opening expect
law_opening zero k {f = f} law = law_of (λ toks a rest e. absurd (no_room k f toks a rest e)) (λ used rest a s stop. absurd s.first)
law_opening (suc room) k law = law_then (law_expect k) (law room refl) (λ _. record { holds = λ _ _ _ _ _. refl })

pub law_opening_one_of : {A B : Type 0} (room : ℕ) (meaning : Kind → Option A) → NotEnd meaning → {f : A → Reader B} {M : A → Tokens → B → Type 0} {stops : Kind → Bool}
    → ((inside : ℕ) → room ≡ suc inside → (a : A) → Law (f a) (M a) stops) → Law (opening_one_of room meaning >>= f) (Then (lang.opening_one_of room meaning) M) stops
unfolding opening_one_of one_of
law_opening_one_of zero meaning end {f = f} law = law_of (λ toks a rest e. absurd (no_meaning (meaning (next_kind toks)) f toks a rest e)) (λ used rest a s stop. absurd s.first)
law_opening_one_of (suc room) meaning end law = law_then (law_one_of meaning end) (law room refl) (λ _. record { holds = λ _ _ _ _ _. refl })

pub begins_opening : (room : ℕ) {p : Kind → Bool} (k : Kind) → p k ≡ true → Begins p (lang.opening room k)
begins_opening zero k h = record { at = λ toks t s. absurd s }
begins_opening (suc room) k h = begins_token k h

pub begins_opening_one_of : {A : Type 0} (room : ℕ) (meaning : Kind → Option A) → Begins (begins_as meaning) (lang.opening_one_of room meaning)
begins_opening_one_of zero meaning = record { at = λ toks t s. absurd s }
begins_opening_one_of (suc room) meaning = begins_one_of meaning

pub follows_opening : {A : Type 0} (room : ℕ) (k : Kind) {M : Token → Tokens → A → Type 0} {stops q : Kind → Bool} → q k ≡ true → Follows (Then (lang.opening room k) M) stops q
follows_opening room k h = follows_begins (begins_then (begins_opening room k h)) same

-- ---- lists and optional parts

pub anything : {A : Type 0} {L : Tokens → A → Type 0} {stops : Kind → Bool} → Follows L stops always
anything = record { holds = λ _ _ _ _ _. refl }

pub law_more : {A : Type 0} {item : Reader A} {L : Tokens → A → Type 0} {stops_item stops : Kind → Bool} → Law item L stops_item
    → Within (is k.Comma) stops_item → Within stops stops_item → Within stops (but k.Comma) → Law (more item) (lang.many (lang.◌>>◌ (lang.token k.Comma) L)) stops
unfolding more
law_more law comma stop off = law_many (law_then (law_expect k.Comma) (λ _. law) (λ _. anything)) (begins_then (begins_token k.Comma (same_kind_self k.Comma))) comma stop off

-- what stands in front of more parts
pub follows_more : {A : Type 0} {L : Tokens → A → Type 0} {stops q : Kind → Bool} → Within (is k.Comma) q → Within stops q → Follows (lang.many (lang.◌>>◌ (lang.token k.Comma) L)) stops q
follows_more comma stop = follows_many (begins_then (begins_token {p = is k.Comma} k.Comma (same_kind_self k.Comma))) comma stop

pub law_separated : {A : Type 0} {item : Reader A} {L : Tokens → A → Type 0} {stops_item stops : Kind → Bool} → Law item L stops_item
    → Within (is k.Comma) stops_item → Within stops stops_item → Within stops (but k.Comma) → Law (separated item) (lang.separated L) stops
unfolding separated
law_separated law comma stop off = law_then law (λ first. law_map (λ others. first ∷ others) (law_more law comma stop off)) (λ first. follows_map (follows_more comma stop))

pub begins_separated : {A : Type 0} {L : Tokens → A → Type 0} {p : Kind → Bool} → Begins p L → Begins p (lang.separated L)
begins_separated begins = begins_then begins

pub law_listed : {A : Type 0} (close : Kind) {item : Reader A} {L : Tokens → A → Type 0} {stops_item begin : Kind → Bool} → Law item L stops_item → Begins begin L
    → Within (is k.Comma) stops_item → Within (is close) stops_item → Within (is close) (but k.Comma) → Within begin (but close) → Law (listed close item) (lang.listed L) (is close)
unfolding listed
law_listed close law begins comma stop off other = law_choose (is close)
    (law_stops (law_pure []) within_always)
    (law_separated law comma stop off)
    (follows_pure same)
    (follows_begins (begins_separated begins) other)

pub took_at : {A : Type 0} {L : Tokens → A → Type 0} {toks : Tokens} {a b : A} {i j : Tokens} → (a ≡ b) × (i ≡ j) → Took L toks a i → Took L toks b j
took_at {L = L} {toks = toks} {b = b} {i = i} p t = subst (λ z. Took L toks b z) p.1 (subst (λ z. Took L toks z i) p.0 t)

optional_sound : {A : Type 0} (item : Reader A) (L : Tokens → A → Type 0) → Sound item L → (b : Bool) (toks : Tokens) (o : Option A) (rest : Tokens)
    → cond b (item >>= λ x. pure (Some x)) (pure None) toks ≡ Ok (o, rest) → Took (lang.optional L) toks o rest
optional_sound item L sound true toks o rest e =
    let x = bind_ok (item toks) (λ x. pure (Some x)) (o, rest) e in
    let t = sound.took toks x.0.0 x.0.1 x.1 in
    took_at (ok_parts (Some x.0.0) o x.0.1 rest x.2) (record { used = t.used; parts = t.parts; spelled = t.spelled })
optional_sound item L sound false toks o rest e = took_at (ok_parts None o toks rest e) (record { used = []; parts = refl; spelled = refl })

optional_reads : {A : Type 0} (begins : Kind → Bool) (item : Reader A) (L : Tokens → A → Type 0) (stops_item stops : Kind → Bool) → Complete item L stops_item → Begins begins L
    → Within stops stops_item → Within stops (λ kind. not (begins kind)) → (used rest : Tokens) (o : Option A) → lang.optional L used o → stops (next_kind rest) ≡ true
    → optional begins item (used ++ rest) ≡ Ok (o, rest)
optional_reads begins item L stops_item stops law bs stop off used rest None s at = rw (s, not_is (begins (next_kind rest)) (off.at (next_kind rest) at)) refl
optional_reads begins item L stops_item stops law bs stop off used rest (Some x) s at =
    rw (next_of begins used rest (bs.at used x s), law.reads used rest x s (stop.at (next_kind rest) at)) refl

pub law_optional : {A : Type 0} {begins : Kind → Bool} {item : Reader A} {L : Tokens → A → Type 0} {stops_item stops : Kind → Bool} → Law item L stops_item → Begins begins L
    → Within stops stops_item → Within stops (λ kind. not (begins kind)) → Law (optional begins item) (lang.optional L) stops
law_optional {begins = begins} {item = item} {L = L} {stops_item = stops_item} {stops = stops} law bs stop off = law_of
    (λ toks o rest e. optional_sound item L law.sound (begins (next_kind toks)) toks o rest e)
    (λ used rest o s at. optional_reads begins item L stops_item stops law.complete bs stop off used rest o s at)

optional_next : {A : Type 0} (begins : Kind → Bool) (L : Tokens → A → Type 0) (stops q : Kind → Bool) → Begins begins L → Within begins q → Within stops q
    → (toks rest : Tokens) (o : Option A) → lang.optional L toks o → stops (next_kind rest) ≡ true → q (next_kind (toks ++ rest)) ≡ true
optional_next begins L stops q bs go stop toks rest None s at = rw s (stop.at (next_kind rest) at)
optional_next begins L stops q bs go stop toks rest (Some x) s at =
    let b = bs.at toks x s in rw b.parts (go.at b.first.kind b.holds)

pub follows_optional : {A : Type 0} {begins : Kind → Bool} {L : Tokens → A → Type 0} {stops q : Kind → Bool} → Begins begins L → Within begins q → Within stops q → Follows (lang.optional L) stops q
follows_optional {begins = begins} {L = L} {stops = stops} {q = q} bs go stop = record { holds = optional_next begins L stops q bs go stop }

-- ---- a name

pub law_name : Law name lang.name always
unfolding name
law_name = law_map (λ t. t.text) (law_expect k.Name)

pub begins_name : {p : Kind → Bool} → p k.Name ≡ true → Begins p lang.name
begins_name h = begins_then (begins_token k.Name h)

-- ---- facts about kinds

abbrev pub implies : Bool → Bool → Bool
implies b c = cond b c true

implied : (b c : Bool) → implies b c ≡ true → b ≡ true → c ≡ true
implied true c h e = h
implied false c h e = absurd cc

-- the second holds at each kind at which the first does
pub within : {p q : Kind → Bool} → all_of (λ kind. implies (p kind) (q kind)) kinds ≡ true → Within p q
within {p = p} {q = q} h = record { at = λ kind e. implied (p kind) (q kind) (every (λ kind. implies (p kind) (q kind)) h kind) e }

pub then_within : {p q s : Kind → Bool} → Within p q → Within q s → Within p s
then_within one two = record { at = λ kind h. two.at kind (one.at kind h) }

-- ---- failing

-- no value is read
abbrev pub Fails : {A : Type 0} → Outcome A → Type 0
Fails {A = A} o = (x : A × Tokens) → o ≡ Ok x → ⊥

pub fails_then : {A B : Type 0} (r : Reader A) (f : A → Reader B) (i : Tokens) → Fails (r i) → Fails ((r >>= f) i)
fails_then r f i fails y e = let x = bind_ok (r i) f y e in fails x.0 x.1

pub fails_at : {A : Type 0} {o p : Outcome A} → o ≡ p → Fails p → Fails o
fails_at same fails x e = fails x (sym same ∙ e)

-- what a first and a second part took
pub took_then : {A B : Type 0} {L : Tokens → A → Type 0} {M : A → Tokens → B → Type 0} {toks mid rest : Tokens} {a : A} {b : B} → Took L toks a mid → Took (M a) mid b rest → Took (Then L M) toks b rest
took_then {rest = rest} {a = a} one two = record {
  used = one.used ++ two.used;
  parts = one.parts ∙ ap (λ (z : Tokens). one.used ++ z) two.parts ∙ sym (append_assoc one.used two.used rest);
  spelled = record { front = one.used; back = two.used; value = a; parts = refl; first = one.spelled; second = two.spelled };
}

pub bind_assoc : {A B C : Type 0} (o : Outcome A) (f : A → Reader B) (g : B → Reader C) → and_then (and_then o f) g ≡ and_then o (λ a. f a >>= g)
bind_assoc (Ok x) f g = refl
bind_assoc (Err d) f g = refl

-- ---- step by step

-- the choice at a token where the first is taken
pub takes : {A : Type 0} (p : Kind → Bool) (x y : Reader A) (i : Tokens) → p (next_kind i) ≡ true → (peek >>= λ kind. cond (p kind) x y) i ≡ x i
takes p x y i h = ap (λ (b : Bool). cond b x y i) h

pub passes : {A : Type 0} (p : Kind → Bool) (x y : Reader A) (i : Tokens) → p (next_kind i) ≡ false → (peek >>= λ kind. cond (p kind) x y) i ≡ y i
passes p x y i h = ap (λ (b : Bool). cond b x y i) h

-- what follows a step that read a value
pub goes_to : {A B : Type 0} {o : Outcome A} (f : A → Reader B) {a : A} {j : Tokens} → o ≡ Ok (a, j) → and_then o f ≡ f a j
goes_to f h = ap (λ o. and_then o f) h

open_none : (b : Bool) (i : Tokens) → Fails (open_if 0 b i)
open_none true i x e = cc
open_none false i x e = cc

pub opening_fails : (k : Kind) (i : Tokens) → Fails (opening 0 k i)
unfolding opening
opening_fails k i = open_none (same_kind (next_kind i) k) i

none_from : {A : Type 0} (begins : Kind → Bool) (item : Reader A) (n : ℕ) (found : List A) (i : Tokens) → begins (next_kind i) ≡ false → many_from begins item n found i ≡ Ok (found, i)
unfolding many_from
none_from begins item zero found i none = refl
none_from begins item (suc n) found i none = passes begins _ _ i none

-- no part begins here
pub many_none : {A : Type 0} (begins : Kind → Bool) (item : Reader A) (i : Tokens) → begins (next_kind i) ≡ false → many begins item i ≡ Ok ([], i)
many_none begins item i none = none_from begins item (length i) [] i none

pub same_outcome : {A : Type 0} (o : Outcome A) → o ≡ and_then o (λ a. pure a)
same_outcome (Ok x) = refl
same_outcome (Err d) = refl

pub opening_takes : (room : ℕ) (k : Kind) (t : Token) (toks : Tokens) → t.kind ≡ k → opening (suc room) k (t ∷ toks) ≡ Ok (t, toks)
unfolding opening
opening_takes room k t toks h = ap (λ (b : Bool). open_if (suc room) b (t ∷ toks)) (ap (is k) h ∙ same_kind_self k)

-- ---- the line of the first token

pub line_begins : {p : Kind → Bool} (toks rest : Tokens) → BeginsWith p toks → line_of (toks ++ rest) ≡ line_of toks
line_begins toks rest b = rw b.parts refl

lined_reads : {A : Type 0} (part : Reader A) (i : Tokens) (a : A) (rest : Tokens) → part i ≡ Ok (a, rest) → lined part i ≡ Ok ((line_of i, a), rest)
lined_reads part i a rest h = goes_to (λ a. pure (line_of i, a)) h

pub law_lined : {A : Type 0} {p : Kind → Bool} {part : Reader A} {L : Tokens → A → Type 0} {stops : Kind → Bool} → Law part L stops → Begins p L → Law (lined part) (lang.lined L) stops
law_lined {A = A} {part = part} {L = L} law begins = law_of
    (λ toks y rest h.
    let x = bind_ok (part toks) (λ a. pure (line_of toks, a)) (y, rest) h in
    let t = law.sound.took toks x.0.0 x.0.1 x.1 in
    let line : line_of t.used ≡ line_of toks = sym (ap line_of t.parts ∙ line_begins t.used x.0.1 (begins.at t.used x.0.0 t.spelled)) in
    let whole : Took (lang.lined L) toks (line_of toks, x.0.0) x.0.1 = record { used = t.used; parts = t.parts; spelled = (line, t.spelled) } in
    took_at (ok_parts (line_of toks, x.0.0) y x.0.1 rest x.2) whole)
    (λ used rest y s stop.
    let line : line_of (used ++ rest) ≡ y.0 = line_begins used rest (begins.at used y.1 s.1) ∙ s.0 in
    lined_reads part (used ++ rest) y.1 rest (law.complete.reads used rest y.1 s.1 stop) ∙ ap (λ (z : ℕ). Ok ((z, y.1), rest)) line)

pub begins_lined : {A : Type 0} {p : Kind → Bool} {L : Tokens → A → Type 0} → Begins p L → Begins p (lang.lined L)
begins_lined begins = record { at = λ toks y s. begins.at toks y.1 s.1 }

optional_first : {A B : Type 0} {p q : Kind → Bool} {L : Tokens → A → Type 0} {M : Option A → Tokens → B → Type 0} → Begins p L → Within p q → ((o : Option A) → Begins q (M o))
    → (toks : Tokens) (b : B) (o : Option A) (front back : Tokens) → toks ≡ front ++ back → lang.optional L front o → M o back b → BeginsWith q toks
optional_first one h two toks b None front back parts first second =
    let f = (two None).at back b second in
    record { first = f.first; others = f.others; parts = parts ∙ ap (λ (z : Tokens). z ++ back) first ∙ f.parts; holds = f.holds }
optional_first one h two toks b (Some x) front back parts first second =
    let f = one.at front x first in
    record { first = f.first; others = f.others ++ back; parts = parts ∙ ap (λ (z : Tokens). z ++ back) f.parts; holds = h.at f.first.kind f.holds }

-- an optional part, and then one that begins otherwise
pub begins_optional : {A B : Type 0} {p q : Kind → Bool} {L : Tokens → A → Type 0} {M : Option A → Tokens → B → Type 0} → Begins p L → Within p q → ((o : Option A) → Begins q (M o)) → Begins q (Then (lang.optional L) M)
begins_optional {L = L} {M = M} one h two = record { at = λ toks b s. optional_first one h two toks b s.value s.front s.back s.parts s.first s.second }

pub follows_within : {A : Type 0} {L : Tokens → A → Type 0} {stops p q : Kind → Bool} → Follows L stops p → Within p q → Follows L stops q
follows_within f h = record { holds = λ toks rest a s at. h.at (next_kind (toks ++ rest)) (f.holds toks rest a s at) }
