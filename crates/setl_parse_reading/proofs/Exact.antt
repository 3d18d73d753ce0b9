-- Where reading stops, for each way to make a larger reader of smaller ones.
use Rattle.std.proofs.Common.{◌≡◌, ℕ, zero, suc, ◌+◌, ◌≤◌, Bool, true, false, not, cond, List, [], ◌∷◌, ◌++◌, length, Option, Some, None, Ok, Err, refl, sym, ap, subst, ◌∙◌, append_assoc, arith, inl, inr, ◌⊎◌, length-append}
use Rattle.std.proofs.lemmas.List.{append-nil}
use Rattle.std.specs.Prelude.{pos}
use Rattle.setl_tree.specs.Tokens.{Token, Tokens}
use Rattle.setl_tree.specs.declared.kind.Kind.{Kind}
use Rattle.setl_tree.specs.declared.kind.Kind.TheVariants as k
use Rattle.setl_tree.specs.Lang.{Lang, Then, IsToken}
use Rattle.setl_tree.specs.Lang as lang
use Rattle.setl_parse_reading.specs.declared.fault.Fault.{Fault}
use Rattle.setl_parse_reading.specs.declared.fault.Fault.TheVariants.{Syntax}
use Rattle.setl_parse_reading.specs.Fronts.{opens_nesting}
use Rattle.setl_parse_reading.specs.code.Reading.{Outcome, Reader, next_kind, is, begins_as, and_then, ◌>>=◌, pure, peek, take_if, open_if, open_meant, expect, opening, opening_one_of, meant, one_of, is_some, many_from, many, more, separated, listed, optional, lined, name}
use Rattle.setl_parse_reading.proofs.EveryKind.{same_kind_is, same_kind_self}
use Rattle.setl_parse_reading.proofs.Laws.{no_room, no_meaning, line_begins, took_at, Took, Sound, Begins, Within, NotEnd, bind_ok, ok_parts, took_then, took_as, law_pure, law_expect, law_one_of, begins_then, begins_token}
use Rattle.setl_parse_reading.proofs.Reach.{left, Extends, Fits, Reach, reach_then, reach_pure, reach_by, reach_choose, reach_expect, reach_one_of, reach_opening, reach_opening_one_of, reach_lower, reach_lined, reach_many, eats_begins, many_within}
use Rattle.setl_parse_reading.proofs.Openers.{Opener, Shows, at_most, none_before, opener_left, shows_more, shows_then, shows_none, last_opens}

-- ---- fronts

-- tokens before a place that go on to tokens of the language
pub record Fronted {A : Type 0} (L : Tokens → A → Type 0) (toks : Tokens) (count : ℕ) : Type 0 where
  pub used : Tokens
  pub rest : Tokens
  pub more : Tokens
  pub value : A
  pub parts : toks ≡ used ++ rest
  pub left : length rest ≡ count
  pub spelled : L (used ++ more) value

-- some tokens are of the language
pub record Some_of {A : Type 0} (L : Tokens → A → Type 0) : Type 0 where
  pub toks : Tokens
  pub value : A
  pub spelled : L toks value

-- where a language has tokens: everywhere, or where a nesting may open
abbrev pub Enough : Bool → ℕ → Type 0
Enough true room = 0 ≤ room
Enough false room = 1 ≤ room

-- Each of the tokens may open a nesting and one more, or the token before the place opens one.
abbrev pub Goes : ℕ → Tokens → ℕ → Type 0
Goes room toks count = Fits room toks ⊎ Opener toks (suc count)

-- What is read is spelled so; what stands before a fault is a front; reading stops where the tokens before it show; and
-- where it stops behind a token that opens a nesting, one of the nestings that were held may open.
pub record Stops {A : Type 0} (always : Bool) (room held : ℕ) (r : Reader A) (L : Tokens → A → Type 0) : Type 0 where
  pub sound : Sound r L
  pub stop : (toks : Tokens) (count : ℕ) → Goes room toks count → r toks ≡ Err (Syntax count) → Fronted L toks count
  pub some : Enough always room → Some_of L
  pub reach : Reach room r
  pub shows : (toks : Tokens) → Shows held toks (r toks)

abbrev pub Exact : {A : Type 0} → Bool → ℕ → Reader A → (Tokens → A → Type 0) → Type 0
Exact always room r L = Stops always room room r L

-- behind a token that opened a nesting, with as many that may still open
abbrev pub Behind : {A : Type 0} → ℕ → Reader A → (Tokens → A → Type 0) → Type 0
Behind inside r L = Stops true inside (suc inside) r L

pub enough_fits : (b : Bool) (room : ℕ) (toks : Tokens) → Fits room toks → Enough b room
enough_fits true room toks fits = omega arith
enough_fits false room toks fits = omega (arith, fits)

enough_one : (b : Bool) (room : ℕ) → 1 ≤ room → Enough b room
enough_one true room one = omega arith
enough_one false room one = one

enough_inside : (inside : ℕ) → 1 ≤ suc inside → Enough true inside
enough_inside inside one = omega arith

-- at a fault of syntax
enough_goes : {A : Type 0} (b : Bool) (room held : ℕ) (toks : Tokens) (count : ℕ) → (1 ≤ held → Enough b room) → (o : Outcome A) → o ≡ Err (Syntax count) → Shows held toks o → Goes room toks count → Enough b room
enough_goes b room held toks count enough o h shows (inl fits) = enough_fits b room toks fits
enough_goes b room held toks count enough o h shows (inr opener) = let s = subst (λ z. Shows held toks z) h shows in enough (s opener)

-- where a part was read up to here
shows_held : {A : Type 0} (held : ℕ) (toks : Tokens) (o : Outcome A) (a : A) (rest : Tokens) → o ≡ Ok (a, rest) → Shows held toks o → Opener toks (suc (length rest)) → 1 ≤ held
shows_held held toks o a rest h shows opener = let s = subst (λ z. Shows held toks z) h shows in s opener

pub bind_err : {A B : Type 0} (o : Outcome A) (f : A → Reader B) (e : Fault) → and_then o f ≡ Err e → (o ≡ Err e) ⊎ ((x : A × Tokens) × (o ≡ Ok x) × (f x.0 x.1 ≡ Err e))
bind_err (Ok x) f e h = inr (x, refl, h)
bind_err (Err d) f e h = let same : d ≡ e = cc in inl (ap Err same)

pub fronted_first : {A B : Type 0} {L : Tokens → A → Type 0} {M : A → Tokens → B → Type 0} {toks : Tokens} {count : ℕ} → Fronted L toks count → ((a : A) → Some_of (M a)) → Fronted (Then L M) toks count
fronted_first f some =
    let s = some f.value in
    record {
      used = f.used;
      rest = f.rest;
      more = f.more ++ s.toks;
      value = s.value;
      parts = f.parts;
      left = f.left;
      spelled = record { front = f.used ++ f.more; back = s.toks; value = f.value; parts = sym (append_assoc f.used f.more s.toks); first = f.spelled; second = s.spelled };
    }

pub fronted_second : {A B : Type 0} {L : Tokens → A → Type 0} {M : A → Tokens → B → Type 0} {toks mid : Tokens} {a : A} {count : ℕ} → Took L toks a mid → Fronted (M a) mid count → Fronted (Then L M) toks count
fronted_second {a = a} t f = record {
  used = t.used ++ f.used;
  rest = f.rest;
  more = f.more;
  value = f.value;
  parts = t.parts ∙ ap (λ (z : Tokens). t.used ++ z) f.parts ∙ sym (append_assoc t.used f.used f.rest);
  left = f.left;
  spelled = record { front = t.used; back = f.used ++ f.more; value = a; parts = append_assoc t.used f.used f.more; first = t.spelled; second = f.spelled };
}

pub fronted_as : {A : Type 0} {L M : Tokens → A → Type 0} {toks : Tokens} {count : ℕ} → Fronted L toks count → ((t : Tokens) (a : A) → L t a → M t a) → Fronted M toks count
fronted_as f to = record { used = f.used; rest = f.rest; more = f.more; value = f.value; parts = f.parts; left = f.left; spelled = to (f.used ++ f.more) f.value f.spelled }

-- the fault is at the first token
pub fronted_here : {A : Type 0} {L : Tokens → A → Type 0} {toks : Tokens} {count : ℕ} → length toks ≡ count → Some_of L → Fronted L toks count
fronted_here {toks = toks} h s = record { used = []; rest = toks; more = s.toks; value = s.value; parts = refl; left = h; spelled = s.spelled }

pub fits_took : {A : Type 0} {L : Tokens → A → Type 0} {toks rest : Tokens} {a : A} (room : ℕ) → Took L toks a rest → Fits room toks → Fits room rest
fits_took {rest = rest} room t fits = let long = ap length t.parts ∙ length-append t.used rest in omega (arith, long, fits)

-- the fault is behind the tokens that were taken
goes_on : {A B : Type 0} {L : Tokens → A → Type 0} {M : Tokens → B → Type 0} {room inside : ℕ} {toks mid : Tokens} {a : A} {count : ℕ} → Took L toks a mid → (Fits room toks → Fits inside mid)
    → (Opener toks (suc (length mid)) → Some_of M) → (Goes inside mid count → Fronted M mid count) → count ≤ length mid → Goes room toks count → Fronted M mid count
goes_on t fits some stop le (inl g) = stop (inl (fits g))
goes_on {toks = toks} {mid = mid} {count = count} t fits some stop le (inr o) = elim (at_most count (length mid) le) [
  | inl less ↦ stop (inr (opener_left t.used t.parts less o))
  | inr same ↦ fronted_here (sym same) (some (subst (λ (n : ℕ). Opener toks (suc n)) same o))
]

fault_within : {A : Type 0} {room count : ℕ} {r : Reader A} {toks : Tokens} → Reach room r → r toks ≡ Err (Syntax count) → count ≤ length toks
fault_within {toks = toks} reach h = let le = reach.within toks in let at = ap left h in omega (arith, le, at)

pub some_then : {A B : Type 0} {L : Tokens → A → Type 0} {M : A → Tokens → B → Type 0} → Some_of L → ((a : A) → Some_of (M a)) → Some_of (Then L M)
some_then one two =
    let s = two one.value in
    record { toks = one.toks ++ s.toks; value = s.value; spelled = record { front = one.toks; back = s.toks; value = one.value; parts = refl; first = one.spelled; second = s.spelled } }

sound_then : {A B : Type 0} {r : Reader A} {f : A → Reader B} {L : Tokens → A → Type 0} {M : A → Tokens → B → Type 0} → Sound r L → ((a : A) → Sound (f a) (M a)) → Sound (r >>= f) (Then L M)
sound_then {r = r} {f = f} one two = record {
  took = λ toks b rest e.
      let x = bind_ok (r toks) f (b, rest) e in
      took_then (one.took toks x.0.0 x.0.1 x.1) ((two x.0.0).took x.0.1 b rest x.2);
}

stops_then : {A B : Type 0} {always : Bool} {room held : ℕ} {r : Reader A} {f : A → Reader B} {L : Tokens → A → Type 0} {M : A → Tokens → B → Type 0} → (1 ≤ held → Enough always room) → Stops always room held r L
    → ((a : A) → Stops always room held (f a) (M a)) → Stops always room held (r >>= f) (Then L M)
stops_then {always = always} {room = room} {held = held} {r = r} {f = f} {L = L} {M = M} enough one two = record {
  sound = sound_then one.sound (λ a. (two a).sound);
  stop = λ toks count goes h. elim (bind_err (r toks) f (Syntax count) h) [
    | inl first ↦ fronted_first (one.stop toks count goes first) (λ a. (two a).some (enough_goes always room held toks count enough (r toks) first (one.shows toks) goes))
    | inr x ↦
        let t = one.sound.took toks x.0.0 x.0.1 x.1 in
        let held_one = shows_held held toks (r toks) x.0.0 x.0.1 x.1 (one.shows toks) in
        fronted_second {L = L} {M = M} t
        (goes_on t (fits_took room t) (λ o. (two x.0.0).some (enough (held_one o))) (λ goes. (two x.0.0).stop x.0.1 count goes x.2) (fault_within (two x.0.0).reach x.2) goes)
  ];
  some = λ enough. some_then (one.some enough) (λ a. (two a).some enough);
  reach = reach_then one.reach (λ a. (two a).reach);
  shows = λ toks. shows_then held toks L (r toks) f (one.shows toks) (λ a mid h. one.sound.took toks a mid h) (λ a mid. (two a).reach.within mid) (λ a mid. (two a).shows mid);
}

pub exact_then : {A B : Type 0} {always : Bool} {room : ℕ} {r : Reader A} {f : A → Reader B} {L : Tokens → A → Type 0} {M : A → Tokens → B → Type 0} → Exact always room r L → ((a : A) → Exact always room (f a) (M a)) → Exact always room (r >>= f) (Then L M)
exact_then {always = always} {room = room} one two = stops_then (enough_one always room) one two

pub behind_then : {A B : Type 0} {inside : ℕ} {r : Reader A} {f : A → Reader B} {L : Tokens → A → Type 0} {M : A → Tokens → B → Type 0} → Behind inside r L → ((a : A) → Behind inside (f a) (M a)) → Behind inside (r >>= f) (Then L M)
behind_then {inside = inside} one two = stops_then (enough_inside inside) one two

-- what holds with as many nestings holds with one more held
pub behind_of : {A : Type 0} {inside : ℕ} {r : Reader A} {L : Tokens → A → Type 0} → Exact true inside r L → Behind inside r L
behind_of {inside = inside} {r = r} one = record { sound = one.sound; stop = one.stop; some = one.some; reach = one.reach; shows = λ toks. shows_more inside (suc inside) toks (omega arith) (r toks) (one.shows toks) }

pub exact_pure : {A : Type 0} {always : Bool} {room : ℕ} (a : A) → Exact always room (pure a) (lang.pure a)
exact_pure {room = room} a = record {
  sound = (law_pure a).sound;
  stop = λ toks count fits h. absurd cc;
  some = λ enough. record { toks = []; value = a; spelled = (refl, refl) };
  reach = reach_pure a;
  shows = shows_none room a;
}

pub exact_map : {A B : Type 0} {always : Bool} {room : ℕ} {r : Reader A} {L : Tokens → A → Type 0} (f : A → B) → Exact always room r L → Exact always room (r >>= λ a. pure (f a)) (Then L (λ a. lang.pure (f a)))
exact_map f one = exact_then one (λ a. exact_pure (f a))

abbrev pub token_of : Kind → Token
token_of kind = record { kind = kind; text = []; value = pos 0; line = 0 }

pub some_token : (kind : Kind) → Some_of (lang.token kind)
some_token kind = record { toks = token_of kind ∷ []; value = token_of kind; spelled = record { alone = refl; kind = refl } }

take_fault : (b : Bool) (toks : Tokens) (count : ℕ) → take_if b toks ≡ Err (Syntax count) → length toks ≡ count
take_fault true [] count h = cc
take_fault true (t ∷ toks) count h = absurd cc
take_fault false toks count h = cc

-- a token that opens no nesting, or any where one is held
take_shows : (held : ℕ) (b : Bool) (toks : Tokens) → (next_opens : (opens_nesting (next_kind toks) ≡ true) → b ≡ true → 1 ≤ held) → Shows held toks (take_if b toks)
take_shows held true [] opens = λ o. absurd (none_before [] o)
take_shows held true (t ∷ toks) opens = λ o. opens (last_opens t toks o) refl
take_shows held false toks opens = λ o. absurd (none_before toks o)

stops_expect : {always : Bool} {room held : ℕ} (kind : Kind) → (opens_nesting kind ≡ true → 1 ≤ held) → Stops always room held (expect kind) (lang.token kind)
unfolding expect
stops_expect {held = held} kind opens = record {
  sound = (law_expect kind).sound;
  stop = λ toks count goes h. fronted_here (take_fault (is kind (next_kind toks)) toks count h) (some_token kind);
  some = λ enough. some_token kind;
  reach = reach_expect kind;
  shows = λ toks. take_shows held (is kind (next_kind toks)) toks (λ h same. opens (ap opens_nesting (sym (same_kind_is (next_kind toks) kind same)) ∙ h));
}

never_opens : {b : Bool} {held : ℕ} → b ≡ false → b ≡ true → 1 ≤ held
never_opens h g = absurd (cc (h, g))

pub exact_expect : {always : Bool} {room : ℕ} (kind : Kind) → opens_nesting kind ≡ false → Exact always room (expect kind) (lang.token kind)
exact_expect kind plain = stops_expect kind (never_opens plain)

pub behind_expect : {inside : ℕ} (kind : Kind) → Behind inside (expect kind) (lang.token kind)
behind_expect {inside = inside} kind = stops_expect {held = suc inside} kind (λ _. omega arith)

meant_fault : {A : Type 0} (o : Option A) (toks : Tokens) (count : ℕ) → meant o toks ≡ Err (Syntax count) → length toks ≡ count
meant_fault (Some a) toks count h = absurd cc
meant_fault None toks count h = cc

pub some_one_of : {A : Type 0} (meaning : Kind → Option A) (kind : Kind) (a : A) → meaning kind ≡ Some a → Some_of (lang.one_of meaning)
some_one_of meaning kind a h = record { toks = token_of kind ∷ []; value = a; spelled = record { it = token_of kind; alone = refl; means = h } }

-- what means something opens no nesting
abbrev pub Plain : {A : Type 0} → (Kind → Option A) → Type 0
Plain meaning = Within (begins_as meaning) (λ kind. not (opens_nesting kind))

meant_shows : {A : Type 0} (room : ℕ) (o : Option A) (toks : Tokens) → (opens_nesting (next_kind toks) ≡ true → is_some o ≡ true → 1 ≤ room) → Shows room toks (meant o toks)
meant_shows room (Some a) [] opens = λ o. absurd (none_before [] o)
meant_shows room (Some a) (t ∷ toks) opens = λ o. opens (last_opens t toks o) refl
meant_shows room None toks opens = λ o. absurd (none_before toks o)

not_both : {b : Bool} {held : ℕ} → not b ≡ true → b ≡ true → 1 ≤ held
not_both h g = absurd (cc (h, g))

pub exact_one_of : {A : Type 0} {always : Bool} {room : ℕ} (meaning : Kind → Option A) (kind : Kind) (a : A) → NotEnd meaning → meaning kind ≡ Some a → Plain meaning → Exact always room (one_of meaning) (lang.one_of meaning)
unfolding one_of
exact_one_of {room = room} meaning kind a end some plain = record {
  sound = (law_one_of meaning end).sound;
  stop = λ toks count goes h. fronted_here (meant_fault (meaning (next_kind toks)) toks count h) (some_one_of meaning kind a some);
  some = λ enough. some_one_of meaning kind a some;
  reach = reach_one_of meaning;
  shows = λ toks. meant_shows room (meaning (next_kind toks)) toks (λ h means. not_both (plain.at (next_kind toks) means) h);
}

choose_sound : {A : Type 0} (b : Bool) {r q : Reader A} {L M : Tokens → A → Type 0} → Sound r L → Sound q M → (toks : Tokens) (a : A) (rest : Tokens) → cond b r q toks ≡ Ok (a, rest) → Took (λ t x. L t x ⊎ M t x) toks a rest
choose_sound true one two toks a rest e = took_as (one.took toks a rest e) (λ t x l. inl l)
choose_sound false one two toks a rest e = took_as (two.took toks a rest e) (λ t x l. inr l)

choose_stop : {A : Type 0} {always always2 : Bool} {room held : ℕ} (b : Bool) {r q : Reader A} {L M : Tokens → A → Type 0} → Stops always room held r L → Stops always2 room held q M → (toks : Tokens) (count : ℕ) → Goes room toks count
    → cond b r q toks ≡ Err (Syntax count) → Fronted (λ t x. L t x ⊎ M t x) toks count
choose_stop true one two toks count goes h = fronted_as (one.stop toks count goes h) (λ t x l. inl l)
choose_stop false one two toks count goes h = fronted_as (two.stop toks count goes h) (λ t x l. inr l)

choose_shows : {A : Type 0} {always always2 : Bool} {room held : ℕ} (b : Bool) {r q : Reader A} {L M : Tokens → A → Type 0} → Stops always room held r L → Stops always2 room held q M → (toks : Tokens) → Shows held toks (cond b r q toks)
choose_shows true one two toks = one.shows toks
choose_shows false one two toks = two.shows toks

some_left : {A : Type 0} {L M : Tokens → A → Type 0} → Some_of L → Some_of (λ t x. L t x ⊎ M t x)
some_left s = record { toks = s.toks; value = s.value; spelled = inl s.spelled }

stops_choose : {A : Type 0} {always always2 : Bool} {room held : ℕ} (p : Kind → Bool) {r q : Reader A} {L M : Tokens → A → Type 0} → Stops always room held r L → Stops always2 room held q M
    → Stops always room held (peek >>= λ kind. cond (p kind) r q) (λ t x. L t x ⊎ M t x)
stops_choose p one two = record {
  sound = record { took = λ toks a rest e. choose_sound (p (next_kind toks)) one.sound two.sound toks a rest e };
  stop = λ toks count goes h. choose_stop (p (next_kind toks)) one two toks count goes h;
  some = λ enough. some_left (one.some enough);
  reach = reach_choose p one.reach two.reach;
  shows = λ toks. choose_shows (p (next_kind toks)) one two toks;
}

pub exact_choose : {A : Type 0} {always : Bool} {room : ℕ} (p : Kind → Bool) {r q : Reader A} {L M : Tokens → A → Type 0} → Exact always room r L → Exact false room q M
    → Exact always room (peek >>= λ kind. cond (p kind) r q) (λ t x. L t x ⊎ M t x)
exact_choose p one two = stops_choose p one two

pub behind_choose : {A : Type 0} {inside : ℕ} (p : Kind → Bool) {r q : Reader A} {L M : Tokens → A → Type 0} → Behind inside r L → Behind inside q M
    → Behind inside (peek >>= λ kind. cond (p kind) r q) (λ t x. L t x ⊎ M t x)
behind_choose p one two = stops_choose p one two

some_right : {A : Type 0} {L M : Tokens → A → Type 0} → Some_of M → Some_of (λ t x. L t x ⊎ M t x)
some_right s = record { toks = s.toks; value = s.value; spelled = inr s.spelled }

-- where the second has tokens
pub exact_either : {A : Type 0} {always : Bool} {room : ℕ} (p : Kind → Bool) {r q : Reader A} {L M : Tokens → A → Type 0} → Exact false room r L → Exact always room q M
    → Exact always room (peek >>= λ kind. cond (p kind) r q) (λ t x. L t x ⊎ M t x)
exact_either p one two = record {
  sound = record { took = λ toks a rest e. choose_sound (p (next_kind toks)) one.sound two.sound toks a rest e };
  stop = λ toks count goes h. choose_stop (p (next_kind toks)) one two toks count goes h;
  some = λ enough. some_right (two.some enough);
  reach = reach_choose p one.reach two.reach;
  shows = λ toks. choose_shows (p (next_kind toks)) one two toks;
}

pub exact_some : {A : Type 0} {always always2 : Bool} {room held : ℕ} {r : Reader A} {L : Tokens → A → Type 0} → (Enough always2 room → Some_of L) → Stops always room held r L → Stops always2 room held r L
exact_some some one = record { sound = one.sound; stop = one.stop; some = some; reach = one.reach; shows = one.shows }

pub exact_as : {A : Type 0} {always : Bool} {room held : ℕ} {r : Reader A} {L M : Tokens → A → Type 0} → Stops always room held r L → ((toks : Tokens) (a : A) → L toks a → M toks a) → Stops always room held r M
exact_as one to = record {
  sound = record { took = λ toks a rest e. took_as (one.sound.took toks a rest e) to };
  stop = λ toks count goes h. fronted_as (one.stop toks count goes h) to;
  some = λ enough. let s = one.some enough in record { toks = s.toks; value = s.value; spelled = to s.toks s.value s.spelled };
  reach = one.reach;
  shows = one.shows;
}

-- the same reader in other words
pub exact_reads : {A : Type 0} {always : Bool} {room : ℕ} {r q : Reader A} {L : Tokens → A → Type 0} → ((i : Tokens) → r i ≡ q i) → Exact always room q L → Exact always room r L
exact_reads {room = room} {r = r} {q = q} same one = record {
  sound = record { took = λ toks a rest e. one.sound.took toks a rest (sym (same toks) ∙ e) };
  stop = λ toks count goes h. one.stop toks count goes (sym (same toks) ∙ h);
  some = one.some;
  shows = λ toks. subst (λ z. Shows room toks z) (sym (same toks)) (one.shows toks);
  reach = record {
    within = λ i. subst (λ z. left z ≤ length i) (sym (same i)) (one.reach.within i);
    local = λ front back. subst (λ z. Extends back z (r (front ++ back))) (sym (same front)) (subst (λ z. Extends back (q front) z) (sym (same (front ++ back))) (one.reach.local front back));
    faults = λ i e fits h. one.reach.faults i e fits (sym (same i) ∙ h);
  };
}

-- a choice by the kind of the next token
pub exact_by : {A : Type 0} {always : Bool} {room : ℕ} {by : Kind → Reader A} {L : Tokens → A → Type 0} → ((kind : Kind) → Exact false room (by kind) L) → (Enough always room → Some_of L) → Exact always room (peek >>= by) L
exact_by all some = record {
  sound = record { took = λ toks a rest e. (all (next_kind toks)).sound.took toks a rest e };
  stop = λ toks count goes h. (all (next_kind toks)).stop toks count goes h;
  some = some;
  shows = λ toks. (all (next_kind toks)).shows toks;
  reach = reach_by (λ kind. (all kind).reach);
}

enough_room : (b : Bool) (room inside : ℕ) → room ≡ suc inside → Enough b room
enough_room true room inside h = omega arith
enough_room false room inside h = omega (arith, h)

lower_goes : {room inside : ℕ} {toks : Tokens} {count : ℕ} → room ≡ suc inside → Goes inside toks count → Goes room toks count
lower_goes is_suc (inl fits) = inl (omega (arith, fits, is_suc))
lower_goes is_suc (inr o) = inr o

-- behind a nesting that was closed again
pub behind_closed : {A : Type 0} {room inside : ℕ} {r : Reader A} {L : Tokens → A → Type 0} → room ≡ suc inside → Exact false room r L → Behind inside r L
behind_closed {room = room} {inside = inside} {r = r} is_suc one = record {
  sound = one.sound;
  stop = λ toks count goes h. one.stop toks count (lower_goes is_suc goes) h;
  some = λ _. one.some (enough_room false room inside is_suc);
  reach = reach_lower is_suc one.reach;
  shows = λ toks. shows_more room (suc inside) toks (omega (arith, is_suc)) (r toks) (one.shows toks);
}

fits_token : {kind : Kind} {toks rest : Tokens} {t : Token} (room : ℕ) → Took (lang.token kind) toks t rest → Fits (suc room) toks → Fits room rest
fits_token {rest = rest} room t fits = let long = ap length t.parts ∙ length-append t.used rest ∙ ap (λ (z : Tokens). length z + length rest) t.spelled.alone in omega (arith, long, fits)

opened_stop : {A : Type 0} (room : ℕ) (kind : Kind) {f : Token → Reader A} {M : Token → Tokens → A → Type 0} → ((t : Token) → Behind room (f t) (M t)) → (toks : Tokens) (count : ℕ) → Goes (suc room) toks count
    → (expect kind >>= f) toks ≡ Err (Syntax count) → Fronted (Then (lang.token kind) M) toks count
unfolding expect
opened_stop room kind {f = f} {M = M} body toks count goes h = elim (bind_err (expect kind toks) f (Syntax count) h) [
  | inl first ↦ fronted_first (fronted_here (take_fault (is kind (next_kind toks)) toks count first) (some_token kind)) (λ t. (body t).some (omega arith))
  | inr x ↦
      let t = (law_expect kind).sound.took toks x.0.0 x.0.1 x.1 in
      let it = body x.0.0 in
      fronted_second {M = M} t (goes_on t (fits_token room t) (λ o. it.some (omega arith)) (λ goes. it.stop x.0.1 count goes x.2) (fault_within it.reach x.2) goes)
]

-- the token that opens a nesting stands here
opener_here : (t : Token) (toks : Tokens) → opens_nesting t.kind ≡ true → Opener (t ∷ toks) (suc (length toks))
opener_here t toks opens = record { front = []; token = t; others = toks; parts = refl; place = refl; opens = opens }

shut_shows : {A : Type 0} (here : Bool) (f : Token → Reader A) (toks : Tokens) → (here ≡ true → opens_nesting (next_kind toks) ≡ true) → Shows 0 toks (and_then (open_if 0 here toks) f)
unfolding opens_nesting
shut_shows true f [] opens = let h = opens refl in absurd (cc h)
shut_shows true f (t ∷ toks) opens = opener_here t toks (opens refl)
shut_shows false f toks opens = λ o. absurd (none_before toks o)

open_shut : {A : Type 0} (here : Bool) (f : Token → Reader A) (toks : Tokens) (count : ℕ) → Opener toks (suc count) → and_then (open_if 0 here toks) f ≡ Err (Syntax count) → ⊥
open_shut true f toks count o h = cc h
open_shut false f toks count o h = let at = ap left h in none_before toks (subst (λ (n : ℕ). Opener toks (suc n)) (sym at) o)

shut_stop : {A : Type 0} (kind : Kind) (f : Token → Reader A) {M : Token → Tokens → A → Type 0} (toks : Tokens) (count : ℕ) → Goes 0 toks count → (opening 0 kind >>= f) toks ≡ Err (Syntax count) → Fronted (Then (lang.opening 0 kind) M) toks count
unfolding opening
shut_stop kind f toks count (inl fits) h = absurd (omega (arith, fits))
shut_stop kind f toks count (inr o) h = absurd (open_shut (is kind (next_kind toks)) f toks count o h)

opens_kind : (kind next : Kind) → opens_nesting kind ≡ true → is kind next ≡ true → opens_nesting next ≡ true
opens_kind kind next opens same = ap opens_nesting (same_kind_is next kind same) ∙ opens

pub behind_opening : {A : Type 0} (room : ℕ) (kind : Kind) → opens_nesting kind ≡ true → {f : Token → Reader A} {M : Token → Tokens → A → Type 0} → ((inside : ℕ) → room ≡ suc inside → (t : Token) → Behind inside (f t) (M t))
    → Exact false room (opening room kind >>= f) (Then (lang.opening room kind) M)
unfolding opening expect
behind_opening zero kind opens {f = f} body = record {
  sound = record { took = λ toks a rest e. absurd (no_room kind f toks a rest e) };
  stop = λ toks count goes h. shut_stop kind f toks count goes h;
  some = λ enough. absurd (omega (arith, enough));
  reach = reach_opening zero kind (λ inside s t. (body inside s t).reach);
  shows = λ toks. shut_shows (is kind (next_kind toks)) f toks (opens_kind kind (next_kind toks) opens);
}
behind_opening (suc room) kind opens {f = f} body = record {
  sound = sound_then (law_expect kind).sound (λ t. (body room refl t).sound);
  stop = opened_stop room kind (body room refl);
  some = λ enough. some_then (some_token kind) (λ t. (body room refl t).some (omega arith));
  reach = reach_opening (suc room) kind (λ inside s t. (body inside s t).reach);
  shows = λ toks. shows_then (suc room) toks (lang.token kind) (expect kind toks) f ((behind_expect {inside = room} kind).shows toks) (λ t mid h. (law_expect kind).sound.took toks t mid h)
      (λ t mid. (body room refl t).reach.within mid) (λ t mid. (body room refl t).shows mid);
}

pub exact_opening : {A : Type 0} (room : ℕ) (kind : Kind) → opens_nesting kind ≡ true → {f : Token → Reader A} {M : Token → Tokens → A → Type 0} → ((inside : ℕ) → room ≡ suc inside → (t : Token) → Exact true inside (f t) (M t))
    → Exact false room (opening room kind >>= f) (Then (lang.opening room kind) M)
exact_opening room kind opens body = behind_opening room kind opens (λ inside s t. behind_of (body inside s t))

fits_meant : {A : Type 0} {meaning : Kind → Option A} {toks rest : Tokens} {a : A} (room : ℕ) → Took (lang.one_of meaning) toks a rest → Fits (suc room) toks → Fits room rest
fits_meant {rest = rest} room t fits = let long = ap length t.parts ∙ length-append t.used rest ∙ ap (λ (z : Tokens). length z + length rest) t.spelled.alone in omega (arith, long, fits)

meant_stop : {A B : Type 0} (room : ℕ) (meaning : Kind → Option A) (end : NotEnd meaning) (some : Some_of (lang.one_of meaning)) {f : A → Reader B} {M : A → Tokens → B → Type 0} → ((a : A) → Behind room (f a) (M a)) → (toks : Tokens) (count : ℕ)
    → Goes (suc room) toks count → (one_of meaning >>= f) toks ≡ Err (Syntax count) → Fronted (Then (lang.one_of meaning) M) toks count
unfolding one_of
meant_stop room meaning end some {f = f} {M = M} body toks count goes h = elim (bind_err (one_of meaning toks) f (Syntax count) h) [
  | inl first ↦ fronted_first (fronted_here (meant_fault (meaning (next_kind toks)) toks count first) some) (λ t. (body t).some (omega arith))
  | inr x ↦
      let t = (law_one_of meaning end).sound.took toks x.0.0 x.0.1 x.1 in
      let it = body x.0.0 in
      fronted_second {M = M} t (goes_on t (fits_meant room t) (λ o. it.some (omega arith)) (λ goes. it.stop x.0.1 count goes x.2) (fault_within it.reach x.2) goes)
]

shut_meant_shows : {A B : Type 0} (o : Option A) (f : A → Reader B) (toks : Tokens) → (is_some o ≡ true → opens_nesting (next_kind toks) ≡ true) → Shows 0 toks (and_then (open_meant 0 o toks) f)
unfolding opens_nesting
shut_meant_shows (Some a) f [] opens = let h = opens refl in absurd (cc h)
shut_meant_shows (Some a) f (t ∷ toks) opens = opener_here t toks (opens refl)
shut_meant_shows None f toks opens = λ o. absurd (none_before toks o)

meant_shut : {A B : Type 0} (m : Option A) (f : A → Reader B) (toks : Tokens) (count : ℕ) → Opener toks (suc count) → and_then (open_meant 0 m toks) f ≡ Err (Syntax count) → ⊥
meant_shut (Some a) f toks count o h = cc h
meant_shut None f toks count o h = let at = ap left h in none_before toks (subst (λ (n : ℕ). Opener toks (suc n)) (sym at) o)

shut_meant_stop : {A B : Type 0} (meaning : Kind → Option A) (f : A → Reader B) {M : A → Tokens → B → Type 0} (toks : Tokens) (count : ℕ) → Goes 0 toks count → (opening_one_of 0 meaning >>= f) toks ≡ Err (Syntax count)
    → Fronted (Then (lang.opening_one_of 0 meaning) M) toks count
unfolding opening_one_of
shut_meant_stop meaning f toks count (inl fits) h = absurd (omega (arith, fits))
shut_meant_stop meaning f toks count (inr o) h = absurd (meant_shut (meaning (next_kind toks)) f toks count o h)

pub exact_opening_one_of : {A B : Type 0} (room : ℕ) (meaning : Kind → Option A) (kind : Kind) (a : A) → NotEnd meaning → meaning kind ≡ Some a → Within (begins_as meaning) opens_nesting → {f : A → Reader B} {M : A → Tokens → B → Type 0}
    → ((inside : ℕ) → room ≡ suc inside → (a : A) → Exact true inside (f a) (M a)) → Exact false room (opening_one_of room meaning >>= f) (Then (lang.opening_one_of room meaning) M)
unfolding opening_one_of one_of
exact_opening_one_of zero meaning kind a end some opens {f = f} body = record {
  sound = record { took = λ toks a rest e. absurd (no_meaning (meaning (next_kind toks)) f toks a rest e) };
  stop = λ toks count goes h. shut_meant_stop meaning f toks count goes h;
  some = λ enough. absurd (omega (arith, enough));
  reach = reach_opening_one_of zero meaning end (λ inside s t. (body inside s t).reach);
  shows = λ toks. shut_meant_shows (meaning (next_kind toks)) f toks (opens.at (next_kind toks));
}
exact_opening_one_of (suc room) meaning kind a end some opens {f = f} body = record {
  sound = sound_then (law_one_of meaning end).sound (λ t. (body room refl t).sound);
  stop = meant_stop room meaning end (some_one_of meaning kind a some) (λ t. behind_of (body room refl t));
  some = λ enough. some_then (some_one_of meaning kind a some) (λ t. (body room refl t).some (omega arith));
  reach = reach_opening_one_of (suc room) meaning end (λ inside s t. (body inside s t).reach);
  shows = λ toks. shows_then (suc room) toks (lang.one_of meaning) (one_of meaning toks) f (meant_shows (suc room) (meaning (next_kind toks)) toks (λ h means. omega arith)) (λ t mid h. (law_one_of meaning end).sound.took toks t mid h)
      (λ t mid. (body room refl t).reach.within mid) (λ t mid. (behind_of (body room refl t)).shows mid);
}

-- ---- lists and optional parts

fronted_one : {A : Type 0} {L : Tokens → A → Type 0} {toks : Tokens} {count : ℕ} → Fronted L toks count → Fronted (lang.many L) toks count
fronted_one f = record {
  used = f.used;
  rest = f.rest;
  more = f.more;
  value = f.value ∷ [];
  parts = f.parts;
  left = f.left;
  spelled = record { front = f.used ++ f.more; back = []; parts = sym (append-nil (f.used ++ f.more)); first = f.spelled; second = refl };
}

fronted_cons : {A : Type 0} {L : Tokens → A → Type 0} {toks mid : Tokens} {a : A} {count : ℕ} → Took L toks a mid → Fronted (lang.many L) mid count → Fronted (lang.many L) toks count
fronted_cons {a = a} t f = record {
  used = t.used ++ f.used;
  rest = f.rest;
  more = f.more;
  value = a ∷ f.value;
  parts = t.parts ∙ ap (λ (z : Tokens). t.used ++ z) f.parts ∙ sym (append_assoc t.used f.used f.rest);
  left = f.left;
  spelled = record { front = t.used; back = f.used ++ f.more; parts = append_assoc t.used f.used f.more; first = t.spelled; second = f.spelled };
}

many_stop : {A : Type 0} {always : Bool} {room : ℕ} (begins : Kind → Bool) (item : Reader A) (L : Tokens → A → Type 0) → Exact always room item L → (n : ℕ) (found : List A) (toks : Tokens) (count : ℕ) → Goes room toks count
    → many_from begins item n found toks ≡ Err (Syntax count) → Fronted (lang.many L) toks count
unfolding many_from
many_stop begins item L exact zero found toks count goes h = absurd cc
many_stop {A = A} {room = room} begins item L exact (suc n) found toks count goes h =
    let f : A → Reader (List A) = λ x. many_from begins item n (found ++ x ∷ []) in
    let go : (b : Bool) → cond b (item >>= f) (pure found) toks ≡ Err (Syntax count) → Fronted (lang.many L) toks count = λ b.
    elim b as (λ b. cond b (item >>= f) (pure found) toks ≡ Err (Syntax count) → Fronted (lang.many L) toks count) [
      | true ↦ λ h. elim (bind_err (item toks) f (Syntax count) h) [
        | inl first ↦ fronted_one (exact.stop toks count goes first)
        | inr x ↦
            let t = exact.sound.took toks x.0.0 x.0.1 x.1 in
            let within = many_within begins item exact.reach.within n (found ++ x.0.0 ∷ []) x.0.1 in
            let at = ap left x.2 in
            fronted_cons t (goes_on t (fits_took room t) (λ o. record { toks = []; value = []; spelled = refl }) (λ goes. many_stop begins item L exact n (found ++ x.0.0 ∷ []) x.0.1 count goes x.2) (omega (arith, within, at)) goes)
      ]
      | false ↦ λ h. absurd cc
    ] in
    go (begins (next_kind toks)) h

many_shows : {A : Type 0} {always : Bool} {room : ℕ} (begins : Kind → Bool) (item : Reader A) (L : Tokens → A → Type 0) → Exact always room item L → (n : ℕ) (found : List A) (toks : Tokens) → Shows room toks (many_from begins item n found toks)
unfolding many_from
many_shows {room = room} begins item L exact zero found toks = shows_none room found toks
many_shows {A = A} {room = room} begins item L exact (suc n) found toks =
    let f : A → Reader (List A) = λ x. many_from begins item n (found ++ x ∷ []) in
    let go : (b : Bool) → Shows room toks (cond b (item >>= f) (pure found) toks) = λ b.
    elim b as (λ b. Shows room toks (cond b (item >>= f) (pure found) toks)) [
      | true ↦ shows_then room toks L (item toks) f (exact.shows toks) (λ a mid h. exact.sound.took toks a mid h) (λ x mid. many_within begins item exact.reach.within n (found ++ x ∷ []) mid)
          (λ x mid. many_shows begins item L exact n (found ++ x ∷ []) mid)
      | false ↦ shows_none room found toks
    ] in
    go (begins (next_kind toks))

sound_many : {A : Type 0} (begins : Kind → Bool) (item : Reader A) (L : Tokens → A → Type 0) → Sound item L → (n : ℕ) (found : List A) (toks : Tokens) (all : List A) (rest : Tokens) → many_from begins item n found toks ≡ Ok (all, rest)
    → (more : List A) × (all ≡ found ++ more) × Took (lang.many L) toks more rest
unfolding many_from
sound_many begins item L sound zero found toks all rest e =
    let p = ok_parts found all toks rest e in
    ([], sym p.0 ∙ sym (append-nil found), record { used = []; parts = p.1; spelled = refl })
sound_many {A = A} begins item L sound (suc n) found toks all rest e =
    let go : (b : Bool) → cond b (item >>= λ x. many_from begins item n (found ++ x ∷ [])) (pure found) toks ≡ Ok (all, rest) → (more : List A) × (all ≡ found ++ more) × Took (lang.many L) toks more rest = λ b.
    elim b as (λ b. cond b (item >>= λ x. many_from begins item n (found ++ x ∷ [])) (pure found) toks ≡ Ok (all, rest) → (more : List A) × (all ≡ found ++ more) × Took (lang.many L) toks more rest) [
      | true ↦ λ e.
          let x = bind_ok (item toks) (λ x. many_from begins item n (found ++ x ∷ [])) (all, rest) e in
          let t = sound.took toks x.0.0 x.0.1 x.1 in
          let m = sound_many begins item L sound n (found ++ x.0.0 ∷ []) x.0.1 all rest x.2 in (
            x.0.0 ∷ m.0,
            m.1 ∙ append_assoc found (x.0.0 ∷ []) m.0,
            record {
              used = t.used ++ m.2.used;
              parts = t.parts ∙ ap (λ (z : Tokens). t.used ++ z) m.2.parts ∙ sym (append_assoc t.used m.2.used rest);
              spelled = record { front = t.used; back = m.2.used; parts = refl; first = t.spelled; second = m.2.spelled };
            },
          )
      | false ↦ λ e. let p = ok_parts found all toks rest e in ([], sym p.0 ∙ sym (append-nil found), record { used = []; parts = p.1; spelled = refl })
    ] in
    go (begins (next_kind toks)) e

pub exact_many : {A : Type 0} {always : Bool} {room : ℕ} {p : Kind → Bool} (begins : Kind → Bool) {item : Reader A} {L : Tokens → A → Type 0} → Exact false room item L → Begins p L → Exact always room (many begins item) (lang.many L)
exact_many begins {item = item} {L = L} exact bs = record {
  sound = record {
    took = λ toks xs rest e.
        let m = sound_many begins item L exact.sound (length toks) [] toks xs rest e in
        subst (λ (z : List _). Took (lang.many L) toks z rest) (sym m.1) m.2;
  };
  stop = λ toks count goes h. many_stop begins item L exact (length toks) [] toks count goes h;
  some = λ enough. record { toks = []; value = []; spelled = refl };
  shows = λ toks. many_shows begins item L exact (length toks) [] toks;
  reach = reach_many begins exact.reach (eats_begins exact.sound bs);
}

optional_from : {A : Type 0} (L : Tokens → A → Type 0) (toks : Tokens) (o : Option A) → Then L (λ x. lang.pure (Some x)) toks o ⊎ lang.pure None toks o → lang.optional L toks o
optional_from L toks o (inl s) =
    let front : s.front ≡ toks = sym (s.parts ∙ ap (λ (z : Tokens). s.front ++ z) s.second.0 ∙ append-nil s.front) in
    subst (λ o. lang.optional L toks o) s.second.1 (subst (λ (z : Tokens). L z s.value) front s.first)
optional_from L toks o (inr s) = subst (λ o. lang.optional L toks o) s.1 s.0

pub exact_optional : {A : Type 0} {always : Bool} {room : ℕ} (begins : Kind → Bool) {item : Reader A} {L : Tokens → A → Type 0} → Exact false room item L → Exact always room (optional begins item) (lang.optional L)
exact_optional begins {L = L} exact =
    exact_some (λ _. record { toks = []; value = None; spelled = refl }) (exact_as (exact_choose begins (exact_map Some exact) (exact_pure {always = false} None)) (optional_from L))

pub behind_optional : {A : Type 0} {inside : ℕ} (begins : Kind → Bool) {item : Reader A} {L : Tokens → A → Type 0} → Behind inside item L → Behind inside (optional begins item) (lang.optional L)
behind_optional begins {L = L} item = exact_as (behind_choose begins (behind_then item (λ x. behind_of (exact_pure (Some x)))) (behind_of (exact_pure None))) (optional_from L)

pub exact_more : {A : Type 0} {always : Bool} {room : ℕ} {item : Reader A} {L : Tokens → A → Type 0} → Exact false room item L → Exact always room (more item) (lang.many (lang.◌>>◌ (lang.token k.Comma) L))
unfolding more opens_nesting
exact_more exact = exact_many (is k.Comma) (exact_then (exact_expect k.Comma refl) (λ _. exact)) (begins_then (begins_token {p = is k.Comma} k.Comma (same_kind_self k.Comma)))

any_enough : (b : Bool) (room : ℕ) → Enough false room → Enough b room
any_enough true room enough = omega arith
any_enough false room enough = enough

pub seldom : {A : Type 0} {always : Bool} {room : ℕ} {r : Reader A} {L : Tokens → A → Type 0} → Exact always room r L → Exact false room r L
seldom {always = always} {room = room} one = record { sound = one.sound; stop = one.stop; some = λ enough. one.some (any_enough always room enough); reach = one.reach; shows = one.shows }

pub exact_separated : {A : Type 0} {always : Bool} {room : ℕ} {item : Reader A} {L : Tokens → A → Type 0} → Exact always room item L → Exact always room (separated item) (lang.separated L)
unfolding separated
exact_separated exact = exact_then exact (λ first. exact_map (λ others. first ∷ others) (exact_more (seldom exact)))

pub exact_listed : {A : Type 0} {always : Bool} {room : ℕ} (close : Kind) {item : Reader A} {L : Tokens → A → Type 0} → Exact false room item L → Exact always room (listed close item) (lang.listed L)
unfolding listed
exact_listed close exact = exact_choose (is close) (exact_pure []) (exact_separated exact)

pub exact_name : {always : Bool} {room : ℕ} → Exact always room name lang.name
unfolding name opens_nesting
exact_name = exact_map (λ t. t.text) (exact_expect k.Name refl)

no_fault : {A : Type 0} (a : A) (i : Tokens) (count : ℕ) → pure a i ≡ Err (Syntax count) → ⊥
no_fault a i count h = cc

pub exact_lined : {A : Type 0} {always : Bool} {room : ℕ} {p : Kind → Bool} {part : Reader A} {L : Tokens → A → Type 0} → Exact always room part L → Begins p L → Exact always room (lined part) (lang.lined L)
exact_lined {A = A} {room = room} {part = part} {L = L} exact begins = record {
  sound = record {
    took = λ toks y rest h.
        let x = bind_ok (part toks) (λ a. pure (lang.line_of toks, a)) (y, rest) h in
        let t = exact.sound.took toks x.0.0 x.0.1 x.1 in
        let line : lang.line_of t.used ≡ lang.line_of toks = sym (ap lang.line_of t.parts ∙ line_begins t.used x.0.1 (begins.at t.used x.0.0 t.spelled)) in
        let whole : Took (lang.lined L) toks (lang.line_of toks, x.0.0) x.0.1 = record { used = t.used; parts = t.parts; spelled = (line, t.spelled) } in
        took_at (ok_parts (lang.line_of toks, x.0.0) y x.0.1 rest x.2) whole;
  };
  stop = λ toks count goes h. elim (bind_err (part toks) (λ a. pure (lang.line_of toks, a)) (Syntax count) h) [
    | inl first ↦
        let f = exact.stop toks count goes first in
        record { used = f.used; rest = f.rest; more = f.more; value = (lang.line_of (f.used ++ f.more), f.value); parts = f.parts; left = f.left; spelled = (refl, f.spelled) }
    | inr x ↦ absurd (no_fault (lang.line_of toks, x.0.0) x.0.1 count x.2)
  ];
  some = λ enough. let s = exact.some enough in record { toks = s.toks; value = (lang.line_of s.toks, s.value); spelled = (refl, s.spelled) };
  reach = reach_lined exact.reach;
  shows = λ toks. shows_then room toks L (part toks) (λ a. pure (lang.line_of toks, a)) (exact.shows toks) (λ a mid h. exact.sound.took toks a mid h) (λ a mid. omega arith) (λ a mid. shows_none {A = ℕ × A} room (lang.line_of toks, a) mid);
}

-- what has tokens everywhere
pub weak : {A : Type 0} {always : Bool} {room : ℕ} {r : Reader A} {L : Tokens → A → Type 0} → Exact true room r L → Exact always room r L
weak one = record { sound = one.sound; stop = one.stop; some = λ enough. one.some (omega arith); reach = one.reach; shows = one.shows }
