-- How far reading comes, for each way to make a larger reader of smaller ones.
use Rattle.std.proofs.Common.{◌≡◌, ℕ, zero, suc, ◌+◌, ◌≤◌, ◌<◌, Bool, true, false, cond, List, [], ◌∷◌, ◌++◌, length, Option, Some, None, Ok, Err, refl, sym, ap, subst, ◌∙◌, arith, length-append}
use Rattle.setl_tree.specs.Tokens.{Token, Tokens}
use Rattle.setl_tree.specs.declared.kind.Kind.{Kind}
use Rattle.setl_tree.specs.declared.kind.Kind.TheVariants as k
use Rattle.setl_tree.specs.Lang.{Lang, Then, IsToken}
use Rattle.setl_tree.specs.Lang as lang
use Rattle.setl_parse_reading.specs.declared.fault.Fault.{Fault}
use Rattle.setl_parse_reading.specs.declared.fault.Fault.TheVariants.{Memory, Syntax, Nesting}
use Rattle.setl_parse_reading.specs.code.Reading.{Outcome, Reader, next_kind, is, and_then, ◌>>=◌, pure, peek, take_if, open_if, open_meant, expect, opening, opening_one_of, meant, one_of, many_from, many, lined}
use Rattle.setl_parse_reading.proofs.Laws.{Sound, Begins, NotEnd}

-- ---- how many tokens are left

abbrev pub left : {A : Type 0} → Outcome A → ℕ
left (Ok p) = length p.1
left (Err (Syntax n)) = n
left (Err (Nesting n)) = n
left (Err Memory) = 0

-- What reading more tokens has to do with reading their front: where it stopped at a token of the front, it stops there
-- again; where it came to the end of the front, it comes as far.
abbrev pub Extends : {A : Type 0} → Tokens → Outcome A → Outcome A → Type 0
Extends back (Ok (a, [])) whole = left whole ≤ length back
Extends back (Ok (a, t ∷ rest)) whole = whole ≡ Ok (a, t ∷ (rest ++ back))
Extends back (Err (Syntax zero)) whole = left whole ≤ length back
Extends back (Err (Syntax (suc n))) whole = whole ≡ Err (Syntax (suc n + length back))
Extends back (Err (Nesting zero)) whole = left whole ≤ length back
Extends back (Err (Nesting (suc n))) whole = whole ≡ Err (Nesting (suc n + length back))
Extends back (Err Memory) whole = left whole ≤ length back

-- each of the tokens may open a nesting, and one more
abbrev pub Fits : ℕ → Tokens → Type 0
Fits room toks = suc (length toks) < room

pub record Reach {A : Type 0} (room : ℕ) (r : Reader A) : Type 0 where
  pub within : (i : Tokens) → left (r i) ≤ length i
  pub local : (front back : Tokens) → Extends back (r front) (r (front ++ back))
  pub faults : (i : Tokens) (e : Fault) → Fits room i → r i ≡ Err e → (count : ℕ) × (e ≡ Syntax count)

-- at the end of the front
pub ends : {A : Type 0} (o : Outcome A) (back : Tokens) (whole : Outcome A) → left o ≤ 0 → left whole ≤ length back → Extends back o whole
ends (Ok (a, [])) back whole none h = h
ends (Ok (a, t ∷ rest)) back whole none h = absurd (omega (arith, none))
ends (Err (Syntax zero)) back whole none h = h
ends (Err (Syntax (suc n))) back whole none h = absurd (omega (arith, none))
ends (Err (Nesting zero)) back whole none h = h
ends (Err (Nesting (suc n))) back whole none h = absurd (omega (arith, none))
ends (Err Memory) back whole none h = h

pub and_left : {A B : Type 0} (o : Outcome A) (f : A → Reader B) (n : ℕ) → left o ≤ n → ((a : A) (i : Tokens) → left (f a i) ≤ length i) → left (and_then o f) ≤ n
and_left (Ok p) f n h within = let w = within p.0 p.1 in omega (arith, h, w)
and_left (Err (Syntax m)) f n h within = h
and_left (Err (Nesting m)) f n h within = h
and_left (Err Memory) f n h within = h

fits_shorter : (room : ℕ) (front rest : Tokens) → length rest ≤ length front → Fits room front → Fits room rest
fits_shorter room front rest h fits = omega (arith, h, fits)

then_extends : {A B : Type 0} (room : ℕ) (o whole : Outcome A) (f : A → Reader B) (back : Tokens) → ((a : A) → Reach room (f a)) → Extends back o whole
    → Extends back (and_then o f) (and_then whole f)
then_extends room (Ok (a, [])) whole f back reach h = ends (f a []) back (and_then whole f) ((reach a).within []) (and_left whole f (length back) h (λ a. (reach a).within))
then_extends room (Ok (a, t ∷ rest)) whole f back reach h =
    subst (λ z. Extends back (f a (t ∷ rest)) (and_then z f)) (sym h) ((reach a).local (t ∷ rest) back)
then_extends room (Err (Syntax zero)) whole f back reach h = and_left whole f (length back) h (λ a. (reach a).within)
then_extends room (Err (Syntax (suc n))) whole f back reach h = ap (λ o. and_then o f) h
then_extends room (Err (Nesting zero)) whole f back reach h = and_left whole f (length back) h (λ a. (reach a).within)
then_extends room (Err (Nesting (suc n))) whole f back reach h = ap (λ o. and_then o f) h
then_extends room (Err Memory) whole f back reach h = and_left whole f (length back) h (λ a. (reach a).within)

then_faults : {A B : Type 0} (o : Outcome A) (f : A → Reader B) (i : Tokens) (e : Fault) → left o ≤ length i → (o ≡ Err e → (count : ℕ) × (e ≡ Syntax count)) → ((a : A) (j : Tokens) → length j ≤ length i → f a j ≡ Err e → (count : ℕ) × (e ≡ Syntax count))
    → and_then o f ≡ Err e → (count : ℕ) × (e ≡ Syntax count)
then_faults (Ok p) f i e long one two h = two p.0 p.1 long h
then_faults (Err d) f i e long one two h = let same : d ≡ e = cc in one (ap Err same)

pub reach_then : {A B : Type 0} {room : ℕ} {r : Reader A} {f : A → Reader B} → Reach room r → ((a : A) → Reach room (f a)) → Reach room (r >>= f)
reach_then {room = room} {r = r} {f = f} one two = record {
  within = λ i. and_left (r i) f (length i) (one.within i) (λ a. (two a).within);
  local = λ front back. then_extends room (r front) (r (front ++ back)) f back two (one.local front back);
  faults = λ i e fits h. then_faults (r i) f i e (one.within i) (one.faults i e fits) (λ a j long. (two a).faults j e (fits_shorter room i j long fits)) h;
}

pure_local : {A : Type 0} (a : A) (front back : Tokens) → Extends back (pure a front) (pure a (front ++ back))
pure_local a [] back = omega arith
pure_local a (t ∷ front) back = refl

pub reach_pure : {A : Type 0} {room : ℕ} (a : A) → Reach room (pure a)
reach_pure {room = room} a = record { within = λ i. omega arith; local = pure_local a; faults = λ i e fits h. absurd cc }

-- a choice by the next token
by_local : {A : Type 0} {room : ℕ} (by : Kind → Reader A) → ((kind : Kind) → Reach room (by kind)) → (front back : Tokens) → Extends back ((peek >>= by) front) ((peek >>= by) (front ++ back))
by_local by reach [] back = ends ((peek >>= by) []) back ((peek >>= by) back) ((reach k.SourceEnd).within []) ((reach (next_kind back)).within back)
by_local by reach (t ∷ front) back = (reach t.kind).local (t ∷ front) back

pub reach_by : {A : Type 0} {room : ℕ} {by : Kind → Reader A} → ((kind : Kind) → Reach room (by kind)) → Reach room (peek >>= by)
reach_by {by = by} reach = record { within = λ i. (reach (next_kind i)).within i; local = by_local by reach; faults = λ i e fits h. (reach (next_kind i)).faults i e fits h }

cond_reach : {A : Type 0} {room : ℕ} (b : Bool) {r q : Reader A} → Reach room r → Reach room q → Reach room (cond b r q)
cond_reach true one two = one
cond_reach false one two = two

pub reach_choose : {A : Type 0} {room : ℕ} (p : Kind → Bool) {r q : Reader A} → Reach room r → Reach room q → Reach room (peek >>= λ kind. cond (p kind) r q)
reach_choose p one two = reach_by (λ kind. cond_reach (p kind) one two)

pub take_within : (b : Bool) (i : Tokens) → left (take_if b i) ≤ length i
take_within true [] = omega arith
take_within true (t ∷ i) = omega arith
take_within false i = omega arith

-- a token that is taken or not
took_extends : (t : Token) (front back : Tokens) → Extends back (take_if true (t ∷ front)) (take_if true (t ∷ (front ++ back)))
took_extends t [] back = omega arith
took_extends t (u ∷ front) back = refl

take_extends : (b : Bool) (t : Token) (front back : Tokens) → Extends back (take_if b (t ∷ front)) (take_if b (t ∷ (front ++ back)))
take_extends true t front back = took_extends t front back
take_extends false t front back = let same : suc (length (front ++ back)) ≡ suc (length front) + length back = omega (arith, length-append front back) in ap (λ (n : ℕ). Err (Syntax n)) same

expect_local : (kind : Kind) (front back : Tokens) → Extends back (expect kind front) (expect kind (front ++ back))
unfolding expect
expect_local kind [] back = ends (expect kind []) back (expect kind back) (take_within (is kind k.SourceEnd) []) (take_within (is kind (next_kind back)) back)
expect_local kind (t ∷ front) back = take_extends (is kind t.kind) t front back

take_faults : (b : Bool) (i : Tokens) (e : Fault) → take_if b i ≡ Err e → (count : ℕ) × (e ≡ Syntax count)
take_faults true [] e h = (0, cc)
take_faults true (t ∷ i) e h = absurd cc
take_faults false i e h = (length i, cc)

pub reach_expect : {room : ℕ} (kind : Kind) → Reach room (expect kind)
unfolding expect
reach_expect kind = record { within = λ i. take_within (is kind (next_kind i)) i; local = expect_local kind; faults = λ i e fits h. take_faults (is kind (next_kind i)) i e h }

pub meant_within : {A : Type 0} (o : Option A) (i : Tokens) → left (meant o i) ≤ length i
meant_within (Some a) [] = omega arith
meant_within (Some a) (t ∷ i) = omega arith
meant_within None i = omega arith

meant_some : {A : Type 0} (a : A) (t : Token) (front back : Tokens) → Extends back (meant (Some a) (t ∷ front)) (meant (Some a) (t ∷ (front ++ back)))
meant_some a t [] back = omega arith
meant_some a t (u ∷ front) back = refl

meant_extends : {A : Type 0} (o : Option A) (t : Token) (front back : Tokens) → Extends back (meant o (t ∷ front)) (meant o (t ∷ (front ++ back)))
meant_extends (Some a) t front back = meant_some a t front back
meant_extends None t front back = let same : suc (length (front ++ back)) ≡ suc (length front) + length back = omega (arith, length-append front back) in ap (λ (n : ℕ). Err (Syntax n)) same

one_of_local : {A : Type 0} (meaning : Kind → Option A) (front back : Tokens) → Extends back (one_of meaning front) (one_of meaning (front ++ back))
unfolding one_of
one_of_local meaning [] back = ends (one_of meaning []) back (one_of meaning back) (meant_within (meaning k.SourceEnd) []) (meant_within (meaning (next_kind back)) back)
one_of_local meaning (t ∷ front) back = meant_extends (meaning t.kind) t front back

meant_faults : {A : Type 0} (o : Option A) (i : Tokens) (e : Fault) → meant o i ≡ Err e → (count : ℕ) × (e ≡ Syntax count)
meant_faults (Some a) i e h = absurd cc
meant_faults None i e h = (length i, cc)

pub reach_one_of : {A : Type 0} {room : ℕ} (meaning : Kind → Option A) → Reach room (one_of meaning)
unfolding one_of
reach_one_of meaning = record { within = λ i. meant_within (meaning (next_kind i)) i; local = one_of_local meaning; faults = λ i e fits h. meant_faults (meaning (next_kind i)) i e h }

-- a token that opens a nesting
pub open_within : {A : Type 0} (room : ℕ) (here : Bool) (f : Token → Reader A) → ((inside : ℕ) → room ≡ suc inside → (t : Token) (i : Tokens) → left (f t i) ≤ length i) → (i : Tokens) → left (and_then (open_if room here i) f) ≤ length i
open_within zero true f within i = omega arith
open_within zero false f within i = omega arith
open_within (suc room) here f within i = and_left (take_if here i) f (length i) (take_within here i) (within room refl)

opened_extends : {A : Type 0} (room : ℕ) (here : Bool) (f : Token → Reader A) → ((t : Token) → Reach room (f t)) → (t : Token) (front back : Tokens)
    → Extends back (and_then (take_if here (t ∷ front)) f) (and_then (take_if here (t ∷ (front ++ back))) f)
opened_extends room true f reach t front back = (reach t).local front back
opened_extends room false f reach t front back = let same : suc (length (front ++ back)) ≡ suc (length front) + length back = omega (arith, length-append front back) in ap (λ (n : ℕ). Err (Syntax n)) same

shut_extends : {A : Type 0} (here : Bool) (f : Token → Reader A) (t : Token) (front back : Tokens) → Extends back (and_then (open_if 0 here (t ∷ front)) f) (and_then (open_if 0 here (t ∷ (front ++ back))) f)
shut_extends true f t front back = let same : suc (length (front ++ back)) ≡ suc (length front) + length back = omega (arith, length-append front back) in ap (λ (n : ℕ). Err (Nesting n)) same
shut_extends false f t front back = let same : suc (length (front ++ back)) ≡ suc (length front) + length back = omega (arith, length-append front back) in ap (λ (n : ℕ). Err (Syntax n)) same

open_local : {A : Type 0} (room : ℕ) (kind : Kind) (f : Token → Reader A) → ((inside : ℕ) → room ≡ suc inside → (t : Token) → Reach inside (f t)) → (front back : Tokens)
    → Extends back ((opening room kind >>= f) front) ((opening room kind >>= f) (front ++ back))
unfolding opening
open_local zero kind f reach [] back =
    ends ((opening zero kind >>= f) []) back ((opening zero kind >>= f) back)
    (open_within zero (is kind k.SourceEnd) f (λ inside s t. (reach inside s t).within) [])
    (open_within zero (is kind (next_kind back)) f (λ inside s t. (reach inside s t).within) back)
open_local zero kind f reach (t ∷ front) back = shut_extends (is kind t.kind) f t front back
open_local (suc room) kind f reach [] back =
    ends ((opening (suc room) kind >>= f) []) back ((opening (suc room) kind >>= f) back)
    (open_within (suc room) (is kind k.SourceEnd) f (λ inside s t. (reach inside s t).within) [])
    (open_within (suc room) (is kind (next_kind back)) f (λ inside s t. (reach inside s t).within) back)
open_local (suc room) kind f reach (t ∷ front) back = opened_extends room (is kind t.kind) f (reach room refl) t front back

opened_faults : {A : Type 0} (room : ℕ) (here : Bool) (f : Token → Reader A) → ((t : Token) → Reach room (f t)) → (i : Tokens) (e : Fault) → Fits (suc room) i → and_then (take_if here i) f ≡ Err e → (count : ℕ) × (e ≡ Syntax count)
opened_faults room true f reach [] e fits h = (0, cc)
opened_faults room true f reach (t ∷ i) e fits h = (reach t).faults i e (omega (arith, fits)) h
opened_faults room false f reach i e fits h = (length i, cc)

open_faults : {A : Type 0} (room : ℕ) (here : Bool) (f : Token → Reader A) → ((inside : ℕ) → room ≡ suc inside → (t : Token) → Reach inside (f t)) → (i : Tokens) (e : Fault) → Fits room i → and_then (open_if room here i) f ≡ Err e → (count : ℕ) × (e ≡ Syntax count)
open_faults zero here f reach i e fits h = absurd (omega (arith, fits))
open_faults (suc room) here f reach i e fits h = opened_faults room here f (reach room refl) i e fits h

pub reach_opening : {A : Type 0} (room : ℕ) (kind : Kind) {f : Token → Reader A} → ((inside : ℕ) → room ≡ suc inside → (t : Token) → Reach inside (f t)) → Reach room (opening room kind >>= f)
unfolding opening
reach_opening room kind {f = f} reach = record {
  within = λ i. open_within room (is kind (next_kind i)) f (λ inside s t. (reach inside s t).within) i;
  local = open_local room kind f reach;
  faults = λ i e fits h. open_faults room (is kind (next_kind i)) f reach i e fits h;
}

-- a token that means something and opens a nesting
pub open_meant_within : {A B : Type 0} (room : ℕ) (o : Option A) (f : A → Reader B) → ((inside : ℕ) → room ≡ suc inside → (a : A) (i : Tokens) → left (f a i) ≤ length i) → (i : Tokens) → left (and_then (open_meant room o i) f) ≤ length i
open_meant_within zero (Some a) f within i = omega arith
open_meant_within zero None f within i = omega arith
open_meant_within (suc room) o f within i = and_left (meant o i) f (length i) (meant_within o i) (within room refl)

meant_opened : {A B : Type 0} (room : ℕ) (o : Option A) (f : A → Reader B) → ((a : A) → Reach room (f a)) → (t : Token) (front back : Tokens)
    → Extends back (and_then (meant o (t ∷ front)) f) (and_then (meant o (t ∷ (front ++ back))) f)
meant_opened room (Some a) f reach t front back = (reach a).local front back
meant_opened room None f reach t front back = let same : suc (length (front ++ back)) ≡ suc (length front) + length back = omega (arith, length-append front back) in ap (λ (n : ℕ). Err (Syntax n)) same

meant_shut : {A B : Type 0} (o : Option A) (f : A → Reader B) (t : Token) (front back : Tokens) → Extends back (and_then (open_meant 0 o (t ∷ front)) f) (and_then (open_meant 0 o (t ∷ (front ++ back))) f)
meant_shut (Some a) f t front back = let same : suc (length (front ++ back)) ≡ suc (length front) + length back = omega (arith, length-append front back) in ap (λ (n : ℕ). Err (Nesting n)) same
meant_shut None f t front back = let same : suc (length (front ++ back)) ≡ suc (length front) + length back = omega (arith, length-append front back) in ap (λ (n : ℕ). Err (Syntax n)) same

open_meant_local : {A B : Type 0} (room : ℕ) (meaning : Kind → Option A) (f : A → Reader B) → ((inside : ℕ) → room ≡ suc inside → (a : A) → Reach inside (f a)) → (front back : Tokens)
    → Extends back ((opening_one_of room meaning >>= f) front) ((opening_one_of room meaning >>= f) (front ++ back))
unfolding opening_one_of
open_meant_local zero meaning f reach [] back =
    ends ((opening_one_of zero meaning >>= f) []) back ((opening_one_of zero meaning >>= f) back)
    (open_meant_within zero (meaning k.SourceEnd) f (λ inside s a. (reach inside s a).within) [])
    (open_meant_within zero (meaning (next_kind back)) f (λ inside s a. (reach inside s a).within) back)
open_meant_local zero meaning f reach (t ∷ front) back = meant_shut (meaning t.kind) f t front back
open_meant_local (suc room) meaning f reach [] back =
    ends ((opening_one_of (suc room) meaning >>= f) []) back ((opening_one_of (suc room) meaning >>= f) back)
    (open_meant_within (suc room) (meaning k.SourceEnd) f (λ inside s a. (reach inside s a).within) [])
    (open_meant_within (suc room) (meaning (next_kind back)) f (λ inside s a. (reach inside s a).within) back)
open_meant_local (suc room) meaning f reach (t ∷ front) back = meant_opened room (meaning t.kind) f (reach room refl) t front back

no_end_meant : {A B : Type 0} (o : Option A) (f : A → Reader B) (e : Fault) → o ≡ None → and_then (meant o []) f ≡ Err e → (count : ℕ) × (e ≡ Syntax count)
no_end_meant (Some a) f e end h = absurd cc
no_end_meant None f e end h = (0, cc)

meant_some_faults : {A B : Type 0} (room : ℕ) (o : Option A) (f : A → Reader B) → ((a : A) → Reach room (f a)) → (t : Token) (i : Tokens) (e : Fault) → Fits (suc room) (t ∷ i) → and_then (meant o (t ∷ i)) f ≡ Err e → (count : ℕ) × (e ≡ Syntax count)
meant_some_faults room (Some a) f reach t i e fits h = (reach a).faults i e (omega (arith, fits)) h
meant_some_faults room None f reach t i e fits h = (length (t ∷ i), cc)

open_meant_faults : {A B : Type 0} (room : ℕ) (meaning : Kind → Option A) (f : A → Reader B) → NotEnd meaning → ((inside : ℕ) → room ≡ suc inside → (a : A) → Reach inside (f a)) → (i : Tokens) (e : Fault) → Fits room i
    → and_then (open_meant room (meaning (next_kind i)) i) f ≡ Err e → (count : ℕ) × (e ≡ Syntax count)
open_meant_faults zero meaning f end reach i e fits h = absurd (omega (arith, fits))
open_meant_faults (suc room) meaning f end reach [] e fits h = no_end_meant (meaning k.SourceEnd) f e end h
open_meant_faults (suc room) meaning f end reach (t ∷ i) e fits h = meant_some_faults room (meaning t.kind) f (reach room refl) t i e fits h

pub reach_opening_one_of : {A B : Type 0} (room : ℕ) (meaning : Kind → Option A) → NotEnd meaning → {f : A → Reader B} → ((inside : ℕ) → room ≡ suc inside → (a : A) → Reach inside (f a)) → Reach room (opening_one_of room meaning >>= f)
unfolding opening_one_of
reach_opening_one_of room meaning end {f = f} reach = record {
  within = λ i. open_meant_within room (meaning (next_kind i)) f (λ inside s a. (reach inside s a).within) i;
  local = open_meant_local room meaning f reach;
  faults = λ i e fits h. open_meant_faults room meaning f end reach i e fits h;
}

pub reach_lower : {A : Type 0} {room inside : ℕ} {r : Reader A} → room ≡ suc inside → Reach room r → Reach inside r
reach_lower is_suc reach = record {
  within = reach.within;
  local = reach.local;
  faults = λ i e fits. reach.faults i e (omega (arith, fits, is_suc));
}

lined_local : {A : Type 0} {room : ℕ} (r : Reader A) → Reach room r → (front back : Tokens) → Extends back (lined r front) (lined r (front ++ back))
lined_local {room = room} r reach [] back =
    ends (lined r []) back (lined r back) ((reach_then reach (λ a. reach_pure {room = room} (0, a))).within []) ((reach_then reach (λ a. reach_pure {room = room} (lang.line_of back, a))).within back)
lined_local {room = room} r reach (t ∷ front) back = (reach_then reach (λ a. reach_pure {room = room} (t.line, a))).local (t ∷ front) back

pub reach_lined : {A : Type 0} {room : ℕ} {r : Reader A} → Reach room r → Reach room (lined r)
reach_lined {room = room} {r = r} reach = record {
  within = λ i. (reach_then reach (λ a. reach_pure {room = room} (lang.line_of i, a))).within i;
  local = lined_local r reach;
  faults = λ i. (reach_then reach (λ a. reach_pure {room = room} (lang.line_of i, a))).faults i;
}

-- ---- any number of parts

-- a part takes a token at least
pub record Eats {A : Type 0} (r : Reader A) : Type 0 where
  pub takes : (i : Tokens) (a : A) (rest : Tokens) → r i ≡ Ok (a, rest) → length rest < length i

pub many_within : {A : Type 0} (begins : Kind → Bool) (item : Reader A) → ((i : Tokens) → left (item i) ≤ length i) → (n : ℕ) (found : List A) (i : Tokens) → left (many_from begins item n found i) ≤ length i
unfolding many_from
many_within begins item within zero found i = omega arith
many_within {A = A} begins item within (suc n) found i =
    let go : (b : Bool) → left (cond b (item >>= λ x. many_from begins item n (found ++ x ∷ [])) (pure found) i) ≤ length i = λ b.
    elim b as (λ b. left (cond b (item >>= λ x. many_from begins item n (found ++ x ∷ [])) (pure found) i) ≤ length i) [
      | true ↦ and_left (item i) (λ x. many_from begins item n (found ++ x ∷ [])) (length i) (within i) (λ x. many_within begins item within n (found ++ x ∷ []))
      | false ↦ omega arith
    ] in
    go (begins (next_kind i))

turn_extends : {A B : Type 0} (o whole : Outcome A) (f g : A → Reader B) (back : Tokens) → ((a : A) (i : Tokens) → left (f a i) ≤ length i) → ((a : A) (i : Tokens) → left (g a i) ≤ length i)
    → ((a : A) (t : Token) (rest : Tokens) → o ≡ Ok (a, t ∷ rest) → Extends back (f a (t ∷ rest)) (g a (t ∷ (rest ++ back)))) → Extends back o whole → Extends back (and_then o f) (and_then whole g)
turn_extends (Ok (a, [])) whole f g back within within2 goes h = ends (f a []) back (and_then whole g) (within a []) (and_left whole g (length back) h within2)
turn_extends (Ok (a, t ∷ rest)) whole f g back within within2 goes h = subst (λ z. Extends back (f a (t ∷ rest)) (and_then z g)) (sym h) (goes a t rest refl)
turn_extends (Err (Syntax zero)) whole f g back within within2 goes h = and_left whole g (length back) h within2
turn_extends (Err (Syntax (suc n))) whole f g back within within2 goes h = ap (λ o. and_then o g) h
turn_extends (Err (Nesting zero)) whole f g back within within2 goes h = and_left whole g (length back) h within2
turn_extends (Err (Nesting (suc n))) whole f g back within within2 goes h = ap (λ o. and_then o g) h
turn_extends (Err Memory) whole f g back within within2 goes h = and_left whole g (length back) h within2

many_extends : {A : Type 0} (room : ℕ) (begins : Kind → Bool) (item : Reader A) → Reach room item → Eats item → (n m : ℕ) (found : List A) (front back : Tokens) → length front ≤ n → length (front ++ back) ≤ m
    → Extends back (many_from begins item n found front) (many_from begins item m found (front ++ back))
unfolding many_from
many_extends room begins item reach eats n m found [] back le le2 =
    ends (many_from begins item n found []) back (many_from begins item m found back) (many_within begins item reach.within n found []) (many_within begins item reach.within m found back)
many_extends room begins item reach eats zero m found (t ∷ front) back le le2 = absurd (omega (arith, le))
many_extends room begins item reach eats (suc n) zero found (t ∷ front) back le le2 = absurd (omega (arith, le2))
many_extends {A = A} room begins item reach eats (suc n) (suc m) found (t ∷ front) back le le2 =
    let f : A → Reader (List A) = λ x. many_from begins item n (found ++ x ∷ []) in
    let g : A → Reader (List A) = λ x. many_from begins item m (found ++ x ∷ []) in
    let go : (b : Bool) → Extends back (cond b (item >>= f) (pure found) (t ∷ front)) (cond b (item >>= g) (pure found) (t ∷ (front ++ back))) = λ b.
    elim b as (λ b. Extends back (cond b (item >>= f) (pure found) (t ∷ front)) (cond b (item >>= g) (pure found) (t ∷ (front ++ back)))) [
      | true ↦ turn_extends (item (t ∷ front)) (item (t ∷ (front ++ back))) f g back (λ x. many_within begins item reach.within n (found ++ x ∷ [])) (λ x. many_within begins item reach.within m (found ++ x ∷ []))
          (λ x u rest h. let short = eats.takes (t ∷ front) x (u ∷ rest) h in
          many_extends room begins item reach eats n m (found ++ x ∷ []) (u ∷ rest) back (omega (arith, short, le)) (omega (arith, short, le2, length-append front back, length-append rest back)))
          (reach.local (t ∷ front) back)
      | false ↦ refl
    ] in
    go (begins t.kind)

many_faults : {A : Type 0} (room : ℕ) (begins : Kind → Bool) (item : Reader A) → Reach room item → (n : ℕ) (found : List A) (i : Tokens) (e : Fault) → Fits room i → many_from begins item n found i ≡ Err e → (count : ℕ) × (e ≡ Syntax count)
unfolding many_from
many_faults room begins item reach zero found i e fits h = absurd cc
many_faults {A = A} room begins item reach (suc n) found i e fits h =
    let f : A → Reader (List A) = λ x. many_from begins item n (found ++ x ∷ []) in
    let go : (b : Bool) → cond b (item >>= f) (pure found) i ≡ Err e → (count : ℕ) × (e ≡ Syntax count) = λ b.
    elim b as (λ b. cond b (item >>= f) (pure found) i ≡ Err e → (count : ℕ) × (e ≡ Syntax count)) [
      | true ↦ λ h. then_faults (item i) f i e (reach.within i) (reach.faults i e fits) (λ x j long. many_faults room begins item reach n (found ++ x ∷ []) j e (fits_shorter room i j long fits)) h
      | false ↦ λ h. absurd cc
    ] in
    go (begins (next_kind i)) h

pub reach_many : {A : Type 0} {room : ℕ} (begins : Kind → Bool) {item : Reader A} → Reach room item → Eats item → Reach room (many begins item)
reach_many {room = room} begins {item = item} reach eats = record {
  within = λ i. many_within begins item reach.within (length i) [] i;
  local = λ front back. many_extends room begins item reach eats (length front) (length (front ++ back)) [] front back (omega arith) (omega arith);
  faults = λ i e fits h. many_faults room begins item reach (length i) [] i e fits h;
}

pub eats_begins : {A : Type 0} {r : Reader A} {L : Tokens → A → Type 0} {p : Kind → Bool} → Sound r L → Begins p L → Eats r
eats_begins sound begins = record {
  takes = λ i a rest h.
      let t = sound.took i a rest h in
      let b = begins.at t.used a t.spelled in
      let long : length i ≡ suc (length b.others) + length rest = ap length t.parts ∙ length-append t.used rest ∙ ap (λ (z : Tokens). length z + length rest) b.parts in
      omega (arith, long);
}

-- ---- outcomes

pub left_none : {A : Type 0} (o whole : Outcome A) (back : Tokens) → Extends back o whole → left whole ≤ length back → left o ≤ 0
left_none (Ok (a, [])) whole back h le = omega arith
left_none (Ok (a, t ∷ rest)) whole back h le = let n = ap left h in absurd (omega (arith, n, le, length-append rest back))
left_none (Err (Syntax zero)) whole back h le = omega arith
left_none (Err (Syntax (suc n))) whole back h le = let m = ap left h in absurd (omega (arith, m, le))
left_none (Err (Nesting zero)) whole back h le = omega arith
left_none (Err (Nesting (suc n))) whole back h le = let m = ap left h in absurd (omega (arith, m, le))
left_none (Err Memory) whole back h le = omega arith

-- where reading the front came to its end, reading more comes as far
pub far : {A : Type 0} (o whole : Outcome A) (back : Tokens) → Extends back o whole → left o ≤ 0 → left whole ≤ length back
far (Ok (a, [])) whole back h none = h
far (Ok (a, t ∷ rest)) whole back h none = absurd (omega (arith, none))
far (Err (Syntax zero)) whole back h none = h
far (Err (Syntax (suc n))) whole back h none = absurd (omega (arith, none))
far (Err (Nesting zero)) whole back h none = h
far (Err (Nesting (suc n))) whole back h none = absurd (omega (arith, none))
far (Err Memory) whole back h none = h

-- a step that failed
pub fails_to : {A B : Type 0} {o : Outcome A} (f : A → Reader B) {e : Fault} → o ≡ Err e → and_then o f ≡ Err e
fails_to f h = ap (λ o. and_then o f) h

pub pred_of : (room : ℕ) (toks : Tokens) → Fits room toks → (inside : ℕ) × (room ≡ suc inside)
pred_of zero toks fits = absurd (omega (arith, fits))
pred_of (suc room) toks fits = (room, refl)
