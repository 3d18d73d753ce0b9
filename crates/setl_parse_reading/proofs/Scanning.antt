-- What the scan at the inside of a brace or bracket shows.
use Rattle.std.proofs.Common.{◌≡◌, ◌≢◌, ℕ, zero, suc, Bool, true, false, if◌then◌else◌, List, [], ◌∷◌, ◌++◌, refl, sym, ap, ◌∙◌, append_assoc, inl, inr, ◌⊎◌}
use Rattle.std.proofs.lemmas.List.{append-nil}
use Rattle.std.specs.Prelude.{pos, ⊤}
use Rattle.setl_tree.specs.declared.kind.Kind.{Kind}
use Rattle.setl_tree.specs.declared.kind.Kind.TheVariants as k
use Rattle.setl_tree.specs.declared.expr.Slot.{Slot}
use Rattle.setl_tree.specs.declared.expr.Slot.TheVariants as sl
use Rattle.setl_tree.specs.declared.expr.Bound.{Bound}
use Rattle.setl_tree.specs.declared.expr.Expr.TheVariants as e
use Rattle.setl_tree.specs.Tokens.{Token, Tokens}
use Rattle.setl_tree.specs.Lang.{Lang, Then}
use Rattle.setl_tree.specs.Lang as lang
use Rattle.setl_tree.specs.Expressions as grammar
use Rattle.setl_parse_reading.specs.declared.ahead.Ahead.{Ahead}
use Rattle.setl_parse_reading.specs.declared.ahead.Ahead.TheVariants.{Expression, Either, Pattern}
use Rattle.setl_parse_reading.specs.code.Reading.{next_kind, same_kind, rest_of}
use Rattle.setl_parse_reading.specs.code.Scan.{either_at, ends_slot, after_name, slots_ahead, ahead, slot_exprs}
use Rattle.setl_parse_reading.proofs.EveryKind.{same_kind_is, same_kind_self}
use Rattle.setl_parse_reading.proofs.Regroup.{more_l, more_one}

-- ---- one token

pub name_token : (t : Token) → t.kind ≡ k.Name → lang.name (t ∷ []) t.text
name_token t h = record { front = t ∷ []; back = []; value = t; parts = refl; first = record { alone = refl; kind = h }; second = (refl, refl) }

pub name_is : (toks : Tokens) (x : List ℕ) → lang.name toks x → (t : Token) × (toks ≡ t ∷ []) × (t.kind ≡ k.Name) × (t.text ≡ x)
name_is toks x s = (s.value, s.parts ∙ (λ i. s.first.alone i ++ s.second.0 i), s.first.kind, s.second.1)

pub slot_is : (toks : Tokens) (x : Slot) → grammar.slot toks x → (t : Token) × (toks ≡ t ∷ []) × ((t.kind ≡ k.Name) ⊎ (t.kind ≡ k.Minus))
unfolding grammar.slot
slot_is toks x (inl s) = let n = name_is s.front s.value s.first in (n.0, s.parts ∙ (λ i. n.1 i ++ s.second.0 i), inl n.2)
slot_is toks x (inr s) = (s.value, s.parts ∙ (λ i. s.first.alone i ++ s.second.0 i), inr s.first.kind)

-- ---- lists, part by part

abbrev pub mapped : {A B : Type 0} → (A → B) → List A → List B
mapped f [] = []
mapped f (x ∷ xs) = f x ∷ mapped f xs

more_map : {A B : Type 0} (L : Tokens → A → Type 0) (M : Tokens → B → Type 0) (f : A → B) → ((t : Tokens) (a : A) → L t a → M t (f a)) → (toks : Tokens) (xs : List A) → more_l L toks xs → more_l M toks (mapped f xs)
more_map L M f to toks [] s = s
more_map L M f to toks (x ∷ xs) s = record {
  front = s.front;
  back = s.back;
  parts = s.parts;
  first = record { front = s.first.front; back = s.first.back; value = s.first.value; parts = s.first.parts; first = s.first.first; second = to s.first.back x s.first.second };
  second = more_map L M f to s.back xs s.second;
}

pub separated_map : {A B : Type 0} {L : Tokens → A → Type 0} {M : Tokens → B → Type 0} (f : A → B) → ((t : Tokens) (a : A) → L t a → M t (f a)) → (toks : Tokens) (xs : List A) → lang.separated L toks xs → lang.separated M toks (mapped f xs)
separated_map {L = L} {M = M} f to toks xs s = record {
  front = s.front;
  back = s.back;
  value = f s.value;
  parts = s.parts;
  first = to s.front s.value s.first;
  second = record {
    front = s.second.front;
    back = s.second.back;
    value = mapped f s.second.value;
    parts = s.second.parts;
    first = more_map L M f to s.second.front s.second.value s.second.first;
    second = (s.second.second.0, ap (mapped f) s.second.second.1);
  };
}

-- a list in brackets
pub bracketed : {A : Type 0} (L : Lang A) (room : ℕ) (opened : Token) (front : Tokens) (close : Token) (xs : List A) → opened.kind ≡ k.LeftBracket → close.kind ≡ k.RightBracket → lang.separated L front xs
    → Then (lang.opening (suc room) k.LeftBracket) (λ _. Then (lang.separated L) (λ xs. Then (lang.token k.RightBracket) (λ _. lang.pure xs))) (opened ∷ (front ++ close ∷ [])) xs
bracketed L room opened front close xs opens closes s = record {
  front = opened ∷ [];
  back = front ++ close ∷ [];
  value = opened;
  parts = refl;
  first = record { alone = refl; kind = opens };
  second = record {
    front = front;
    back = close ∷ [];
    value = xs;
    parts = refl;
    first = s;
    second = record { front = close ∷ []; back = []; value = close; parts = refl; first = record { alone = refl; kind = closes }; second = (refl, refl) };
  };
}

-- ---- names in brackets before `in`

pub record Named (toks : Tokens) : Type 0 where
  pub front : Tokens
  pub xs : List (List ℕ)
  pub close : Token
  pub rest : Tokens
  pub parts : toks ≡ front ++ close ∷ rest
  pub spelled : lang.separated lang.name front xs
  pub closed : close.kind ≡ k.RightBracket
  pub in_next : next_kind rest ≡ k.In

-- a choice that gave this
either_is : (b : Bool) → (if b then Either else Expression) ≡ Either → b ≡ true
either_is true h = refl
either_is false h = absurd cc

either_not : (b : Bool) → (if b then Either else Expression) ≡ Pattern → ⊥
either_not true h = cc
either_not false h = cc

pub either_at_in : (kind : Kind) → either_at kind ≡ Either → kind ≡ k.In
either_at_in kind h = same_kind_is kind k.In (either_is (same_kind kind k.In) h)

pub either_at_not : (kind : Kind) → either_at kind ≡ Pattern → ⊥
either_at_not kind h = either_not (same_kind kind k.In) h

pub pattern_if : (b : Bool) (x : Ahead) → (if b then x else Expression) ≡ Expression → (b ≡ false) ⊎ (x ≡ Expression)
pattern_if true x h = inr h
pattern_if false x h = inl refl

-- behind a name: a comma, or a bracket before `in`
after_either : (b c : Bool) (more : Ahead) (next : Kind) → (if b then more else if c then either_at next else Expression) ≡ Either
    → ((b ≡ true) × (more ≡ Either)) ⊎ ((c ≡ true) × (next ≡ k.In))
after_either true c more next h = inl (refl, h)
after_either false true more next h = inr (refl, either_at_in next h)
after_either false false more next h = absurd cc

after_pattern : (b c : Bool) (more : Ahead) (next : Kind) → (if b then more else if c then either_at next else Expression) ≡ Pattern → (b ≡ true) × (more ≡ Pattern)
after_pattern true c more next h = (refl, h)
after_pattern false true more next h = absurd (either_at_not next h)
after_pattern false false more next h = absurd cc

slot_either : (minus name ends : Bool) (x : Ahead) → (if minus then (if ends then Pattern else Expression) else if name then x else Expression) ≡ Either → (name ≡ true) × (x ≡ Either)
slot_either true name true x h = absurd cc
slot_either true name false x h = absurd cc
slot_either false true ends x h = (refl, h)
slot_either false false ends x h = absurd cc

pub slot_pattern : (minus name ends : Bool) (x : Ahead) → (if minus then (if ends then Pattern else Expression) else if name then x else Expression) ≡ Pattern
    → ((minus ≡ true) × (ends ≡ true)) ⊎ ((name ≡ true) × (x ≡ Pattern))
slot_pattern true name true x h = inl (refl, refl)
slot_pattern true name false x h = absurd cc
slot_pattern false true ends x h = inr (refl, h)
slot_pattern false false ends x h = absurd cc

named_one : (t u : Token) (toks : Tokens) → t.kind ≡ k.Name → u.kind ≡ k.RightBracket → next_kind toks ≡ k.In → Named (t ∷ u ∷ toks)
named_one t u toks name closed next = record {
  front = t ∷ [];
  xs = t.text ∷ [];
  close = u;
  rest = toks;
  parts = refl;
  closed = closed;
  in_next = next;
  spelled = record { front = t ∷ []; back = []; value = t.text; parts = refl; first = name_token t name; second = record { front = []; back = []; value = []; parts = refl; first = refl; second = (refl, refl) } };
}

named_more : (t u : Token) (toks : Tokens) → t.kind ≡ k.Name → u.kind ≡ k.Comma → Named toks → Named (t ∷ u ∷ toks)
named_more t u toks name comma n =
    let s = n.spelled in
    let more : Then (lang.token k.Comma) (λ _. Then lang.name (λ b. Then (more_l lang.name) (λ xs. lang.pure (t.text ∷ b ∷ xs)))) (u ∷ n.front) (t.text ∷ n.xs) = record {
      front = u ∷ [];
      back = n.front;
      value = u;
      parts = refl;
      first = record { alone = refl; kind = comma };
      second = record {
        front = s.front;
        back = s.back;
        value = s.value;
        parts = s.parts;
        first = s.first;
        second = record { front = s.second.front; back = s.second.back; value = s.second.value; parts = s.second.parts; first = s.second.first; second = (s.second.second.0, ap (λ z. t.text ∷ z) s.second.second.1) };
      };
    } in
    record {
      front = t ∷ u ∷ n.front;
      xs = t.text ∷ n.xs;
      close = n.close;
      rest = n.rest;
      parts = ap (λ (z : Tokens). t ∷ u ∷ z) n.parts;
      closed = n.closed;
      in_next = n.in_next;
      spelled = record { front = t ∷ []; back = u ∷ n.front; value = t.text; parts = refl; first = name_token t name; second = more_one {K = λ xs. lang.pure (t.text ∷ xs)} more };
    }

-- where the slots may be an expression, they are names
pub named : (toks : Tokens) → slots_ahead toks ≡ Either → Named toks
unfolding slots_ahead
named [] h = absurd cc
named (t ∷ []) h = absurd cc
named (t ∷ u ∷ toks) h =
    let a = slot_either (same_kind t.kind k.Minus) (same_kind t.kind k.Name) (ends_slot u.kind) (after_name u.kind (slots_ahead toks) (next_kind toks)) h in
    let name : t.kind ≡ k.Name = same_kind_is t.kind k.Name a.0 in
    elim (after_either (same_kind u.kind k.Comma) (same_kind u.kind k.RightBracket) (slots_ahead toks) (next_kind toks) a.1) [
      | inl more ↦ named_more t u toks name (same_kind_is u.kind k.Comma more.0) (named toks more.1)
      | inr last ↦ named_one t u toks name (same_kind_is u.kind k.RightBracket last.0) last.1
    ]

-- where the slots are no expression, a `-` with the end of its slot comes, or a name with a comma first
pub holed : (t u : Token) (toks : Tokens) → slots_ahead (t ∷ u ∷ toks) ≡ Pattern
    → ((t.kind ≡ k.Minus) × (ends_slot u.kind ≡ true)) ⊎ ((t.kind ≡ k.Name) × (u.kind ≡ k.Comma) × (slots_ahead toks ≡ Pattern))
unfolding slots_ahead
holed t u toks h = elim (slot_pattern (same_kind t.kind k.Minus) (same_kind t.kind k.Name) (ends_slot u.kind) (after_name u.kind (slots_ahead toks) (next_kind toks)) h) [
  | inl hole ↦ inl (same_kind_is t.kind k.Minus hole.0, hole.1)
  | inr a ↦
      let b = after_pattern (same_kind u.kind k.Comma) (same_kind u.kind k.RightBracket) (slots_ahead toks) (next_kind toks) a.1 in
      inr (same_kind_is t.kind k.Name a.0, same_kind_is u.kind k.Comma b.0, b.1)
]

pub not_short : (toks : Tokens) → slots_ahead toks ≡ Pattern → (t : Token) × (u : Token) × (more : Tokens) × (toks ≡ t ∷ u ∷ more)
unfolding slots_ahead
not_short [] h = absurd cc
not_short (t ∷ []) h = absurd cc
not_short (t ∷ u ∷ toks) h = (t, u, toks, refl)

-- ---- what the inside begins with

pub ahead_name : (toks : Tokens) → next_kind toks ≡ k.Name → ahead toks ≡ either_at (next_kind (rest_of toks))
unfolding ahead
ahead_name toks h = rw (h, same_kind_self k.Name) refl

bracket_no_name : same_kind k.LeftBracket k.Name ≡ false
unfolding same_kind
bracket_no_name = refl

pub ahead_bracket : (toks : Tokens) → next_kind toks ≡ k.LeftBracket → ahead toks ≡ slots_ahead (rest_of toks)
unfolding ahead
ahead_bracket toks h = rw (h, bracket_no_name, same_kind_self k.LeftBracket) refl

minus_no_name : same_kind k.Minus k.Name ≡ false
unfolding same_kind
minus_no_name = refl

minus_no_bracket : same_kind k.Minus k.LeftBracket ≡ false
unfolding same_kind
minus_no_bracket = refl

pub ahead_minus : (toks : Tokens) → next_kind toks ≡ k.Minus → ahead toks ≡ Expression
unfolding ahead
ahead_minus toks h = rw (h, minus_no_name, minus_no_bracket) refl

ahead_cases : (b c : Bool) (x y : Ahead) → ((b ≡ true) × ((if b then x else if c then y else Expression) ≡ x)) ⊎ (((c ≡ true) × ((if b then x else if c then y else Expression) ≡ y)) ⊎ ((if b then x else if c then y else Expression) ≡ Expression))
ahead_cases true c x y = inl (refl, refl)
ahead_cases false true x y = inr (inl (refl, refl))
ahead_cases false false x y = inr (inr refl)

pub ahead_is : (toks : Tokens) → ((next_kind toks ≡ k.Name) × (ahead toks ≡ either_at (next_kind (rest_of toks))))
    ⊎ (((next_kind toks ≡ k.LeftBracket) × (ahead toks ≡ slots_ahead (rest_of toks))) ⊎ (ahead toks ≡ Expression))
unfolding ahead
ahead_is toks = elim (ahead_cases (same_kind (next_kind toks) k.Name) (same_kind (next_kind toks) k.LeftBracket) (either_at (next_kind (rest_of toks))) (slots_ahead (rest_of toks))) [
  | inl a ↦ inl (same_kind_is (next_kind toks) k.Name a.0, a.1)
  | inr (inl a) ↦ inr (inl (same_kind_is (next_kind toks) k.LeftBracket a.0, a.1))
  | inr (inr a) ↦ inr (inr a)
]

-- tokens with a next kind that is no end
pub some_token : (toks : Tokens) (kind : Kind) → next_kind toks ≡ kind → kind ≢ k.SourceEnd → (t : Token) × (toks ≡ t ∷ rest_of toks) × (t.kind ≡ kind)
some_token [] kind h other = absurd (other (sym h))
some_token (t ∷ toks) kind h other = (t, refl, h)

-- ---- a bound before `in` is seen

pattern_no_expression : Pattern ≡ Expression → ⊥
pattern_no_expression h = cc

either_no_expression : Either ≡ Expression → ⊥
either_no_expression h = cc

ends_slot_bracket : ends_slot k.RightBracket ≡ true
unfolding ends_slot
ends_slot_bracket = refl

ends_slot_comma : ends_slot k.Comma ≡ true
unfolding ends_slot
ends_slot_comma = refl

name_no_minus : same_kind k.Name k.Minus ≡ false
unfolding same_kind
name_no_minus = refl

bracket_no_comma : same_kind k.RightBracket k.Comma ≡ false
unfolding same_kind
bracket_no_comma = refl

scan_minus : (t u : Token) (toks : Tokens) → t.kind ≡ k.Minus → ends_slot u.kind ≡ true → slots_ahead (t ∷ u ∷ toks) ≡ Pattern
unfolding slots_ahead
scan_minus t u toks minus ends = rw (minus, same_kind_self k.Minus, ends) refl

scan_comma : (t u : Token) (toks : Tokens) → t.kind ≡ k.Name → u.kind ≡ k.Comma → slots_ahead (t ∷ u ∷ toks) ≡ slots_ahead toks
unfolding slots_ahead
scan_comma t u toks name comma = rw (name, name_no_minus, same_kind_self k.Name, comma, same_kind_self k.Comma) refl

scan_last : (t u : Token) (toks : Tokens) → t.kind ≡ k.Name → u.kind ≡ k.RightBracket → next_kind toks ≡ k.In → slots_ahead (t ∷ u ∷ toks) ≡ Either
unfolding slots_ahead
scan_last t u toks name closed next = rw (name, name_no_minus, same_kind_self k.Name, closed, bracket_no_comma, same_kind_self k.RightBracket, next, same_kind_self k.In) refl

slots_seen : (t : Token) (mid : Tokens) (xs : List Slot) (close : Token) (rest : Tokens) → (t.kind ≡ k.Name) ⊎ (t.kind ≡ k.Minus) → more_l grammar.slot mid xs → close.kind ≡ k.RightBracket → next_kind rest ≡ k.In
    → slots_ahead (t ∷ (mid ++ close ∷ rest)) ≡ Expression → ⊥
slots_seen t mid [] close rest slot more closed next h =
    let here : t ∷ (mid ++ close ∷ rest) ≡ t ∷ close ∷ rest = ap (λ (z : Tokens). t ∷ (z ++ close ∷ rest)) more in
    let seen : slots_ahead (t ∷ close ∷ rest) ≡ Expression = ap slots_ahead (sym here) ∙ h in
    elim slot [
      | inl name ↦ either_no_expression (sym (scan_last t close rest name closed next) ∙ seen)
      | inr minus ↦ pattern_no_expression (sym (scan_minus t close rest minus (ap ends_slot closed ∙ ends_slot_bracket)) ∙ seen)
    ]
slots_seen t mid (x ∷ xs) close rest slot more closed next h =
    let u = more.first.value in
    let s = slot_is more.first.back x more.first.second in
    let whole : mid ≡ u ∷ s.0 ∷ more.back = more.parts ∙ ap (λ (z : Tokens). z ++ more.back) (more.first.parts ∙ (λ i. more.first.first.alone i ++ s.1 i)) in
    let here : t ∷ (mid ++ close ∷ rest) ≡ t ∷ u ∷ (s.0 ∷ (more.back ++ close ∷ rest)) = ap (λ (z : Tokens). t ∷ (z ++ close ∷ rest)) whole in
    let seen : slots_ahead (t ∷ u ∷ (s.0 ∷ (more.back ++ close ∷ rest))) ≡ Expression = ap slots_ahead (sym here) ∙ h in
    elim slot [
      | inl name ↦ slots_seen s.0 more.back xs close rest s.2 more.second closed next (sym (scan_comma t u (s.0 ∷ (more.back ++ close ∷ rest)) name more.first.first.kind) ∙ seen)
      | inr minus ↦ pattern_no_expression (sym (scan_minus t u (s.0 ∷ (more.back ++ close ∷ rest)) minus (ap ends_slot more.first.first.kind ∙ ends_slot_comma)) ∙ seen)
    ]

slots_front : (front : Tokens) (slots : List Slot) (close : Token) (rest : Tokens) → lang.separated grammar.slot front slots → close.kind ≡ k.RightBracket → next_kind rest ≡ k.In
    → slots_ahead (front ++ close ∷ rest) ≡ Expression → ⊥
slots_front front slots close rest s closed next h =
    let t = slot_is s.front s.value s.first in
    let m = s.second in
    let whole : front ≡ t.0 ∷ m.front = s.parts ∙ (λ i. t.1 i ++ (m.parts ∙ ap (λ (z : Tokens). m.front ++ z) m.second.0 ∙ append-nil m.front) i) in
    slots_seen t.0 m.front m.value close rest t.2 m.first closed next (ap (λ (z : Tokens). slots_ahead (z ++ close ∷ rest)) (sym whole) ∙ h)

pattern_seen : (room : ℕ) (toks rest : Tokens) (slots : List Slot) → grammar.pattern room toks slots → next_kind rest ≡ k.In → ahead (toks ++ rest) ≡ Expression → ⊥
unfolding grammar.pattern
pattern_seen zero toks rest slots s next h = absurd s.first
pattern_seen (suc room) toks rest slots s next h =
    let opened = s.value in
    let m = s.second in
    let close = m.second.value in
    let back : m.back ≡ close ∷ [] = m.second.parts ∙ (λ i. m.second.first.alone i ++ m.second.second.0 i) in
    let whole : toks ≡ opened ∷ (m.front ++ close ∷ []) = s.parts ∙ (λ i. s.first.alone i ++ (m.parts ∙ ap (λ (z : Tokens). m.front ++ z) back) i) in
    let all : toks ++ rest ≡ opened ∷ (m.front ++ close ∷ rest) = ap (λ (z : Tokens). z ++ rest) whole ∙ ap (λ (z : Tokens). opened ∷ z) (append_assoc m.front (close ∷ []) rest) in
    let seen : ahead (opened ∷ (m.front ++ close ∷ rest)) ≡ Expression = ap ahead (sym all) ∙ h in
    slots_front m.front m.value close rest m.first m.second.first.kind next (sym (ahead_bracket (opened ∷ (m.front ++ close ∷ rest)) s.first.kind) ∙ seen)

pub bound_seen : (room : ℕ) (toks rest : Tokens) (b : Bound) → grammar.bound room toks b → next_kind rest ≡ k.In → ahead (toks ++ rest) ≡ Expression → ⊥
unfolding grammar.bound
bound_seen room toks rest b (inl s) next h =
    let n = name_is s.front s.value s.first in
    let whole : toks ++ rest ≡ n.0 ∷ rest = ap (λ (z : Tokens). z ++ rest) (s.parts ∙ (λ i. n.1 i ++ s.second.0 i)) in
    let seen : ahead (n.0 ∷ rest) ≡ Expression = ap ahead (sym whole) ∙ h in
    let in_next : either_at (next_kind rest) ≡ Either = rw (next, same_kind_self k.In) refl in
    either_no_expression (sym in_next ∙ sym (ahead_name (n.0 ∷ rest) n.2) ∙ seen)
bound_seen room toks rest b (inr s) next h =
    let whole : toks ≡ s.front = s.parts ∙ ap (λ (z : Tokens). s.front ++ z) s.second.0 ∙ append-nil s.front in
    pattern_seen room s.front rest s.value s.first next (ap (λ (z : Tokens). ahead (z ++ rest)) (sym whole) ∙ h)

-- ---- names as slots and as expressions

pub slot_exprs_names : (xs : List (List ℕ)) → slot_exprs (mapped sl.Name xs) ≡ mapped e.Name xs
slot_exprs_names [] = refl
slot_exprs_names (x ∷ xs) = ap (λ z. e.Name x ∷ z) (slot_exprs_names xs)

-- ---- fronts that the scan runs to the end of

-- slots up to the end of the tokens
abbrev pub OpenSlots : Tokens → Type 0
OpenSlots [] = ⊤
OpenSlots (t ∷ []) = (t.kind ≡ k.Name) ⊎ (t.kind ≡ k.Minus)
OpenSlots (t ∷ u ∷ toks) = (t.kind ≡ k.Name) × ((u.kind ≡ k.Comma) × OpenSlots toks ⊎ (u.kind ≡ k.RightBracket) × (toks ≡ []))

abbrev pub Open : Tokens → Type 0
Open [] = ⊤
Open (t ∷ toks) = ((t.kind ≡ k.Name) × (toks ≡ [])) ⊎ ((t.kind ≡ k.LeftBracket) × OpenSlots toks)

end_expression : either_at k.SourceEnd ≡ Expression
unfolding same_kind
end_expression = refl

is_or_not : (b : Bool) → (b ≡ true) ⊎ (b ≡ false)
is_or_not true = inl refl
is_or_not false = inr refl

scan_neither : (t u : Token) (toks : Tokens) → same_kind t.kind k.Minus ≡ false → same_kind t.kind k.Name ≡ false → slots_ahead (t ∷ u ∷ toks) ≡ Expression
unfolding slots_ahead
scan_neither t u toks minus name = rw (minus, name) refl

scan_hole : (t u : Token) (one two : Tokens) → same_kind t.kind k.Minus ≡ true → slots_ahead (t ∷ u ∷ one) ≡ slots_ahead (t ∷ u ∷ two)
unfolding slots_ahead
scan_hole t u one two minus = rw minus refl

scan_named : (t u : Token) (toks : Tokens) → same_kind t.kind k.Minus ≡ false → same_kind t.kind k.Name ≡ true → slots_ahead (t ∷ u ∷ toks) ≡ after_name u.kind (slots_ahead toks) (next_kind toks)
unfolding slots_ahead
scan_named t u toks minus name = rw (minus, name) refl

scan_none : slots_ahead [] ≡ Expression
unfolding slots_ahead
scan_none = refl

scan_alone : (t : Token) → slots_ahead (t ∷ []) ≡ Expression
unfolding slots_ahead
scan_alone t = refl

after_comma : (kind : Kind) → same_kind kind k.Comma ≡ true → (more : Ahead) (next : Kind) → after_name kind more next ≡ more
after_comma kind comma more next = rw comma refl

after_bracket : (kind : Kind) → same_kind kind k.Comma ≡ false → same_kind kind k.RightBracket ≡ true → (more : Ahead) (next : Kind) → after_name kind more next ≡ either_at next
after_bracket kind no_comma close more next = rw (no_comma, close) refl

after_other : (kind : Kind) → same_kind kind k.Comma ≡ false → same_kind kind k.RightBracket ≡ false → (more : Ahead) (next : Kind) → after_name kind more next ≡ Expression
after_other kind no_comma no_close more next = rw (no_comma, no_close) refl

no_tokens : (front : Tokens) → (front ≡ []) ⊎ ((back : Tokens) → next_kind (front ++ back) ≡ next_kind front)
no_tokens [] = inl refl
no_tokens (t ∷ front) = inr (λ back. refl)

-- what the scan of the slots shows depends on the tokens in front, or it runs to their end
pub slots_local : (front back : Tokens) → (slots_ahead (front ++ back) ≡ slots_ahead front) ⊎ OpenSlots front
slots_local [] back = inr tt
slots_local (t ∷ []) [] = inl refl
slots_local (t ∷ []) (u ∷ back) = elim (is_or_not (same_kind t.kind k.Minus)) [
  | inl minus ↦ inr (inr (same_kind_is t.kind k.Minus minus))
  | inr no_minus ↦ elim (is_or_not (same_kind t.kind k.Name)) [
    | inl name ↦ inr (inl (same_kind_is t.kind k.Name name))
    | inr no_name ↦ inl (scan_neither t u back no_minus no_name ∙ sym (scan_alone t))
  ]
]
slots_local (t ∷ u ∷ front) back = elim (is_or_not (same_kind t.kind k.Minus)) [
  | inl minus ↦ inl (scan_hole t u (front ++ back) front minus)
  | inr no_minus ↦ elim (is_or_not (same_kind t.kind k.Name)) [
    | inl name ↦
        let kind : t.kind ≡ k.Name = same_kind_is t.kind k.Name name in
        let one = scan_named t u (front ++ back) no_minus name in
        let two = scan_named t u front no_minus name in
        elim (is_or_not (same_kind u.kind k.Comma)) [
          | inl comma ↦ elim (slots_local front back) [
            | inl same ↦ inl (one ∙ after_comma u.kind comma (slots_ahead (front ++ back)) (next_kind (front ++ back)) ∙ same ∙ sym (after_comma u.kind comma (slots_ahead front) (next_kind front)) ∙ sym two)
            | inr opened ↦ inr (kind, inl (same_kind_is u.kind k.Comma comma, opened))
          ]
          | inr no_comma ↦ elim (is_or_not (same_kind u.kind k.RightBracket)) [
            | inl close ↦ elim (no_tokens front) [
              | inl none ↦ inr (kind, inr (same_kind_is u.kind k.RightBracket close, none))
              | inr some ↦ inl (one ∙ after_bracket u.kind no_comma close (slots_ahead (front ++ back)) (next_kind (front ++ back)) ∙ ap either_at (some back) ∙ sym (after_bracket u.kind no_comma close (slots_ahead front) (next_kind front)) ∙ sym two)
            ]
            | inr no_close ↦ inl (one ∙ after_other u.kind no_comma no_close (slots_ahead (front ++ back)) (next_kind (front ++ back)) ∙ sym (after_other u.kind no_comma no_close (slots_ahead front) (next_kind front)) ∙ sym two)
          ]
        ]
    | inr no_name ↦ inl (scan_neither t u (front ++ back) no_minus no_name ∙ sym (scan_neither t u front no_minus no_name))
  ]
]

ahead_other : (toks : Tokens) → same_kind (next_kind toks) k.Name ≡ false → same_kind (next_kind toks) k.LeftBracket ≡ false → ahead toks ≡ Expression
unfolding ahead
ahead_other toks name bracket = rw (name, bracket) refl

name_local : (t : Token) (front back : Tokens) → t.kind ≡ k.Name → (ahead (t ∷ (front ++ back)) ≡ ahead (t ∷ front)) ⊎ Open (t ∷ front)
name_local t [] back name = inr (inl (name, refl))
name_local t (u ∷ front) back name = inl (ahead_name (t ∷ u ∷ (front ++ back)) name ∙ sym (ahead_name (t ∷ u ∷ front) name))

-- what the scan shows depends on the tokens in front, or it runs to their end
pub ahead_local : (front back : Tokens) → (ahead (front ++ back) ≡ ahead front) ⊎ Open front
ahead_local [] back = inr tt
ahead_local (t ∷ front) back = elim (is_or_not (same_kind t.kind k.Name)) [
  | inl name ↦ name_local t front back (same_kind_is t.kind k.Name name)
  | inr no_name ↦ elim (is_or_not (same_kind t.kind k.LeftBracket)) [
    | inl bracket ↦
        let kind : t.kind ≡ k.LeftBracket = same_kind_is t.kind k.LeftBracket bracket in
        elim (slots_local front back) [
          | inl same ↦ inl (ahead_bracket (t ∷ (front ++ back)) kind ∙ same ∙ sym (ahead_bracket (t ∷ front) kind))
          | inr opened ↦ inr (inr (kind, opened))
        ]
    | inr no_bracket ↦ inl (ahead_other (t ∷ (front ++ back)) no_name no_bracket ∙ sym (ahead_other (t ∷ front) no_name no_bracket))
  ]
]

-- slots that go on to a closing bracket
pub record Closes {A : Type 0} (L : Tokens → A → Type 0) (front : Tokens) : Type 0 where
  pub more : Tokens
  pub list : Tokens
  pub close : Token
  pub values : List A
  pub parts : front ++ more ≡ list ++ close ∷ []
  pub closed : close.kind ≡ k.RightBracket
  pub spelled : lang.separated L list values

abbrev sign : Kind → Token
sign kind = record { kind = kind; text = []; value = pos 0; line = 0 }

module _ {A : Type 0} (L : Tokens → A → Type 0) (named_item : (t : Token) → t.kind ≡ k.Name → (a : A) × L (t ∷ []) a) (hole_item : (t : Token) → t.kind ≡ k.Minus → (more : Tokens) × (a : A) × L (t ∷ more) a) where
  one_part : (toks : Tokens) (a : A) → L toks a → lang.separated L toks (a ∷ [])
  one_part toks a s = record { front = toks; back = []; value = a; parts = sym (append-nil toks); first = s; second = record { front = []; back = []; value = []; parts = refl; first = refl; second = (refl, refl) } }

  more_parts : (t u : Token) (list : Tokens) (a : A) (values : List A) → L (t ∷ []) a → u.kind ≡ k.Comma → lang.separated L list values → lang.separated L (t ∷ u ∷ list) (a ∷ values)
  more_parts t u list a values first comma s =
      let more : Then (lang.token k.Comma) (λ _. Then L (λ b. Then (more_l L) (λ xs. lang.pure (a ∷ b ∷ xs)))) (u ∷ list) (a ∷ values) = record {
        front = u ∷ [];
        back = list;
        value = u;
        parts = refl;
        first = record { alone = refl; kind = comma };
        second = record {
          front = s.front;
          back = s.back;
          value = s.value;
          parts = s.parts;
          first = s.first;
          second = record { front = s.second.front; back = s.second.back; value = s.second.value; parts = s.second.parts; first = s.second.first; second = (s.second.second.0, ap (λ z. a ∷ z) s.second.second.1) };
        };
      } in
      record { front = t ∷ []; back = u ∷ list; value = a; parts = refl; first = first; second = more_one {K = λ xs. lang.pure (a ∷ xs)} more }

  pub closes_slots : (front : Tokens) → OpenSlots front → Closes L front
  closes_slots [] opened =
      let t = sign k.Name in
      let a = named_item t refl in
      record { more = t ∷ sign k.RightBracket ∷ []; list = t ∷ []; close = sign k.RightBracket; values = a.0 ∷ []; parts = refl; closed = refl; spelled = one_part (t ∷ []) a.0 a.1 }
  closes_slots (t ∷ []) (inl name) =
      let a = named_item t name in
      record { more = sign k.RightBracket ∷ []; list = t ∷ []; close = sign k.RightBracket; values = a.0 ∷ []; parts = refl; closed = refl; spelled = one_part (t ∷ []) a.0 a.1 }
  closes_slots (t ∷ []) (inr minus) =
      let a = hole_item t minus in
      record { more = a.0 ++ sign k.RightBracket ∷ []; list = t ∷ a.0; close = sign k.RightBracket; values = a.1 ∷ []; parts = refl; closed = refl; spelled = one_part (t ∷ a.0) a.1 a.2 }
  closes_slots (t ∷ u ∷ toks) (name, inl comma) =
      let a = named_item t name in
      let c = closes_slots toks comma.1 in
      record { more = c.more; list = t ∷ u ∷ c.list; close = c.close; values = a.0 ∷ c.values; parts = ap (λ (z : Tokens). t ∷ u ∷ z) c.parts; closed = c.closed; spelled = more_parts t u c.list a.0 c.values a.1 comma.0 c.spelled }
  closes_slots (t ∷ u ∷ toks) (name, inr close) =
      let a = named_item t name in
      record { more = []; list = t ∷ []; close = u; values = a.0 ∷ []; parts = append-nil (t ∷ u ∷ toks) ∙ ap (λ (z : Tokens). t ∷ u ∷ z) close.1; closed = close.0; spelled = one_part (t ∷ []) a.0 a.1 }
