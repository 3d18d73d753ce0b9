-- Where fewer nestings may open, tokens are read with the same outcome, or reading ends at a nesting.
use Rattle.std.proofs.Common.{◌≡◌, ℕ, zero, suc, ◌-◌, ◌<◌, ◌≤◌, ◌∙◌, Bool, true, false, if◌then◌else◌, List, [], ◌∷◌, ◌++◌, length, Option, Some, None, unwrap_or, Ok, Err, refl, sym, ap, subst, arith, inl, inr, ◌⊎◌}
use Rattle.setl_tree.specs.declared.kind.Kind.{Kind}
use Rattle.setl_tree.specs.declared.kind.Kind.TheVariants as k
use Rattle.setl_tree.specs.declared.expr.Bound.{Bound}
use Rattle.setl_tree.specs.declared.expr.Slot.TheVariants as sl
use Rattle.setl_tree.specs.declared.expr.Expr.{Expr}
use Rattle.setl_tree.specs.declared.expr.Inner.{Inner}
use Rattle.setl_tree.specs.declared.expr.Selector.{Selector}
use Rattle.setl_tree.specs.declared.mode.WrittenMode.{WrittenMode}
use Rattle.setl_tree.specs.declared.stmt.Place.{Place}
use Rattle.setl_tree.specs.declared.stmt.Stmt.{Stmt}
use Rattle.setl_tree.specs.Modes.{attribute}
use Rattle.setl_tree.specs.Operators.{relation_op, update_op, quantifier, fold_sign, prefix_op, not_sign}
use Rattle.setl_tree.specs.declared.expr.Prefix.TheVariants as pre
use Rattle.setl_tree.specs.declared.tree.Passing.TheVariants as pa
use Rattle.setl_tree.specs.Programs.{passing, name_behind}
use Rattle.setl_tree.specs.Statements.{from_word}
use Rattle.setl_tree.specs.Tokens.{Token, Tokens}
use Rattle.setl_tree.specs.declared.tree.Tree.{Tree}
use Rattle.std.specs.Prelude.{⊤}
use Rattle.setl_parse_reading.specs.declared.fault.Fault.{Fault}
use Rattle.setl_parse_reading.specs.declared.fault.Fault.TheVariants.{Syntax, Nesting}
use Rattle.setl_parse_reading.specs.declared.ahead.Ahead.{Ahead}
use Rattle.setl_parse_reading.specs.declared.ahead.Ahead.TheVariants.{Expression, Either, Pattern}
use Rattle.setl_parse_reading.specs.Claims.{IsTooDeep}
use Rattle.setl_parse_reading.specs.code.Reading.{same_kind, Outcome, Reader, next_kind, and_then, ◌>>=◌, peek, sees, open_if, open_meant, is, but, begins_as}
use Rattle.setl_parse_reading.specs.code.Reading as reading
use Rattle.setl_parse_reading.specs.code.ReadExpressions as r
use Rattle.setl_parse_reading.specs.code.ReadExpressions.{Inside}
use Rattle.setl_parse_reading.specs.code.ReadStatements as s
use Rattle.setl_parse_reading.specs.code.ReadModes as m
use Rattle.setl_parse_reading.specs.code.ReadPrograms as p
use Rattle.setl_parse_reading.specs.code.Scan.{ahead}
use Rattle.setl_parse_reading.proofs.Reach.{left, and_left, open_within, open_meant_within, take_within, meant_within, reach_pure}
use Rattle.setl_parse_reading.proofs.ExactExpressions.{nested_exact}
use Rattle.setl_parse_reading.proofs.Statements as statements
use Rattle.setl_parse_reading.proofs.Modes as modes

-- the same outcome, which is at no nesting; or the first is at a nesting, and the second comes further
abbrev Same : {A : Type 0} → Outcome A → Outcome A → Type 0
Same o w = ((o ≡ w) × (IsTooDeep w → ⊥)) ⊎ ((count : ℕ) × (o ≡ Err (Nesting count)) × (left w < count))

-- the first reads as the second does, or ends at a nesting, where more of them may open in the second
pub record Agree {A : Type 0} (live : Type 0) (q w : Reader A) : Type 0 where
  pub at : live → (toks : Tokens) → Same (q toks) (w toks)
  pub within : (toks : Tokens) → left (w toks) ≤ length toks

raise : {A : Type 0} {live fewer : Type 0} {q w : Reader A} → (fewer → live) → Agree live q w → Agree fewer q w
raise to one = record { at = λ l. one.at (to l); within = one.within }

dead : {A : Type 0} {live : Type 0} {q w : Reader A} → (live → ⊥) → ((toks : Tokens) → left (w toks) ≤ length toks) → Agree live q w
dead none within = record { at = λ l toks. absurd (none l); within = within }

pure_calm : {A : Type 0} (a : A) (toks : Tokens) → IsTooDeep (reading.pure a toks) → ⊥
pure_calm a toks deep = let h = deep.1 in absurd (cc h)

alike_pure : {A : Type 0} {live : Type 0} {a : A} → Agree live (reading.pure a) (reading.pure a)
alike_pure {a = a} = record { at = λ l toks. inl (refl, pure_calm a toks); within = (reach_pure {room = 0} a).within }

line_calm : (toks : Tokens) → IsTooDeep (reading.peek_line toks) → ⊥
line_calm toks deep = let h = deep.1 in absurd (cc h)

alike_line : {live : Type 0} → Agree live reading.peek_line reading.peek_line
alike_line = record { at = λ l toks. inl (refl, line_calm toks); within = λ toks. omega arith }

take_calm : (b : Bool) (toks : Tokens) → IsTooDeep (reading.take_if b toks) → ⊥
take_calm true [] deep = let h = deep.1 in absurd (cc h)
take_calm true (t ∷ toks) deep = let h = deep.1 in absurd (cc h)
take_calm false toks deep = let h = deep.1 in absurd (cc h)

alike_token : {live : Type 0} (kind : Kind) → Agree live (reading.expect kind) (reading.expect kind)
unfolding reading.expect
alike_token kind = record { at = λ l toks. inl (refl, take_calm (sees kind toks) toks); within = λ toks. take_within (sees kind toks) toks }

meant_calm : {A : Type 0} (o : Option A) (toks : Tokens) → IsTooDeep (reading.meant o toks) → ⊥
meant_calm (Some a) toks deep = let h = deep.1 in absurd (cc h)
meant_calm None toks deep = let h = deep.1 in absurd (cc h)

alike_one : {A : Type 0} {live : Type 0} (meaning : Kind → Option A) → Agree live (reading.one_of meaning) (reading.one_of meaning)
unfolding reading.one_of
alike_one meaning = record { at = λ l toks. inl (refl, meant_calm (meaning (next_kind toks)) toks); within = λ toks. meant_within (meaning (next_kind toks)) toks }

-- ---- ways to make a larger reader of smaller ones

err_calm : {A B : Type 0} (e : Fault) → (IsTooDeep {A = A} (Err e) → ⊥) → IsTooDeep {A = B} (Err e) → ⊥
err_calm e calm deep = let h = deep.1 in let same : e ≡ Nesting deep.0 = cc in calm (deep.0, ap Err same)

and_same : {A B : Type 0} {live : Type 0} (l : live) (w : Outcome A) (f g : A → Reader B) → (IsTooDeep w → ⊥) → ((x : A) → Agree live (f x) (g x)) → Same (and_then w f) (and_then w g)
and_same l (Ok x) f g calm two = (two x.0).at l x.1
and_same l (Err e) f g calm two = inl (refl, err_calm e calm)

and_less : {A B : Type 0} (w : Outcome A) (g : A → Reader B) (count : ℕ) → left w < count → ((a : A) (i : Tokens) → left (g a i) ≤ length i) → left (and_then w g) < count
and_less w g count less within = let one = and_left w g (count - 1) (omega (arith, less)) within in omega (arith, one, less)

and_agree : {A B : Type 0} {live : Type 0} (l : live) (o w : Outcome A) (f g : A → Reader B) → Same o w → ((x : A) → Agree live (f x) (g x)) → Same (and_then o f) (and_then w g)
and_agree l o w f g one two = elim one [
  | inl e ↦ subst (λ z. Same (and_then z f) (and_then w g)) (sym e.0) (and_same l w f g e.1 two)
  | inr deep ↦ inr (deep.0, ap (λ z. and_then z f) deep.1, and_less w g deep.0 deep.2 (λ x. (two x).within))
]

behind : {A B : Type 0} {live : Type 0} {q w : Reader A} {f g : A → Reader B} → Agree live q w → ((x : A) → Agree live (f x) (g x)) → Agree live (q >>= f) (w >>= g)
behind {q = q} {w = w} {f = f} {g = g} one two = record {
  at = λ l toks. and_agree l (q toks) (w toks) f g (one.at l toks) two;
  within = λ toks. and_left (w toks) g (length toks) (one.within toks) (λ x. (two x).within);
}

-- one or two tokens at the end
token_end : {A : Type 0} {live : Type 0} (kind : Kind) (a : A) → Agree live (reading.expect kind >>= λ _. reading.pure a) (reading.expect kind >>= λ _. reading.pure a)
token_end kind a = behind (alike_token kind) (λ _. alike_pure)

tokens_end : {A : Type 0} {live : Type 0} (kind last : Kind) (a : A) → Agree live (reading.expect kind >>= λ _. reading.expect last >>= λ _. reading.pure a) (reading.expect kind >>= λ _. reading.expect last >>= λ _. reading.pure a)
tokens_end kind last a = behind (alike_token kind) (λ _. token_end last a)

alike_name : {live : Type 0} → Agree live reading.name reading.name
unfolding reading.name
alike_name = behind (alike_token _) (λ t. alike_pure)

either_way : {A : Type 0} {live : Type 0} (test : Bool) (q w q' w' : Reader A) → Agree live q w → Agree live q' w' → Agree live (if test then q else q') (if test then w else w')
either_way true q w q' w' one two = one
either_way false q w q' w' one two = two

-- a choice by the next token
choose : {A : Type 0} {live : Type 0} (test : Kind → Bool) {q w q' w' : Reader A} → Agree live q w → Agree live q' w' → Agree live (peek >>= λ kind. if test kind then q else q') (peek >>= λ kind. if test kind then w else w')
choose test {q = q} {w = w} {q' = q'} {w' = w'} one two = record {
  at = λ l toks. (either_way (test (next_kind toks)) q w q' w' one two).at l toks;
  within = λ toks. (either_way (test (next_kind toks)) q w q' w' one two).within toks;
}

by_kind : {A : Type 0} {live : Type 0} {f g : Kind → Reader A} → ((kind : Kind) → Agree live (f kind) (g kind)) → Agree live (peek >>= f) (peek >>= g)
by_kind all = record { at = λ l toks. (all (next_kind toks)).at l toks; within = λ toks. (all (next_kind toks)).within toks }

many_from : {A : Type 0} {live : Type 0} (begins : Kind → Bool) (q w : Reader A) → Agree live q w → (n : ℕ) (found : List A) → Agree live (reading.many_from begins q n found) (reading.many_from begins w n found)
unfolding reading.many_from
many_from begins q w one zero found = alike_pure
many_from begins q w one (suc n) found = choose begins (behind one (λ x. many_from begins q w one n (found ++ x ∷ []))) alike_pure

many : {A : Type 0} {live : Type 0} (begins : Kind → Bool) {q w : Reader A} → Agree live q w → Agree live (reading.many begins q) (reading.many begins w)
many begins {q = q} {w = w} one = record { at = λ l toks. (many_from begins q w one (length toks) []).at l toks; within = λ toks. (many_from begins q w one (length toks) []).within toks }

optional : {A : Type 0} {live : Type 0} (begins : Kind → Bool) {q w : Reader A} → Agree live q w → Agree live (reading.optional begins q) (reading.optional begins w)
optional begins one = choose begins (behind one (λ x. alike_pure)) alike_pure

more : {A : Type 0} {live : Type 0} {q w : Reader A} → Agree live q w → Agree live (reading.more q) (reading.more w)
unfolding reading.more
more one = many _ (behind (alike_token _) (λ _. one))

separated : {A : Type 0} {live : Type 0} {q w : Reader A} → Agree live q w → Agree live (reading.separated q) (reading.separated w)
unfolding reading.separated
separated one = behind one (λ first. behind (more one) (λ others. alike_pure))

listed : {A : Type 0} {live : Type 0} (close : Kind) {q w : Reader A} → Agree live q w → Agree live (reading.listed close q) (reading.listed close w)
unfolding reading.listed
listed close one = choose (is close) alike_pure (separated one)

lined : {A : Type 0} {live : Type 0} {q w : Reader A} → Agree live q w → Agree live (reading.lined q) (reading.lined w)
lined one = behind {q = reading.peek_line} alike_line (λ line. behind {f = λ x. reading.pure (line, x)} {g = λ x. reading.pure (line, x)} one (λ x. alike_pure))

-- ---- a token that opens a nesting

refused_calm : {A B : Type 0} (toks : Tokens) (g : A → Reader B) → IsTooDeep (and_then (reading.refuse toks) g) → ⊥
refused_calm toks g deep = let h = deep.1 in absurd (cc h)

-- at the end of the tokens none opens
abbrev NoneEnds : Kind → Type 0
NoneEnds kind = is kind k.SourceEnd ≡ false

paren_no_end : NoneEnds k.LeftParen
unfolding same_kind
paren_no_end = refl

brace_no_end : NoneEnds k.LeftBrace
unfolding same_kind
brace_no_end = refl

bracket_no_end : NoneEnds k.LeftBracket
unfolding same_kind
bracket_no_end = refl

quantifier_no_end : quantifier k.SourceEnd ≡ None
unfolding quantifier
quantifier_no_end = refl

if_no_end : NoneEnds k.If
unfolding same_kind
if_no_end = refl

shut : {A : Type 0} (b : ℕ) (here : Bool) (toks : Tokens) (f g : Token → Reader A) → 0 < b → (toks ≡ [] → here ≡ false) → ((t : Token) (i : Tokens) → left (g t i) ≤ length i) → Same (and_then (open_if 0 here toks) f) (and_then (open_if b here toks) g)
shut zero here toks f g some end within = absurd (omega (arith, some))
shut (suc b) true [] f g some end within = let h = end refl in absurd (cc h)
shut (suc b) true (t ∷ toks) f g some end within = let w = within t toks in inr (suc (length toks), refl, omega (arith, w))
shut (suc b) false toks f g some end within = inl (refl, refused_calm toks g)

sees_end : (kind : Kind) (toks : Tokens) → NoneEnds kind → toks ≡ [] → sees kind toks ≡ false
sees_end kind toks end h = ap (sees kind) h ∙ end

opens : {A : Type 0} {live : Type 0} (a b : ℕ) (kind : Kind) {f g : Token → Reader A} → NoneEnds kind → (live → a < b) → ((t : Token) → Agree (live × (0 < a)) (f t) (g t)) → Agree live (reading.opening a kind >>= f) (reading.opening b kind >>= g)
unfolding reading.opening reading.expect
opens zero b kind {f = f} {g = g} end le two = record {
  at = λ l toks. shut b (sees kind toks) toks f g (le l) (sees_end kind toks end) (λ t. (two t).within);
  within = λ toks. open_within b (sees kind toks) g (λ inside s t. (two t).within) toks;
}
opens (suc a) zero kind {f = f} {g = g} end le two = record {
  at = λ l toks. let less = le l in absurd (omega (arith, less));
  within = λ toks. open_within 0 (sees kind toks) g (λ inside s t. (two t).within) toks;
}
opens (suc a) (suc b) kind end le two = behind (alike_token _) (λ t. raise (λ l. (l, omega arith)) (two t))

-- the same, and what stands behind the nesting
-- the first fails in both ways
shut_first : {A : Type 0} (b : ℕ) (here : Bool) (toks : Tokens) (f g : Token → Reader A) → 0 < b → (toks ≡ [] → here ≡ false) → ((t : Token) (i : Tokens) → left (g t i) ≤ length i)
    → ((count : ℕ) × (and_then (open_if 0 here toks) f ≡ Err (Nesting count)) × (left (and_then (open_if b here toks) g) < count)) ⊎ ((count : ℕ) × (and_then (open_if 0 here toks) f ≡ Err (Syntax count)) × (and_then (open_if b here toks) g ≡ Err (Syntax count)))
shut_first zero here toks f g some end within = absurd (omega (arith, some))
shut_first (suc b) true [] f g some end within = let h = end refl in absurd (cc h)
shut_first (suc b) true (t ∷ toks) f g some end within = let w = within t toks in inl (suc (length toks), refl, omega (arith, w))
shut_first (suc b) false toks f g some end within = inr (length toks, refl, refl)

fault_calm : {B : Type 0} (count : ℕ) (w : Outcome B) → w ≡ Err (Syntax count) → IsTooDeep w → ⊥
fault_calm count w h deep = let g = deep.1 in absurd (cc (h, g))

behind_shut : {A B : Type 0} (o w : Outcome A) (f' g' : A → Reader B) → ((count : ℕ) × (o ≡ Err (Nesting count)) × (left w < count)) ⊎ ((count : ℕ) × (o ≡ Err (Syntax count)) × (w ≡ Err (Syntax count))) → ((x : A) (i : Tokens) → left (g' x i) ≤ length i)
    → Same (and_then o f') (and_then w g')
behind_shut o w f' g' (inl deep) within = inr (deep.0, ap (λ z. and_then z f') deep.1, and_less w g' deep.0 deep.2 within)
behind_shut o w f' g' (inr fault) within =
    let one = ap (λ z. and_then z f') fault.1 in
    let two = ap (λ z. and_then z g') fault.2 in
    inl (one ∙ sym two, fault_calm fault.0 (and_then w g') two)

opens_then : {A B : Type 0} {live : Type 0} (a b : ℕ) (kind : Kind) {f g : Token → Reader A} {f' g' : A → Reader B} → NoneEnds kind → (live → a < b) → ((t : Token) → Agree (live × (0 < a)) (f t) (g t)) → ((x : A) → Agree (live × (0 < a)) (f' x) (g' x))
    → Agree live (reading.opening a kind >>= f >>= f') (reading.opening b kind >>= g >>= g')
unfolding reading.opening reading.expect
opens_then zero b kind {f = f} {g = g} {f' = f'} {g' = g'} end le two three = record {
  at = λ l toks. behind_shut (and_then (open_if 0 (sees kind toks) toks) f) (and_then (open_if b (sees kind toks) toks) g) f' g' (shut_first b (sees kind toks) toks f g (le l) (sees_end kind toks end) (λ t. (two t).within)) (λ x. (three x).within);
  within = λ toks. and_left (and_then (open_if b (sees kind toks) toks) g) g' (length toks) (open_within b (sees kind toks) g (λ inside s t. (two t).within) toks) (λ x. (three x).within);
}
opens_then (suc a) zero kind {g = g} {g' = g'} end le two three = record {
  at = λ l toks. let less = le l in absurd (omega (arith, less));
  within = λ toks. and_left (and_then (open_if 0 (sees kind toks) toks) g) g' (length toks) (open_within 0 (sees kind toks) g (λ inside s t. (two t).within) toks) (λ x. (three x).within);
}
opens_then (suc a) (suc b) kind end le two three = behind (behind (alike_token _) (λ t. raise (λ l. (l, omega arith)) (two t))) (λ x. raise (λ l. (l, omega arith)) (three x))

shut_one : {A B : Type 0} (b : ℕ) (meaning : Option A) (toks : Tokens) (f g : A → Reader B) → 0 < b → (toks ≡ [] → meaning ≡ None) → ((x : A) (i : Tokens) → left (g x i) ≤ length i) → Same (and_then (open_meant 0 meaning toks) f) (and_then (open_meant b meaning toks) g)
shut_one zero meaning toks f g some end within = absurd (omega (arith, some))
shut_one (suc b) (Some x) [] f g some end within = let h = end refl in absurd (cc h)
shut_one (suc b) (Some x) (t ∷ toks) f g some end within = let w = within x toks in inr (suc (length toks), refl, omega (arith, w))
shut_one (suc b) None toks f g some end within = inl (refl, refused_calm toks g)

opens_one : {A B : Type 0} {live : Type 0} (a b : ℕ) (meaning : Kind → Option A) {f g : A → Reader B} → meaning k.SourceEnd ≡ None → (live → a < b) → ((x : A) → Agree (live × (0 < a)) (f x) (g x)) → Agree live (reading.opening_one_of a meaning >>= f) (reading.opening_one_of b meaning >>= g)
unfolding reading.opening_one_of reading.one_of
opens_one zero b meaning {f = f} {g = g} end le two = record {
  at = λ l toks. shut_one b (meaning (next_kind toks)) toks f g (le l) (λ h. ap (λ (z : Tokens). meaning (next_kind z)) h ∙ end) (λ x. (two x).within);
  within = λ toks. open_meant_within b (meaning (next_kind toks)) g (λ inside s x. (two x).within) toks;
}
opens_one (suc a) zero meaning {g = g} end le two = record {
  at = λ l toks. let less = le l in absurd (omega (arith, less));
  within = λ toks. open_meant_within 0 (meaning (next_kind toks)) g (λ inside s x. (two x).within) toks;
}
opens_one (suc a) (suc b) meaning end le two = behind (alike_one meaning) (λ x. raise (λ l. (l, omega arith)) (two x))

less_one : {live : Type 0} (a b : ℕ) → (live → a < b) → live × (0 < a) → a - 1 < b - 1
less_one a b le l = let less = le l.0 in let some = l.1 in omega (arith, less, some)

-- ---- what iterators bind

slot : {live : Type 0} → Agree live r.slot r.slot
unfolding r.slot
slot = choose (is k.Name) (behind alike_name (λ x. alike_pure)) (token_end k.Minus sl.Skip)

module _ (live : Type 0) (a b : ℕ) (le : live → a < b) where
  pattern : Agree live (r.pattern a) (r.pattern b)
  unfolding r.pattern
  pattern = opens a b k.LeftBracket bracket_no_end le (λ t. behind (separated slot) (λ slots. (token_end _ _)))

  bound : Agree live (r.bound a) (r.bound b)
  unfolding r.bound
  bound = choose (is k.Name) (behind alike_name (λ x. alike_pure)) (behind pattern (λ slots. alike_pure))

  image : (y : List ℕ) → Agree live (r.image a y) (r.image b y)
  unfolding r.image
  image y = behind alike_name (λ f. opens a b k.LeftParen paren_no_end le (λ t. behind alike_name (λ x. (token_end _ _))))

  module _ (S T : Reader Expr) (source : Agree live S T) where
    named_iter : (x : List ℕ) → Agree live (r.named_iter a S x) (r.named_iter b T x)
    unfolding r.named_iter
    named_iter x = choose (is k.Equal) (behind (alike_token _) (λ _. image x)) (behind (alike_token _) (λ _. behind source (λ over. alike_pure)))

    pattern_iter : Agree live (r.pattern_iter a S) (r.pattern_iter b T)
    unfolding r.pattern_iter
    pattern_iter = behind pattern (λ slots. behind (alike_token _) (λ _. behind source (λ over. alike_pure)))

    iter : Agree live (r.iter a S) (r.iter b T)
    unfolding r.iter
    iter = choose (is k.Name) (behind alike_name named_iter) pattern_iter

    iters : Agree live (r.iters a S) (r.iters b T)
    unfolding r.iters
    iters = separated iter

-- ---- levels of operators

module _ (live : Type 0) (S T : Reader Expr) (item : Agree live S T) where
  chain_from : (level : ℕ) (first : Expr) → Agree live (r.chain_from level S first) (r.chain_from level T first)
  unfolding r.operands
  chain_from level first = behind (many _ (behind (alike_one _) (λ o. behind item (λ x. alike_pure)))) (λ others. alike_pure)

chain : {live : Type 0} (level : ℕ) (S T : Reader Expr) → Agree live S T → Agree live (r.chain level S) (r.chain level T)
chain {live = live} level S T item = behind item (chain_from live S T item level)

levels : {live : Type 0} (top : ℕ) (S T : Reader Expr) → Agree live S T → (n : ℕ) → Agree live (r.levels top S n) (r.levels top T n)
levels top S T item zero = item
levels top S T item (suc n) = chain (top - n) (r.levels top S n) (r.levels top T n) (levels top S T item n)

levels_from : {live : Type 0} (top : ℕ) (S T : Reader Expr) → Agree live S T → (n : ℕ) (first : Expr) → Agree live (r.levels_from top S n first) (r.levels_from top T n first)
levels_from top S T item zero first = alike_pure
levels_from {live = live} top S T item (suc n) first =
    behind (levels_from top S T item n first) (chain_from live (r.levels top S n) (r.levels top T n) (levels top S T item n) (top - n))

-- ---- expressions

prefixes : {live : Type 0} → Agree live r.prefixes r.prefixes
unfolding r.prefixes r.prefix r.fold
prefixes = many r.begins_prefix (choose (begins_as fold_sign) (behind (alike_one fold_sign) (λ o. token_end k.Slash (pre.Folded o))) (alike_one prefix_op))

nots : {live : Type 0} → Agree live r.nots r.nots
unfolding r.nots
nots = many (begins_as not_sign) (alike_one not_sign)

record Deeper (live : Type 0) (D E : Inside) : Type 0 where
  expr : Agree live D.expr E.expr
  source : Agree live D.source E.source
  after : (x : Expr) → Agree live (D.after x) (E.after x)

-- behind an opened nesting
module _ (live : Type 0) (a b : ℕ) (le : live → a < b) (D E : Inside) (deeper : Deeper live D E) where
  condition : Agree live (r.condition a D) (r.condition b E)
  unfolding r.condition
  condition = behind (alike_token _) (λ _. deeper.expr)

  former : (x : Expr) → Agree live (r.former a D x) (r.former b E x)
  unfolding r.former
  former x = behind (iters live a b le D.source E.source deeper.source) (λ over. behind (optional (is k.Bar) condition) (λ c. alike_pure))

  third : (x y : Expr) → Agree live (r.third a D x y) (r.third b E x y)
  unfolding r.third
  third x y = choose (is k.Dots) (behind (alike_token _) (λ _. behind deeper.expr (λ z. alike_pure))) (behind (more deeper.expr) (λ xs. alike_pure))

  second : (x : Expr) → Agree live (r.second a D x) (r.second b E x)
  unfolding r.second
  second x = choose (is k.Comma) (behind (alike_token _) (λ _. behind deeper.expr (λ y. third x y))) alike_pure

  unranged : (x : Expr) → Agree live (r.unranged a D x) (r.unranged b E x)
  unfolding r.unranged
  unranged x = choose (is k.Colon) (behind (alike_token _) (λ _. former x)) (second x)

  rest_of_inner : (x : Expr) → Agree live (r.rest_of_inner a D x) (r.rest_of_inner b E x)
  unfolding r.rest_of_inner
  rest_of_inner x = choose (is k.Dots) (behind (alike_token _) (λ _. behind deeper.expr (λ y. alike_pure))) (unranged x)

  plain : Agree live (r.plain a D) (r.plain b E)
  unfolding r.plain
  plain = choose r.closes alike_pure (behind deeper.expr rest_of_inner)

  filter : (w : Bound) (x : Expr) → Agree live (r.filter a D w x) (r.filter b E w x)
  unfolding r.filter
  filter w x = behind condition (λ c. alike_pure)

  filter_or_plain : (w : Bound) (x : Expr) → Agree live (r.filter_or_plain a D w x) (r.filter_or_plain b E w x)
  unfolding r.filter_or_plain
  filter_or_plain w x = choose (is k.Bar) (filter w x) (behind (deeper.after _) rest_of_inner)

  bound_first : (f g : Bound → Expr → Reader Inner) → ((w : Bound) (x : Expr) → Agree live (f w x) (g w x)) → Agree live (r.bound_first a D f) (r.bound_first b E g)
  unfolding r.bound_first
  bound_first f g on = behind (bound live a b le) (λ w. behind (alike_token _) (λ _. behind deeper.source (on w)))

  inner_by : (at : Ahead) → Agree live (r.inner_by a D at) (r.inner_by b E at)
  inner_by Expression = plain
  inner_by Either = bound_first (r.filter_or_plain a D) (r.filter_or_plain b E) filter_or_plain
  inner_by Pattern = bound_first (r.filter a D) (r.filter b E) filter

  inner : Agree live (r.inner a D) (r.inner b E)
  unfolding r.inner
  inner = record { at = λ l toks. (inner_by (ahead toks)).at l toks; within = λ toks. (inner_by (ahead toks)).within toks }

  slice : (x : Expr) → Agree live (r.slice a D x) (r.slice b E x)
  unfolding r.slice
  slice x = choose (is k.RightParen) (token_end _ _) (behind deeper.expr (λ y. (token_end _ _)))

  arguments : (x : Expr) → Agree live (r.arguments a D x) (r.arguments b E x)
  unfolding r.arguments
  arguments x = choose (is k.Dots) (behind (alike_token _) (λ _. slice x)) (behind (more deeper.expr) (λ xs. (token_end _ _)))

  round : Agree live (r.round a D) (r.round b E)
  unfolding r.round
  round = choose (is k.RightParen) (token_end _ _) (behind deeper.expr arguments)

module _ (live : Type 0) (a b : ℕ) (le : live → a < b) (D E : Inside) (deeper : Deeper (live × (0 < a)) D E) where
  braces : Agree live (r.braces a D) (r.braces b E)
  unfolding r.braces
  braces = opens a b k.LeftBrace brace_no_end le (λ t. behind (separated deeper.expr) (λ xs. (token_end _ _)))

  selector : Agree live (r.selector a D) (r.selector b E)
  unfolding r.selector
  selector = choose (is k.LeftParen) (opens a b k.LeftParen paren_no_end le (λ t. round (live × (0 < a)) a b (λ l. le l.0) D E deeper)) braces

  parenthesized : Agree live (r.parenthesized a D) (r.parenthesized b E)
  unfolding r.parenthesized
  parenthesized = opens a b k.LeftParen paren_no_end le (λ t. behind deeper.expr (λ x. (token_end _ _)))

  if_expr : Agree live (r.if_expr a D) (r.if_expr b E)
  unfolding r.if_expr
  if_expr = opens a b k.If if_no_end le (λ t. behind deeper.expr (λ x. behind (alike_token _) (λ _. behind deeper.expr (λ y. behind (alike_token _) (λ _. behind deeper.expr (λ z. (token_end _ _)))))))

  in_inner : Agree (live × (0 < a)) (r.inner (a - 1) D) (r.inner (b - 1) E)
  in_inner = inner (live × (0 < a)) (a - 1) (b - 1) (less_one a b le) D E deeper

  set : Agree live (r.set a D) (r.set b E)
  unfolding r.set
  set = opens a b k.LeftBrace brace_no_end le (λ t. behind in_inner (λ x. (token_end _ _)))

  tuple : Agree live (r.tuple a D) (r.tuple b E)
  unfolding r.tuple
  tuple = opens a b k.LeftBracket bracket_no_end le (λ t. behind in_inner (λ x. (token_end _ _)))

  primary_by : (kind : Kind) → Agree live (r.primary_by a D kind) (r.primary_by b E kind)
  primary_by k.Number = behind (alike_token _) (λ t. alike_pure)
  primary_by k.StringLiteral = behind (alike_token _) (λ t. alike_pure)
  primary_by k.Name = behind alike_name (λ x. alike_pure)
  primary_by k.LeftParen = parenthesized
  primary_by k.If = if_expr
  primary_by k.LeftBrace = set
  primary_by k.LeftBracket = tuple
  primary_by _ = alike_one _

  primary : Agree live (r.primary a D) (r.primary b E)
  unfolding r.primary
  primary = by_kind primary_by

  e12 : Agree live (r.e12 a D) (r.e12 b E)
  unfolding r.e12 r.selectors
  e12 = behind primary (λ x. behind (many _ selector) (λ ss. alike_pure))

  e11 : Agree live (r.e11 a D) (r.e11 b E)
  unfolding r.e11
  e11 = behind prefixes (λ ps. behind e12 (λ x. alike_pure))

  e7 : Agree live (r.e7 a D) (r.e7 b E)
  unfolding r.e7
  e7 = levels 10 (r.e11 a D) (r.e11 b E) e11 4

  compared : (x : Expr) → Agree live (r.compared a D x) (r.compared b E x)
  unfolding r.compared
  compared x = choose (begins_as relation_op) (behind (alike_one _) (λ o. behind e7 (λ y. alike_pure))) alike_pure

  e5 : Agree live (r.e5 a D) (r.e5 b E)
  unfolding r.e5 r.e6
  e5 = behind nots (λ ps. behind (behind e7 compared) (λ x. alike_pure))

  e2 : Agree live (r.e2 a D) (r.e2 b E)
  unfolding r.e2
  e2 = levels 4 (r.e5 a D) (r.e5 b E) e5 3

  after : (x : Expr) → Agree live (r.after a D x) (r.after b E x)
  unfolding r.after
  after x = levels_from 4 (r.e5 a D) (r.e5 b E) e5 3 x

  quantified : Agree live (r.quantified a D) (r.quantified b E)
  unfolding r.quantified
  quantified = opens_one a b quantifier quantifier_no_end le (λ q. behind (iters (live × (0 < a)) (a - 1) (b - 1) (less_one a b le) D.source E.source deeper.source) (λ over. behind (alike_token _) (λ _. behind deeper.expr (λ x. alike_pure))))

  whole : Agree live (r.whole a D) (r.whole b E)
  unfolding r.whole
  whole = choose (begins_as quantifier) quantified e2

refuse_within : (A : Type 0) (i : Tokens) → left (reading.refuse {A = A} i) ≤ length i
refuse_within A i = omega arith

dead_nested : {live : Type 0} → (live → ⊥) → (a b : ℕ) → Deeper live (r.nested a) (r.nested b)
unfolding r.nested
dead_nested none a zero = record { expr = dead none (refuse_within Expr); source = dead none (refuse_within Expr); after = λ x. dead none (refuse_within Expr) }
dead_nested none a (suc b) =
    let x = nested_exact (suc b) b refl in
    record { expr = dead none x.expr.reach.within; source = dead none x.source.reach.within; after = λ y. dead none (x.after y).within }

nested : {live : Type 0} (a b : ℕ) → (live → a < b) → Deeper (live × (0 < a)) (r.nested a) (r.nested b)
unfolding r.nested
nested zero b le = dead_nested (λ l. let some = l.1 in omega (arith, some)) 0 b
nested (suc a) zero le = dead_nested (λ l. let less = le l.0 in omega (arith, less)) (suc a) 0
nested {live = live} (suc a) (suc b) le =
    let less : live → a < b = λ l. let h = le l in omega (arith, h) in
    record {
      expr = raise (λ l. l.0) (whole live a b less (r.nested a) (r.nested b) (nested a b less));
      source = raise (λ l. l.0) (e7 live a b less (r.nested a) (r.nested b) (nested a b less));
      after = λ x. raise (λ l. l.0) (after live a b less (r.nested a) (r.nested b) (nested a b less) x);
    }

expr : (live : Type 0) (a b : ℕ) → (live → a < b) → Agree live (r.expr a) (r.expr b)
unfolding r.expr
expr live a b le = whole live a b le (r.nested a) (r.nested b) (nested a b le)

-- ---- statements

ending : {live : Type 0} (word : Kind) → Agree live (s.ending word) (s.ending word)
unfolding s.ending
ending word = behind (alike_token k.End) (λ _. behind (optional (is word) (alike_token word)) (λ _. alike_token k.Semicolon))

module _ (live : Type 0) (a b : ℕ) (le : live → a < b) where
  abbrev deeper : Deeper (live × (0 < a)) (r.nested a) (r.nested b)
  deeper = nested a b le

  nested_braces : Agree live (r.braces a (r.nested a)) (r.braces b (r.nested b))
  nested_braces = braces live a b le (r.nested a) (r.nested b) deeper

  place_selector : Agree live (s.place_selector a) (s.place_selector b)
  unfolding s.place_selector s.place_round
  place_selector = choose (is k.LeftParen) (opens a b k.LeftParen paren_no_end le (λ t. behind (separated deeper.expr) (λ xs. (token_end _ _)))) nested_braces

  place_selectors : Agree live (s.place_selectors a) (s.place_selectors b)
  unfolding s.place_selectors
  place_selectors = many _ place_selector

  place : Agree live (s.place a) (s.place b)
  unfolding s.place
  place = behind alike_name (λ x. behind place_selectors (λ ss. alike_pure))

  assigned : (q : Place) → Agree live (s.assigned a q) (s.assigned b q)
  unfolding s.assigned
  assigned q = behind (alike_token _) (λ _. behind (expr live a b le) (λ x. (token_end _ _)))

  updated : (q : Place) → Agree live (s.updated a q) (s.updated b q)
  unfolding s.updated
  updated q = behind (alike_one update_op) (λ o. behind (alike_token k.Assign) (λ _. behind (expr live a b le) (λ x. (token_end _ _))))

  stored : (q : Place) → Agree live (s.stored a q) (s.stored b q)
  unfolding s.stored
  stored q = choose (is k.Assign) (assigned q) (updated q)

  selected_place : (x : List ℕ) (sel : Selector) → Agree live (s.selected_place a x sel) (s.selected_place b x sel)
  unfolding s.selected_place
  selected_place x sel = behind place_selectors (λ ss. stored _)

  after_arguments : (f : List ℕ) (xs : List Expr) → Agree live (s.after_arguments a f xs) (s.after_arguments b f xs)
  unfolding s.after_arguments
  after_arguments f xs = choose (is k.Semicolon) (token_end _ _) (selected_place f _)

  called : (f : List ℕ) → Agree (live × (0 < a)) (s.called a f) (s.called b f)
  unfolding s.called s.no_arguments
  called f = choose (is k.RightParen) (tokens_end _ _ _) (behind (separated deeper.expr) (λ xs. behind (alike_token _) (λ _. raise (λ l. l.0) (after_arguments f xs))))

  braced_or_alone : (x : List ℕ) → Agree live (s.braced_or_alone a x) (s.braced_or_alone b x)
  unfolding s.braced_or_alone
  braced_or_alone x = choose (is k.LeftBrace) (behind nested_braces (selected_place x)) (stored _)

  called_or_stored : (x : List ℕ) → Agree live (s.called_or_stored a x) (s.called_or_stored b x)
  unfolding s.called_or_stored
  called_or_stored x = choose (is k.LeftParen) (opens a b k.LeftParen paren_no_end le (λ t. called x)) (braced_or_alone x)

  taken : (x : List ℕ) → Agree live (s.taken a x) (s.taken b x)
  unfolding s.taken
  taken x = behind (alike_one from_word) (λ w. behind place (λ q. (token_end _ _)))

  behind_name : (x : List ℕ) → Agree live (s.behind_name a x) (s.behind_name b x)
  unfolding s.behind_name
  behind_name x = choose (begins_as from_word) (taken x) (called_or_stored x)

  tuple_assign : Agree live (s.tuple_assign a) (s.tuple_assign b)
  unfolding s.tuple_assign
  tuple_assign = behind (pattern live a b le) (λ slots. behind (alike_token _) (λ _. behind (expr live a b le) (λ x. (token_end _ _))))

  return_stmt : Agree live (s.return_stmt a) (s.return_stmt b)
  unfolding s.return_stmt
  return_stmt = behind (alike_token _) (λ _. behind (optional (but k.Semicolon) (expr live a b le)) (λ x. (token_end _ _)))

  print_stmt : Agree live (s.print_stmt a) (s.print_stmt b)
  unfolding s.print_stmt
  print_stmt = behind (alike_token _) (λ _. opens a b k.LeftParen paren_no_end le (λ t. behind (listed _ deeper.expr) (λ xs. (tokens_end _ _ _))))

  read_stmt : Agree live (s.read_stmt a) (s.read_stmt b)
  unfolding s.read_stmt
  read_stmt = behind (alike_token _) (λ _. opens a b k.LeftParen paren_no_end le (λ t. behind (separated alike_name) (λ xs. (tokens_end _ _ _))))

  simple_stmt : Agree live (s.simple_stmt a) (s.simple_stmt b)
  unfolding s.simple_stmt
  simple_stmt = behind (alike_one _) (λ x. (token_end _ _))

  module _ (D E : Reader (List Stmt)) (body : Agree (live × (0 < a)) D E) where
    branch : Agree (live × (0 < a)) (s.branch a D) (s.branch b E)
    unfolding s.branch
    branch = behind deeper.expr (λ c. behind (alike_token _) (λ _. behind body (λ ss. alike_pure)))

    elseifs : Agree (live × (0 < a)) (s.elseifs a D) (s.elseifs b E)
    unfolding s.elseifs
    elseifs = many _ (behind (alike_token _) (λ _. branch))

    else_part : Agree (live × (0 < a)) (s.else_part a D) (s.else_part b E)
    unfolding s.else_part
    else_part = optional (is k.Else) (behind (alike_token _) (λ _. body))

    if_stmt : Agree live (s.if_stmt a D) (s.if_stmt b E)
    unfolding s.if_stmt
    if_stmt = opens a b k.If if_no_end le (λ t. behind branch (λ first. behind elseifs (λ others. behind else_part (λ last. behind (ending k.If) (λ _. alike_pure)))))

    for_loop : Agree (live × (0 < a)) (s.for_loop a D) (s.for_loop b E)
    unfolding s.for_loop
    for_loop = behind (alike_token _) (λ _. behind (iters (live × (0 < a)) (a - 1) (b - 1) (less_one a b le) (r.nested a).source (r.nested b).source deeper.source)
        (λ over. behind (optional (is k.Bar) (condition (live × (0 < a)) a b (λ l. le l.0) (r.nested a) (r.nested b) deeper)) (λ c. behind (alike_token _) (λ _. behind body (λ ss. behind (ending k.For) (λ _. alike_pure))))))

    while_loop : Agree (live × (0 < a)) (s.while_loop a D) (s.while_loop b E)
    unfolding s.while_loop
    while_loop = behind (alike_token _) (λ _. behind deeper.expr (λ c. behind (alike_token _) (λ _. behind body (λ ss. behind (ending k.While) (λ _. alike_pure)))))

    loop : Agree live (s.loop a D) (s.loop b E)
    unfolding s.loop s.for_or_while
    loop = opens a b k.LeftParen paren_no_end le (λ t. choose (is k.For) for_loop while_loop)

    kind_by : (kind : Kind) → Agree live (s.kind_by a D kind) (s.kind_by b E kind)
    kind_by k.Name = behind alike_name behind_name
    kind_by k.LeftBracket = tuple_assign
    kind_by k.If = if_stmt
    kind_by k.LeftParen = loop
    kind_by k.Return = return_stmt
    kind_by k.Print = print_stmt
    kind_by k.Read = read_stmt
    kind_by _ = simple_stmt

    stmt : Agree live (s.stmt a D) (s.stmt b E)
    unfolding s.stmt s.stmt_kind
    stmt = behind (lined (by_kind kind_by)) (λ x. alike_pure)

nested_stmts : {live : Type 0} (a b : ℕ) → (live → a < b) → Agree (live × (0 < a)) (s.nested_stmts a) (s.nested_stmts b)
unfolding s.nested_stmts
nested_stmts zero zero le = dead (λ l. let some = l.1 in omega (arith, some)) (refuse_within (List Stmt))
nested_stmts zero (suc b) le = dead (λ l. let some = l.1 in omega (arith, some)) (statements.exact_nested (suc b) b refl).reach.within
nested_stmts (suc a) zero le = dead (λ l. let less = le l.0 in omega (arith, less)) (refuse_within (List Stmt))
nested_stmts {live = live} (suc a) (suc b) le =
    let less : live → a < b = λ l. let h = le l in omega (arith, h) in
    raise (λ l. l.0) (many _ (stmt live a b less (s.nested_stmts a) (s.nested_stmts b) (nested_stmts a b less)))

stmts : (live : Type 0) (a b : ℕ) → (live → a < b) → Agree live (s.stmts a) (s.stmts b)
unfolding s.stmts
stmts live a b le = many _ (stmt live a b le (s.nested_stmts a) (s.nested_stmts b) (nested_stmts a b le))

-- ---- modes

module _ (live : Type 0) (a b : ℕ) (le : live → a < b) (D E : Reader WrittenMode) (deep : Agree (live × (0 < a)) D E) where
  core_by : (kind : Kind) → Agree live (m.core_by a D kind) (m.core_by b E kind)
  unfolding m.round_mode m.braced_mode m.element
  core_by k.Elmt = behind (alike_token _) (λ t. behind alike_name (λ x. alike_pure))
  core_by k.Set = behind (alike_token _) (λ _. behind (opens a b k.LeftParen paren_no_end le (λ t. behind deep (λ x. (token_end _ _)))) (λ x. alike_pure))
  core_by k.Tuple = behind (alike_token _) (λ _. behind (opens a b k.LeftParen paren_no_end le (λ t. behind deep (λ x. (token_end _ _)))) (λ x. alike_pure))
  core_by k.Smap = behind (alike_token _) (λ _. opens_then a b k.LeftParen paren_no_end le (λ t. behind deep (λ x. (token_end _ _))) (λ d. behind deep (λ x. alike_pure)))
  core_by k.Mmap = behind (alike_token _) (λ _. opens_then a b k.LeftBrace brace_no_end le (λ t. behind deep (λ x. (token_end _ _))) (λ d. behind deep (λ x. alike_pure)))
  core_by _ = alike_one _

  mode_in : Agree live (m.mode_in a D) (m.mode_in b E)
  unfolding m.mode_in m.with_attribute m.core
  mode_in = behind (lined (behind (optional (begins_as attribute) (alike_one attribute)) (λ w. behind (by_kind core_by) (λ c. alike_pure)))) (λ x. alike_pure)

nested_mode : {live : Type 0} (a b : ℕ) → (live → a < b) → Agree (live × (0 < a)) (m.nested_mode a) (m.nested_mode b)
unfolding m.nested_mode
nested_mode zero zero le = dead (λ l. let some = l.1 in omega (arith, some)) (refuse_within WrittenMode)
nested_mode zero (suc b) le = dead (λ l. let some = l.1 in omega (arith, some)) (modes.exact_nested (suc b) b refl).reach.within
nested_mode (suc a) zero le = dead (λ l. let less = le l.0 in omega (arith, less)) (refuse_within WrittenMode)
nested_mode {live = live} (suc a) (suc b) le =
    let less : live → a < b = λ l. let h = le l in omega (arith, h) in
    raise (λ l. l.0) (mode_in live a b less (m.nested_mode a) (m.nested_mode b) (nested_mode a b less))

names : {live : Type 0} → Agree live (reading.separated m.declared) (reading.separated m.declared)
unfolding m.declared
names = separated (behind (alike_token k.Name) (λ t. alike_pure))

module _ (live : Type 0) (a b : ℕ) (le : live → a < b) where
  colon_mode : Agree live (m.colon_mode a) (m.colon_mode b)
  unfolding m.colon_mode m.mode
  colon_mode = behind (alike_token _) (λ _. mode_in live a b le (m.nested_mode a) (m.nested_mode b) (nested_mode a b le))

  base_line : Agree live (m.base_line a) (m.base_line b)
  unfolding m.base_line
  base_line = behind (alike_token k.Base) (λ t. behind names (λ xs. behind (optional (is k.Colon) colon_mode) (λ c. (token_end _ _))))

  variables_line : Agree live (m.variables_line a) (m.variables_line b)
  unfolding m.variables_line
  variables_line = behind (lined names) (λ xs. behind colon_mode (λ c. (token_end _ _)))

  repr_line : Agree live (m.repr_line a) (m.repr_line b)
  unfolding m.repr_line
  repr_line = choose (is k.Base) base_line variables_line

  repr : Agree live (m.repr a) (m.repr b)
  unfolding m.repr
  repr = behind (alike_token _) (λ _. behind (many _ repr_line) (λ lines. behind (ending k.Repr) (λ _. alike_pure)))

-- ---- programs

passed : {live : Type 0} → Agree live p.passed p.passed
unfolding p.passed
passed = behind (optional (begins_as passing) (alike_one passing)) (λ w. behind alike_name (λ x. alike_pure {a = (unwrap_or w pa.Rd, x)}))

param : {live : Type 0} → Agree live p.param p.param
unfolding p.param
param = behind (lined passed) (λ x. alike_pure)

vars : {live : Type 0} → Agree live p.vars p.vars
unfolding p.vars p.var
vars = many (is k.Var) (behind (alike_token k.Var) (λ _. behind names (λ xs. token_end k.Semicolon xs)))

proc_word : {live : Type 0} → Agree live p.proc_word p.proc_word
unfolding p.proc_word
proc_word = choose (is k.Proc) (alike_token k.Proc) (alike_token k.Procedure)

named_ending : {live : Type 0} (is_word : Kind → Bool) (word : Reader Token) → Agree live word word → Agree live (p.named_ending is_word word) (p.named_ending is_word word)
unfolding p.named_ending p.optional_name
named_ending is_word word one = behind (alike_token k.End) (λ t. behind (optional is_word (behind one (λ _. optional (is k.Name) alike_name))) (λ x. token_end k.Semicolon (t.line, name_behind x)))

same_or_less : (room more : ℕ) → room ≤ more → (room ≡ more) ⊎ (room < more)
same_or_less zero zero le = inl refl
same_or_less zero (suc more) le = inr (omega arith)
same_or_less (suc room) zero le = absurd (omega (arith, le))
same_or_less (suc room) (suc more) le = elim (same_or_less room more (omega (arith, le))) [ inl same ↦ inl (ap suc same) | inr less ↦ inr (omega (arith, less)) ]

abbrev err_nesting : ℕ → Outcome Tree
err_nesting n = Err (Nesting n)

same_count : (one two : ℕ) → err_nesting one ≡ err_nesting two → one ≡ two
same_count one two h = cc

module _ (live : Type 0) (a b : ℕ) (le : live → a < b) where
  params : Agree live (p.params a) (p.params b)
  unfolding p.params
  params = opens a b k.LeftParen paren_no_end le (λ t. behind (listed _ param) (λ xs. (token_end _ _)))

  proc : Agree live (p.proc a) (p.proc b)
  unfolding p.proc
  proc = behind proc_word (λ t. behind alike_name (λ x. behind (optional (is k.LeftParen) params)
      (λ ps. behind (alike_token k.Semicolon) (λ _. behind (stmts live a b le) (λ body. behind (named_ending p.begins_proc p.proc_word proc_word) (λ last. alike_pure))))))

  program : Agree live (p.program a) (p.program b)
  unfolding p.program p.procs p.program_end
  program = behind (alike_token k.Program) (λ _. behind alike_name (λ x. behind (alike_token k.Semicolon) (λ _. behind vars
      (λ vs. behind (optional (is k.Repr) (repr live a b le)) (λ ms. behind (stmts live a b le) (λ body. behind (many p.begins_proc proc) (λ ps. behind (named_ending (is k.Program) (reading.expect k.Program) (alike_token k.Program)) (λ last. alike_pure))))))))

pub fewer_nestings : (room more : ℕ) (toks : Tokens) → room ≤ more → (p.program room toks ≡ p.program more toks) ⊎ IsTooDeep (p.program room toks)
fewer_nestings room more toks le = elim (same_or_less room more le) [
  | inl same ↦ inl (ap (λ (z : ℕ). p.program z toks) same)
  | inr less ↦ elim ((program ⊤ room more (λ _. less)).at tt toks) [ inl one ↦ inl one.0 | inr deep ↦ inr (deep.0, deep.1) ]
]

-- where more nestings may open, reading comes further than to the token that opens one too many
pub further : (room more : ℕ) (toks : Tokens) (count : ℕ) → room < more → p.program room toks ≡ Err (Nesting count) → left (p.program more toks) < count
further room more toks count less h = elim ((program ⊤ room more (λ _. less)).at tt toks) [
  | inl one ↦ absurd (one.1 (count, sym one.0 ∙ h))
  | inr deep ↦ subst (λ (z : ℕ). left (p.program more toks) < z) (same_count deep.0 count (sym deep.1 ∙ h)) deep.2
]
