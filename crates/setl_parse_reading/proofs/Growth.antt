-- Where more nestings may open, the same tokens spell the same values.
use Rattle.std.proofs.Common.{ℕ, zero, suc, ◌-◌, ◌≤◌, List, [], ◌∷◌, Option, Some, None, arith, inl, inr, ◌⊎◌}
use Rattle.setl_tree.specs.declared.kind.Kind.{Kind}
use Rattle.setl_tree.specs.declared.kind.Kind.TheVariants as k
use Rattle.setl_tree.specs.declared.expr.Expr.{Expr}
use Rattle.setl_tree.specs.declared.stmt.Stmt.{Stmt}
use Rattle.setl_tree.specs.declared.mode.WrittenMode.{WrittenMode}
use Rattle.setl_tree.specs.Tokens.{Token, Tokens}
use Rattle.setl_tree.specs.Lang.{Lang, Then}
use Rattle.setl_tree.specs.Lang as lang
use Rattle.setl_tree.specs.Expressions as x
use Rattle.setl_tree.specs.Expressions.{Inside}
use Rattle.setl_tree.specs.Statements as s
use Rattle.setl_tree.specs.Modes as m
use Rattle.setl_tree.specs.Programs as p

-- what the first spells, the second does
pub record Grows {A : Type 0} (L M : Tokens → A → Type 0) : Type 0 where
  pub to : (toks : Tokens) (a : A) → L toks a → M toks a

same : {A : Type 0} {L : Tokens → A → Type 0} → Grows L L
same = record { to = λ toks a s. s }

behind : {A B : Type 0} {L L' : Tokens → A → Type 0} {M M' : A → Tokens → B → Type 0} → Grows L L' → ((a : A) → Grows (M a) (M' a)) → Grows (Then L M) (Then L' M')
behind one two = record { to = λ toks b s. record { front = s.front; back = s.back; value = s.value; parts = s.parts; first = one.to s.front s.value s.first; second = (two s.value).to s.back b s.second } }

either : {A : Type 0} {L L' M M' : Tokens → A → Type 0} → Grows L L' → Grows M M' → Grows (λ t a. L t a ⊎ M t a) (λ t a. L' t a ⊎ M' t a)
either one two = record { to = λ toks a s. elim s [ inl l ↦ inl (one.to toks a l) | inr m ↦ inr (two.to toks a m) ] }

many_to : {A : Type 0} (L M : Tokens → A → Type 0) → Grows L M → (toks : Tokens) (xs : List A) → lang.many L toks xs → lang.many M toks xs
many_to L M grows toks [] s = s
many_to L M grows toks (x ∷ xs) s = record { front = s.front; back = s.back; parts = s.parts; first = grows.to s.front x s.first; second = many_to L M grows s.back xs s.second }

many : {A : Type 0} {L M : Tokens → A → Type 0} → Grows L M → Grows (lang.many L) (lang.many M)
many {L = L} {M = M} grows = record { to = many_to L M grows }

optional_to : {A : Type 0} (L M : Tokens → A → Type 0) → Grows L M → (toks : Tokens) (o : Option A) → lang.optional L toks o → lang.optional M toks o
optional_to L M grows toks None s = s
optional_to L M grows toks (Some x) s = grows.to toks x s

optional : {A : Type 0} {L M : Tokens → A → Type 0} → Grows L M → Grows (lang.optional L) (lang.optional M)
optional {L = L} {M = M} grows = record { to = optional_to L M grows }

separated : {A : Type 0} {L M : Tokens → A → Type 0} → Grows L M → Grows (lang.separated L) (lang.separated M)
separated grows = behind grows (λ first. behind (many (behind same (λ _. grows))) (λ others. same))

listed : {A : Type 0} {L M : Tokens → A → Type 0} → Grows L M → Grows (lang.listed L) (lang.listed M)
listed grows = either same (separated grows)

lined : {A : Type 0} {L M : Tokens → A → Type 0} → Grows L M → Grows (lang.lined L) (lang.lined M)
lined grows = record { to = λ toks y s. (s.0, grows.to toks y.1 s.1) }

opening_to : (a b : ℕ) (kind : Kind) → a ≤ b → (toks : Tokens) (t : Token) → lang.opening a kind toks t → lang.opening b kind toks t
opening_to zero b kind le toks t s = absurd s
opening_to (suc a) zero kind le toks t s = absurd (omega (arith, le))
opening_to (suc a) (suc b) kind le toks t s = s

opening_one_to : {A : Type 0} (a b : ℕ) (meaning : Kind → Option A) → a ≤ b → (toks : Tokens) (x : A) → lang.opening_one_of a meaning toks x → lang.opening_one_of b meaning toks x
opening_one_to zero b meaning le toks t s = absurd s
opening_one_to (suc a) zero meaning le toks t s = absurd (omega (arith, le))
opening_one_to (suc a) (suc b) meaning le toks t s = s

less_one : (a b : ℕ) → a ≤ b → a - 1 ≤ b - 1
less_one a b le = omega (arith, le)

-- a sequence that begins with what stays the same
after : {A B : Type 0} {L : Tokens → A → Type 0} {M M' : A → Tokens → B → Type 0} → ((a : A) → Grows (M a) (M' a)) → Grows (Then L M) (Then L M')
after two = behind same two

module _ (a b : ℕ) (le : a ≤ b) where
  opening : (kind : Kind) → Grows (lang.opening a kind) (lang.opening b kind)
  opening kind = record { to = opening_to a b kind le }

  opening_one : {A : Type 0} (meaning : Kind → Option A) → Grows (lang.opening_one_of a meaning) (lang.opening_one_of b meaning)
  opening_one meaning = record { to = opening_one_to a b meaning le }

  pattern : Grows (x.pattern a) (x.pattern b)
  unfolding x.pattern
  pattern = behind (opening k.LeftBracket) (λ _. same)

  bound : Grows (x.bound a) (x.bound b)
  unfolding x.bound
  bound = either same (behind pattern (λ slots. same))

  module _ (S T : Lang Expr) (source : Grows S T) where
    iter : Grows (x.iter a S) (x.iter b T)
    unfolding x.iter
    iter = either (behind bound (λ w. after (λ _. behind source (λ s. same)))) (after (λ y. after (λ _. after (λ f. behind (opening k.LeftParen) (λ _. same)))))

    iters : Grows (x.iters a S) (x.iters b T)
    unfolding x.iters
    iters = separated iter

-- expressions and sources grow
record Deeper (D E : Inside) : Type 0 where
  expr : Grows D.expr E.expr
  source : Grows D.source E.source

inner : (a b : ℕ) → a ≤ b → (D E : Inside) → Deeper D E → Grows (x.inner a D) (x.inner b E)
unfolding x.inner
inner a b le D E deeper = either (behind (listed deeper.expr) (λ xs. same))
    (either (behind deeper.expr (λ u. behind (optional (after (λ _. deeper.expr))) (λ v. after (λ _. behind deeper.expr (λ w. same)))))
    (either (behind deeper.expr (λ u. after (λ _. behind (iters a b le D.source E.source deeper.source) (λ over. behind (optional (after (λ _. deeper.expr))) (λ c. same)))))
    (behind (bound a b le) (λ w. after (λ _. behind deeper.source (λ s. after (λ _. behind deeper.expr (λ c. same))))))))

chain : (level : ℕ) {L M : Lang Expr} → Grows L M → Grows (x.chain level L) (x.chain level M)
chain level grows = behind grows (λ first. behind (many (after (λ o. behind grows (λ y. same)))) (λ others. same))

module _ (a b : ℕ) (le : a ≤ b) (D E : Inside) (deeper : Deeper D E) where
  in_inner : Grows (x.inner (a - 1) D) (x.inner (b - 1) E)
  in_inner = inner (a - 1) (b - 1) (less_one a b le) D E deeper

  selector : Grows (x.selector a D) (x.selector b E)
  unfolding x.selector
  selector = either (behind (opening a b le k.LeftParen) (λ _. behind (listed deeper.expr) (λ xs. same)))
      (either (behind (opening a b le k.LeftParen) (λ _. behind deeper.expr (λ u. after (λ _. behind (optional deeper.expr) (λ v. same)))))
      (behind (opening a b le k.LeftBrace) (λ _. behind (separated deeper.expr) (λ xs. same))))

  primary : Grows (x.primary a D) (x.primary b E)
  unfolding x.primary
  primary = either same (either same (either same (either same
      (either (behind (opening a b le k.LeftParen) (λ _. behind deeper.expr (λ u. same)))
      (either (behind (opening a b le k.If) (λ _. behind deeper.expr (λ u. after (λ _. behind deeper.expr (λ v. after (λ _. behind deeper.expr (λ w. same)))))))
      (either (behind (opening a b le k.LeftBrace) (λ _. behind in_inner (λ u. same)))
      (behind (opening a b le k.LeftBracket) (λ _. behind in_inner (λ u. same)))))))))

  e12 : Grows (x.e12 a D) (x.e12 b E)
  unfolding x.e12
  e12 = behind primary (λ u. behind (many selector) (λ ss. same))

  e7 : Grows (x.e7 a D) (x.e7 b E)
  unfolding x.e7 x.e8 x.e9 x.e10 x.e11
  e7 = chain 7 (chain 8 (chain 9 (chain 10 (after (λ ps. behind e12 (λ u. same))))))

  whole : Grows (x.whole a D) (x.whole b E)
  unfolding x.whole x.e2 x.e3 x.e4 x.e5 x.e6
  whole = either
      (behind (opening_one a b le _) (λ q. behind (iters (a - 1) (b - 1) (less_one a b le) D.source E.source deeper.source) (λ over. after (λ _. behind deeper.expr (λ u. same)))))
      (chain 2 (chain 3 (chain 4 (after (λ ps. behind (either e7 (behind e7 (λ u. after (λ o. behind e7 (λ v. same))))) (λ u. same))))))

nested : (a b : ℕ) → a ≤ b → Deeper (x.nested a) (x.nested b)
unfolding x.nested
nested zero b le = record { expr = record { to = λ toks y s. absurd s }; source = record { to = λ toks y s. absurd s } }
nested (suc a) zero le = absurd (omega (arith, le))
nested (suc a) (suc b) le =
    let less : a ≤ b = omega (arith, le) in
    record { expr = whole a b less (x.nested a) (x.nested b) (nested a b less); source = e7 a b less (x.nested a) (x.nested b) (nested a b less) }

expr : (a b : ℕ) → a ≤ b → Grows (x.expr a) (x.expr b)
unfolding x.expr
expr a b le = whole a b le (x.nested a) (x.nested b) (nested a b le)

-- ---- statements

module _ (a b : ℕ) (le : a ≤ b) where
  abbrev deeper : Deeper (x.nested a) (x.nested b)
  deeper = nested a b le

  place_selector : Grows (s.place_selector a) (s.place_selector b)
  unfolding s.place_selector
  place_selector = either (behind (opening a b le k.LeftParen) (λ _. behind (separated deeper.expr) (λ xs. same))) (behind (opening a b le k.LeftBrace) (λ _. behind (separated deeper.expr) (λ xs. same)))

  place : Grows (s.place a) (s.place b)
  unfolding s.place
  place = after (λ y. behind (many place_selector) (λ ss. same))

  module _ (D E : Lang (List Stmt)) (body : Grows D E) where
    branch : Grows (s.branch a D) (s.branch b E)
    unfolding s.branch
    branch = behind deeper.expr (λ c. after (λ _. behind body (λ u. same)))

    stmt_kind : Grows (s.stmt_kind a D) (s.stmt_kind b E)
    unfolding s.stmt_kind
    stmt_kind = either (behind place (λ u. after (λ _. behind (expr a b le) (λ v. same))))
        (either (behind place (λ u. after (λ o. after (λ _. behind (expr a b le) (λ v. same)))))
        (either (behind (pattern a b le) (λ slots. after (λ _. behind (expr a b le) (λ v. same))))
        (either (after (λ u. after (λ w. behind place (λ v. same))))
        (either (after (λ f. behind (opening a b le k.LeftParen) (λ _. behind (listed deeper.expr) (λ xs. same))))
        (either (behind (opening a b le k.If) (λ _. behind branch (λ u. behind (many (after (λ _. branch))) (λ v. behind (optional (after (λ _. body))) (λ w. same)))))
        (either (behind (opening a b le k.LeftParen) (λ _. after (λ _. behind (iters (a - 1) (b - 1) (less_one a b le) (x.nested a).source (x.nested b).source deeper.source) (λ over. behind (optional (after (λ _. deeper.expr))) (λ c. after (λ _. behind body (λ u. same)))))))
        (either (behind (opening a b le k.LeftParen) (λ _. after (λ _. behind deeper.expr (λ c. after (λ _. behind body (λ u. same))))))
        (either same
        (either (after (λ _. behind (optional (expr a b le)) (λ u. same)))
        (either (after (λ _. behind (opening a b le k.LeftParen) (λ _. behind (listed deeper.expr) (λ xs. same))))
        (after (λ _. behind (opening a b le k.LeftParen) (λ _. same)))))))))))))

    stmt : Grows (s.stmt a D) (s.stmt b E)
    unfolding s.stmt
    stmt = behind (lined stmt_kind) (λ u. same)

nested_stmts : (a b : ℕ) → a ≤ b → Grows (s.nested_stmts a) (s.nested_stmts b)
unfolding s.nested_stmts
nested_stmts zero b le = record { to = λ toks y s. absurd s }
nested_stmts (suc a) zero le = absurd (omega (arith, le))
nested_stmts (suc a) (suc b) le = let less : a ≤ b = omega (arith, le) in many (stmt a b less (s.nested_stmts a) (s.nested_stmts b) (nested_stmts a b less))

stmts : (a b : ℕ) → a ≤ b → Grows (s.stmts a) (s.stmts b)
unfolding s.stmts
stmts a b le = many (stmt a b le (s.nested_stmts a) (s.nested_stmts b) (nested_stmts a b le))

-- ---- modes

mode_in : (a b : ℕ) → a ≤ b → (D E : Lang WrittenMode) → Grows D E → Grows (m.mode_in a D) (m.mode_in b E)
unfolding m.mode_in m.with_attribute m.core
mode_in a b le D E deep = behind (lined (after (λ w. behind (either same (either same
    (either (after (λ _. behind (opening a b le k.LeftParen) (λ _. behind deep (λ u. same))))
    (either (after (λ _. behind (opening a b le k.LeftParen) (λ _. behind deep (λ u. same))))
    (either (after (λ _. behind (opening a b le k.LeftParen) (λ _. behind deep (λ u. after (λ _. behind deep (λ v. same))))))
    (after (λ _. behind (opening a b le k.LeftBrace) (λ _. behind deep (λ u. after (λ _. behind deep (λ v. same)))))))))))
    (λ c. same)))) (λ u. same)

nested_mode : (a b : ℕ) → a ≤ b → Grows (m.nested_mode a) (m.nested_mode b)
unfolding m.nested_mode
nested_mode zero b le = record { to = λ toks y s. absurd s }
nested_mode (suc a) zero le = absurd (omega (arith, le))
nested_mode (suc a) (suc b) le = let less : a ≤ b = omega (arith, le) in mode_in a b less (m.nested_mode a) (m.nested_mode b) (nested_mode a b less)

mode : (a b : ℕ) → a ≤ b → Grows (m.mode a) (m.mode b)
unfolding m.mode
mode a b le = mode_in a b le (m.nested_mode a) (m.nested_mode b) (nested_mode a b le)

repr : (a b : ℕ) → a ≤ b → Grows (m.repr a) (m.repr b)
unfolding m.repr m.repr_line
repr a b le = after (λ _. behind (many (either
    (after (λ t. after (λ xs. behind (optional (after (λ _. mode a b le))) (λ c. same))))
    (after (λ xs. after (λ _. behind (mode a b le) (λ c. same)))))) (λ lines. same))

-- ---- programs

params : (a b : ℕ) → a ≤ b → Grows (p.params a) (p.params b)
unfolding p.params
params a b le = behind (opening a b le k.LeftParen) (λ _. same)

proc : (a b : ℕ) → a ≤ b → Grows (p.proc a) (p.proc b)
unfolding p.proc
proc a b le = after (λ t. after (λ u. behind (optional (params a b le)) (λ ps. after (λ _. behind (stmts a b le) (λ body. same)))))

pub program : (a b : ℕ) → a ≤ b → Grows (p.program a) (p.program b)
unfolding p.program
program a b le = after (λ _. after (λ u. after (λ _. after (λ vs. behind (optional (repr a b le)) (λ ms. behind (stmts a b le) (λ body. behind (many (proc a b le)) (λ ps. same)))))))
