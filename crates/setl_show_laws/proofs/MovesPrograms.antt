-- Tokens with other lines spell the same program but for lines.
use Rattle.std.proofs.Common.{◌≡◌, ℕ, zero, suc, List, [], ◌∷◌, ◌++◌, Option, Some, None, refl, sym, ap, ◌∙◌}
use Rattle.std.specs.Prelude.{unwrap_or}
use Rattle.setl_tree.specs.declared.kind.Kind.TheVariants as k
use Rattle.setl_tree.specs.declared.mode.Attribute.{Attribute}
use Rattle.setl_tree.specs.declared.mode.Core.{Core, roll-Core, fold-Core, fold-roll-Core}
use Rattle.setl_tree.specs.declared.mode.Core.TheVariants as co
use Rattle.setl_tree.specs.declared.mode.Core.TheOpen.{Core-F}
use Rattle.setl_tree.specs.declared.mode.WrittenMode.{WrittenMode, roll-WrittenMode, fold-roll-WrittenMode}
use Rattle.setl_tree.specs.declared.mode.ReprLine.{ReprLine}
use Rattle.setl_tree.specs.declared.mode.ReprLine.TheVariants as rl
use Rattle.setl_tree.specs.declared.tree.Declared.{Declared}
use Rattle.setl_tree.specs.declared.tree.Param.{Param}
use Rattle.setl_tree.specs.declared.tree.Passing.{Passing}
use Rattle.setl_tree.specs.declared.tree.Proc.{Proc}
use Rattle.setl_tree.specs.declared.tree.Tree.{Tree}
use Rattle.setl_tree.specs.Tokens.{Token, Tokens}
use Rattle.setl_tree.specs.Lang.{Lang, token}
use Rattle.setl_tree.specs.Modes as m
use Rattle.setl_tree.specs.Modes.{attribute, simple_core}
use Rattle.setl_tree.specs.Programs as g
use Rattle.setl_tree.specs.Programs.{joined, name_behind, passing, Derives}
use Rattle.setl_show_laws.specs.Claims.{DerivesSame}
use Rattle.setl_show_laws.specs.Lines.{core_layer, mode_layer, bare_stmt, bare_mode, bare_declared, bare_line, bare_param, bare_proc, SameTree, SameTokens}
use Rattle.setl_show_laws.proofs.Moves.{Moves, any_two, EachTwo, MaybeTwo, maps_same, m_as, m_weak, m_pure, m_never, m_then, s_then, m_past, m_or, m_token, m_one_of, m_opening, m_name, m_many, m_optional, m_separated, m_listed, m_lined, s_optional}
use Rattle.setl_show_laws.proofs.MovesExpressions.{Stays}
use Rattle.setl_show_laws.proofs.MovesStatements.{SameStmt, ending_moves, stmts_move}

-- ---- modes

abbrev bare_core : Core → Core
bare_core = fold-Core Core WrittenMode core_layer mode_layer

abbrev SameMode : WrittenMode → WrittenMode → Type 0
SameMode a b = bare_mode a ≡ bare_mode b

abbrev SameCore : Core → Core → Type 0
SameCore a b = bare_core a ≡ bare_core b

abbrev SameDeclared : Declared → Declared → Type 0
SameDeclared a b = bare_declared a ≡ bare_declared b

abbrev SameLine : ReprLine → ReprLine → Type 0
SameLine a b = bare_line a ≡ bare_line b

mode_is : (line : ℕ) (a : Option Attribute) (c : Core) → bare_mode (roll-WrittenMode (record { line = line; attribute = a; core = c })) ≡ roll-WrittenMode (record { line = 0; attribute = a; core = bare_core c })
mode_is line a c = fold-roll-WrittenMode Core WrittenMode core_layer mode_layer (record { line = line; attribute = a; core = c })

mode_same : (l n : ℕ) (a : Option Attribute) (c d : Core) → SameCore c d → SameMode (roll-WrittenMode (record { line = l; attribute = a; core = c })) (roll-WrittenMode (record { line = n; attribute = a; core = d }))
mode_same l n a c d h = mode_is l a c ∙ (λ i. roll-WrittenMode (record { line = 0; attribute = a; core = h i })) ∙ sym (mode_is n a d)

elmt_is : (l : ℕ) (b : List ℕ) → bare_core (co.Elmt l b) ≡ co.Elmt 0 b
elmt_is l b = ap bare_core (sym (co.rolls-Elmt l b)) ∙ fold-roll-Core Core WrittenMode core_layer mode_layer (Core-F.Elmt l b)

set_is : (d : WrittenMode) → bare_core (co.Set d) ≡ roll-Core (Core-F.Set (bare_mode d))
set_is d = ap bare_core (sym (co.rolls-Set d)) ∙ fold-roll-Core Core WrittenMode core_layer mode_layer (Core-F.Set d)

tuple_is : (d : WrittenMode) → bare_core (co.Tuple d) ≡ roll-Core (Core-F.Tuple (bare_mode d))
tuple_is d = ap bare_core (sym (co.rolls-Tuple d)) ∙ fold-roll-Core Core WrittenMode core_layer mode_layer (Core-F.Tuple d)

smap_is : (d r : WrittenMode) → bare_core (co.Smap d r) ≡ roll-Core (Core-F.Smap (bare_mode d) (bare_mode r))
smap_is d r = ap bare_core (sym (co.rolls-Smap d r)) ∙ fold-roll-Core Core WrittenMode core_layer mode_layer (Core-F.Smap d r)

mmap_is : (d r : WrittenMode) → bare_core (co.Mmap d r) ≡ roll-Core (Core-F.Mmap (bare_mode d) (bare_mode r))
mmap_is d r = ap bare_core (sym (co.rolls-Mmap d r)) ∙ fold-roll-Core Core WrittenMode core_layer mode_layer (Core-F.Mmap d r)

elmt_same : (l n : ℕ) (b : List ℕ) → SameCore (co.Elmt l b) (co.Elmt n b)
elmt_same l n b = elmt_is l b ∙ sym (elmt_is n b)

set_same : (d e : WrittenMode) → SameMode d e → SameCore (co.Set d) (co.Set e)
set_same d e h = set_is d ∙ (λ i. roll-Core (Core-F.Set (h i))) ∙ sym (set_is e)

tuple_same : (d e : WrittenMode) → SameMode d e → SameCore (co.Tuple d) (co.Tuple e)
tuple_same d e h = tuple_is d ∙ (λ i. roll-Core (Core-F.Tuple (h i))) ∙ sym (tuple_is e)

smap_same : (d e q r : WrittenMode) → SameMode d e → SameMode q r → SameCore (co.Smap d q) (co.Smap e r)
smap_same d e q r h j = smap_is d q ∙ (λ i. roll-Core (Core-F.Smap (h i) (j i))) ∙ sym (smap_is e r)

mmap_same : (d e q r : WrittenMode) → SameMode d e → SameMode q r → SameCore (co.Mmap d q) (co.Mmap e r)
mmap_same d e q r h j = mmap_is d q ∙ (λ i. roll-Core (Core-F.Mmap (h i) (j i))) ∙ sym (mmap_is e r)

core_same : (a b : Core) → a ≡ b → SameCore a b
core_same a b h = ap bare_core h

declared_same : (l n : ℕ) (a b : List ℕ) → a ≡ b → SameDeclared (record { line = l; name = a }) (record { line = n; name = b })
declared_same l n a b h = λ i. record { line = 0; name = h i }

declared_moves : Moves m.declared m.declared SameDeclared
unfolding m.declared
declared_moves = m_then (m_token k.Name) (λ t u h. m_pure (declared_same t.line u.line t.text u.text h.0))

module _ (room : ℕ) (deep : Lang WrittenMode) (m_deep : Moves deep deep SameMode) where
  core_moves : Moves (m.core room deep) (m.core room deep) SameCore
  unfolding m.core
  core_moves = m_or (m_as core_same (m_one_of simple_core))
      (m_or (m_then (m_token k.Elmt) (λ t u _. s_then m_name (λ b. m_pure (elmt_same t.line u.line b))))
      (m_or (m_past (m_token k.Set) (m_past (m_opening room k.LeftParen) (m_then m_deep (λ d e h. m_past (m_token k.RightParen) (m_pure (set_same d e h))))))
      (m_or (m_past (m_token k.Tuple) (m_past (m_opening room k.LeftParen) (m_then m_deep (λ d e h. m_past (m_token k.RightParen) (m_pure (tuple_same d e h))))))
      (m_or (m_past (m_token k.Smap) (m_past (m_opening room k.LeftParen) (m_then m_deep (λ d e h. m_past (m_token k.RightParen) (m_then m_deep (λ q r j. m_pure (smap_same d e q r h j)))))))
      (m_past (m_token k.Mmap) (m_past (m_opening room k.LeftBrace) (m_then m_deep (λ d e h. m_past (m_token k.RightBrace) (m_then m_deep (λ q r j. m_pure (mmap_same d e q r h j)))))))))))

  -- the same attribute, and the same mode but for lines
  abbrev SamePair : Option Attribute × Core → Option Attribute × Core → Type 0
  SamePair p q = (p.0 ≡ q.0) × SameCore p.1 q.1

  attribute_moves : Moves (m.with_attribute room deep) (m.with_attribute room deep) SamePair
  unfolding m.with_attribute
  attribute_moves = s_then (s_optional (m_one_of attribute)) (λ a. m_then core_moves (λ c d h. m_pure (refl, h)))

  pair_same : (l n : ℕ) (p q : Option Attribute × Core) → SamePair p q → SameMode (roll-WrittenMode (record { line = l; attribute = p.0; core = p.1 })) (roll-WrittenMode (record { line = n; attribute = q.0; core = q.1 }))
  pair_same l n p q h = mode_same l n p.0 p.1 q.1 h.1 ∙ (λ i. bare_mode (roll-WrittenMode (record { line = n; attribute = h.0 i; core = q.1 })))

  mode_in_moves : Moves (m.mode_in room deep) (m.mode_in room deep) SameMode
  unfolding m.mode_in
  mode_in_moves = m_then (m_lined attribute_moves) (λ p q h. m_pure (pair_same p.0 q.0 p.1 q.1 h))

nested_mode_moves : (room : ℕ) → Moves (m.nested_mode room) (m.nested_mode room) SameMode
unfolding m.nested_mode
nested_mode_moves zero = m_never
nested_mode_moves (suc room) = mode_in_moves room (m.nested_mode room) (nested_mode_moves room)

mode_moves : (room : ℕ) → Moves (m.mode room) (m.mode room) SameMode
unfolding m.mode
mode_moves room = mode_in_moves room (m.nested_mode room) (nested_mode_moves room)

base_same : (l n : ℕ) (xs ys : List Declared) (o p : Option WrittenMode) → EachTwo SameDeclared xs ys → MaybeTwo SameMode o p → SameLine (rl.Base l xs o) (rl.Base n ys p)
base_same l n xs ys None None hs h = let names = maps_same bare_declared xs ys hs in λ i. rl.Base 0 (names i) None
base_same l n xs ys None (Some e) hs h = absurd h
base_same l n xs ys (Some d) None hs h = absurd h
base_same l n xs ys (Some d) (Some e) hs h = let names = maps_same bare_declared xs ys hs in λ i. rl.Base 0 (names i) (Some (h i))

variables_same : (l n : ℕ) (xs ys : List Declared) (d e : WrittenMode) → EachTwo SameDeclared xs ys → SameMode d e → SameLine (rl.Variables l xs d) (rl.Variables n ys e)
variables_same l n xs ys d e hs h = let names = maps_same bare_declared xs ys hs in λ i. rl.Variables 0 (names i) (h i)

line_moves : (room : ℕ) → Moves (m.repr_line room) (m.repr_line room) SameLine
unfolding m.repr_line
line_moves room = m_or
    (m_then (m_token k.Base) (λ t u _. m_then (m_separated declared_moves) (λ xs ys hs. m_then (m_optional (m_past (m_token k.Colon) (mode_moves room))) (λ o p h. m_past (m_token k.Semicolon) (m_pure (base_same t.line u.line xs ys o p hs h))))))
    (m_then (m_lined (m_separated declared_moves)) (λ xs ys hs. m_past (m_token k.Colon) (m_then (mode_moves room) (λ d e h. m_past (m_token k.Semicolon) (m_pure (variables_same xs.0 ys.0 xs.1 ys.1 d e hs h))))))

repr_moves : (room : ℕ) → Moves (m.repr room) (m.repr room) (EachTwo SameLine)
unfolding m.repr
repr_moves room = m_past (m_token k.Repr) (m_then (m_many (line_moves room)) (λ xs ys hs. m_past (ending_moves k.Repr) (m_pure hs)))

lines_or_none : (o p : Option (List ReprLine)) → MaybeTwo (EachTwo SameLine) o p → EachTwo SameLine (unwrap_or o []) (unwrap_or p [])
lines_or_none None None h = tt
lines_or_none None (Some ys) h = absurd h
lines_or_none (Some xs) None h = absurd h
lines_or_none (Some xs) (Some ys) h = h

-- ---- programs

abbrev SameParam : Param → Param → Type 0
SameParam a b = bare_param a ≡ bare_param b

abbrev SameProc : Proc → Proc → Type 0
SameProc a b = bare_proc a ≡ bare_proc b

abbrev SameName : ℕ × Option (List ℕ) → ℕ × Option (List ℕ) → Type 0
SameName p q = p.1 ≡ q.1

named_ending_moves : (w : Lang Token) → Moves w w any_two → Moves (g.named_ending w) (g.named_ending w) SameName
unfolding g.named_ending
named_ending_moves w m_word = m_then (m_token k.End) (λ t u _. s_then (s_optional (m_past m_word (s_optional m_name))) (λ o. m_past (m_token k.Semicolon) (m_pure refl)))

var_moves : Moves g.var g.var (EachTwo SameDeclared)
unfolding g.var
var_moves = m_past (m_token k.Var) (m_then (m_separated declared_moves) (λ xs ys hs. m_past (m_token k.Semicolon) (m_pure hs)))

passed_stays : Stays g.passed
unfolding g.passed
passed_stays = s_then (s_optional (m_one_of passing)) (λ p. s_then m_name (λ n. m_pure refl))

param_same : (l n : ℕ) (p q : Passing × List ℕ) → p ≡ q → SameParam (record { passing = p.0; name = p.1; line = l }) (record { passing = q.0; name = q.1; line = n })
param_same l n p q h = λ i. record { passing = (h i).0; name = (h i).1; line = 0 }

param_moves : Moves g.param g.param SameParam
unfolding g.param
param_moves = m_then (m_lined passed_stays) (λ p q h. m_pure (param_same p.0 q.0 p.1 q.1 h))

params_move : (room : ℕ) → Moves (g.params room) (g.params room) (EachTwo SameParam)
unfolding g.params
params_move room = m_past (m_opening room k.LeftParen) (m_then (m_listed param_moves) (λ xs ys hs. m_past (m_token k.RightParen) (m_pure hs)))

params_or_none : (o p : Option (List Param)) → MaybeTwo (EachTwo SameParam) o p → EachTwo SameParam (unwrap_or o []) (unwrap_or p [])
params_or_none None None h = tt
params_or_none None (Some ys) h = absurd h
params_or_none (Some xs) None h = absurd h
params_or_none (Some xs) (Some ys) h = h

proc_word_moves : Moves g.proc_word g.proc_word any_two
unfolding g.proc_word
proc_word_moves = m_or (m_weak (m_token k.Proc)) (m_weak (m_token k.Procedure))

proc_same : (p q : Proc) → p.name ≡ q.name → EachTwo SameParam p.params q.params → EachTwo SameStmt p.body q.body → p.end_name ≡ q.end_name → SameProc p q
proc_same p q hn hp hb he =
    let params = maps_same bare_param p.params q.params hp in
    let body = maps_same bare_stmt p.body q.body hb in
    λ i. record { line = 0; name = hn i; params = params i; body = body i; end_name = he i; end_line = 0 }

proc_moves : (room : ℕ) → Moves (g.proc room) (g.proc room) SameProc
unfolding g.proc
proc_moves room = m_then proc_word_moves (λ t u _. s_then m_name (λ n. m_then (m_optional (params_move room)) (λ o p hp. m_past (m_token k.Semicolon) (m_then (stmts_move room) (λ xs ys hb. m_then (named_ending_moves g.proc_word proc_word_moves) (λ v w he.
    m_pure (proc_same (record { line = t.line; name = n; params = unwrap_or o []; body = xs; end_name = v.1; end_line = v.0 }) (record { line = u.line; name = n; params = unwrap_or p []; body = ys; end_name = w.1; end_line = w.0 }) refl (params_or_none o p hp) hb he)))))))

each_append : (ys bs cs ds : List Declared) → EachTwo SameDeclared ys bs → EachTwo SameDeclared cs ds → EachTwo SameDeclared (ys ++ cs) (bs ++ ds)
each_append [] [] cs ds g h = h
each_append [] (b ∷ bs) cs ds g h = absurd g
each_append (a ∷ ys) [] cs ds g h = absurd g
each_append (a ∷ ys) (b ∷ bs) cs ds g h = (g.0, each_append ys bs cs ds g.1 h)

joined_same : (xs ys : List (List Declared)) → EachTwo (EachTwo SameDeclared) xs ys → EachTwo SameDeclared (joined xs) (joined ys)
joined_same [] [] h = tt
joined_same [] (y ∷ ys) h = absurd h
joined_same (x ∷ xs) [] h = absurd h
joined_same (x ∷ xs) (y ∷ ys) h = each_append x y (joined xs) (joined ys) h.0 (joined_same xs ys h.1)

tree_same : (t u : Tree) → t.name ≡ u.name → EachTwo SameDeclared t.vars u.vars → EachTwo SameLine t.modes u.modes → EachTwo SameStmt t.body u.body → EachTwo SameProc t.procs u.procs → t.end_name ≡ u.end_name → SameTree t u
tree_same t u hn hv hm hb hp he =
    let vars = maps_same bare_declared t.vars u.vars hv in
    let body = maps_same bare_stmt t.body u.body hb in
    let modes = maps_same bare_line t.modes u.modes hm in
    let procs = maps_same bare_proc t.procs u.procs hp in
    λ i. record { name = hn i; vars = vars i; modes = modes i; body = body i; procs = procs i; end_name = he i; end_line = 0 }

program_moves : (room : ℕ) → Moves (g.program room) (g.program room) SameTree
unfolding g.program
program_moves room = m_past (m_token k.Program) (s_then m_name (λ n. m_past (m_token k.Semicolon) (m_then (m_many var_moves) (λ vs ws hv. m_then (m_optional (repr_moves room)) (λ o p hm. m_then (stmts_move room) (λ xs ys hb. m_then (m_many (proc_moves room)) (λ ps qs hp. m_then (named_ending_moves (token k.Program) (m_weak (m_token k.Program))) (λ v w he.
    m_pure (tree_same (record { name = n; vars = joined vs; modes = unwrap_or o []; body = xs; procs = ps; end_name = v.1; end_line = v.0 }) (record { name = n; vars = joined ws; modes = unwrap_or p []; body = ys; procs = qs; end_name = w.1; end_line = w.0 }) refl (joined_same vs ws hv) (lines_or_none o p hm) hb hp he)))))))))

-- tokens with other lines derive the same tree but for lines
pub derives_moves : (toks other : Tokens) (tree : Tree) → SameTokens toks other → Derives toks tree → DerivesSame other tree
derives_moves toks other tree h d = let r = (program_moves d.0).at toks other tree h d.1 in record { it = r.value; derived = (d.0, r.spelled); same = r.same }
