-- The canonical tokens of a program that legal tokens derive are legal.
use Rattle.std.proofs.Common.{◌≡◌, ℕ, zero, suc, List, [], ◌∷◌, ◌++◌, Option, Some, None, sym, ap, subst, ◌∙◌}
use Rattle.std.specs.Prelude.{unwrap_or}
use Rattle.setl_tree.specs.declared.kind.Kind.{Kind}
use Rattle.setl_tree.specs.declared.kind.Kind.TheVariants as k
use Rattle.setl_tree.specs.declared.mode.Attribute.{Attribute}
use Rattle.setl_tree.specs.declared.mode.Attribute.TheVariants as at
use Rattle.setl_tree.specs.declared.mode.Core.{Core, fold-roll-Core}
use Rattle.setl_tree.specs.declared.mode.Core.TheVariants as co
use Rattle.setl_tree.specs.declared.mode.Core.TheOpen.{Core-F}
use Rattle.setl_tree.specs.declared.mode.WrittenMode.{WrittenMode, roll-WrittenMode, fold-roll-WrittenMode}
use Rattle.setl_tree.specs.declared.mode.ReprLine.{ReprLine}
use Rattle.setl_tree.specs.declared.mode.ReprLine.TheVariants as rl
use Rattle.setl_tree.specs.declared.tree.Declared.{Declared}
use Rattle.setl_tree.specs.declared.tree.Param.{Param}
use Rattle.setl_tree.specs.declared.tree.Passing.{Passing}
use Rattle.setl_tree.specs.declared.tree.Passing.TheVariants as pa
use Rattle.setl_tree.specs.declared.tree.Proc.{Proc}
use Rattle.setl_tree.specs.declared.tree.Tree.{Tree}
use Rattle.setl_tree.specs.Tokens.{Token, Tokens}
use Rattle.setl_tree.specs.Lang.{Lang}
use Rattle.setl_tree.specs.Modes as m
use Rattle.setl_tree.specs.Modes.{simple_core}
use Rattle.setl_tree.specs.Programs as g
use Rattle.setl_tree.specs.Programs.{joined, name_behind, Derives}
use Rattle.setl_tree.specs.Canonical.{attribute_kind, passing_kind, core_step, mode_step, mode_tokens, with_attribute, declared_tokens, colon_tokens, line_tokens, repr_tokens, param_tokens, optional_name, named_ending_tokens, proc_tokens, var_tokens, stmt_tokens, canonical}
use Rattle.setl_token.specs.Spellings.{IsSpelled}
use Rattle.setl_show.specs.Parts.{core_tokens}
use Rattle.setl_show_laws.specs.Reading.{IsNameText, AreLegal}
use Rattle.setl_show_laws.proofs.Legal.{none, both, word, word_at, named, named_at, Each, Maybe, all_legal, commas, Keeps, k_any, k_pure, k_never, k_then, k_or, k_token, k_name, k_one_of, k_many, k_optional, k_past, k_separated, k_listed, k_lined, name_of}
use Rattle.setl_show_laws.proofs.LegalStatements.{GoodStmt, ends, stmts_keeps}

-- ---- modes

abbrev GoodMode : WrittenMode → Type 0
GoodMode y = AreLegal (mode_tokens y)

abbrev GoodCore : Core → Type 0
GoodCore y = (line : ℕ) → AreLegal (core_tokens y line)

abbrev GoodDeclared : Declared → Type 0
GoodDeclared y = AreLegal (declared_tokens y)

abbrev GoodLine : ReprLine → Type 0
GoodLine y = AreLegal (line_tokens y)

attribute_spelled : (a : Attribute) → IsSpelled (attribute_kind a)
attribute_spelled at.Local = tt
attribute_spelled _ = tt

from_core_tokens : (y : Core) (f : ℕ → Tokens) → core_tokens y ≡ f → ((line : ℕ) → AreLegal (f line)) → GoodCore y
from_core_tokens y f h p = subst (λ (f : ℕ → Tokens). (line : ℕ) → AreLegal (f line)) (sym h) p

attributed : (line : ℕ) (a : Option Attribute) (f : ℕ → Tokens) → ((line : ℕ) → AreLegal (f line)) → AreLegal (with_attribute line a f)
attributed line None f h = h line
attributed line (Some a) f h = word_at line (attribute_kind a) (attribute_spelled a) (h 0)

mode_legal : (line : ℕ) (a : Option Attribute) (c : Core) → GoodCore c → GoodMode (roll-WrittenMode (record { line = line; attribute = a; core = c }))
mode_legal line a c g = subst AreLegal (sym (fold-roll-WrittenMode (ℕ → Tokens) Tokens core_step mode_step (record { line = line; attribute = a; core = c }))) (attributed line a (core_tokens c) g)

is_general : GoodCore co.General
is_general = from_core_tokens co.General _ (ap core_tokens (sym co.rolls-General) ∙ fold-roll-Core (ℕ → Tokens) Tokens core_step mode_step Core-F.General) (λ line. word_at line k.General tt none)

is_int : GoodCore co.Int
is_int = from_core_tokens co.Int _ (ap core_tokens (sym co.rolls-Int) ∙ fold-roll-Core (ℕ → Tokens) Tokens core_step mode_step Core-F.Int) (λ line. word_at line k.Int tt none)

is_str : GoodCore co.Str
is_str = from_core_tokens co.Str _ (ap core_tokens (sym co.rolls-Str) ∙ fold-roll-Core (ℕ → Tokens) Tokens core_step mode_step Core-F.Str) (λ line. word_at line k.String tt none)

is_boolean : GoodCore co.Boolean
is_boolean = from_core_tokens co.Boolean _ (ap core_tokens (sym co.rolls-Boolean) ∙ fold-roll-Core (ℕ → Tokens) Tokens core_step mode_step Core-F.Boolean) (λ line. word_at line k.Boolean tt none)

is_atom : GoodCore co.Atom
is_atom = from_core_tokens co.Atom _ (ap core_tokens (sym co.rolls-Atom) ∙ fold-roll-Core (ℕ → Tokens) Tokens core_step mode_step Core-F.Atom) (λ line. word_at line k.Atom tt none)

is_elmt : (l : ℕ) (b : List ℕ) → IsNameText b → GoodCore (co.Elmt l b)
is_elmt l b h = from_core_tokens (co.Elmt l b) _ (ap core_tokens (sym (co.rolls-Elmt l b)) ∙ fold-roll-Core (ℕ → Tokens) Tokens core_step mode_step (Core-F.Elmt l b)) (λ line. word_at l k.Elmt tt (named h none))

is_set : (d : WrittenMode) → GoodMode d → GoodCore (co.Set d)
is_set d g = from_core_tokens (co.Set d) _ (ap core_tokens (sym (co.rolls-Set d)) ∙ fold-roll-Core (ℕ → Tokens) Tokens core_step mode_step (Core-F.Set d)) (λ line. word_at line k.Set tt (word k.LeftParen tt (both g (word k.RightParen tt none))))

is_tuple : (d : WrittenMode) → GoodMode d → GoodCore (co.Tuple d)
is_tuple d g = from_core_tokens (co.Tuple d) _ (ap core_tokens (sym (co.rolls-Tuple d)) ∙ fold-roll-Core (ℕ → Tokens) Tokens core_step mode_step (Core-F.Tuple d)) (λ line. word_at line k.Tuple tt (word k.LeftParen tt (both g (word k.RightParen tt none))))

is_smap : (d r : WrittenMode) → GoodMode d → GoodMode r → GoodCore (co.Smap d r)
is_smap d r gd gr = from_core_tokens (co.Smap d r) _ (ap core_tokens (sym (co.rolls-Smap d r)) ∙ fold-roll-Core (ℕ → Tokens) Tokens core_step mode_step (Core-F.Smap d r)) (λ line. word_at line k.Smap tt (word k.LeftParen tt (both gd (word k.RightParen tt gr))))

is_mmap : (d r : WrittenMode) → GoodMode d → GoodMode r → GoodCore (co.Mmap d r)
is_mmap d r gd gr = from_core_tokens (co.Mmap d r) _ (ap core_tokens (sym (co.rolls-Mmap d r)) ∙ fold-roll-Core (ℕ → Tokens) Tokens core_step mode_step (Core-F.Mmap d r)) (λ line. word_at line k.Mmap tt (word k.LeftBrace tt (both gd (word k.RightBrace tt gr))))

simple_core_legal : (kind : Kind) → Maybe GoodCore (simple_core kind)
unfolding simple_core
simple_core_legal k.General = is_general
simple_core_legal k.Int = is_int
simple_core_legal k.Integer = is_int
simple_core_legal k.String = is_str
simple_core_legal k.Boolean = is_boolean
simple_core_legal k.Atom = is_atom
simple_core_legal _ = tt

declared_keeps : Keeps m.declared GoodDeclared
unfolding m.declared
declared_keeps = k_then (k_token k.Name) (λ t h. k_pure (named_at t.line (name_of t.text t.value h) none))

module _ (room : ℕ) (deep : Lang WrittenMode) (k_deep : Keeps deep GoodMode) where
  core_keeps : Keeps (m.core room deep) GoodCore
  unfolding m.core
  core_keeps = k_or (k_one_of simple_core simple_core_legal)
      (k_or (k_then k_any (λ t _. k_then k_name (λ b h. k_pure (is_elmt t.line b h))))
      (k_or (k_past (k_past (k_then k_deep (λ d g. k_past (k_pure (is_set d g))))))
      (k_or (k_past (k_past (k_then k_deep (λ d g. k_past (k_pure (is_tuple d g))))))
      (k_or (k_past (k_past (k_then k_deep (λ d gd. k_past (k_then k_deep (λ r gr. k_pure (is_smap d r gd gr)))))))
      (k_past (k_past (k_then k_deep (λ d gd. k_past (k_then k_deep (λ r gr. k_pure (is_mmap d r gd gr)))))))))))

  attribute_keeps : Keeps (m.with_attribute room deep) (λ p. GoodCore p.1)
  unfolding m.with_attribute
  attribute_keeps = k_then k_any (λ a _. k_then core_keeps (λ c g. k_pure g))

  mode_in_keeps : Keeps (m.mode_in room deep) GoodMode
  unfolding m.mode_in
  mode_in_keeps = k_then (k_lined attribute_keeps) (λ p g. k_pure (mode_legal p.0 p.1.0 p.1.1 g))

nested_mode_keeps : (room : ℕ) → Keeps (m.nested_mode room) GoodMode
unfolding m.nested_mode
nested_mode_keeps zero = k_never
nested_mode_keeps (suc room) = mode_in_keeps room (m.nested_mode room) (nested_mode_keeps room)

mode_keeps : (room : ℕ) → Keeps (m.mode room) GoodMode
unfolding m.mode
mode_keeps room = mode_in_keeps room (m.nested_mode room) (nested_mode_keeps room)

colon_legal : (o : Option WrittenMode) → Maybe GoodMode o → AreLegal (colon_tokens o)
colon_legal None h = none
colon_legal (Some d) h = word k.Colon tt h

base_legal : (line : ℕ) (xs : List Declared) (o : Option WrittenMode) → Each GoodDeclared xs → Maybe GoodMode o → GoodLine (rl.Base line xs o)
base_legal line xs o gs g = word_at line k.Base tt (both (commas declared_tokens xs gs) (both (colon_legal o g) (word k.Semicolon tt none)))

variables_legal : (line : ℕ) (xs : List Declared) (d : WrittenMode) → Each GoodDeclared xs → GoodMode d → GoodLine (rl.Variables line xs d)
variables_legal line xs d gs g = both (commas declared_tokens xs gs) (word k.Colon tt (both g (word k.Semicolon tt none)))

line_keeps : (room : ℕ) → Keeps (m.repr_line room) GoodLine
unfolding m.repr_line
line_keeps room = k_or
    (k_then k_any (λ t _. k_then (k_separated declared_keeps) (λ xs gs. k_then (k_optional (k_past (mode_keeps room))) (λ o g. k_past (k_pure (base_legal t.line xs o gs g))))))
    (k_then (k_lined (k_separated declared_keeps)) (λ xs gs. k_past (k_then (mode_keeps room) (λ d g. k_past (k_pure (variables_legal xs.0 xs.1 d gs g))))))

repr_keeps : (room : ℕ) → Keeps (m.repr room) (Each GoodLine)
unfolding m.repr
repr_keeps room = k_past (k_then (k_many (line_keeps room)) (λ lines gs. k_past (k_pure gs)))

repr_legal : (xs : List ReprLine) → Each GoodLine xs → AreLegal (repr_tokens xs)
repr_legal [] h = none
repr_legal (y ∷ ys) h = word k.Repr tt (both (all_legal line_tokens (y ∷ ys) h) (ends k.Repr tt))

lines_or_none : (o : Option (List ReprLine)) → Maybe (Each GoodLine) o → Each GoodLine (unwrap_or o [])
lines_or_none None h = tt
lines_or_none (Some xs) h = h

-- ---- programs

abbrev GoodParam : Param → Type 0
GoodParam y = AreLegal (param_tokens y)

abbrev GoodProc : Proc → Type 0
GoodProc y = AreLegal (proc_tokens y)

passing_spelled : (p : Passing) → IsSpelled (passing_kind p)
passing_spelled pa.Rd = tt
passing_spelled _ = tt

behind_legal : (o : Option (Option (List ℕ))) → Maybe (Maybe IsNameText) o → Maybe IsNameText (name_behind o)
behind_legal None h = tt
behind_legal (Some o) h = h

optional_legal : {rest : Tokens} (o : Option (List ℕ)) → Maybe IsNameText o → AreLegal rest → AreLegal (optional_name o ++ rest)
optional_legal None h r = r
optional_legal (Some n) h r = named h r

named_ending_legal : (line : ℕ) (kind : Kind) (o : Option (List ℕ)) → IsSpelled kind → Maybe IsNameText o → AreLegal (named_ending_tokens line kind o)
named_ending_legal line kind o s h = word_at line k.End tt (word kind s (optional_legal o h (word k.Semicolon tt none)))

named_ending_keeps : (w : Lang Token) → Keeps (g.named_ending w) (λ p. Maybe IsNameText p.1)
unfolding g.named_ending
named_ending_keeps w = k_then k_any (λ t _. k_then (k_optional (k_past (k_optional k_name))) (λ o h. k_past (k_pure (behind_legal o h))))

var_keeps : Keeps g.var (Each GoodDeclared)
unfolding g.var
var_keeps = k_past (k_then (k_separated declared_keeps) (λ xs gs. k_past (k_pure gs)))

passed_keeps : Keeps g.passed (λ p. IsNameText p.1)
unfolding g.passed
passed_keeps = k_then k_any (λ p _. k_then k_name (λ n h. k_pure h))

param_legal : (p : Param) → IsNameText p.name → GoodParam p
param_legal p h = word_at p.line (passing_kind p.passing) (passing_spelled p.passing) (named h none)

param_keeps : Keeps g.param GoodParam
unfolding g.param
param_keeps = k_then (k_lined passed_keeps) (λ p h. k_pure (param_legal (record { passing = p.1.0; name = p.1.1; line = p.0 }) h))

params_keeps : (room : ℕ) → Keeps (g.params room) (Each GoodParam)
unfolding g.params
params_keeps room = k_past (k_then (k_listed param_keeps) (λ xs gs. k_past (k_pure gs)))

params_or_none : (o : Option (List Param)) → Maybe (Each GoodParam) o → Each GoodParam (unwrap_or o [])
params_or_none None h = tt
params_or_none (Some xs) h = h

proc_legal : (p : Proc) → IsNameText p.name → Each GoodParam p.params → Each GoodStmt p.body → Maybe IsNameText p.end_name → GoodProc p
proc_legal p h gs gb he = word_at p.line k.Proc tt (named h (word k.LeftParen tt (both (commas param_tokens p.params gs) (word k.RightParen tt (word k.Semicolon tt (both (all_legal stmt_tokens p.body gb) (named_ending_legal p.end_line k.Proc p.end_name tt he)))))))

proc_keeps : (room : ℕ) → Keeps (g.proc room) GoodProc
unfolding g.proc
proc_keeps room = k_then k_any (λ t _. k_then k_name (λ n h. k_then (k_optional (params_keeps room)) (λ ps gs. k_past (k_then (stmts_keeps room) (λ body gb. k_then (named_ending_keeps g.proc_word) (λ last he.
    k_pure (proc_legal (record { line = t.line; name = n; params = unwrap_or ps []; body = body; end_name = last.1; end_line = last.0 }) h (params_or_none ps gs) gb he)))))))

each_append : (xs ys : List Declared) → Each GoodDeclared xs → Each GoodDeclared ys → Each GoodDeclared (xs ++ ys)
each_append [] ys g h = h
each_append (x ∷ xs) ys g h = (g.0, each_append xs ys g.1 h)

joined_legal : (xs : List (List Declared)) → Each (Each GoodDeclared) xs → Each GoodDeclared (joined xs)
joined_legal [] h = tt
joined_legal (ys ∷ others) h = each_append ys (joined others) h.0 (joined_legal others h.1)

var_legal : (xs : List Declared) → Each GoodDeclared xs → AreLegal (var_tokens xs)
var_legal [] h = none
var_legal (y ∷ ys) h = word k.Var tt (both (commas declared_tokens (y ∷ ys) h) (word k.Semicolon tt none))

abbrev GoodTree : Tree → Type 0
GoodTree y = AreLegal (canonical y)

program_legal : (t : Tree) → IsNameText t.name → Each GoodDeclared t.vars → Each GoodLine t.modes → Each GoodStmt t.body → Each GoodProc t.procs → Maybe IsNameText t.end_name → GoodTree t
unfolding canonical
program_legal t h gv gm gb gp he = word k.Program tt (named h (word k.Semicolon tt (both (var_legal t.vars gv) (both (repr_legal t.modes gm) (both (all_legal stmt_tokens t.body gb) (both (all_legal proc_tokens t.procs gp) (named_ending_legal t.end_line k.Program t.end_name tt he)))))))

program_keeps : (room : ℕ) → Keeps (g.program room) GoodTree
unfolding g.program
program_keeps room = k_past (k_then k_name (λ n h. k_past (k_then (k_many var_keeps) (λ vars gv. k_then (k_optional (repr_keeps room)) (λ modes gm. k_then (stmts_keeps room) (λ body gb. k_then (k_many (proc_keeps room)) (λ procs gp. k_then (named_ending_keeps _) (λ last he.
    k_pure (program_legal (record { name = n; vars = joined vars; modes = unwrap_or modes []; body = body; procs = procs; end_name = last.1; end_line = last.0 }) h (joined_legal vars gv) (lines_or_none modes gm) gb gp he)))))))))

-- the canonical tokens of a tree that legal tokens derive are legal
pub canonical_legal : (toks : Tokens) (tree : Tree) → Derives toks tree → AreLegal toks → AreLegal (canonical tree)
canonical_legal toks tree d h = (program_keeps d.0).at toks tree d.1 h
