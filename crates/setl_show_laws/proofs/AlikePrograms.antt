-- Programs that are the same up to lines have the same canonical text.
use Rattle.std.proofs.Common.{◌≡◌, ℕ, List, [], ◌∷◌, map, Option, Some, None, refl, sym, ap, subst, ◌∙◌}
use Rattle.std.specs.Prelude.{option_map}
use Rattle.setl_tree.specs.declared.kind.Kind.TheVariants as k
use Rattle.setl_tree.specs.declared.mode.Attribute.{Attribute}
use Rattle.setl_tree.specs.declared.mode.Core.{Core, roll-Core, map-Core, fold-Core, fold-roll-Core}
use Rattle.setl_tree.specs.declared.mode.Core.TheVariants as co
use Rattle.setl_tree.specs.declared.mode.Core.TheOpen.{Core-F}
use Rattle.setl_tree.specs.declared.mode.WrittenMode.{WrittenMode, WrittenMode-F, roll-WrittenMode, map-WrittenMode, fold-roll-WrittenMode, ind-WrittenMode}
use Rattle.setl_tree.specs.declared.mode.ReprLine.{ReprLine}
use Rattle.setl_tree.specs.declared.mode.ReprLine.TheVariants as rl
use Rattle.setl_tree.specs.declared.stmt.Stmt.{Stmt}
use Rattle.setl_tree.specs.declared.tree.Declared.{Declared}
use Rattle.setl_tree.specs.declared.tree.Param.{Param}
use Rattle.setl_tree.specs.declared.tree.Proc.{Proc}
use Rattle.setl_tree.specs.declared.tree.Tree.{Tree}
use Rattle.setl_tree.specs.Tokens.{Tokens}
use Rattle.setl_tree.specs.Canonical.{stmt_tokens, core_step, mode_step, mode_tokens, attribute_kind, with_attribute, declared_tokens, colon_tokens, line_tokens, repr_tokens, passing_kind, param_tokens, proc_tokens, var_tokens, canonical}
use Rattle.setl_show.specs.Parts.{core_tokens}
use Rattle.setl_show.specs.Text.{text_of}
use Rattle.setl_show_laws.specs.Lines.{bare_stmt, core_layer, mode_layer, bare_mode, bare_declared, bare_line, bare_param, bare_proc, bare_tree, SameTree}
use Rattle.setl_show_laws.proofs.Alike.{Alike, same, joined, word, named, all_alike, commas_alike, stmt_alike}

-- ---- modes

abbrev bare_core : Core → Core
bare_core = fold-Core Core WrittenMode core_layer mode_layer

abbrev CoreAlike : Core → Type 0
CoreAlike x = (l m : ℕ) → Alike (core_tokens x l) (core_tokens (bare_core x) m)

abbrev ModeAlike : WrittenMode → Type 0
ModeAlike x = Alike (mode_tokens x) (mode_tokens (bare_mode x))

-- one layer with its tokens, and the same layer with all lines 0
abbrev core_shown : Core-F Core WrittenMode → ℕ → Tokens
core_shown x = core_step (map-Core Core WrittenMode (ℕ → Tokens) Tokens core_tokens mode_tokens x)

abbrev core_bared : Core-F Core WrittenMode → Core-F Core WrittenMode
core_bared x = map-Core Core WrittenMode Core WrittenMode bare_core bare_mode x

core_is : (x : Core-F Core WrittenMode) → core_tokens (roll-Core x) ≡ core_shown x
core_is x = fold-roll-Core (ℕ → Tokens) Tokens core_step mode_step x

bare_core_is : (x : Core-F Core WrittenMode) → bare_core (roll-Core x) ≡ core_layer (core_bared x)
bare_core_is x = fold-roll-Core Core WrittenMode core_layer mode_layer x

core_from : (x bare : Core-F Core WrittenMode) → core_layer (core_bared x) ≡ roll-Core bare → ((l m : ℕ) → Alike (core_shown x l) (core_shown bare m)) → CoreAlike (roll-Core x)
core_from x bare e h l m =
    let whole : core_tokens (bare_core (roll-Core x)) ≡ core_shown bare = ap core_tokens (bare_core_is x ∙ e) ∙ core_is bare in
    record { text = (λ i. text_of (core_is x i l)) ∙ (h l m).text ∙ sym (λ i. text_of (whole i m)) }

mode_is : (x : WrittenMode-F Core WrittenMode) → mode_tokens (roll-WrittenMode x) ≡ with_attribute x.line x.attribute (core_tokens x.core)
mode_is x = fold-roll-WrittenMode (ℕ → Tokens) Tokens core_step mode_step x

attribute_alike : (l m : ℕ) (a : Option Attribute) (f g : ℕ → Tokens) → ((l m : ℕ) → Alike (f l) (g m)) → Alike (with_attribute l a f) (with_attribute m a g)
attribute_alike l m None f g h = h l m
attribute_alike l m (Some a) f g h = word (attribute_kind a) l m (h 0 0)

-- a layer whose parts are alike
module _ (C M : Type 0) (core : C → Core) (mode : M → WrittenMode) (hc : (x : C) → CoreAlike (core x)) (hm : (x : M) → ModeAlike (mode x)) where
  abbrev of_core : Core-F C M → Core-F Core WrittenMode
  of_core y = map-Core C M Core WrittenMode core mode y

  -- a layer without a line of its own
  core_alone : (y : Core-F C M) → core_layer (core_bared (of_core y)) ≡ roll-Core (core_bared (of_core y)) → ((l m : ℕ) → Alike (core_shown (of_core y) l) (core_shown (core_bared (of_core y)) m)) → CoreAlike (roll-Core (of_core y))
  core_alone y e h = core_from (of_core y) (core_bared (of_core y)) e h

  core_alike_layer : (y : Core-F C M) → CoreAlike (roll-Core (of_core y))
  core_alike_layer (Core-F.Elmt line b) = core_from (Core-F.Elmt line b) (Core-F.Elmt 0 b) (sym (co.rolls-Elmt 0 b)) (λ l m. record { text = refl })
  core_alike_layer (Core-F.Set d) = core_alone (Core-F.Set d) refl (λ l m. word k.Set l m (word k.LeftParen 0 0 (joined (hm d) same)))
  core_alike_layer (Core-F.Tuple d) = core_alone (Core-F.Tuple d) refl (λ l m. word k.Tuple l m (word k.LeftParen 0 0 (joined (hm d) same)))
  core_alike_layer (Core-F.Smap d r) = core_alone (Core-F.Smap d r) refl (λ l m. word k.Smap l m (word k.LeftParen 0 0 (joined (hm d) (word k.RightParen 0 0 (hm r)))))
  core_alike_layer (Core-F.Mmap d r) = core_alone (Core-F.Mmap d r) refl (λ l m. word k.Mmap l m (word k.LeftBrace 0 0 (joined (hm d) (word k.RightBrace 0 0 (hm r)))))
  core_alike_layer y = core_alone y refl (λ l m. record { text = refl })

  mode_alike_layer : (y : WrittenMode-F C M) → ModeAlike (roll-WrittenMode (map-WrittenMode C M Core WrittenMode core mode y))
  mode_alike_layer y =
      let x = map-WrittenMode C M Core WrittenMode core mode y in
      let bare : mode_tokens (bare_mode (roll-WrittenMode x)) ≡ with_attribute 0 y.attribute (core_tokens (bare_core (core y.core))) =
      ap mode_tokens (fold-roll-WrittenMode Core WrittenMode core_layer mode_layer x) ∙ mode_is (record { line = 0; attribute = y.attribute; core = bare_core (core y.core) }) in
      record { text = ap text_of (mode_is x) ∙ (attribute_alike y.line 0 y.attribute (core_tokens (core y.core)) (core_tokens (bare_core (core y.core))) (hc y.core)).text ∙ sym (ap text_of bare) }

mode_alike : (x : WrittenMode) → ModeAlike x
mode_alike = ind-WrittenMode CoreAlike ModeAlike
    (λ x y e. subst (λ z. CoreAlike (roll-Core z)) e (core_alike_layer _ _ (λ p. p.0) (λ p. p.0) (λ p. p.1) (λ p. p.1) y))
    (λ x y e. subst (λ z. ModeAlike (roll-WrittenMode z)) e (mode_alike_layer _ _ (λ p. p.0) (λ p. p.0) (λ p. p.1) (λ p. p.1) y))

-- ---- declarations

declared_alike : (x : Declared) → Alike (declared_tokens x) (declared_tokens (bare_declared x))
declared_alike x = record { text = refl }

colon_alike : (m : Option WrittenMode) → Alike (colon_tokens m) (colon_tokens (option_map bare_mode m))
colon_alike None = same
colon_alike (Some m) = word k.Colon 0 0 (mode_alike m)

line_alike : (x : ReprLine) → Alike (line_tokens x) (line_tokens (bare_line x))
line_alike (rl.Base line xs m) = word k.Base line 0 (joined (commas_alike Declared declared_tokens bare_declared declared_alike xs) (joined (colon_alike m) same))
line_alike (rl.Variables line xs m) = joined (commas_alike Declared declared_tokens bare_declared declared_alike xs) (word k.Colon 0 0 (joined (mode_alike m) same))

repr_alike : (xs : List ReprLine) → Alike (repr_tokens xs) (repr_tokens (map bare_line xs))
repr_alike [] = same
repr_alike (x ∷ xs) = word k.Repr 0 0 (joined (all_alike ReprLine line_tokens bare_line line_alike (x ∷ xs)) same)

var_alike : (xs : List Declared) → Alike (var_tokens xs) (var_tokens (map bare_declared xs))
var_alike [] = same
var_alike (x ∷ xs) = word k.Var 0 0 (joined (commas_alike Declared declared_tokens bare_declared declared_alike (x ∷ xs)) same)

-- ---- programs

param_alike : (x : Param) → Alike (param_tokens x) (param_tokens (bare_param x))
param_alike x = word (passing_kind x.passing) x.line 0 same

proc_alike : (x : Proc) → Alike (proc_tokens x) (proc_tokens (bare_proc x))
proc_alike x = word k.Proc x.line 0 (named x.name 0 0 (word k.LeftParen 0 0 (joined (commas_alike Param param_tokens bare_param param_alike x.params)
    (word k.RightParen 0 0 (word k.Semicolon 0 0 (joined (all_alike Stmt stmt_tokens bare_stmt stmt_alike x.body) (word k.End x.end_line 0 same)))))))

tree_alike : (t : Tree) → Alike (canonical t) (canonical (bare_tree t))
unfolding canonical
tree_alike t = word k.Program 0 0 (named t.name 0 0 (word k.Semicolon 0 0 (joined (var_alike t.vars) (joined (repr_alike t.modes)
    (joined (all_alike Stmt stmt_tokens bare_stmt stmt_alike t.body) (joined (all_alike Proc proc_tokens bare_proc proc_alike t.procs) (word k.End t.end_line 0 same)))))))

pub same_text : (t u : Tree) → SameTree t u → text_of (canonical t) ≡ text_of (canonical u)
same_text t u h = (tree_alike t).text ∙ ap (λ z. text_of (canonical z)) h ∙ sym (tree_alike u).text
