-- Trees and tokens whatever their lines.
use Rattle.std.specs.Prelude.{◌≡◌, [], ◌∷◌, map, option_map}
use Rattle.setl_tree.specs.declared.mode.Core.{Core, roll-Core}
use Rattle.setl_tree.specs.declared.mode.Core.TheVariants as co
use Rattle.setl_tree.specs.declared.mode.Core.TheOpen.{Core-F, WrittenMode-F}
use Rattle.setl_tree.specs.declared.mode.WrittenMode.{WrittenMode, roll-WrittenMode, fold-WrittenMode}
use Rattle.setl_tree.specs.declared.mode.ReprLine.{ReprLine}
use Rattle.setl_tree.specs.declared.mode.ReprLine.TheVariants as rl
use Rattle.setl_tree.specs.declared.stmt.Branch.{Branch, roll-Branch, fold-Branch}
use Rattle.setl_tree.specs.declared.stmt.Stmt.{Stmt, roll-Stmt, fold-Stmt}
use Rattle.setl_tree.specs.declared.stmt.StmtKind.{StmtKind, roll-StmtKind, fold-StmtKind}
use Rattle.setl_tree.specs.declared.stmt.StmtKind.TheOpen.{Stmt-F}
use Rattle.setl_tree.specs.declared.tree.Declared.{Declared}
use Rattle.setl_tree.specs.declared.tree.Param.{Param}
use Rattle.setl_tree.specs.declared.tree.Proc.{Proc}
use Rattle.setl_tree.specs.declared.tree.Tree.{Tree}
use Rattle.setl_tree.specs.Tokens.{Token, Tokens}

-- ---- trees with all lines 0

abbrev pub stmt_layer : Stmt-F StmtKind Branch Stmt → Stmt
stmt_layer s = roll-Stmt (record { line = 0; kind = s.kind })

abbrev pub bare_stmt : Stmt → Stmt
bare_stmt = fold-Stmt StmtKind Branch Stmt roll-StmtKind roll-Branch stmt_layer

abbrev pub bare_kind : StmtKind → StmtKind
bare_kind = fold-StmtKind StmtKind Branch Stmt roll-StmtKind roll-Branch stmt_layer

abbrev pub bare_branch : Branch → Branch
bare_branch = fold-Branch StmtKind Branch Stmt roll-StmtKind roll-Branch stmt_layer

abbrev pub core_layer : Core-F Core WrittenMode → Core
core_layer (Core-F.Elmt line b) = co.Elmt 0 b
core_layer x = roll-Core x

abbrev pub mode_layer : WrittenMode-F Core WrittenMode → WrittenMode
mode_layer m = roll-WrittenMode (record { line = 0; attribute = m.attribute; core = m.core })

abbrev pub bare_mode : WrittenMode → WrittenMode
bare_mode = fold-WrittenMode Core WrittenMode core_layer mode_layer

abbrev pub bare_declared : Declared → Declared
bare_declared d = record { line = 0; name = d.name }

abbrev pub bare_line : ReprLine → ReprLine
bare_line (rl.Base line xs m) = rl.Base 0 (map bare_declared xs) (option_map bare_mode m)
bare_line (rl.Variables line xs m) = rl.Variables 0 (map bare_declared xs) (bare_mode m)

abbrev pub bare_param : Param → Param
bare_param p = record { passing = p.passing; name = p.name; line = 0 }

abbrev pub bare_proc : Proc → Proc
bare_proc p = record { line = 0; name = p.name; params = map bare_param p.params; body = map bare_stmt p.body; end_name = p.end_name; end_line = 0 }

abbrev pub bare_tree : Tree → Tree
bare_tree t = record {
  name = t.name;
  vars = map bare_declared t.vars;
  modes = map bare_line t.modes;
  body = map bare_stmt t.body;
  procs = map bare_proc t.procs;
  end_name = t.end_name;
  end_line = 0;
}

-- the trees are the same up to lines
abbrev pub SameTree : Tree → Tree → Type 0
SameTree t u = bare_tree t ≡ bare_tree u

-- ---- tokens

pub record SameToken (t u : Token) : Type 0 where
  pub kind : t.kind ≡ u.kind
  pub text : t.text ≡ u.text
  pub value : t.value ≡ u.value

-- the tokens are the same up to lines
abbrev pub SameTokens : Tokens → Tokens → Type 0
SameTokens [] [] = Unit {0}
SameTokens [] (u ∷ us) = ⊥
SameTokens (t ∷ ts) [] = ⊥
SameTokens (t ∷ ts) (u ∷ us) = SameToken t u × SameTokens ts us
