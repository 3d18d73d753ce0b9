-- What a statement is, as plain data, and the code of its parts.
use Rattle.std.specs.Prelude.{◌≡◌, ℕ, suc, List, [], ◌∷◌, ◌++◌, map}
use Rattle.setl_program.specs.declared.stmt.StmtKind.{StmtKind, fold-StmtKind}
use Rattle.setl_program.specs.Program as plain
use Rattle.setl_program.specs.code.Plain.{plain_expr, plain_block, plain_branch, otherwise, kind_step, branch_step, stmt_step}
use Rattle.setl_program.specs.declared.stmt.Branch.{Branch, out-Branch}
use Rattle.setl_program.specs.declared.stmt.Selector.{Selector}
use Rattle.setl_program.specs.declared.stmt.Selector.TheVariants as s
use Rattle.setl_code.specs.Code.{Bracket, InRound, InBrace, Unless, Jump}
use Rattle.setl_code.specs.Piece.{Laid, ◌⨾◌, one, over, going_on}
use Rattle.setl_code.specs.Generated.{expr, block}
use Rattle.setl_gen_emitter.specs.declared.hole.Hole.{Hole}
use Rattle.setl_gen_emitter.specs.Emitted.{Emitted, here, hole, after, closed}

abbrev pub plain_kind : StmtKind → plain.Stmt
plain_kind = fold-StmtKind plain.Stmt (plain.Block → plain.Block) (ℕ × plain.Stmt) kind_step branch_step stmt_step

-- a condition with the statements that it guards, and the jump over the others, which has no target yet
abbrev pub guarded : (leaves line : ℕ) → plain.Expr → plain.Block → Laid
guarded leaves line c b = expr line c ⨾ over line Unless (block leaves b ⨾ one line (Jump 0))

-- the statements of a loop, from which it goes on at a place
abbrev pub looped : (line place leaves : ℕ) → plain.Block → Laid
looped line place leaves b = going_on place (block leaves b) ⨾ one line (Jump place)

abbrev pub selector_code : ℕ → Selector → Laid
selector_code line (s.Round e) = expr line (plain_expr e)
selector_code line (s.Brace e) = expr line (plain_expr e)

abbrev pub bracket_of : Selector → Bracket
bracket_of (s.Round e) = InRound
bracket_of (s.Brace e) = InBrace

-- A condition was tested, with the statements that it guards, and the jump over the others is among those that have no
-- target yet.
abbrev pub IsGuarded : (leaves line : ℕ) → plain.Expr → plain.Block → Emitted → List Hole → Emitted → List Hole → Type 0
IsGuarded leaves line c b old overs new more =
    (at : ℕ) × (suc at ≡ here new) × (new ≡ after (guarded leaves line c b) old) × (more ≡ overs ++ hole at line ∷ [])

abbrev pub IsBranch : (leaves : ℕ) → Branch → Emitted → List Hole → Emitted → List Hole → Type 0
IsBranch leaves b old overs new more =
    IsGuarded leaves (out-Branch b).line (plain_expr (out-Branch b).condition) (plain_block (out-Branch b).body) old overs new more

-- Whatever comes behind them, once the jumps are closed it is what stands behind the `else` before them.
abbrev pub AreBranches : (leaves : ℕ) → List Branch → Emitted → List Hole → Emitted → List Hole → Type 0
AreBranches leaves branches old overs new more =
    (last : plain.Block) → closed more (after (block leaves last) new) ≡ closed overs (after (block leaves (otherwise (map plain_branch branches) last)) old)
