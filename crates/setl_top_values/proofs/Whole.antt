-- The constants in the code of a source of bytes are values.
use Rattle.std.proofs.Common.{ℕ, suc, List, [], ◌∷◌, map}
use Rattle.std.specs.List.{AllByRecursion}
use Rattle.setl_tree.specs.declared.stmt.Stmt.{Stmt}
use Rattle.setl_tree.specs.declared.tree.Proc.{Proc}
use Rattle.setl_parse_cursor.specs.Plain.{plain_tokens}
use Rattle.setl_program.specs.ProgramOf.{main_scope, in_body, procedures_from}
use Rattle.setl_program.specs.Scope.{Scope}
use Rattle.setl_program.specs.Statements as qs
use Rattle.setl_code.specs.CodeOf.{procedure_body}
use Rattle.setl_code.specs.Generated.{main_code, procedure_code}
use Rattle.setl_code.specs.Piece.{no_loop}
use Rattle.setl_code_values.specs.Standing.{BodyStands}
use Rattle.setl_top_values.specs.Constants.{ConstantsAreValues}
use Rattle.setl_top_values.proofs.Literals.{tokens_stand}
use Rattle.setl_top_values.proofs.Languages.{Each}
use Rattle.setl_top_values.proofs.Standing.{BlockStands, block_stands}
use Rattle.setl_top_values.proofs.Statements.{statements_stand}
use Rattle.setl_top_values.proofs.StatementTrees.{GoodStmt, all_stmts}
use Rattle.setl_top_values.proofs.Programs.{GoodProc, program_keeps}
use Rattle.setl_top_values.proofs.Pieces.{steps_stand, main_stands, procedure_stands}

body_stands : (body : List Stmt) → Each GoodStmt body → (s : Scope) → BlockStands (qs.body_of body s)
body_stands body h s = block_stands (qs.statements (map qs.lined body) s 0).0 ((statements_stand (map qs.lined body) (all_stmts body h)).at s 0)

procedures_stand : (s : Scope) (n : ℕ) (ps : List Proc) → Each GoodProc ps → AllByRecursion BodyStands (map procedure_body (procedures_from s n ps))
procedures_stand s n [] h = tt
procedures_stand s n (p ∷ ps) h =
    let body = qs.body_of p.body (in_body n p.params s) in
    (steps_stand (procedure_code p.end_line body 0) no_loop (procedure_stands p.end_line body (body_stands p.body h.0 (in_body n p.params s))), procedures_stand s (suc n) ps h.1)

pub constants_are_values : ConstantsAreValues
constants_are_values source tree bytes is =
    let toks = plain_tokens (record { source = source; tokens = is.tokens }) in
    let good = (program_keeps is.derived.0).at toks tree is.derived.1 (record { all = tokens_stand source is.tokens bytes is.spelled }) in
    let main = qs.body_of tree.body (main_scope tree) in
    (steps_stand (main_code tree.end_line main 0) no_loop (main_stands tree.end_line main (body_stands tree.body good.0 (main_scope tree))), procedures_stand (main_scope tree) 1 tree.procs good.1)
