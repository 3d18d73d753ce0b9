-- The code of a program may run.
use Rattle.std.proofs.Common.{ℕ, suc, List, [], ◌∷◌, map, sym, ap, subst}
use Rattle.setl_program.specs.Program.{Procedure, Program}
use Rattle.setl_program.specs.Placed.{PlacedProcedures, Placed}
use Rattle.setl_code.specs.Piece.{no_loop}
use Rattle.setl_code.specs.Generated.{main_code, procedure_code}
use Rattle.setl_code.specs.CodeOf.{main_body, procedure_body}
use Rattle.setl_code.specs.MayRun.{Differ}
use Rattle.setl_code_may_run.specs.Claims.{CodeMayRun}
use Rattle.setl_code_may_run.proofs.Pieces.{steps_placed}
use Rattle.setl_code_may_run.proofs.Statements.{main_placed, procedure_placed}
use Rattle.setl_code_may_run.proofs.Names.{globals_differ, own_differ}
use Rattle.setl_code_may_run.proofs.Slots.{PlacedBodies, bodies_fit}

procedures_placed : (vars : List (List ℕ)) (n : ℕ) (ps : List Procedure) → PlacedProcedures vars ps → PlacedBodies vars n (map procedure_body ps)
procedures_placed vars n [] g = tt
procedures_placed vars n (p ∷ ps) g = (
  own_differ n p.parameters p.body g.0,
  steps_placed vars (procedure_code p.end_line p.body 0) no_loop (procedure_placed vars p.end_line p.body g.1),
  procedures_placed vars (suc n) ps g.2,
)

bodies_placed : (p : Program) → Placed p → PlacedBodies p.vars 0 (main_body p ∷ map procedure_body p.procedures)
bodies_placed p g = (
  own_differ 0 [] p.main tt,
  steps_placed p.vars (main_code p.end_line p.main 0) no_loop (main_placed p.vars p.end_line p.main g.1),
  procedures_placed p.vars 1 p.procedures g.2,
)

pub code_may_run : CodeMayRun
code_may_run p c g same = (
  subst Differ (sym (ap (λ d. d.vars) same)) (globals_differ p.vars g.0),
  bodies_fit p.vars c.vars 0 c.bodies (subst (λ bs. PlacedBodies p.vars 0 bs) (sym (ap (λ d. d.bodies) same)) (bodies_placed p g)),
)
