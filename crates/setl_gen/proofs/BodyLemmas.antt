-- Own names, and bodies.
use Rattle.std.proofs.Common.{◌≡◌, ℕ, suc, ◌+◌, ◌<◌, List, [], ◌∷◌, ◌++◌, drop, length, map, refl, ap, sym, subst, ◌∙◌, append_assoc, None, arith}
use Rattle.std.proofs.Math.ListN.{get_or}
use Rattle.std.specs.Prelude.{Result, Ok, Err, IfOk, OnOk}
use Rattle.setl_tree.specs.declared.tree.Param.{Param}
use Rattle.setl_model_runs.specs.Variable.{Variable, Global, Own}
use Rattle.setl_program.specs.declared.stmt.Stmt.{Stmt}
use Rattle.setl_program.specs.declared.program.Procedure.{Procedure}
use Rattle.setl_program.specs.declared.program.Program.{Program}
use Rattle.setl_program.specs.Program.{Block}
use Rattle.setl_program.specs.ProgramOf.{parameter_of}
use Rattle.setl_program.specs.code.Plain.{plain_block, plain_procedure, plain_program}
use Rattle.setl_code.specs.declared.code.OwnName.{OwnName}
use Rattle.setl_code.specs.declared.code.Step as rust_step
use Rattle.setl_code.specs.declared.code.Body as rust
use Rattle.setl_code.specs.Code as plain
use Rattle.setl_code.specs.Code.{Push, ReturnTop, StopRun}
use Rattle.setl_code.specs.CodeOf.{main_body, procedure_body, code_of}
use Rattle.setl_code.specs.Generated.{block, main_code, procedure_code}
use Rattle.setl_code.specs.Names.{in_block}
use Rattle.setl_code.specs.Piece.{Laid, one, no_loop, steps_of}
use Rattle.setl_code.specs.Plain.{plain_name, plain_step, plain_body, plain_bodies, plain_code}
use Rattle.setl_gen_emitter.specs.declared.hole.Hole.{Hole}
use Rattle.setl_gen_emitter.specs.Table.{Table, variables, all_noted}
use Rattle.setl_gen_emitter.specs.Emitted.{Emitted, after}
use Rattle.setl_gen.specs.Bodies.{table_of, blank, finished}
use Rattle.setl_gen_emitter.specs.TableLaws.{all_first}
use Rattle.setl_gen_emitter.specs.EmittedLaws.{then_made, then_two}
use Rattle.setl_gen_emitter.specs.Items.{drop_at}

-- ---- bodies

pub main_laid : (vars : List (List ℕ)) (p : Program) (ps : List Param) (ss : List Stmt) (s0 s1 s2 : Emitted) → ps ≡ [] → ss ≡ p.main → s0 ≡ blank (table_of vars 0 ps (plain_block ss)) → s1 ≡ after (block 0 (plain_block ss)) s0 → s2 ≡ after (one p.end_line StopRun) s1 → s2 ≡ after (main_code p.end_line (plain_block p.main)) (blank (table_of vars 0 [] (plain_block p.main)))
main_laid vars p ps ss s0 s1 s2 none same e0 e1 e2 =
    then_made (block 0 (plain_block ss)) (one p.end_line StopRun) s0 s1 s2 e1 e2
    ∙ ap (after (main_code p.end_line (plain_block ss))) (e0 ∙ ap (λ (ps : List Param). blank (table_of vars 0 ps (plain_block ss))) none)
    ∙ ap (λ (ss : List Stmt). after (main_code p.end_line (plain_block ss)) (blank (table_of vars 0 [] (plain_block ss)))) same

pub procedure_laid : (vars : List (List ℕ)) (n : ℕ) (p : Procedure) (ps : List Param) (ss : List Stmt) (s0 s1 s2 s3 : Emitted) → ps ≡ p.parameters → ss ≡ p.body → s0 ≡ blank (table_of vars n ps (plain_block ss)) → s1 ≡ after (block 0 (plain_block ss)) s0 → s2 ≡ after (one p.end_line (Push None)) s1 → s3 ≡ after (one p.end_line ReturnTop) s2 → s3 ≡ after (procedure_code p.end_line (plain_block p.body)) (blank (table_of vars n p.parameters (plain_block p.body)))
procedure_laid vars n p ps ss s0 s1 s2 s3 its same e0 e1 e2 e3 =
    then_two (block 0 (plain_block ss)) (one p.end_line (Push None)) (one p.end_line ReturnTop) s0 s1 s2 s3 e1 e2 e3
    ∙ ap (after (procedure_code p.end_line (plain_block ss))) (e0 ∙ ap (λ (ps : List Param). blank (table_of vars n ps (plain_block ss))) its)
    ∙ ap (λ (ss : List Stmt). after (procedure_code p.end_line (plain_block ss)) (blank (table_of vars n p.parameters (plain_block ss)))) same

abbrev body_of : (vars : List Variable) (n : ℕ) → List ℕ → List Param → List OwnName → List rust_step.Step → plain.Body
body_of vars n name ps names steps = plain_body vars n (record { name = name; parameters = ps; names = names; steps = steps })

pub finished_is : (t : Table) (name copy : List ℕ) (ps : List Param) (names : List OwnName) (steps : List rust_step.Step) (s : Emitted) → copy ≡ name → ps ≡ t.parameters → map (plain_name t.body) names ≡ t.names → s.steps ≡ map (plain_step (variables t)) steps → body_of (map Global t.vars) t.body copy ps names steps ≡ finished name t s
finished_is t name copy ps names steps s same e f g =
    ap (λ (text : List ℕ). body_of (map Global t.vars) t.body text ps names steps) same
    ∙ ap (λ (qs : List Param). body_of (map Global t.vars) t.body name qs names steps) e
    ∙ ap (λ (xs : List Variable). record { name = name; parameters = map parameter_of t.parameters; names = xs; steps = map (plain_step (record { global = map Global t.vars; own = map (λ p. Own t.body p.name) t.parameters ++ xs })) steps }) f
    ∙ ap (λ (r : List plain.Step). record { name = name; parameters = map parameter_of t.parameters; names = t.names; steps = r }) (sym g)

pub bodies_more : (vars : List Variable) (n : ℕ) (bs : List rust.Body) (b : rust.Body) → plain_bodies vars n (bs ++ b ∷ []) ≡ plain_bodies vars n bs ++ plain_body vars (n + length bs) b ∷ []
bodies_more vars n [] b = ap (λ m. plain_body vars m b ∷ []) (omega arith)
bodies_more vars n (x ∷ bs) b =
    ap (λ r. plain_body vars n x ∷ r) (bodies_more vars (suc n) bs b ∙ ap (λ m. plain_bodies vars (suc n) bs ++ plain_body vars m b ∷ []) (omega arith))

-- ---- how a body is begun and ended

pub table_made : (t0 t1 t2 : Table) (body : ℕ) (ps : List Param) (b : Block) (none found xs : List Variable) → t1 ≡ record { body = body; vars = t0.vars; parameters = ps; names = [] } → none ≡ [] → found ≡ none ++ in_block b → xs ≡ found → t2 ≡ all_noted xs t1 → t2 ≡ table_of t0.vars body ps b
table_made t0 t1 t2 body ps b none found xs began empty more same all =
    let t : Table = record { body = body; vars = t0.vars; parameters = ps; names = [] } in
    all ∙ ap (all_noted xs) began
    ∙ ap (λ (xs : List Variable). all_noted xs t) (same ∙ more ∙ ap (λ (none : List Variable). none ++ in_block b) empty)
    ∙ ap (λ (names : List Variable). record { body = body; vars = t0.vars; parameters = ps; names = names }) (all_first ps [] [] (in_block b) (λ x. refl))

pub blank_made : (t2 t : Table) (steps : List rust_step.Step) (exits : List Hole) → t2 ≡ t → steps ≡ [] → exits ≡ [] → record { table = t2; again = 0; steps = map (plain_step (variables t2)) steps; exits = exits } ≡ blank t
blank_made t2 t steps exits h e f =
    let made : List rust_step.Step → List Hole → Emitted = λ (steps : List rust_step.Step) (exits : List Hole). record { table = t2; again = 0; steps = map (plain_step (variables t2)) steps; exits = exits } in
    ap (λ (steps : List rust_step.Step). made steps exits) e ∙ ap (λ (exits : List Hole). made [] exits) f ∙ ap (λ (t : Table). blank t) h

-- a body whose code is there
module _ (t : Table) (a : Laid) (name : List ℕ) (s : Emitted) (is : s ≡ after a (blank t)) where
  table_is : s.table ≡ t
  unfolding after
  table_is = ap (λ (s : Emitted). s.table) is

  steps_are : s.steps ≡ steps_of no_loop (a 0)
  unfolding after
  steps_are = ap (λ (s : Emitted). s.steps) is

  body_is : (b : rust.Body) → plain_body (map Global s.table.vars) s.table.body b ≡ finished name s.table s → plain_body (map Global t.vars) t.body b ≡ record { name = name; parameters = map parameter_of t.parameters; names = t.names; steps = steps_of no_loop (a 0) }
  body_is b h =
      subst (λ (t : Table). plain_body (map Global t.vars) t.body b ≡ finished name t s) table_is h
      ∙ ap (λ (steps : List plain.Step). record { name = name; parameters = map parameter_of t.parameters; names = t.names; steps = steps }) steps_are

  pub body_made : {E : Type 0} (r : Result rust.Body E) → IfOk r (λ b. plain_body (map Global s.table.vars) s.table.body b ≡ finished name s.table s) → IfOk r (λ b. plain_body (map Global t.vars) t.body b ≡ record { name = name; parameters = map parameter_of t.parameters; names = t.names; steps = steps_of no_loop (a 0) })
  body_made (Ok b) h = body_is b h
  body_made (Err e) h = tt

  pub vars_kept : {A E : Type 0} (r : Result A E) (u : Table) → u ≡ s.table → OnOk r (u.vars ≡ t.vars)
  vars_kept (Ok x) u e = ap (λ (t : Table). t.vars) (e ∙ table_is)
  vars_kept (Err x) u e = tt

-- ---- a round of the loop over procedures

pub procedures_round : (vars vars1 : List (List ℕ)) (ps : List Procedure) (k : ℕ) (p : Procedure) (old more : List rust.Body) (n : ℕ) (b : rust.Body) → k < length ps → p ≡ get_or ps k p → n ≡ length old → vars1 ≡ vars → plain_body (map Global vars1) n b ≡ procedure_body (plain_procedure p) → more ≡ old ++ b ∷ [] → plain_bodies (map Global vars) 0 more ++ map procedure_body (map plain_procedure (drop (k + 1) ps)) ≡ plain_bodies (map Global vars) 0 old ++ map procedure_body (map plain_procedure (drop k ps))
procedures_round vars vars1 ps k p old more n b within read at same is grown =
    let all = map Global vars in
    let rest = map procedure_body (map plain_procedure (drop (k + 1) ps)) in
    let numbered : 0 + length old ≡ n = omega arith in
    ap (λ (bodies : List rust.Body). plain_bodies all 0 bodies ++ rest) grown
    ∙ ap (λ (bodies : List plain.Body). bodies ++ rest) (bodies_more all 0 old b)
    ∙ append_assoc (plain_bodies all 0 old) (plain_body all (0 + length old) b ∷ []) rest
    ∙ ap (λ (body : plain.Body). plain_bodies all 0 old ++ body ∷ rest) (ap (λ m. plain_body all m b) numbered ∙ ap (λ (vs : List (List ℕ)). plain_body (map Global vs) n b) (sym same) ∙ is)
    ∙ ap (λ (qs : List Procedure). plain_bodies all 0 old ++ map procedure_body (map plain_procedure qs)) (sym (drop_at ps k p within read))

-- ---- the code of a program

pub code_made : (p : Program) (v0 v1 vars : List (List ℕ)) (ps : List Procedure) (main : rust.Body) (none one all : List rust.Body) → v0 ≡ p.vars → v1 ≡ v0 → vars ≡ p.vars → ps ≡ p.procedures → none ≡ [] → one ≡ none ++ main ∷ [] → plain_body (map Global v0) 0 main ≡ main_body (plain_program p) → plain_bodies (map Global v1) 0 all ≡ plain_bodies (map Global v1) 0 one ++ map procedure_body (map plain_procedure ps) → plain_code (record { vars = vars; bodies = all }) ≡ code_of (plain_program p)
code_made p v0 v1 vars ps main none one all e0 e1 e2 e3 e4 e5 is more =
    let rest = map procedure_body (map plain_procedure ps) in
    let here : v1 ≡ p.vars = e1 ∙ e0 in
    let first : one ≡ main ∷ [] = e5 ∙ ap (λ (bodies : List rust.Body). bodies ++ main ∷ []) e4 in
    let bodies : plain_bodies (map Global p.vars) 0 all ≡ main_body (plain_program p) ∷ map procedure_body (map plain_procedure p.procedures) =
    subst (λ (vs : List (List ℕ)). plain_bodies (map Global vs) 0 all ≡ plain_bodies (map Global vs) 0 one ++ rest) here more
    ∙ ap (λ (bodies : List rust.Body). plain_bodies (map Global p.vars) 0 bodies ++ rest) first
    ∙ ap (λ (body : plain.Body). body ∷ rest) (subst (λ (vs : List (List ℕ)). plain_body (map Global vs) 0 main ≡ main_body (plain_program p)) e0 is)
    ∙ ap (λ (qs : List Procedure). main_body (plain_program p) ∷ map procedure_body (map plain_procedure qs)) e3 in
    ap (λ (vs : List (List ℕ)). plain_code (record { vars = vs; bodies = all })) e2
    ∙ ap (λ (bs : List plain.Body). record { vars = map Global p.vars; bodies = bs }) bodies
