-- The program of an accepted tree is formed and placed.
use Rattle.std.proofs.Common.{◌≡◌, ℕ, suc, ◌+◌, Bool, true, false, true≢false, cond, List, [], ◌∷◌, ◌++◌, map, slice_get, Option, Some, is_some, option_map, unwrap_or, refl, sym, ap, subst, ◌∙◌, bytes_eq, add-zero, zero-add, arith}
use Rattle.setl_tree.specs.declared.tree.Param.{Param}
use Rattle.setl_tree.specs.declared.tree.Proc.{Proc}
use Rattle.setl_tree.specs.declared.tree.Tree.{Tree}
use Rattle.setl_tree.specs.declared.stmt.Stmt.{Stmt}
use Rattle.setl_names.specs.declared.around.Around.{Around as Spot}
use Rattle.setl_names.specs.Names.{Name as Word}
use Rattle.setl_names.specs.Bodies.{main_body, proc_body, bodies, occurrences}
use Rattle.setl_names.specs.Heads.{rule_1}
use Rattle.setl_names.specs.Breaks.{broken, breaks, head_breaks, proc_breaks, var_breaks, list_breaks, param_breaks, body_breaks, all_body_breaks}
use Rattle.setl_names.specs.Procedures.{found_from, found_procedure}
use Rattle.setl_names.specs.Statements as ns
use Rattle.setl_names.specs.Variables.{var_names}
use Rattle.setl_program.specs.Program.{Arguments, Procedure}
use Rattle.setl_program.specs.Formed.{PassedAs, Passed, FormedProcedures, Formed}
use Rattle.setl_program.specs.Placed.{PlacedProcedures, Placed}
use Rattle.setl_program.specs.Updating.{UpdatingProcedures, Updating}
use Rattle.setl_program.specs.Scope.{Scope}
use Rattle.setl_program.specs.Statements as qs
use Rattle.setl_program.specs.ProgramOf.{main_scope, in_body, parameter_of, procedures_from, program_of}
use Rattle.setl_program_laws.specs.Claims.{IsAccepted, AcceptedIsFormed, AcceptedIsPlaced, AcceptedIsUpdating}
use Rattle.setl_program_laws.proofs.Kept.{Kept, kept, no_first, no_second}
use Rattle.setl_program_laws.proofs.Heads.{has_in_order, params_differ, vars_differ, no_breaks}
use Rattle.setl_program_laws.proofs.Languages.{Each}
use Rattle.setl_program_laws.proofs.Fine.{Context, Within}
use Rattle.setl_program_laws.proofs.Statements.{FineBlock, InBody, block_fine, statements_fine}
use Rattle.setl_program_laws.proofs.StatementTrees.{all_stmts}
use Rattle.setl_program_laws.proofs.GrammarOfPrograms.{GoodBody, GoodProc, GoodTree, program_keeps}

-- ---- procedures by their names

-- The procedure at the place that is found passes what its parameters take; `first` is the place of the first.
record Found (s : Scope) (m first : ℕ) (procs : List Proc) (k : ℕ) (params : List Param) : Type 0 where
  pub behind : ℕ
  pub place : k ≡ first + behind
  pub passes : (all : Arguments) → PassedAs (map parameter_of params) all → Passed (slice_get (procedures_from s m procs) behind) all

found_at : (s : Scope) (m first : ℕ) (procs : List Proc) (f : Word) (k : ℕ) (params : List Param) → found_from first procs f ≡ Some (k, params) → Found s m first procs k params
found_at s m first [] f k params h = absurd (true≢false (sym (ap is_some h)))
found_at s m first (p ∷ procs) f k params h = by (bytes_eq f p.name) h (found_at s (suc m) (suc first) procs f k params)
  where
    by : (b : Bool) → cond b (Some (first, p.params)) (found_from (suc first) procs f) ≡ Some (k, params) → (found_from (suc first) procs f ≡ Some (k, params) → Found s (suc m) (suc first) procs k params) → Found s m first (p ∷ procs) k params
    by true g later =
        let place : first ≡ k = ap (λ (o : Option (ℕ × List Param)). unwrap_or (option_map (λ (r : ℕ × List Param). r.0) o) 0) g in
        let same : p.params ≡ params = ap (λ (o : Option (ℕ × List Param)). unwrap_or (option_map (λ (r : ℕ × List Param). r.1) o) []) g in
        record { behind = 0; place = sym place ∙ sym (add-zero first); passes = λ all h. subst (λ (ps : List Param). PassedAs (map parameter_of ps) all) (sym same) h }
    by false g later =
        let there = later g in
        let next : suc first + there.behind ≡ first + suc there.behind = omega arith in
        record { behind = suc there.behind; place = there.place ∙ next; passes = there.passes }

passes_found : (s : Scope) (procs : List Proc) (f : Word) (k : ℕ) (params : List Param) → found_procedure procs f ≡ Some (k, params) → (all : Arguments) → PassedAs (map parameter_of params) all → Passed (slice_get (procedures_from s 1 procs) k) all
passes_found s procs f k params h all g =
    let there = found_at s 1 0 procs f k params h in
    subst (λ (at : ℕ). Passed (slice_get (procedures_from s 1 procs) at) all) (sym (there.place ∙ zero-add there.behind)) (there.passes all g)

-- ---- bodies

module _ (t : Tree) where
  -- the body of this number
  abbrev body_context : ℕ → Context
  body_context m = record {
    around = record { body = m; procedures = procedures_from (main_scope t) 1 t.procs };
    vars = var_names t.vars;
    procs = t.procs;
    passes = passes_found (main_scope t) t.procs;
  }

  within_main : Within (body_context 0) (main_scope t)
  within_main = record { body = refl; procedures = refl; vars = has_in_order (var_names t.vars); formers = tt }

  within_body : (m : ℕ) (ps : List Param) → Within (body_context m) (in_body m ps (main_scope t))
  within_body m ps = record { body = refl; procedures = refl; vars = has_in_order (var_names t.vars); formers = tt }

  abbrev spot : Bool → Spot
  spot b = record { in_loop = false; in_procedure = b }

  in_main : InBody (body_context 0) (spot false)
  in_main = record { is = λ h. absurd (true≢false (sym h)) }

  in_procedure : (m : ℕ) → InBody (body_context (suc m)) (spot true)
  in_procedure m = record { is = λ h. tt }

  body_fine : (m : ℕ) (b : Bool) (body : List Stmt) → GoodBody body → Kept t.procs (ns.told body (spot b)) → InBody (body_context m) (spot b) → (s : Scope) → Within (body_context m) s → FineBlock (body_context m) false (qs.body_of body s)
  body_fine m b body good k i s w =
      block_fine (qs.statements (map qs.lined body) s 0).0
      (statements_fine {c = body_context m} (map ns.stmt_told body) (map qs.lined body) (all_stmts (body_context m) body (good (body_context m))) (spot b) k i s w 0)

  record FineProcedures (m : ℕ) (ps : List Procedure) : Type 0 where
    pub formed : FormedProcedures (procedures_from (main_scope t) 1 t.procs) m ps
    pub placed : PlacedProcedures (var_names t.vars) ps
    pub updating : UpdatingProcedures ps

  procedures_fine : (m : ℕ) (ps : List Proc) → Each GoodProc ps → param_breaks t.procs ps ≡ [] → all_body_breaks t.procs (map proc_body ps) ≡ [] → FineProcedures (suc m) (procedures_from (main_scope t) (suc m) ps)
  procedures_fine m [] good params inner = record { formed = tt; placed = tt; updating = tt }
  procedures_fine m (p ∷ ps) good params inner =
      let k = kept t.procs (occurrences (proc_body p)) (no_first (body_breaks t.procs (proc_body p)) (all_body_breaks t.procs (map proc_body ps)) inner) in
      let here = body_fine (suc m) true p.body good.0 k (in_procedure m) (in_body (suc m) p.params (main_scope t)) (within_body (suc m) p.params) in
      let differ = params_differ t.procs p.params (no_first (list_breaks t.procs p.params) (param_breaks t.procs ps) params) in
      let rest = procedures_fine (suc m) ps good.1 (no_second (list_breaks t.procs p.params) (param_breaks t.procs ps) params) (no_second (body_breaks t.procs (proc_body p)) (all_body_breaks t.procs (map proc_body ps)) inner) in
      record { formed = (here.formed, rest.formed); placed = (differ, here.placed, rest.placed); updating = (here.updating, rest.updating) }

  record FineProgram : Type 0 where
    pub formed : Formed (program_of t)
    pub placed : Placed (program_of t)
    pub updating : Updating (program_of t)

  whole : GoodTree t → breaks t ≡ [] → FineProgram
  whole good none =
      let heads = no_first (head_breaks t) (all_body_breaks t.procs (bodies t)) none in
      let inner = no_second (head_breaks t) (all_body_breaks t.procs (bodies t)) none in
      let later = no_second (proc_breaks t.name t.procs) (var_breaks t.procs t.vars ++ param_breaks t.procs t.procs) (no_second (broken t.end_line 1 (rule_1 t)) _ heads) in
      let k = kept t.procs (occurrences (main_body t)) (no_first (body_breaks t.procs (main_body t)) (all_body_breaks t.procs (map proc_body t.procs)) inner) in
      let main = body_fine 0 false t.body good.0 k in_main (main_scope t) within_main in
      let procs = procedures_fine 0 t.procs good.1 (no_second (var_breaks t.procs t.vars) (param_breaks t.procs t.procs) later) (no_second (body_breaks t.procs (main_body t)) (all_body_breaks t.procs (map proc_body t.procs)) inner) in
      record {
        formed = (main.formed, procs.formed);
        placed = (vars_differ t.procs t.vars (no_first (var_breaks t.procs t.vars) (param_breaks t.procs t.procs) later), main.placed, procs.placed);
        updating = (main.updating, procs.updating);
      }

accepted : (t : Tree) → IsAccepted t → FineProgram t
accepted t h = whole t ((program_keeps h.derived.0).at h.tokens t h.derived.1) (no_breaks (breaks t) h.sound)

pub accepted_is_formed : AcceptedIsFormed
accepted_is_formed t h = (accepted t h).formed

pub accepted_is_placed : AcceptedIsPlaced
accepted_is_placed t h = (accepted t h).placed

pub accepted_is_updating : AcceptedIsUpdating
accepted_is_updating t h = (accepted t h).updating
