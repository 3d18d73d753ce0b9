-- The code of a derived program is linear in its tokens.
use Rattle.std.proofs.Common.{◌≡◌, ◌≤◌, ◌<◌, ◌^◌, ℕ, zero, suc, ◌+◌, ◌*◌, List, [], ◌∷◌, ◌++◌, map, length, length-append, slice_get, Some, subst, arith}
use Rattle.setl_tree.specs.declared.stmt.Stmt.{Stmt}
use Rattle.setl_tree.specs.declared.tree.Declared.{Declared}
use Rattle.setl_tree.specs.declared.tree.Proc.{Proc}
use Rattle.setl_tree.specs.declared.tree.Tree.{Tree}
use Rattle.setl_names.specs.Variables.{var_names}
use Rattle.setl_model_runs.specs.Variable.{Variable, Global}
use Rattle.setl_modes.specs.Modes.{Mode}
use Rattle.setl_modes.specs.Declarations as modes
use Rattle.setl_model.specs.Calls.{parameter}
use Rattle.setl_program.specs.Program.{Block, Parameter}
use Rattle.setl_program.specs.Scope.{Scope}
use Rattle.setl_program.specs.Statements as qs
use Rattle.setl_program.specs.ProgramOf.{main_scope, in_body, parameter_of, procedure_of_tree, procedures_from, declaration_of, program_of}
use Rattle.setl_code.specs.Code.{Body, Code}
use Rattle.setl_code.specs.Piece.{Piece, no_loop, steps_of}
use Rattle.setl_code.specs.Generated.{main_code, procedure_code}
use Rattle.setl_code.specs.CodeOf.{main_body, procedure_body, code_of}
use Rattle.setl_code.specs.CodeCore.{variables_of}
use Rattle.setl_code.specs.Names.{own_names}
use Rattle.setl_code.specs.Sound.{Few}
use Rattle.setl_code_few.specs.Claims.{Linear, declared_of, CodeIsLinear, CodeIsFew}
use Rattle.setl_code_few.proofs.Sizes.{block_size}
use Rattle.setl_code_few.proofs.Pieces.{Small, as_many}
use Rattle.setl_code_few.proofs.CodeStatements.{main_small, procedure_small}
use Rattle.setl_code_few.proofs.Occurring.{own_few}
use Rattle.setl_code_few.proofs.Languages.{Each, mapped}
use Rattle.setl_code_few.proofs.Statements.{LinedIn, body_in}
use Rattle.setl_code_few.proofs.StatementTrees.{GoodStmt}
use Rattle.setl_code_few.proofs.GrammarOfPrograms.{GoodProc, GoodTree, program_costs}

-- ---- lists

same_length : {A B : Type 0} (f : A → B) (xs : List A) → length (map f xs) ≤ length xs
same_length f [] = omega arith
same_length f (x ∷ xs) = let later = same_length f xs in omega (arith, later)

-- a body with at most nine steps for each of so many tokens, and at most as many variables
pub record LinearBody (n : ℕ) (b : Body) (tokens : ℕ) : Type 0 where
  pub steps : length b.steps ≤ 9 * tokens
  pub variables : length (variables_of n b) ≤ tokens

-- the bodies from this number on
abbrev LinearBodies : ℕ → List Body → ℕ → Type 0
LinearBodies n [] tokens = Unit {0}
LinearBodies n (b ∷ bs) tokens = LinearBody n b tokens × LinearBodies (suc n) bs tokens

-- the body at a place
linear_at : (n : ℕ) (bs : List Body) (tokens : ℕ) → LinearBodies n bs tokens → (m : ℕ) (b : Body) → slice_get bs m ≡ Some b → LinearBody (n + m) b tokens
linear_at n [] tokens h m b is = cc
linear_at n (c ∷ bs) tokens h zero b is =
    let same : c ≡ b = cc in
    let place : n ≡ n + 0 = omega arith in
    subst (λ k. LinearBody k b tokens) place (subst (λ d. LinearBody n d tokens) same h.0)
linear_at n (c ∷ bs) tokens h (suc m) b is =
    let place : suc n + m ≡ n + suc m = omega arith in
    subst (λ k. LinearBody k b tokens) place (linear_at (suc n) bs tokens h.1 m b is)

-- ---- bodies

block_in : (body : List Stmt) (n : ℕ) → Each GoodStmt body n → (s : Scope) → block_size (qs.body_of body s) ≤ n
block_in body n h s = body_in (map qs.lined body) n (mapped qs.lined LinedIn body n h) s 0

steps_few : (p : Piece) (n : ℕ) → Small p n → length (steps_of no_loop p) ≤ n
steps_few p n h =
    let same = as_many p no_loop in
    let less = h.at_most in
    omega (arith, same, less)

body_variables : (n : ℕ) (ps : List Parameter) (b : Block) {i j : ℕ} → length ps ≤ i → block_size b ≤ j → length (map (parameter n) ps ++ own_names ps b) ≤ i + j
body_variables n ps b few less =
    let own = own_few ps b in
    let params = same_length (parameter n) ps in
    let both = length-append (map (parameter n) ps) (own_names ps b) in
    omega (arith, few, less, own, params, both)

main_linear : (t : Tree) (n : ℕ) → GoodTree t n → LinearBody 0 (main_body (program_of t)) n
main_linear t n h =
    let b = qs.body_of t.body (main_scope t) in
    let less = block_in t.body h.inside h.body (main_scope t) in
    let fits = h.inside_fits in
    let steps : length (main_body (program_of t)).steps ≤ 9 * block_size b + 1 = steps_few (main_code t.end_line b 0) (9 * block_size b + 1) (main_small t.end_line b) in
    let params : List Parameter = [] in
    let none : length params ≤ 0 = omega arith in
    let variables : length (variables_of 0 (main_body (program_of t))) ≤ 0 + h.inside = body_variables 0 params b none less in
    record { steps = omega (arith, less, fits, steps); variables = omega (arith, fits, variables) }

procedure_linear : (s : Scope) (m : ℕ) (p : Proc) (i n : ℕ) → GoodProc p i → i ≤ n → LinearBody m (procedure_body (procedure_of_tree s m p)) n
procedure_linear s m p i n h le =
    let b = qs.body_of p.body (in_body m p.params s) in
    let less = block_in p.body h.inside h.body (in_body m p.params s) in
    let fits = h.fits in
    let steps : length (procedure_body (procedure_of_tree s m p)).steps ≤ 9 * block_size b + 2 = steps_few (procedure_code p.end_line b 0) (9 * block_size b + 2) (procedure_small p.end_line b) in
    let variables : length (variables_of m (procedure_body (procedure_of_tree s m p))) ≤ length p.params + h.inside = body_variables m (map parameter_of p.params) b (same_length parameter_of p.params) less in
    record { steps = omega (arith, less, fits, steps, le); variables = omega (arith, fits, variables, le) }

procedures_linear : (s : Scope) (m : ℕ) (ps : List Proc) (i n : ℕ) → Each GoodProc ps i → i ≤ n → LinearBodies m (map procedure_body (procedures_from s m ps)) n
procedures_linear s m [] i n h le = tt
procedures_linear s m (p ∷ ps) i n h le =
    let both = h.fits in
    (procedure_linear s m p h.one n h.first (omega (arith, both, le)), procedures_linear s (suc m) ps h.two n h.second (omega (arith, both, le)))

procedures_few : (s : Scope) (m : ℕ) (ps : List Proc) (n : ℕ) → Each GoodProc ps n → length (map procedure_body (procedures_from s m ps)) ≤ n
procedures_few s m [] n h = omega arith
procedures_few s m (p ∷ ps) n h =
    let here = h.first.fits in
    let later = procedures_few s (suc m) ps h.two h.second in
    let both = h.fits in
    omega (arith, here, later, both)

-- ---- code

bodies_linear : (t : Tree) (n : ℕ) → GoodTree t n → LinearBodies 0 (code_of (program_of t)).bodies n
bodies_linear t n h =
    let fits = h.others_fit in
    (main_linear t n h, procedures_linear (main_scope t) 1 t.procs h.others n h.procs (omega (arith, fits)))

at_place : (bs : List Body) (tokens : ℕ) → LinearBodies 0 bs tokens → (n : ℕ) (b : Body) → slice_get bs n ≡ Some b → (length b.steps ≤ 9 * tokens) × (length (variables_of n b) ≤ tokens)
at_place bs tokens h n b is =
    let place : 0 + n ≡ n = omega arith in
    let there = subst (λ k. LinearBody k b tokens) place (linear_at 0 bs tokens h n b is) in
    (there.steps, there.variables)

vars_few : (ds : List Declared) → length (map Global (var_names ds)) ≤ length ds
vars_few ds =
    let names = same_length (λ (d : Declared). d.name) ds in
    let vars = same_length Global (var_names ds) in
    omega (arith, names, vars)

declared_few : (t : Tree) → length (declared_of (program_of t)) ≤ length (modes.variables_of t.modes)
declared_few t =
    let one = same_length (declaration_of (main_scope t)) (modes.variables_of t.modes) in
    let two = same_length (λ (m : Variable × Mode). m.0) (map (declaration_of (main_scope t)) (modes.variables_of t.modes)) in
    omega (arith, one, two)

linear : (t : Tree) (n : ℕ) → GoodTree t n → Linear (code_of (program_of t)) (declared_of (program_of t)) n
linear t n h =
    let procedures = procedures_few (main_scope t) 1 t.procs h.others h.procs in
    let others = h.others_fit in
    let vars = vars_few t.vars in
    let named = h.vars in
    let declared = declared_few t in
    let all = h.declared in
    record {
      bodies = at_place (code_of (program_of t)).bodies n (bodies_linear t n h);
      counts = (omega (arith, procedures, others), omega (arith, vars, named), omega (arith, declared, all));
    }

pub code_is_linear : CodeIsLinear
code_is_linear toks t h =
    let tokens : 0 + length toks ≤ length toks = omega arith in
    linear t (length toks) ((program_costs h.0).at toks t (length toks) h.1 tokens)

-- ---- numbers of 32 bits

steps_of_32_bits : (steps tokens : ℕ) → steps ≤ 9 * tokens → tokens ≤ 2 ^ 24 → steps < 2 ^ 32
steps_of_32_bits steps tokens few less = omega (arith, few, less)

of_32_bits : (count tokens : ℕ) → count ≤ tokens → tokens ≤ 2 ^ 24 → count < 2 ^ 32
of_32_bits count tokens few less = omega (arith, few, less)

pub linear_is_few : (c : Code) (declared : List Variable) (tokens : ℕ) → Linear c declared tokens → tokens ≤ 2 ^ 24 → Few c declared
linear_is_few c declared tokens h less = record {
  bodies = λ n b is. let body = h.bodies n b is in (steps_of_32_bits (length b.steps) tokens body.0 less, of_32_bits (length (variables_of n b)) tokens body.1 less);
  counts = (of_32_bits (length c.bodies) tokens h.counts.0 less, of_32_bits (length c.vars) tokens h.counts.1 less, of_32_bits (length declared) tokens h.counts.2 less);
}

pub code_is_few : CodeIsFew
code_is_few toks t h less = linear_is_few (code_of (program_of t)) (declared_of (program_of t)) (length toks) (code_is_linear toks t h) less
