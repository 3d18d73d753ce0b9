-- Each program that the grammar derives has no larger bodies, and no more names and procedures, than it has tokens.
use Rattle.std.proofs.Common.{◌≤◌, ℕ, suc, ◌+◌, List, [], ◌∷◌, length, length-append, Option, Some, None, unwrap_or, arith}
use Rattle.setl_tree.specs.declared.mode.ReprLine.{ReprLine}
use Rattle.setl_tree.specs.declared.tree.Declared.{Declared}
use Rattle.setl_tree.specs.declared.tree.Param.{Param}
use Rattle.setl_tree.specs.declared.tree.Proc.{Proc}
use Rattle.setl_tree.specs.declared.tree.Tree.{Tree}
use Rattle.setl_tree.specs.Modes as d
use Rattle.setl_tree.specs.Programs as p
use Rattle.setl_tree.specs.Programs.{joined}
use Rattle.setl_modes.specs.Modes.{Mode}
use Rattle.setl_modes.specs.Declarations.{Bases, all_with, mode_of, with_line, line_variables, variables_from, variables_of}
use Rattle.setl_code_few.proofs.Languages.{Each, Maybe, SomeToken, as_many_tokens, each_within, Costs, k_any, k_pure, k_then, k_or, k_past, k_token, c_token, c_name, k_many, k_optional, k_separated, k_listed, k_lined}
use Rattle.setl_code_few.proofs.StatementTrees.{GoodStmt}
use Rattle.setl_code_few.proofs.GrammarOfStatements.{stmts_costs}

-- at most so many members
abbrev pub Few : {A : Type 0} → List A → ℕ → Type 0
Few xs n = length xs ≤ n

-- ---- names in `var`

declared_costs : Costs 0 d.declared SomeToken
unfolding d.declared
declared_costs = k_then c_token (λ t i some. k_pure (λ n le. omega (arith, some, le)))

var_costs : Costs 0 p.var Few
unfolding p.var
var_costs = k_past (k_then (k_separated declared_costs) (λ xs i all. k_past (k_pure (λ n le. let few = as_many_tokens xs i all in omega (arith, few, le)))))

joined_few : (xs : List (List Declared)) (n : ℕ) → Each Few xs n → length (joined xs) ≤ n
joined_few [] n h = omega arith
joined_few (x ∷ xs) n h =
    let here = h.first in
    let later = joined_few xs h.two h.second in
    let both = h.fits in
    let all = length-append x (joined xs) in
    omega (arith, here, later, both, all)

-- ---- declared variables

-- a line has few variables, whatever bases stand before it
pub record LineIn (line : ReprLine) (n : ℕ) : Type 0 where
  pub few : (bs : Bases) → length (line_variables line bs) ≤ n

all_with_same : (mode : Mode) (ds : List Declared) → length (all_with mode ds) ≤ length ds
all_with_same mode [] = omega arith
all_with_same mode (x ∷ ds) = let later = all_with_same mode ds in omega (arith, later)

line_costs : (room : ℕ) → Costs 0 (d.repr_line room) LineIn
unfolding d.repr_line
line_costs room = k_or
    (k_then k_any (λ t h _. k_then k_any (λ xs i _. k_then k_any (λ o j _. k_past (k_pure (λ n le. record { few = λ bs. omega arith }))))))
    (k_then (k_lined (k_separated declared_costs)) (λ xs i all. k_past (k_then k_any (λ o j _. k_past (k_pure (λ n le. record {
      few = λ bs.
          let named = as_many_tokens xs.1 i all in
          let same = all_with_same (mode_of o bs) xs.1 in
          omega (arith, named, same, le);
    }))))))

lines_few : (bs : Bases) (ls : List ReprLine) (n : ℕ) → Each LineIn ls n → length (variables_from bs ls) ≤ n
lines_few bs [] n h = omega arith
lines_few bs (l ∷ ls) n h =
    let here = h.first.few bs in
    let later = lines_few (with_line l bs) ls h.two h.second in
    let both = h.fits in
    let all = length-append (line_variables l bs) (variables_from (with_line l bs) ls) in
    omega (arith, here, later, both, all)

repr_costs : (room : ℕ) → Costs 0 (d.repr room) (Each LineIn)
unfolding d.repr
repr_costs room = k_past (k_then (k_many (line_costs room)) (λ ls i all. k_past (k_pure (λ n le. each_within LineIn ls all (omega (arith, le))))))

section_few : (modes : Option (List ReprLine)) (n : ℕ) → Maybe (Each LineIn) modes n → length (variables_of (unwrap_or modes [])) ≤ n
section_few None n h = omega arith
section_few (Some ls) n h = lines_few [] ls n h

-- ---- procedures

passed_costs : Costs 0 p.passed SomeToken
unfolding p.passed
passed_costs = k_then k_any (λ o j _. k_then c_name (λ y i some. k_pure (λ n le. omega (arith, some, le))))

param_costs : Costs 0 p.param SomeToken
unfolding p.param
param_costs = k_then (k_lined {P = SomeToken} passed_costs) (λ y i some. k_pure (λ n le. omega (arith, some, le)))

params_costs : (room : ℕ) → Costs 0 (p.params room) Few
unfolding p.params
params_costs room = k_past (k_then (k_listed param_costs) (λ xs i all. k_past (k_pure (λ n le. let few = as_many_tokens xs i all in omega (arith, few, le)))))

params_few : (ps : Option (List Param)) (n : ℕ) → Maybe Few ps n → length (unwrap_or ps []) ≤ n
params_few None n h = omega arith
params_few (Some ps) n h = h

-- a procedure's parameters, its body, and a token more
pub record GoodProc (proc : Proc) (n : ℕ) : Type 0 where
  pub inside : ℕ
  pub fits : suc (length proc.params + inside) ≤ n
  pub body : Each GoodStmt proc.body inside

proc_word_costs : Costs 0 p.proc_word SomeToken
unfolding p.proc_word
proc_word_costs = k_or c_token c_token

proc_costs : (room : ℕ) → Costs 0 (p.proc room) GoodProc
unfolding p.proc
proc_costs room = k_then proc_word_costs (λ t i one. k_then k_any (λ y j _. k_then (k_optional (params_costs room)) (λ ps l few. k_past (k_then (stmts_costs room) (λ body o gb. k_then k_any (λ last q _. k_pure (λ n le.
    let params = params_few ps l few in
    record { inside = o; fits = omega (arith, one, params, le); body = gb })))))))

-- ---- programs

pub record GoodTree (t : Tree) (n : ℕ) : Type 0 where
  pub vars : length t.vars ≤ n
  pub declared : length (variables_of t.modes) ≤ n
  pub inside : ℕ
  pub inside_fits : suc inside ≤ n
  pub body : Each GoodStmt t.body inside
  pub others : ℕ
  pub others_fit : suc others ≤ n
  pub procs : Each GoodProc t.procs others

pub program_costs : (room : ℕ) → Costs 0 (p.program room) GoodTree
unfolding p.program
program_costs room = k_token (k_then k_any (λ y i _. k_past (k_then (k_many var_costs) (λ vars j gv. k_then (k_optional (repr_costs room)) (λ modes l gm. k_then (stmts_costs room) (λ body o gb. k_then (k_many (proc_costs room)) (λ procs q gp. k_then k_any (λ last r _. k_pure (λ n le.
    let few = joined_few vars j gv in
    let some = section_few modes l gm in
    record {
      vars = omega (arith, few, le);
      declared = omega (arith, some, le);
      inside = o;
      inside_fits = omega (arith, le);
      body = gb;
      others = q;
      others_fit = omega (arith, le);
      procs = gp;
    })))))))))
