-- The conditions of statements with statements inside.
use Rattle.std.proofs.Common.{◌≡◌, ℕ, List, [], ◌∷◌, ◌++◌, map, refl, ap, sym, ◌∙◌, Option, append_assoc}
use Rattle.std.proofs.lemmas.List.{append-nil}
use Rattle.std.specs.Option.{option_map}
use Rattle.setl_model_runs.specs.Variable as run
use Rattle.setl_program.specs.declared.expr.Expr.{Expr}
use Rattle.setl_program.specs.declared.expr.Variable.{Variable}
use Rattle.setl_program.specs.declared.expr.Iterator.{Iterator}
use Rattle.setl_program.specs.declared.stmt.Branch.{Branch, out-Branch, fold_out-Branch}
use Rattle.setl_program.specs.declared.stmt.Stmt.{Stmt}
use Rattle.setl_program.specs.declared.stmt.StmtKind.{StmtKind, fold-roll-StmtKind}
use Rattle.setl_program.specs.declared.stmt.StmtKind.TheOpen.{StmtKind-F}
use Rattle.setl_program.specs.declared.stmt.StmtKind.TheVariants as kind
use Rattle.setl_program.specs.Program as plain
use Rattle.setl_program.specs.Program.{Procedure}
use Rattle.setl_program.specs.code.Plain.{plain_variable, plain_expr, plain_iterators, condition_of, plain_block, plain_branch, plain_kind, otherwise, kind_step, branch_step, stmt_step}
use Rattle.setl_advise_conditions.specs.Conditions.{Anything, Condition}
use Rattle.setl_advise_conditions.specs.Parts.{stored, return_conditions, read_conditions, expr_conditions, iterators_conditions, test_conditions, stmt_conditions, block_conditions}
use Rattle.setl_advise_gathering.specs.Walked.{all_read, branch_conditions}

branch_is : (b : Branch) → plain_branch b ≡ (λ rest. plain.more_stmts (out-Branch b).line (plain.If (plain_expr (out-Branch b).condition) (plain_block (out-Branch b).body) rest) plain.no_stmt)
branch_is b = fold_out-Branch plain.Stmt (plain.Block → plain.Block) (ℕ × plain.Stmt) kind_step branch_step stmt_step b

if_is : (k : StmtKind) (c : Expr) (x : List Stmt) (bs : List Branch) (y : List Stmt) → k ≡ kind.If c x bs y → plain_kind k ≡ plain.If (plain_expr c) (plain_block x) (otherwise (map plain_branch bs) (plain_block y))
if_is k c x bs y is = ap plain_kind (is ∙ sym (kind.rolls-If c x bs y)) ∙ fold-roll-StmtKind plain.Stmt (plain.Block → plain.Block) (ℕ × plain.Stmt) kind_step branch_step stmt_step (StmtKind-F.If c x bs y)

for_is : (k : StmtKind) (is : List Iterator) (t : Option Expr) (b : List Stmt) → k ≡ kind.For is t b → plain_kind k ≡ plain.For (plain_iterators is) (condition_of (option_map plain_expr t)) (plain_block b)
for_is k is t b h = ap plain_kind (h ∙ sym (kind.rolls-For is t b)) ∙ fold-roll-StmtKind plain.Stmt (plain.Block → plain.Block) (ℕ × plain.Stmt) kind_step branch_step stmt_step (StmtKind-F.For is t b)

while_is : (k : StmtKind) (x : Expr) (b : List Stmt) → k ≡ kind.While x b → plain_kind k ≡ plain.While (plain_expr x) (plain_block b)
while_is k x b h = ap plain_kind (h ∙ sym (kind.rolls-While x b)) ∙ fold-roll-StmtKind plain.Stmt (plain.Block → plain.Block) (ℕ × plain.Stmt) kind_step branch_step stmt_step (StmtKind-F.While x b)

return_is : (k : StmtKind) (e : Expr) → k ≡ kind.Return e → plain_kind k ≡ plain.Return (plain_expr e)
return_is k e h = ap plain_kind (h ∙ sym (kind.rolls-Return e)) ∙ fold-roll-StmtKind plain.Stmt (plain.Block → plain.Block) (ℕ × plain.Stmt) kind_step branch_step stmt_step (StmtKind-F.Return e)

read_is : (k : StmtKind) (xs : List Variable) → k ≡ kind.Read xs → plain_kind k ≡ plain.Read (map plain_variable xs)
read_is k xs h = ap plain_kind (h ∙ sym (kind.rolls-Read xs)) ∙ fold-roll-StmtKind plain.Stmt (plain.Block → plain.Block) (ℕ × plain.Stmt) kind_step branch_step stmt_step (StmtKind-F.Read xs)

module _ (qs : List Procedure) (n : ℕ) where
  abbrev of_block : List Stmt → List Condition
  of_block r = block_conditions qs n (plain_block r)

  of_branches : (bs : List Branch) (q : plain.Block) → branch_conditions qs n bs ++ block_conditions qs n q ≡ block_conditions qs n (otherwise (map plain_branch bs) q)
  of_branches [] q = refl
  of_branches (b ∷ bs) q =
      let c = expr_conditions qs (plain_expr (out-Branch b).condition) in
      let x = of_block (out-Branch b).body in
      let rest = otherwise (map plain_branch bs) q in
      append_assoc (c ++ x) (branch_conditions qs n bs) (block_conditions qs n q)
      ∙ ap (λ r. (c ++ x) ++ r) (of_branches bs q)
      ∙ sym (append-nil ((c ++ x) ++ block_conditions qs n rest))
      ∙ ap (λ (f : plain.Block → plain.Block). block_conditions qs n (f rest)) (sym (branch_is b))

  pub if_done : (k : StmtKind) (c : Expr) (x xs : List Stmt) (bs cs : List Branch) (y ys : List Stmt) (s s1 s2 s3 u : List Condition) → k ≡ kind.If c x bs y → xs ≡ x → cs ≡ bs → ys ≡ y → s1 ≡ s ++ expr_conditions qs (plain_expr c) → s2 ≡ s1 ++ of_block xs → s3 ≡ s2 ++ branch_conditions qs n cs → u ≡ s3 ++ of_block ys → u ≡ s ++ stmt_conditions qs n (plain_kind k)
  if_done k c x xs bs cs y ys s s1 s2 s3 u is ex eb ey e1 e2 e3 e4 =
      let p = expr_conditions qs (plain_expr c) in
      let q : List Branch → List Stmt → List Condition = λ r z. block_conditions qs n (otherwise (map plain_branch r) (plain_block z)) in
      e4 ∙ ap (λ r. r ++ of_block ys) (e3 ∙ ap (λ r. r ++ branch_conditions qs n cs) (e2 ∙ ap (λ r. r ++ of_block xs) e1))
      ∙ append_assoc ((s ++ p) ++ of_block xs) (branch_conditions qs n cs) (of_block ys)
      ∙ ap (λ r. ((s ++ p) ++ of_block xs) ++ r) (of_branches cs (plain_block ys))
      ∙ ap (λ r. r ++ q cs ys) (append_assoc s p (of_block xs))
      ∙ append_assoc s (p ++ of_block xs) (q cs ys)
      ∙ ap (λ (r : List Stmt). s ++ ((p ++ of_block r) ++ q cs ys)) ex
      ∙ ap (λ (r : List Branch). s ++ ((p ++ of_block x) ++ q r ys)) eb
      ∙ ap (λ (r : List Stmt). s ++ ((p ++ of_block x) ++ q bs r)) ey
      ∙ ap (λ (z : plain.Stmt). s ++ stmt_conditions qs n z) (sym (if_is k c x bs y is))

  pub for_done : (k : StmtKind) (is js : List Iterator) (t : Option Expr) (b c : List Stmt) (s s1 s2 u : List Condition) → k ≡ kind.For is t b → js ≡ is → c ≡ b → s1 ≡ s ++ iterators_conditions qs (plain_iterators js) → s2 ≡ s1 ++ test_conditions qs (condition_of (option_map plain_expr t)) → u ≡ s2 ++ of_block c → u ≡ s ++ stmt_conditions qs n (plain_kind k)
  for_done k is js t b c s s1 s2 u h ei eb e1 e2 e3 =
      let p = test_conditions qs (condition_of (option_map plain_expr t)) in
      let i : List Iterator → List Condition = λ r. iterators_conditions qs (plain_iterators r) in
      e3 ∙ ap (λ r. r ++ of_block c) (e2 ∙ ap (λ r. r ++ p) e1)
      ∙ ap (λ r. r ++ of_block c) (append_assoc s (i js) p)
      ∙ append_assoc s (i js ++ p) (of_block c)
      ∙ ap (λ (r : List Iterator). s ++ ((i r ++ p) ++ of_block c)) ei
      ∙ ap (λ (r : List Stmt). s ++ ((i is ++ p) ++ of_block r)) eb
      ∙ ap (λ (z : plain.Stmt). s ++ stmt_conditions qs n z) (sym (for_is k is t b h))

  pub while_done : (k : StmtKind) (x : Expr) (b c : List Stmt) (s s1 u : List Condition) → k ≡ kind.While x b → c ≡ b → s1 ≡ s ++ expr_conditions qs (plain_expr x) → u ≡ s1 ++ of_block c → u ≡ s ++ stmt_conditions qs n (plain_kind k)
  while_done k x b c s s1 u h eb e1 e2 =
      e2 ∙ ap (λ r. r ++ of_block c) e1
      ∙ append_assoc s (expr_conditions qs (plain_expr x)) (of_block c)
      ∙ ap (λ (r : List Stmt). s ++ (expr_conditions qs (plain_expr x) ++ of_block r)) eb
      ∙ ap (λ (z : plain.Stmt). s ++ stmt_conditions qs n z) (sym (while_is k x b h))

  pub return_done : (k : StmtKind) (e : Expr) (s s1 u : List Condition) → k ≡ kind.Return e → s1 ≡ s ++ return_conditions qs n (plain_expr e) → u ≡ s1 ++ expr_conditions qs (plain_expr e) → u ≡ s ++ stmt_conditions qs n (plain_kind k)
  return_done k e s s1 u h e1 e2 =
      let p = expr_conditions qs (plain_expr e) in
      e2 ∙ ap (λ r. r ++ p) e1
      ∙ append_assoc s (return_conditions qs n (plain_expr e)) p
      ∙ ap (λ (z : plain.Stmt). s ++ stmt_conditions qs n z) (sym (return_is k e h))

  read_all_is : (xs : List run.Variable) → all_read xs ≡ read_conditions qs xs
  read_all_is [] = refl
  read_all_is (x ∷ xs) = ap (λ cs. stored x Anything ∷ cs) (read_all_is xs)

  pub read_done : (k : StmtKind) (xs ys : List Variable) (s u : List Condition) → k ≡ kind.Read xs → ys ≡ xs → u ≡ s ++ all_read (map plain_variable ys) → u ≡ s ++ stmt_conditions qs n (plain_kind k)
  read_done k xs ys s u h same e =
      e ∙ ap (λ r. s ++ r) (read_all_is (map plain_variable ys))
      ∙ ap (λ (r : List Variable). s ++ read_conditions qs (map plain_variable r)) same
      ∙ ap (λ (z : plain.Stmt). s ++ stmt_conditions qs n z) (sym (read_is k xs h))
