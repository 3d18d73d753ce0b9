-- The variables of statements with statements inside.
use Rattle.std.proofs.Common.{◌≡◌, List, [], ◌∷◌, ◌++◌, map, refl, ap, sym, ◌∙◌, Option, append_assoc}
use Rattle.std.proofs.lemmas.List.{append-nil}
use Rattle.std.specs.Option.{option_map}
use Rattle.setl_model_runs.specs.Variable.{Variable}
use Rattle.setl_program.specs.declared.expr.Expr.{Expr}
use Rattle.setl_program.specs.declared.expr.Iterator.{Iterator}
use Rattle.setl_program.specs.declared.stmt.Branch.{Branch, out-Branch}
use Rattle.setl_program.specs.declared.stmt.Stmt.{Stmt}
use Rattle.setl_program.specs.declared.stmt.StmtKind.{StmtKind}
use Rattle.setl_program.specs.declared.stmt.StmtKind.TheVariants as kind
use Rattle.setl_program.specs.Program as plain
use Rattle.setl_program.specs.code.Plain.{plain_expr, plain_iterators, condition_of, plain_block, plain_branch, otherwise}
use Rattle.setl_code.specs.Names.{in_expr, in_iterators, in_condition, in_stmt, in_block}
use Rattle.setl_gen.specs.StmtKinds.{plain_kind}
use Rattle.setl_gen.specs.Found.{branch_variables}
use Rattle.setl_gen.proofs.StmtRounds.{branch_is, if_is, plain_for, plain_while}

pub of_branches : (bs : List Branch) (q : plain.Block) → branch_variables bs ++ in_block q ≡ in_block (otherwise (map plain_branch bs) q)
of_branches [] q = refl
of_branches (b ∷ bs) q =
    let c = in_expr (plain_expr (out-Branch b).condition) in
    let x = in_block (plain_block (out-Branch b).body) in
    let rest = otherwise (map plain_branch bs) q in
    append_assoc (c ++ x) (branch_variables bs) (in_block q)
    ∙ ap (λ r. (c ++ x) ++ r) (of_branches bs q)
    ∙ sym (append-nil ((c ++ x) ++ in_block rest))
    ∙ ap (λ (f : plain.Block → plain.Block). in_block (f rest)) (sym (branch_is b))

pub found_if : (k : StmtKind) (c : Expr) (x xs : List Stmt) (bs cs : List Branch) (y ys : List Stmt) (s s1 s2 s3 u : List Variable) → k ≡ kind.If c x bs y → xs ≡ x → cs ≡ bs → ys ≡ y → s1 ≡ s ++ in_expr (plain_expr c) → s2 ≡ s1 ++ in_block (plain_block xs) → s3 ≡ s2 ++ branch_variables cs → u ≡ s3 ++ in_block (plain_block ys) → u ≡ s ++ in_stmt (plain_kind k)
found_if k c x xs bs cs y ys s s1 s2 s3 u is ex eb ey e1 e2 e3 e4 =
    let p = in_expr (plain_expr c) in
    let v : List Stmt → List Variable = λ r. in_block (plain_block r) in
    let q : List Branch → List Stmt → List Variable = λ r z. in_block (otherwise (map plain_branch r) (plain_block z)) in
    e4 ∙ ap (λ r. r ++ v ys) (e3 ∙ ap (λ r. r ++ branch_variables cs) (e2 ∙ ap (λ r. r ++ v xs) e1))
    ∙ append_assoc ((s ++ p) ++ v xs) (branch_variables cs) (v ys)
    ∙ ap (λ r. ((s ++ p) ++ v xs) ++ r) (of_branches cs (plain_block ys))
    ∙ ap (λ r. r ++ q cs ys) (append_assoc s p (v xs))
    ∙ append_assoc s (p ++ v xs) (q cs ys)
    ∙ ap (λ (r : List Stmt). s ++ ((p ++ v r) ++ q cs ys)) ex
    ∙ ap (λ (r : List Branch). s ++ ((p ++ v x) ++ q r ys)) eb
    ∙ ap (λ (r : List Stmt). s ++ ((p ++ v x) ++ q bs r)) ey
    ∙ ap (λ (z : plain.Stmt). s ++ in_stmt z) (sym (if_is k c x bs y is))

pub found_for : (k : StmtKind) (is js : List Iterator) (t : Option Expr) (b c : List Stmt) (s s1 s2 u : List Variable) → k ≡ kind.For is t b → js ≡ is → c ≡ b → s1 ≡ s ++ in_iterators (plain_iterators js) → s2 ≡ s1 ++ in_condition (condition_of (option_map plain_expr t)) → u ≡ s2 ++ in_block (plain_block c) → u ≡ s ++ in_stmt (plain_kind k)
found_for k is js t b c s s1 s2 u h ei eb e1 e2 e3 =
    let p = in_condition (condition_of (option_map plain_expr t)) in
    let v : List Stmt → List Variable = λ r. in_block (plain_block r) in
    let i : List Iterator → List Variable = λ r. in_iterators (plain_iterators r) in
    e3 ∙ ap (λ r. r ++ v c) (e2 ∙ ap (λ r. r ++ p) e1)
    ∙ ap (λ r. r ++ v c) (append_assoc s (i js) p)
    ∙ append_assoc s (i js ++ p) (v c)
    ∙ ap (λ (r : List Iterator). s ++ ((i r ++ p) ++ v c)) ei
    ∙ ap (λ (r : List Stmt). s ++ ((i is ++ p) ++ v r)) eb
    ∙ ap (λ (z : plain.Stmt). s ++ in_stmt z) (sym (plain_for k is t b h))

pub found_while : (k : StmtKind) (x : Expr) (b c : List Stmt) (s s1 u : List Variable) → k ≡ kind.While x b → c ≡ b → s1 ≡ s ++ in_expr (plain_expr x) → u ≡ s1 ++ in_block (plain_block c) → u ≡ s ++ in_stmt (plain_kind k)
found_while k x b c s s1 u h eb e1 e2 =
    e2 ∙ ap (λ r. r ++ in_block (plain_block c)) e1
    ∙ append_assoc s (in_expr (plain_expr x)) (in_block (plain_block c))
    ∙ ap (λ (r : List Stmt). s ++ (in_expr (plain_expr x) ++ in_block (plain_block r))) eb
    ∙ ap (λ (z : plain.Stmt). s ++ in_stmt z) (sym (plain_while k x b h))
