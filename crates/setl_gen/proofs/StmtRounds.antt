-- Places and choices of statements.
use Rattle.std.proofs.Common.{◌≡◌, ℕ, suc, ◌+◌, ◌<◌, ◌≤◌, List, [], ◌∷◌, ◌++◌, drop, length, map, refl, ap, sym, ◌∙◌, append_assoc, Option, Some, true, false}
use Rattle.std.proofs.Math.ListN.{get_or}
use Rattle.std.proofs.lemmas.List.{drop_all, length-set, map-append, append-nil}
use Rattle.setl_model_runs.specs.Variable.{Variable}
use Rattle.setl_program.specs.declared.expr.Variable as v
use Rattle.setl_program.specs.declared.stmt.Selector.{Selector}
use Rattle.setl_program.specs.declared.stmt.Selector.TheVariants as sel
use Rattle.setl_program.specs.declared.stmt.Branch.{Branch, out-Branch, fold_out-Branch}
use Rattle.setl_program.specs.declared.expr.Expr.{Expr}
use Rattle.setl_program.specs.declared.expr.Iterator.{Iterator}
use Rattle.std.specs.Prelude.{OnOk, Result, Ok, Err}
use Rattle.std.specs.Option.{option_map}
use Rattle.setl_operators_table.specs.declared.Operator.{Operator}
use Rattle.setl_program.specs.declared.kinds.Taking.{Taking}
use Rattle.setl_program.specs.declared.stmt.Place.{Place}
use Rattle.setl_program.specs.declared.stmt.Stmt.{Stmt}
use Rattle.setl_program.specs.declared.stmt.StmtKind.{StmtKind, fold-roll-StmtKind}
use Rattle.setl_program.specs.declared.stmt.StmtKind.TheOpen.{StmtKind-F}
use Rattle.setl_program.specs.declared.stmt.StmtKind.TheVariants as kind
use Rattle.setl_program.specs.Program as plain
use Rattle.setl_program.specs.Program.{Selectors, Iterators, Condition, Update, TakeFrom, If, For, While, more_stmts, no_stmt, Block}
use Rattle.setl_program.specs.code.Plain.{plain_variable, plain_place, plain_expr, plain_iterators, condition_of, plain_stmt, plain_block, plain_branch, selectors_of, otherwise, kind_step, branch_step, stmt_step}
use Rattle.setl_code.specs.declared.code.Bracket as rust
use Rattle.setl_code.specs.Plain.{plain_bracket}
use Rattle.setl_code.specs.Code.{Alteration, Putting, Bracket, Unless, Jump, Alter, StoreIn, ReadOne, NextOr, PayRound}
use Rattle.setl_code.specs.Piece.{Laid, ◌⨾◌, nothing, one, over, either, going_on, with_end, with_start}
use Rattle.setl_code.specs.Generated.{expr, selectors, brackets, alter, put, read_all, stmt, block, levels, iterators, condition}
use Rattle.setl_gen_emitter.specs.declared.hole.Hole.{Hole}
use Rattle.setl_gen_emitter.specs.Emitted.{Emitted, here, hole, after, with_step, all_filled, closed, with_exits, with_again}
use Rattle.setl_gen.specs.Heads.{opened}
use Rattle.setl_gen.specs.StmtKinds.{plain_kind, guarded, looped, selector_code, bracket_of, IsGuarded, IsBranch, AreBranches}
use Rattle.setl_gen_emitter.specs.EmittedLaws.{after_then, after_nothing, here_after, then_made, either_closed, last_filled, over_made, ending_made, going_made, last}
use Rattle.setl_gen.proofs.Constructs.{start_is, rounds_made}
use Rattle.setl_gen_emitter.specs.Items.{drop_at}

-- ---- places

selectors_item : (line : ℕ) (x : Selector) (rest : List Selector) (s t : Emitted) → t ≡ after (selector_code line x) s → after (selectors line (selectors_of rest)) t ≡ after (selectors line (selectors_of (x ∷ rest))) s
selectors_item line (sel.Round e) rest s t f = ap (after (selectors line (selectors_of rest))) f ∙ after_then (expr line (plain_expr e)) (selectors line (selectors_of rest)) s
selectors_item line (sel.Brace e) rest s t f = ap (after (selectors line (selectors_of rest))) f ∙ after_then (expr line (plain_expr e)) (selectors line (selectors_of rest)) s

pub selectors_round : (line : ℕ) (xs : List Selector) (k : ℕ) (x : Selector) (s t : Emitted) → k < length xs → x ≡ get_or xs k x → t ≡ after (selector_code line x) s → after (selectors line (selectors_of (drop (k + 1) xs))) t ≡ after (selectors line (selectors_of (drop k xs))) s
selectors_round line xs k x s t within read e =
    selectors_item line x (drop (k + 1) xs) s t e ∙ ap (λ (r : List Selector). after (selectors line (selectors_of r)) s) (sym (drop_at xs k x within read))

brackets_item : (x : Selector) (rest : List Selector) → brackets (selectors_of (x ∷ rest)) ≡ bracket_of x ∷ brackets (selectors_of rest)
brackets_item (sel.Round e) rest = refl
brackets_item (sel.Brace e) rest = refl

put_item : (line : ℕ) (x : Variable) (y : Selector) (rest : List Selector) (s : Emitted) → after (alter line Putting x (selectors_of (y ∷ rest))) s ≡ after (put line x (selectors_of (y ∷ rest))) s
put_item line x (sel.Round e) rest s = refl
put_item line x (sel.Brace e) rest s = refl

pub put_bare : (line : ℕ) (x : Variable) (ss : List Selector) (s u : Emitted) → ss ≡ [] → u ≡ after (one line (StoreIn x)) s → u ≡ after (put line x (selectors_of ss)) s
put_bare line x ss s u e f = f ∙ ap (λ (r : List Selector). after (put line x (selectors_of r)) s) (sym e)

no_truth : false ≡ true → ⊥
no_truth e = cc

pub put_at : (line : ℕ) (x : Variable) (ss : List Selector) (s u : Emitted) → (ss ≡ [] → false ≡ true) → u ≡ after (alter line Putting x (selectors_of ss)) s → u ≡ after (put line x (selectors_of ss)) s
put_at line x [] s u h f = absurd (no_truth (h refl))
put_at line x (y ∷ rest) s u h f = f ∙ put_item line x y rest s

pub alter_made : (line : ℕ) (a : Alteration) (x y : Variable) (ss : Selectors) (bs : List Bracket) (s t u : Emitted) → t ≡ after (selectors line ss) s → y ≡ x → bs ≡ brackets ss → u ≡ after (one line (Alter a y bs)) t → u ≡ after (alter line a x ss) s
alter_made line a x y ss bs s t u e1 h m e2 =
    then_made (selectors line ss) (one line (Alter a x (brackets ss))) s t u e1
    (e2 ∙ ap (λ z. after (one line (Alter a z bs)) t) h ∙ ap (λ z. after (one line (Alter a x z)) t) m)

reads_item : (line : ℕ) (x : Variable) (xs : List Variable) (s t : Emitted) → t ≡ after (one line ReadOne ⨾ one line (StoreIn x)) s → after (read_all line xs) t ≡ after (read_all line (x ∷ xs)) s
reads_item line x xs s t e =
    let p = one line ReadOne in
    let q = one line (StoreIn x) in
    let r = read_all line xs in
    ap (after r) (e ∙ sym (after_then p q s) ∙ sym (last q (after p s))) ∙ after_then (q ⨾ nothing) r (after p s) ∙ after_then p ((q ⨾ nothing) ⨾ r) s

pub reads_round : (line : ℕ) (xs : List v.Variable) (k : ℕ) (x : v.Variable) (s t : Emitted) → k < length xs → x ≡ get_or xs k x → t ≡ after (one line ReadOne ⨾ one line (StoreIn (plain_variable x))) s → after (read_all line (map plain_variable (drop (k + 1) xs))) t ≡ after (read_all line (map plain_variable (drop k xs))) s
reads_round line xs k x s t within read e =
    reads_item line (plain_variable x) (map plain_variable (drop (k + 1) xs)) s t e
    ∙ ap (λ (r : List v.Variable). after (read_all line (map plain_variable r)) s) (sym (drop_at xs k x within read))

-- ---- choices

pub if_closed : (leaves line : ℕ) (c : plain.Expr) (b q : Block) (at : ℕ) (s s1 t : Emitted) → s1 ≡ after (guarded leaves line c b) s → suc at ≡ here s1 → t ≡ after (block leaves q) s1 → with_step at line (Jump (here t)) t ≡ after (stmt leaves line (If c b q)) s
if_closed leaves line c b q at s s1 t e1 p e2 =
    let x = expr line c in
    let g = over line Unless (block leaves b ⨾ one line (Jump 0)) in
    let s0 = after x s in
    let y : s1 ≡ after g s0 = e1 ∙ sym (after_then x g s) in
    either_closed line (block leaves b) (block leaves q) at s0 s1 t (with_step at line (Jump (here t)) t) y p e2 refl
    ∙ after_then x (either line (block leaves b) (block leaves q)) s

pub first_closed : (leaves line : ℕ) (c : plain.Expr) (b q : Block) (none overs : List Hole) (s s1 : Emitted) → none ≡ [] → IsGuarded leaves line c b s none s1 overs → closed overs (after (block leaves q) s1) ≡ after (stmt leaves line (If c b q)) s
first_closed leaves line c b q none overs s s1 e g =
    let x = after (block leaves q) s1 in
    ap (λ (os : List Hole). closed os x) (g.3 ∙ ap (λ r. r ++ hole g.0 line ∷ []) e)
    ∙ if_closed leaves line c b q g.0 s s1 x g.2 g.1 refl

pub branch_is : (b : Branch) → plain_branch b ≡ (λ rest. more_stmts (out-Branch b).line (If (plain_expr (out-Branch b).condition) (plain_block (out-Branch b).body) rest) no_stmt)
branch_is b = fold_out-Branch plain.Stmt (Block → Block) (ℕ × plain.Stmt) kind_step branch_step stmt_step b

next_closed : (leaves : ℕ) (b : Branch) (q : Block) (overs more : List Hole) (s s1 : Emitted) → IsBranch leaves b s overs s1 more → closed more (after (block leaves q) s1) ≡ closed overs (after (block leaves (plain_branch b q)) s)
next_closed leaves b q overs more s s1 g =
    let line = (out-Branch b).line in
    let c = plain_expr (out-Branch b).condition in
    let x = plain_block (out-Branch b).body in
    let t = after (block leaves q) s1 in
    let u = with_step g.0 line (Jump (here t)) t in
    let i = stmt leaves line (If c x q) in
    let e : u ≡ after (block leaves (plain_branch b q)) s =
    if_closed leaves line c x q g.0 s s1 t g.2 g.1 refl ∙ sym (last i s) ∙ ap (λ (f : Block → Block). after (block leaves (f q)) s) (sym (branch_is b)) in
    sym (last_filled (here t) more overs (hole g.0 line) t u g.3 refl)
    ∙ ap (λ n. all_filled n overs u) (sym (length-set t.steps g.0 (line, Jump (here t))))
    ∙ ap (closed overs) e

abbrev behind : (leaves : ℕ) → List Branch → Block → List Hole → Emitted → Emitted
behind leaves bs q overs s = closed overs (after (block leaves (otherwise (map plain_branch bs) q)) s)

pub branches_round : (leaves : ℕ) (bs : List Branch) (q : Block) (k : ℕ) (b : Branch) (overs more : List Hole) (s s1 : Emitted) → k < length bs → b ≡ get_or bs k b → IsBranch leaves b s overs s1 more → behind leaves (drop (k + 1) bs) q more s1 ≡ behind leaves (drop k bs) q overs s
branches_round leaves bs q k b overs more s s1 within read g =
    next_closed leaves b (otherwise (map plain_branch (drop (k + 1) bs)) q) overs more s s1 g
    ∙ ap (λ (r : List Branch). behind leaves r q overs s) (sym (drop_at bs k b within read))

pub branches_done : (leaves : ℕ) (bs : List Branch) (q : Block) (k : ℕ) (overs : List Hole) (s z : Emitted) → length bs ≤ k → behind leaves (drop k bs) q overs s ≡ z → behind leaves [] q overs s ≡ z
branches_done leaves bs q k overs s z h g = ap (λ (r : List Branch). behind leaves r q overs s) (sym (drop_all k bs h)) ∙ g

-- a choice by its parts
pub if_is : (k : StmtKind) (c : Expr) (x : List Stmt) (bs : List Branch) (y : List Stmt) → k ≡ kind.If c x bs y → plain_kind k ≡ If (plain_expr c) (plain_block x) (otherwise (map plain_branch bs) (plain_block y))
if_is k c x bs y is = ap plain_kind (is ∙ sym (kind.rolls-If c x bs y)) ∙ fold-roll-StmtKind plain.Stmt (Block → Block) (ℕ × plain.Stmt) kind_step branch_step stmt_step (StmtKind-F.If c x bs y)

pub plain_for : (k : StmtKind) (is : List Iterator) (t : Option Expr) (b : List Stmt) → k ≡ kind.For is t b → plain_kind k ≡ For (plain_iterators is) (condition_of (option_map plain_expr t)) (plain_block b)
plain_for k is t b h = ap plain_kind (h ∙ sym (kind.rolls-For is t b)) ∙ fold-roll-StmtKind plain.Stmt (Block → Block) (ℕ × plain.Stmt) kind_step branch_step stmt_step (StmtKind-F.For is t b)

pub plain_while : (k : StmtKind) (x : Expr) (b : List Stmt) → k ≡ kind.While x b → plain_kind k ≡ While (plain_expr x) (plain_block b)
plain_while k x b h = ap plain_kind (h ∙ sym (kind.rolls-While x b)) ∙ fold-roll-StmtKind plain.Stmt (Block → Block) (ℕ × plain.Stmt) kind_step branch_step stmt_step (StmtKind-F.While x b)

pub for_is : (leaves line : ℕ) (k : StmtKind) (is js : List Iterator) (t : Option Expr) (b c : List Stmt) (s u : Emitted) → k ≡ kind.For is t b → js ≡ is → c ≡ b → u ≡ after (stmt 0 line (For (plain_iterators js) (condition_of (option_map plain_expr t)) (plain_block c))) s → u ≡ after (stmt leaves line (plain_kind k)) s
for_is leaves line k is js t b c s u h ei eb e =
    e ∙ ap (λ (r : List Iterator). after (stmt leaves line (For (plain_iterators r) (condition_of (option_map plain_expr t)) (plain_block c))) s) ei
    ∙ ap (λ (r : List Stmt). after (stmt leaves line (For (plain_iterators is) (condition_of (option_map plain_expr t)) (plain_block r))) s) eb
    ∙ ap (λ (z : plain.Stmt). after (stmt leaves line z) s) (sym (plain_for k is t b h))

pub while_is : (leaves line : ℕ) (k : StmtKind) (x : Expr) (b c : List Stmt) (s u : Emitted) → k ≡ kind.While x b → c ≡ b → u ≡ after (stmt 0 line (While (plain_expr x) (plain_block c))) s → u ≡ after (stmt leaves line (plain_kind k)) s
while_is leaves line k x b c s u h eb e =
    e ∙ ap (λ (r : List Stmt). after (stmt leaves line (While (plain_expr x) (plain_block r))) s) eb
    ∙ ap (λ (z : plain.Stmt). after (stmt leaves line z) s) (sym (plain_while k x b h))

plain_update : (k : StmtKind) (o : Operator) (p : Place) (e : Expr) → k ≡ kind.Update o p e → plain_kind k ≡ Update o (plain_place p) (plain_expr e)
plain_update k o p e h = ap plain_kind (h ∙ sym (kind.rolls-Update o p e)) ∙ fold-roll-StmtKind plain.Stmt (Block → Block) (ℕ × plain.Stmt) kind_step branch_step stmt_step (StmtKind-F.Update o p e)

pub update_is : {A E : Type 0} (leaves line : ℕ) (k : StmtKind) (o : Operator) (p : Place) (e : Expr) (s u : Emitted) → k ≡ kind.Update o p e → (r : Result A E) → OnOk r (u ≡ after (stmt 0 line (Update o (plain_place p) (plain_expr e))) s) → OnOk r (u ≡ after (stmt leaves line (plain_kind k)) s)
update_is leaves line k o p e s u h (Ok x) f = f ∙ ap (λ (z : plain.Stmt). after (stmt leaves line z) s) (sym (plain_update k o p e h))
update_is leaves line k o p e s u h (Err x) f = f

plain_take : (k : StmtKind) (w : Taking) (x : v.Variable) (p : Place) → k ≡ kind.TakeFrom w x p → plain_kind k ≡ TakeFrom w (plain_variable x) (plain_place p)
plain_take k w x p h = ap plain_kind (h ∙ sym (kind.rolls-TakeFrom w x p)) ∙ fold-roll-StmtKind plain.Stmt (Block → Block) (ℕ × plain.Stmt) kind_step branch_step stmt_step (StmtKind-F.TakeFrom w x p)

pub take_is : {A E : Type 0} (leaves line : ℕ) (k : StmtKind) (w : Taking) (x : v.Variable) (p : Place) (s u : Emitted) → k ≡ kind.TakeFrom w x p → (r : Result A E) → OnOk r (u ≡ after (stmt 0 line (TakeFrom w (plain_variable x) (plain_place p))) s) → OnOk r (u ≡ after (stmt leaves line (plain_kind k)) s)
take_is leaves line k w x p s u h (Ok y) f = f ∙ ap (λ (z : plain.Stmt). after (stmt leaves line z) s) (sym (plain_take k w x p h))
take_is leaves line k w x p s u h (Err y) f = f

pub pass_is : (leaves line : ℕ) (k : StmtKind) (s : Emitted) → k ≡ kind.Pass → s ≡ after (stmt leaves line (plain_kind k)) s
pass_is leaves line k s h =
    sym (after_nothing s)
    ∙ ap (λ (z : plain.Stmt). after (stmt leaves line z) s) (sym (ap plain_kind (h ∙ sym kind.rolls-Pass) ∙ fold-roll-StmtKind plain.Stmt (Block → Block) (ℕ × plain.Stmt) kind_step branch_step stmt_step StmtKind-F.Pass))

pub guarded_made : (leaves line : ℕ) (c : plain.Expr) (b : Block) (test at : ℕ) (overs more : List Hole) (s s1 s2 s3 s4 u : Emitted) → s1 ≡ after (expr line c) s → test ≡ here s1 → s2 ≡ after (one line (Unless 0)) s1 → s3 ≡ after (block leaves b) s2 → at ≡ here s3 → s4 ≡ after (one line (Jump 0)) s3 → u ≡ with_step test line (Unless (here s4)) s4 → more ≡ overs ++ hole at line ∷ [] → IsGuarded leaves line c b s overs u more
guarded_made leaves line c b test at overs more s s1 s2 s3 s4 u e1 p e2 e3 o e4 e5 m =
    let g = block leaves b ⨾ one line (Jump 0) in
    let h4 : here s4 ≡ suc (here s3) = ap here e4 ∙ here_after (one line (Jump 0)) s3 in
    let hu : here u ≡ here s4 = ap here e5 ∙ length-set s4.steps test (line, Unless (here s4)) in (
      at,
      ap suc o ∙ sym h4 ∙ sym hu,
      then_made (expr line c) (over line Unless g) s s1 u e1 (over_made line Unless g test (here s4) s1 s2 s4 u p e2 (then_made (block leaves b) (one line (Jump 0)) s2 s3 s4 e3 e4) refl e5),
      m,
    )

pub choice_made : (leaves line : ℕ) (k : StmtKind) (c : Expr) (x : List Stmt) (bs : List Branch) (y xs ys : List Stmt) (cs : List Branch) (none overs more : List Hole) (s s1 s2 s3 u : Emitted) → k ≡ kind.If c x bs y → xs ≡ x → cs ≡ bs → ys ≡ y → none ≡ [] → IsGuarded leaves line (plain_expr c) (plain_block xs) s none s1 overs → AreBranches leaves cs s1 overs s2 more → s3 ≡ after (block leaves (plain_block ys)) s2 → u ≡ closed more s3 → u ≡ after (stmt leaves line (plain_kind k)) s
choice_made leaves line k c x bs y xs ys cs none overs more s s1 s2 s3 u is ex eb ey n g a e3 e4 =
    let last = plain_block ys in
    let q = otherwise (map plain_branch cs) last in
    e4 ∙ ap (closed more) e3 ∙ a last ∙ first_closed leaves line (plain_expr c) (plain_block xs) q none overs s s1 n g
    ∙ ap (λ (r : List Stmt). after (stmt leaves line (If (plain_expr c) (plain_block r) q)) s) ex
    ∙ ap (λ (r : List Branch). after (stmt leaves line (If (plain_expr c) (plain_block x) (otherwise (map plain_branch r) last))) s) eb
    ∙ ap (λ (r : List Stmt). after (stmt leaves line (If (plain_expr c) (plain_block x) (otherwise (map plain_branch bs) (plain_block r)))) s) ey
    ∙ ap (λ (z : plain.Stmt). after (stmt leaves line z) s) (sym (if_is k c x bs y is))

-- ---- blocks

pub block_round : (leaves : ℕ) (xs : List Stmt) (k : ℕ) (x : Stmt) (s t : Emitted) → k < length xs → x ≡ get_or xs k x → t ≡ after (stmt leaves (plain_stmt x).0 (plain_stmt x).1) s → after (block leaves (plain_block (drop (k + 1) xs))) t ≡ after (block leaves (plain_block (drop k xs))) s
block_round leaves xs k x s t within read e =
    let rest = drop (k + 1) xs in
    ap (after (block leaves (plain_block rest))) e
    ∙ after_then (stmt leaves (plain_stmt x).0 (plain_stmt x).1) (block leaves (plain_block rest)) s
    ∙ ap (λ (r : List Stmt). after (block leaves (plain_block r)) s) (sym (drop_at xs k x within read))

-- ---- brackets

pub brackets_round : (bs more : List rust.Bracket) (ss : List Selector) (k : ℕ) (x : Selector) (b : rust.Bracket) → k < length ss → x ≡ get_or ss k x → more ≡ bs ++ b ∷ [] → plain_bracket b ≡ bracket_of x → map plain_bracket more ++ brackets (selectors_of (drop (k + 1) ss)) ≡ map plain_bracket bs ++ brackets (selectors_of (drop k ss))
brackets_round bs more ss k x b within read e f =
    let rest = brackets (selectors_of (drop (k + 1) ss)) in
    ap (λ (r : List rust.Bracket). map plain_bracket r ++ rest) e
    ∙ ap (λ r. r ++ rest) (map-append plain_bracket bs (b ∷ []))
    ∙ append_assoc (map plain_bracket bs) (plain_bracket b ∷ []) rest
    ∙ ap (λ z. map plain_bracket bs ++ z ∷ rest) f
    ∙ ap (λ r. map plain_bracket bs ++ r) (sym (brackets_item x (drop (k + 1) ss)) ∙ ap (λ (r : List Selector). brackets (selectors_of r)) (sym (drop_at ss k x within read)))

pub brackets_done : (bs : List rust.Bracket) (ss : List Selector) (k : ℕ) (z : List Bracket) → length ss ≤ k → map plain_bracket bs ++ brackets (selectors_of (drop k ss)) ≡ z → map plain_bracket bs ≡ z
brackets_done bs ss k z h e =
    sym (append-nil (map plain_bracket bs)) ∙ ap (λ (r : List Selector). map plain_bracket bs ++ brackets (selectors_of r)) (sym (drop_all k ss h)) ∙ e

-- ---- loops

pub looped_made : (line w around leaves : ℕ) (b : Block) (s s1 s2 s3 u : Emitted) → around ≡ s.again → s1 ≡ with_again w s → s2 ≡ after (block leaves b) s1 → s3 ≡ with_again around s2 → u ≡ after (one line (Jump w)) s3 → u ≡ after (looped line w leaves b) s
looped_made line w around leaves b s s1 s2 s3 u o e1 e2 e3 e4 =
    then_made (going_on w (block leaves b)) (one line (Jump w)) s s3 u (going_made w around (block leaves b) s s1 s2 s3 o e1 e2 e3) e4

pub for_made : (line : ℕ) (is : Iterators) (t : Condition) (b : Block) (outer inner : List Hole) (at a n end : ℕ) (s s1 s2 s3 s4 s5 s6 u : Emitted) → outer ≡ s.exits → s1 ≡ with_exits [] s → opened line is s1 ≡ Some (at, s2, a) → s3 ≡ after (condition line t a) s2 → n ≡ levels is → s4 ≡ after (looped line a n b) s3 → s5 ≡ with_step at line (NextOr (here s4)) s4 → inner ≡ s5.exits → s6 ≡ with_exits outer s5 → end ≡ here s6 → u ≡ all_filled end inner s6 → u ≡ after (stmt 0 line (For is t b)) s
for_made line is t b outer inner at a n end s s1 s2 s3 s4 s5 s6 u o e1 p e3 m e4 e5 i e6 q e7 =
    let f : ℕ → Laid = λ a. condition line t a ⨾ looped line a (levels is) b in
    let x5 : s5 ≡ after (with_end (iterators line nothing is f)) s1 =
    rounds_made line is f at a (here s4) s1 s2 s4 s5 p
    (then_made (condition line t a) (looped line a (levels is) b) s2 s3 s4 e3 (e4 ∙ ap (λ m. after (looped line a m b) s3) m)) refl e5 in
    ending_made (with_end (iterators line nothing is f)) outer inner end s s1 s5 s6 u o e1 x5 i e6 q e7

pub while_made : (line : ℕ) (c : plain.Expr) (b : Block) (outer inner : List Hole) (start at end : ℕ) (s s1 s2 s3 s4 s5 s6 s7 u : Emitted) → outer ≡ s.exits → s1 ≡ with_exits [] s → start ≡ here s1 → s2 ≡ after (expr line c) s1 → at ≡ here s2 → s3 ≡ after (one line (Unless 0)) s2 → s4 ≡ after (one line PayRound) s3 → s5 ≡ after (looped line start 0 b) s4 → s6 ≡ with_step at line (Unless (here s5)) s5 → inner ≡ s6.exits → s7 ≡ with_exits outer s6 → end ≡ here s7 → u ≡ all_filled end inner s7 → u ≡ after (stmt 0 line (While c b)) s
while_made line c b outer inner start at end s s1 s2 s3 s4 s5 s6 s7 u o e1 st e2 p e3 e4 e5 e6 i e7 q e8 =
    let r : ℕ → Laid = λ w. one line PayRound ⨾ looped line w 0 b in
    let f : ℕ → Laid = λ w. expr line c ⨾ over line Unless (r w) in
    let w = here s1 in
    let x6 : s6 ≡ after (with_start f) s1 =
    then_made (expr line c) (over line Unless (r w)) s1 s2 s6 e2
    (over_made line Unless (r w) at (here s5) s2 s3 s5 s6 p e3
    (then_made (one line PayRound) (looped line w 0 b) s3 s4 s5 e4 (e5 ∙ ap (λ m. after (looped line m 0 b) s4) st)) refl e6)
    ∙ start_is f s1 in
    ending_made (with_start f) outer inner end s s1 s6 s7 u o e1 x6 i e7 q e8
