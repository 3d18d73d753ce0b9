-- Each form of a statement's tree: what stands in it agrees with what it becomes.
use Rattle.std.proofs.Common.{◌≡◌, ℕ, true, List, [], ◌∷◌, map, Option, Some, None, option_map, sym, ap, ◌∙◌}
use Rattle.setl_tree.specs.declared.expr.BinaryOp.{BinaryOp}
use Rattle.setl_tree.specs.declared.expr.Expr.{Expr}
use Rattle.setl_tree.specs.declared.expr.Iter.{Iter}
use Rattle.setl_tree.specs.declared.expr.Slot.{Slot}
use Rattle.setl_tree.specs.declared.stmt.Place.{Place as Target}
use Rattle.setl_tree.specs.declared.stmt.FromEnd.{FromEnd}
use Rattle.setl_tree.specs.declared.stmt.Branch.{Branch, roll-Branch, fold-roll-Branch}
use Rattle.setl_tree.specs.declared.stmt.Stmt.{Stmt, roll-Stmt, fold-roll-Stmt}
use Rattle.setl_tree.specs.declared.stmt.StmtKind.{StmtKind, fold-roll-StmtKind}
use Rattle.setl_tree.specs.declared.stmt.StmtKind.TheVariants as st
use Rattle.setl_tree.specs.declared.stmt.StmtKind.TheOpen.{StmtKind-F}
use Rattle.setl_names.specs.Names.{Name as Word}
use Rattle.setl_names.specs.Places.{in_statement}
use Rattle.setl_names.specs.declared.occurrence.What.TheVariants as what
use Rattle.setl_names.specs.Occurrences as n
use Rattle.setl_names.specs.Statements as ns
use Rattle.setl_program.specs.Operators.{updating}
use Rattle.setl_program.specs.Updating.{is_updating}
use Rattle.setl_program.specs.Expressions as q
use Rattle.setl_program.specs.Statements as qs
use Rattle.setl_program_laws.proofs.Languages.{Each, SomeEach, Maybe}
use Rattle.setl_program_laws.proofs.Kept.{first, second}
use Rattle.setl_program_laws.proofs.Fine.{Context}
use Rattle.setl_program_laws.proofs.Trees.{Good, GoodIter, GoodSelector, all_good, option_good, turns_good, selectors_good}
use Rattle.setl_program_laws.proofs.Agreeing.{carried}
use Rattle.setl_program_laws.proofs.Statements.{AgreeKind, AgreeStmt, AgreeGuarded, AllStmts, AllGuarded, statements_fine, assignment_agrees, update_agrees, parts_agree, taking_agrees, performance_agrees, choice_agrees, for_agrees, while_agrees, quit_agrees, continue_agrees, fail_agrees, succeed_agrees, stop_agrees, pass_agrees, return_agrees, print_agrees, read_agrees}

module _ (c : Context) where
  abbrev pub GoodKind : StmtKind → Type 0
  GoodKind y = AgreeKind c (ns.kind_told y) (qs.kind_of y)

  abbrev pub GoodStmt : Stmt → Type 0
  GoodStmt y = AgreeStmt c (ns.stmt_told y) (qs.lined y)

  abbrev pub GoodBranch : Branch → Type 0
  GoodBranch y = AgreeGuarded c (ns.branch_told y) (qs.branch_of y)

  abbrev pub GoodPlace : Target → Type 0
  GoodPlace t = Each (GoodSelector c) t.selectors

  -- ---- lists

  pub all_stmts : (xs : List Stmt) → Each GoodStmt xs → AllStmts c (map ns.stmt_told xs) (map qs.lined xs)
  all_stmts [] h = tt
  all_stmts (x ∷ xs) h = (h.0, all_stmts xs h.1)

  all_branches : (xs : List Branch) → Each GoodBranch xs → AllGuarded c (map ns.branch_told xs) (map qs.branch_of xs)
  all_branches [] h = tt
  all_branches (x ∷ xs) h = (h.0, all_branches xs h.1)

  -- ---- each form

  pub good_stmt : (line : ℕ) (kind : StmtKind) → GoodKind kind → GoodStmt (roll-Stmt (record { line = line; kind = kind }))
  good_stmt line kind h = carried (AgreeStmt c)
      (fold-roll-Stmt ns.Placed ns.Placed ns.Told ns.kind_step ns.branch_step ns.stmt_step (record { line = line; kind = kind }))
      (fold-roll-Stmt qs.Kind qs.Guarded qs.Lined qs.kind_step qs.branch_step qs.stmt_step (record { line = line; kind = kind }))
      (record { at = λ w k i s v m. h.at (in_statement line) w k i line s v m })

  pub good_branch : (t : Expr) (body : List Stmt) → Good c t → Each GoodStmt body → GoodBranch (roll-Branch (record { condition = t; body = body }))
  good_branch t body g h = carried (AgreeGuarded c)
      (fold-roll-Branch ns.Placed ns.Placed ns.Told ns.kind_step ns.branch_step ns.stmt_step (record { condition = t; body = body }))
      (fold-roll-Branch qs.Kind qs.Guarded qs.Lined qs.kind_step qs.branch_step qs.stmt_step (record { condition = t; body = body }))
      (record {
        test = λ p w k s v m. g.term.at p (first (n.standing_in t p) (ns.all_told (map ns.stmt_told body) w) k) s v m;
        body = λ p w k i s v m. statements_fine (map ns.stmt_told body) (map qs.lined body) (all_stmts body h) w (second (n.standing_in t p) (ns.all_told (map ns.stmt_told body) w) k) i s v m;
      })

  pub is_assign : (t : Target) (x : Expr) → GoodPlace t → Good c x → GoodKind (st.Assign t x)
  is_assign t x g h = carried (AgreeKind c) (ap ns.kind_told (sym (st.rolls-Assign t x)) ∙ fold-roll-StmtKind ns.Placed ns.Placed ns.Told ns.kind_step ns.branch_step ns.stmt_step (StmtKind-F.Assign t x)) (ap qs.kind_of (sym (st.rolls-Assign t x)) ∙ fold-roll-StmtKind qs.Kind qs.Guarded qs.Lined qs.kind_step qs.branch_step qs.stmt_step (StmtKind-F.Assign t x)) (assignment_agrees t (n.part x) (q.part_of x) (selectors_good c t.selectors g) h)

  pub is_update : (t : Target) (f : BinaryOp) (x : Expr) → is_updating (updating f) ≡ true → GoodPlace t → Good c x → GoodKind (st.Update t f x)
  is_update t f x may g h = carried (AgreeKind c) (ap ns.kind_told (sym (st.rolls-Update t f x)) ∙ fold-roll-StmtKind ns.Placed ns.Placed ns.Told ns.kind_step ns.branch_step ns.stmt_step (StmtKind-F.Update t f x)) (ap qs.kind_of (sym (st.rolls-Update t f x)) ∙ fold-roll-StmtKind qs.Kind qs.Guarded qs.Lined qs.kind_step qs.branch_step qs.stmt_step (StmtKind-F.Update t f x)) (update_agrees t f (n.part x) (q.part_of x) may (selectors_good c t.selectors g) h)

  pub is_tuple_assign : (slots : List Slot) (x : Expr) → Good c x → GoodKind (st.TupleAssign slots x)
  is_tuple_assign slots x h = carried (AgreeKind c) (ap ns.kind_told (sym (st.rolls-TupleAssign slots x)) ∙ fold-roll-StmtKind ns.Placed ns.Placed ns.Told ns.kind_step ns.branch_step ns.stmt_step (StmtKind-F.TupleAssign slots x)) (ap qs.kind_of (sym (st.rolls-TupleAssign slots x)) ∙ fold-roll-StmtKind qs.Kind qs.Guarded qs.Lined qs.kind_step qs.branch_step qs.stmt_step (StmtKind-F.TupleAssign slots x)) (parts_agree slots (n.part x) (q.part_of x) h)

  pub is_take : (x : Word) (end : FromEnd) (t : Target) → GoodPlace t → GoodKind (st.Take x end t)
  is_take x end t g = carried (AgreeKind c) (ap ns.kind_told (sym (st.rolls-Take x end t)) ∙ fold-roll-StmtKind ns.Placed ns.Placed ns.Told ns.kind_step ns.branch_step ns.stmt_step (StmtKind-F.Take x end t)) (ap qs.kind_of (sym (st.rolls-Take x end t)) ∙ fold-roll-StmtKind qs.Kind qs.Guarded qs.Lined qs.kind_step qs.branch_step qs.stmt_step (StmtKind-F.Take x end t)) (taking_agrees x end t (selectors_good c t.selectors g))

  pub is_call : (f : Word) (xs : List Expr) → Each (Good c) xs → GoodKind (st.Call f xs)
  is_call f xs h = carried (AgreeKind c) (ap ns.kind_told (sym (st.rolls-Call f xs)) ∙ fold-roll-StmtKind ns.Placed ns.Placed ns.Told ns.kind_step ns.branch_step ns.stmt_step (StmtKind-F.Call f xs)) (ap qs.kind_of (sym (st.rolls-Call f xs)) ∙ fold-roll-StmtKind qs.Kind qs.Guarded qs.Lined qs.kind_step qs.branch_step qs.stmt_step (StmtKind-F.Call f xs)) (performance_agrees f (map n.part xs) (map q.part_of xs) (all_good c xs h) (λ p. n.at p (what.CallStatement f) ∷ []))

  pub is_if : (first_one : Branch) (others : List Branch) (last : Option (List Stmt)) → GoodBranch first_one → Each GoodBranch others → Maybe (Each GoodStmt) last → GoodKind (st.If first_one others last)
  is_if first_one others None f g h = carried (AgreeKind c) (ap ns.kind_told (sym (st.rolls-If first_one others None)) ∙ fold-roll-StmtKind ns.Placed ns.Placed ns.Told ns.kind_step ns.branch_step ns.stmt_step (StmtKind-F.If first_one others None)) (ap qs.kind_of (sym (st.rolls-If first_one others None)) ∙ fold-roll-StmtKind qs.Kind qs.Guarded qs.Lined qs.kind_step qs.branch_step qs.stmt_step (StmtKind-F.If first_one others None)) (choice_agrees (ns.branch_told first_one) (qs.branch_of first_one) (map ns.branch_told others) (map qs.branch_of others) None None f (all_branches others g) tt)
  is_if first_one others (Some body) f g h = carried (AgreeKind c) (ap ns.kind_told (sym (st.rolls-If first_one others (Some body))) ∙ fold-roll-StmtKind ns.Placed ns.Placed ns.Told ns.kind_step ns.branch_step ns.stmt_step (StmtKind-F.If first_one others (Some body))) (ap qs.kind_of (sym (st.rolls-If first_one others (Some body))) ∙ fold-roll-StmtKind qs.Kind qs.Guarded qs.Lined qs.kind_step qs.branch_step qs.stmt_step (StmtKind-F.If first_one others (Some body))) (choice_agrees (ns.branch_told first_one) (qs.branch_of first_one) (map ns.branch_told others) (map qs.branch_of others) (Some (map ns.stmt_told body)) (Some (map qs.lined body)) f (all_branches others g) (all_stmts body h))

  pub is_for : (is : List Iter) (t : Option Expr) (body : List Stmt) → SomeEach (GoodIter c) is → Maybe (Good c) t → Each GoodStmt body → GoodKind (st.For is t body)
  is_for (i ∷ is) t body g h j = carried (AgreeKind c) (ap ns.kind_told (sym (st.rolls-For (i ∷ is) t body)) ∙ fold-roll-StmtKind ns.Placed ns.Placed ns.Told ns.kind_step ns.branch_step ns.stmt_step (StmtKind-F.For (i ∷ is) t body)) (ap qs.kind_of (sym (st.rolls-For (i ∷ is) t body)) ∙ fold-roll-StmtKind qs.Kind qs.Guarded qs.Lined qs.kind_step qs.branch_step qs.stmt_step (StmtKind-F.For (i ∷ is) t body)) (for_agrees (n.turn i) (map n.turn is) (map q.turn_of (i ∷ is)) (option_map n.part t) (option_map q.part_of t) (map ns.stmt_told body) (map qs.lined body) (turns_good c (i ∷ is) g) (option_good c t h) (all_stmts body j))
  is_for [] t body g h j = absurd g

  pub is_while : (t : Expr) (body : List Stmt) → Good c t → Each GoodStmt body → GoodKind (st.While t body)
  is_while t body g h = carried (AgreeKind c) (ap ns.kind_told (sym (st.rolls-While t body)) ∙ fold-roll-StmtKind ns.Placed ns.Placed ns.Told ns.kind_step ns.branch_step ns.stmt_step (StmtKind-F.While t body)) (ap qs.kind_of (sym (st.rolls-While t body)) ∙ fold-roll-StmtKind qs.Kind qs.Guarded qs.Lined qs.kind_step qs.branch_step qs.stmt_step (StmtKind-F.While t body)) (while_agrees (n.part t) (q.part_of t) (map ns.stmt_told body) (map qs.lined body) g (all_stmts body h))

  pub is_quit : GoodKind st.Quit
  is_quit = carried (AgreeKind c) (ap ns.kind_told (sym st.rolls-Quit) ∙ fold-roll-StmtKind ns.Placed ns.Placed ns.Told ns.kind_step ns.branch_step ns.stmt_step StmtKind-F.Quit) (ap qs.kind_of (sym st.rolls-Quit) ∙ fold-roll-StmtKind qs.Kind qs.Guarded qs.Lined qs.kind_step qs.branch_step qs.stmt_step StmtKind-F.Quit) (quit_agrees)

  pub is_continue : GoodKind st.Continue
  is_continue = carried (AgreeKind c) (ap ns.kind_told (sym st.rolls-Continue) ∙ fold-roll-StmtKind ns.Placed ns.Placed ns.Told ns.kind_step ns.branch_step ns.stmt_step StmtKind-F.Continue) (ap qs.kind_of (sym st.rolls-Continue) ∙ fold-roll-StmtKind qs.Kind qs.Guarded qs.Lined qs.kind_step qs.branch_step qs.stmt_step StmtKind-F.Continue) (continue_agrees)

  pub is_fail : GoodKind st.Fail
  is_fail = carried (AgreeKind c) (ap ns.kind_told (sym st.rolls-Fail) ∙ fold-roll-StmtKind ns.Placed ns.Placed ns.Told ns.kind_step ns.branch_step ns.stmt_step StmtKind-F.Fail) (ap qs.kind_of (sym st.rolls-Fail) ∙ fold-roll-StmtKind qs.Kind qs.Guarded qs.Lined qs.kind_step qs.branch_step qs.stmt_step StmtKind-F.Fail) (fail_agrees)

  pub is_succeed : GoodKind st.Succeed
  is_succeed = carried (AgreeKind c) (ap ns.kind_told (sym st.rolls-Succeed) ∙ fold-roll-StmtKind ns.Placed ns.Placed ns.Told ns.kind_step ns.branch_step ns.stmt_step StmtKind-F.Succeed) (ap qs.kind_of (sym st.rolls-Succeed) ∙ fold-roll-StmtKind qs.Kind qs.Guarded qs.Lined qs.kind_step qs.branch_step qs.stmt_step StmtKind-F.Succeed) (succeed_agrees)

  pub is_stop : GoodKind st.Stop
  is_stop = carried (AgreeKind c) (ap ns.kind_told (sym st.rolls-Stop) ∙ fold-roll-StmtKind ns.Placed ns.Placed ns.Told ns.kind_step ns.branch_step ns.stmt_step StmtKind-F.Stop) (ap qs.kind_of (sym st.rolls-Stop) ∙ fold-roll-StmtKind qs.Kind qs.Guarded qs.Lined qs.kind_step qs.branch_step qs.stmt_step StmtKind-F.Stop) (stop_agrees)

  pub is_pass : GoodKind st.Pass
  is_pass = carried (AgreeKind c) (ap ns.kind_told (sym st.rolls-Pass) ∙ fold-roll-StmtKind ns.Placed ns.Placed ns.Told ns.kind_step ns.branch_step ns.stmt_step StmtKind-F.Pass) (ap qs.kind_of (sym st.rolls-Pass) ∙ fold-roll-StmtKind qs.Kind qs.Guarded qs.Lined qs.kind_step qs.branch_step qs.stmt_step StmtKind-F.Pass) (pass_agrees)

  pub is_return : (x : Option Expr) → Maybe (Good c) x → GoodKind (st.Return x)
  is_return x h = carried (AgreeKind c) (ap ns.kind_told (sym (st.rolls-Return x)) ∙ fold-roll-StmtKind ns.Placed ns.Placed ns.Told ns.kind_step ns.branch_step ns.stmt_step (StmtKind-F.Return x)) (ap qs.kind_of (sym (st.rolls-Return x)) ∙ fold-roll-StmtKind qs.Kind qs.Guarded qs.Lined qs.kind_step qs.branch_step qs.stmt_step (StmtKind-F.Return x)) (return_agrees (option_map n.part x) (option_map q.part_of x) (option_good c x h))

  pub is_print : (xs : List Expr) → Each (Good c) xs → GoodKind (st.Print xs)
  is_print xs h = carried (AgreeKind c) (ap ns.kind_told (sym (st.rolls-Print xs)) ∙ fold-roll-StmtKind ns.Placed ns.Placed ns.Told ns.kind_step ns.branch_step ns.stmt_step (StmtKind-F.Print xs)) (ap qs.kind_of (sym (st.rolls-Print xs)) ∙ fold-roll-StmtKind qs.Kind qs.Guarded qs.Lined qs.kind_step qs.branch_step qs.stmt_step (StmtKind-F.Print xs)) (print_agrees (map n.part xs) (map q.part_of xs) (all_good c xs h))

  pub is_read : (xs : List Word) → GoodKind (st.Read xs)
  is_read xs = carried (AgreeKind c) (ap ns.kind_told (sym (st.rolls-Read xs)) ∙ fold-roll-StmtKind ns.Placed ns.Placed ns.Told ns.kind_step ns.branch_step ns.stmt_step (StmtKind-F.Read xs)) (ap qs.kind_of (sym (st.rolls-Read xs)) ∙ fold-roll-StmtKind qs.Kind qs.Guarded qs.Lined qs.kind_step qs.branch_step qs.stmt_step (StmtKind-F.Read xs)) (read_agrees xs)
