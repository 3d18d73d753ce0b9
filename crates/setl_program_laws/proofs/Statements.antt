-- What the statements of a tree become is fine where no rule is broken.
use Rattle.std.proofs.Common.{◌≡◌, ℕ, Bool, true, false, List, [], ◌∷◌, ◌++◌, map, Option, Some, None, sym, ap}
use Rattle.setl_tree.specs.declared.expr.BinaryOp.{BinaryOp}
use Rattle.setl_tree.specs.declared.expr.Slot.{Slot}
use Rattle.setl_tree.specs.declared.stmt.FromEnd.{FromEnd}
use Rattle.setl_tree.specs.declared.stmt.Place.{Place as Target}
use Rattle.setl_tree.specs.declared.tree.Param.{Param}
use Rattle.setl_names.specs.declared.around.Around.{Around as Spot}
use Rattle.setl_names.specs.declared.occurrence.Occurrence.{Occurrence}
use Rattle.setl_names.specs.declared.occurrence.What.TheVariants as what
use Rattle.setl_names.specs.Names.{Name as Word}
use Rattle.setl_names.specs.Places.{Place, in_a_loop}
use Rattle.setl_names.specs.Procedures.{found_procedure}
use Rattle.setl_names.specs.Occurrences as n
use Rattle.setl_names.specs.Statements as ns
use Rattle.setl_program.specs.Program.{Place as Changed, Stmt, Quit, Continue, Fail, Succeed, Stop, Pass, Block, Expr}
use Rattle.setl_program.specs.Formed.{FormedStmt, FormedBlock, FormedVariables, InProcedure, IsInLoop}
use Rattle.setl_program.specs.Placed.{PlacedStmt, PlacedBlock, PlacedVariables}
use Rattle.setl_program.specs.Updating.{is_updating, UpdatingStmt, UpdatingBlock}
use Rattle.setl_program.specs.Operators.{updating}
use Rattle.setl_program.specs.Lists.{all_selectors, block_of, otherwise}
use Rattle.setl_program.specs.Scope.{Scope, variable_of, procedure_of}
use Rattle.setl_program.specs.Expressions as q
use Rattle.setl_program.specs.Statements as qs
use Rattle.setl_program_laws.proofs.Kept.{Kept, first, second}
use Rattle.setl_program_laws.proofs.Fine.{Context, Within, variable_fine, slots_fine, FineVariable, Fine, FineSelectors, FineOption, exprs_fine, iterators_fine, condition_fine, fine_undefined, updates}
use Rattle.setl_program_laws.proofs.Agreeing.{Agree, AllAgree, AgreeOption, AgreeTurns, AllBehind}
use Rattle.setl_program_laws.proofs.Parts.{terms_fine, optional_fine, ordinary_turns_fine, some_iterator}
use Rattle.setl_program_laws.proofs.Selections.{found_call_fine}

module _ (c : Context) where
  pub record FineStmt (l : Bool) (st : Stmt) : Type 0 where
    pub formed : FormedStmt c.around l st
    pub placed : PlacedStmt c.vars st
    pub updating : UpdatingStmt st

  pub record FineBlock (l : Bool) (b : Block) : Type 0 where
    pub formed : FormedBlock c.around l b
    pub placed : PlacedBlock c.vars b
    pub updating : UpdatingBlock b

  record FinePlace (p : Changed) : Type 0 where
    pub variable : FineVariable c p.variable
    pub selectors : FineSelectors c p.selectors

  abbrev pub FineStmts : Bool → List (ℕ × Stmt) → Type 0
  FineStmts l [] = Unit {0}
  FineStmts l (x ∷ xs) = FineStmt l x.1 × FineStmts l xs

  -- a statement stands in a procedure only if its body is one
  pub record InBody (w : Spot) : Type 0 where
    pub is : w.in_procedure ≡ true → InProcedure c.around.body

  -- ---- what stands in a statement, beside what it becomes

  pub record AgreeKind (a : Place → Spot → List Occurrence) (k : qs.Kind) : Type 0 where
    pub at : (p : Place) (w : Spot) → Kept c.procs (a p w) → InBody w → (line : ℕ) (s : Scope) → Within c s → (m : ℕ) → FineStmt w.in_loop (k line s m).0

  pub record AgreeStmt (a : ns.Told) (x : qs.Lined) : Type 0 where
    pub at : (w : Spot) → Kept c.procs (a w) → InBody w → (s : Scope) → Within c s → (m : ℕ) → FineStmt w.in_loop (x s m).0.1

  pub record AgreeGuarded (a : ns.Placed) (g : qs.Guarded) : Type 0 where
    pub test : (p : Place) (w : Spot) → Kept c.procs (a p w) → (s : Scope) → Within c s → (m : ℕ) → Fine c (g.test.term s m).0
    pub body : (p : Place) (w : Spot) → Kept c.procs (a p w) → InBody w → (s : Scope) → Within c s → (m : ℕ) → FineStmts w.in_loop (qs.statements g.body s m).0

  abbrev pub AllStmts : List ns.Told → List qs.Lined → Type 0
  AllStmts [] [] = Unit {0}
  AllStmts (a ∷ as_) (x ∷ xs) = AgreeStmt a x × AllStmts as_ xs
  AllStmts as_ xs = ⊥

  abbrev pub OptionStmts : Option (List ns.Told) → Option (List qs.Lined) → Type 0
  OptionStmts None None = Unit {0}
  OptionStmts (Some as_) (Some xs) = AllStmts as_ xs
  OptionStmts a x = ⊥

  abbrev pub AllGuarded : List ns.Placed → List qs.Guarded → Type 0
  AllGuarded [] [] = Unit {0}
  AllGuarded (a ∷ as_) (x ∷ xs) = AgreeGuarded a x × AllGuarded as_ xs
  AllGuarded as_ xs = ⊥

  -- the place of an `elseif`, before what follows it
  record FineBranch (l : Bool) (f : Block → Block) : Type 0 where
    pub before : (rest : Block) → FineBlock l rest → FineBlock l (f rest)

  abbrev FineBranches : Bool → List (Block → Block) → Type 0
  FineBranches l [] = Unit {0}
  FineBranches l (f ∷ fs) = FineBranch l f × FineBranches l fs

loops_truly : (b : Bool) → b ≡ true → IsInLoop b
loops_truly true h = tt
loops_truly false h = cc

module _ {c : Context} where
  -- ---- blocks

  pub block_fine : {l : Bool} (xs : List (ℕ × Stmt)) → FineStmts c l xs → FineBlock c l (block_of xs)
  block_fine [] h = record { formed = tt; placed = tt; updating = tt }
  block_fine (x ∷ xs) h = let rest = block_fine xs h.1 in record { formed = (h.0.formed, rest.formed); placed = (h.0.placed, rest.placed); updating = (h.0.updating, rest.updating) }

  pub statements_fine : (as_ : List ns.Told) (xs : List qs.Lined) → AllStmts c as_ xs → (w : Spot) → Kept c.procs (ns.all_told as_ w) → InBody c w → (s : Scope) → Within c s → (m : ℕ) → FineStmts c w.in_loop (qs.statements xs s m).0
  statements_fine [] [] h w k i s v m = tt
  statements_fine (a ∷ as_) (x ∷ xs) h w k i s v m =
      (h.0.at w (first (a w) (ns.all_told as_ w) k) i s v m, statements_fine as_ xs h.1 w (second (a w) (ns.all_told as_ w) k) i s v _)
  statements_fine [] (x ∷ xs) h w k i s v m = absurd h
  statements_fine (a ∷ as_) [] h w k i s v m = absurd h

  optional_block_fine : (a : Option (List ns.Told)) (x : Option (List qs.Lined)) → OptionStmts c a x → (w : Spot) → Kept c.procs (ns.optional_told a w) → InBody c w → (s : Scope) → Within c s → (m : ℕ) → FineStmts c w.in_loop (qs.optional_block x s m).0
  optional_block_fine None None h w k i s v m = tt
  optional_block_fine (Some as_) (Some xs) h w k i s v m = statements_fine as_ xs h w k i s v m
  optional_block_fine None (Some xs) h w k i s v m = absurd h
  optional_block_fine (Some as_) None h w k i s v m = absurd h

  -- ---- places

  selectors_fine : (as_ : List n.Behind) (bs : List q.Behind) → AllBehind c as_ bs → (p : Place) → Kept c.procs (n.all_behind as_ p) → (s : Scope) → Within c s → (m : ℕ) → FineSelectors c (all_selectors (qs.selectors bs s m).0)
  selectors_fine [] [] h p k s w m = record { formed = tt; placed = tt }
  selectors_fine (a ∷ as_) (b ∷ bs) h p k s w m =
      (h.0.selector.at p (first (a.standing p) (n.all_behind as_ p) k) s w m).before _ (selectors_fine as_ bs h.1 p (second (a.standing p) (n.all_behind as_ p) k) s w _)
  selectors_fine [] (b ∷ bs) h p k s w m = absurd h
  selectors_fine (a ∷ as_) [] h p k s w m = absurd h

  place_fine : (t : Target) → AllBehind c (map n.behind t.selectors) (map q.behind_of t.selectors) → (p : Place) → Kept c.procs (ns.target t p) → (s : Scope) → Within c s → (m : ℕ) → FinePlace c (qs.place t s m).0
  place_fine t h p k s w m = record {
    variable = variable_fine t.name w;
    selectors = selectors_fine (map n.behind t.selectors) (map q.behind_of t.selectors) h p (second (n.named t.name p) (n.all_behind (map n.behind t.selectors) p) k) s w m;
  }

  -- ---- each kind of statement

  pub assignment_agrees : (t : Target) (a : n.Part) (x : q.Part) → AllBehind c (map n.behind t.selectors) (map q.behind_of t.selectors) → Agree c a x → AgreeKind c (λ p w. ns.target t p ++ a.standing p) (λ line. qs.assignment t x)
  assignment_agrees t a x g h = record {
    at = λ p w k i line s v m.
        let place = place_fine t g p (first (ns.target t p) (a.standing p) k) s v m in
        let value = h.term.at p (second (ns.target t p) (a.standing p) k) s v _ in
        record { formed = (place.variable.formed, place.selectors.formed, value.formed); placed = ((place.variable.placed, place.selectors.placed), value.placed); updating = tt };
  }

  pub update_agrees : (t : Target) (f : BinaryOp) (a : n.Part) (x : q.Part) → is_updating (updating f) ≡ true → AllBehind c (map n.behind t.selectors) (map q.behind_of t.selectors) → Agree c a x → AgreeKind c (λ p w. ns.target t p ++ a.standing p) (λ line. qs.update t f x)
  update_agrees t f a x may g h = record {
    at = λ p w k i line s v m.
        let place = place_fine t g p (first (ns.target t p) (a.standing p) k) s v m in
        let value = h.term.at p (second (ns.target t p) (a.standing p) k) s v _ in
        record { formed = (place.variable.formed, place.selectors.formed, value.formed); placed = (updates f, (place.variable.placed, place.selectors.placed), value.placed); updating = may };
  }

  pub parts_agree : (slots : List Slot) (a : n.Part) (x : q.Part) → Agree c a x → AgreeKind c (λ p w. ns.tuple_target slots p ++ a.standing p) (λ line. qs.parts_assignment slots x)
  parts_agree slots a x h = record {
    at = λ p w k i line s v m.
        let all = slots_fine {c = c} (variable_of s) slots (λ y. variable_fine y v) in
        let value = h.term.at p (second (ns.tuple_target slots p) (a.standing p) k) s v m in
        record { formed = (all.formed, value.formed); placed = (all.placed, value.placed); updating = tt };
  }

  pub taking_agrees : (y : Word) (end : FromEnd) (t : Target) → AllBehind c (map n.behind t.selectors) (map q.behind_of t.selectors) → AgreeKind c (λ p w. n.named y p ++ ns.target t p) (λ line. qs.taking_from y end t)
  taking_agrees y end t g = record {
    at = λ p w k i line s v m.
        let place = place_fine t g p (second (n.named y p) (ns.target t p) k) s v m in
        let var = variable_fine {c = c} y v in
        record { formed = (var.formed, place.variable.formed, place.selectors.formed); placed = (var.placed, (place.variable.placed, place.selectors.placed)); updating = tt };
  }

  called_fine : {l : Bool} (found : Option (ℕ × List Param)) (f : Word) → found_procedure c.procs f ≡ found → (as_ : List n.Part) (xs : List q.Part) → AllAgree c as_ xs → (p : Place) → Kept c.procs (n.applied f as_ p) → (s : Scope) → Within c s → (m : ℕ) → FineStmt c l (qs.called found xs s m).0
  called_fine None f is as_ xs h p k s v m = record { formed = tt; placed = tt; updating = tt }
  called_fine (Some r) f is as_ xs h p k s v m =
      let value = found_call_fine f r.0 r.1 is as_ xs h p k s v m in
      record { formed = value.formed; placed = value.placed; updating = tt }

  pub performance_agrees : (f : Word) (as_ : List n.Part) (xs : List q.Part) → AllAgree c as_ xs → (called : Place → List Occurrence) → AgreeKind c (λ p w. called p ++ n.applied f as_ p) (λ line. qs.performance f xs)
  performance_agrees f as_ xs h called = record {
    at = λ p w k i line s v m.
        called_fine (procedure_of s f) f (ap (λ procs. found_procedure procs f) (sym v.procedures)) as_ xs h p (second (called p) (n.applied f as_ p) k) s v m;
  }

  -- ---- branches

  guarded_fine : (line : ℕ) (a : ns.Placed) (g : qs.Guarded) → AgreeGuarded c a g → (p : Place) (w : Spot) → Kept c.procs (a p w) → InBody c w → (s : Scope) → Within c s → (m : ℕ) → FineBranch c w.in_loop (qs.guarded line g s m).0
  guarded_fine line a g h p w k i s v m =
      let test = h.test p w k s v m in
      let body = block_fine _ (h.body p w k i s v (g.test.term s m).1) in
      record { before = λ rest later. record { formed = ((test.formed, body.formed, later.formed), tt); placed = ((test.placed, body.placed, later.placed), tt); updating = ((body.updating, later.updating), tt) } }

  branches_fine : (line : ℕ) (as_ : List ns.Placed) (gs : List qs.Guarded) → AllGuarded c as_ gs → (p : Place) (w : Spot) → Kept c.procs (ns.all_branches as_ p w) → InBody c w → (s : Scope) → Within c s → (m : ℕ) → FineBranches c w.in_loop (qs.branches line gs s m).0
  branches_fine line [] [] h p w k i s v m = tt
  branches_fine line (a ∷ as_) (g ∷ gs) h p w k i s v m =
      (guarded_fine line a g h.0 p w (first (a p w) (ns.all_branches as_ p w) k) i s v m, branches_fine line as_ gs h.1 p w (second (a p w) (ns.all_branches as_ p w) k) i s v _)
  branches_fine line [] (g ∷ gs) h p w k i s v m = absurd h
  branches_fine line (a ∷ as_) [] h p w k i s v m = absurd h

  otherwise_fine : {l : Bool} (fs : List (Block → Block)) (last : Block) → FineBranches c l fs → FineBlock c l last → FineBlock c l (otherwise fs last)
  otherwise_fine [] last h g = g
  otherwise_fine (f ∷ fs) last h g = h.0.before (otherwise fs last) (otherwise_fine fs last h.1 g)

  pub choice_agrees : (a : ns.Placed) (g : qs.Guarded) (as_ : List ns.Placed) (gs : List qs.Guarded) (b : Option (List ns.Told)) (y : Option (List qs.Lined)) → AgreeGuarded c a g → AllGuarded c as_ gs → OptionStmts c b y → AgreeKind c (λ p w. a p w ++ (ns.all_branches as_ p w ++ ns.optional_told b w)) (λ line. qs.choice line g gs y)
  choice_agrees a g as_ gs b y f h j = record {
    at = λ p w k i line s v m.
        let here = first (a p w) (ns.all_branches as_ p w ++ ns.optional_told b w) k in
        let later = second (a p w) (ns.all_branches as_ p w ++ ns.optional_told b w) k in
        let test = f.test p w here s v m in
        let body = block_fine _ (f.body p w here i s v (g.test.term s m).1) in
        let others = branches_fine line as_ gs h p w (first (ns.all_branches as_ p w) (ns.optional_told b w) later) i s v (qs.statements g.body s (g.test.term s m).1).1 in
        let last = block_fine _ (optional_block_fine b y j w (second (ns.all_branches as_ p w) (ns.optional_told b w) later) i s v (qs.branches line gs s (qs.statements g.body s (g.test.term s m).1).1).1) in
        let rest = otherwise_fine _ _ others last in
        record { formed = (test.formed, body.formed, rest.formed); placed = (test.placed, body.placed, rest.placed); updating = (body.updating, rest.updating) };
  }

  -- ---- loops

  looping : {w : Spot} → InBody c w → InBody c (in_a_loop w)
  looping h = record { is = h.is }

  pub for_agrees : (t : n.Turn) (as_ : List n.Turn) (ts : List q.Turn) (b : Option n.Part) (y : Option q.Part) (body : List ns.Told) (xs : List qs.Lined) → AgreeTurns c (t ∷ as_) ts → AgreeOption c b y → AllStmts c body xs →
      AgreeKind c (λ p w. n.ordinary_turns (t ∷ as_) p ++ (n.optional_part b p ++ ns.all_told body (in_a_loop w))) (λ line. qs.for_loop ts y xs)
  for_agrees t as_ ts b y body xs f g h = record {
    at = λ p w k i line s v m.
        let turns = n.ordinary_turns (t ∷ as_) p in
        let told = ns.all_told body (in_a_loop w) in
        let later = second turns (n.optional_part b p ++ told) k in
        let over = iterators_fine _ ((ordinary_turns_fine (t ∷ as_) ts f).at p (first turns (n.optional_part b p ++ told) k) s v m) in
        let condition = condition_fine _ ((optional_fine b y g).at p (first (n.optional_part b p) told later) s v (q.iterators ts s m).1) in
        let inner = block_fine _ (statements_fine body xs h (in_a_loop w) (second (n.optional_part b p) told later) (looping i) s v (q.optional y s (q.iterators ts s m).1).1) in
        record { formed = (some_iterator c t as_ ts f s m, over.formed, condition.formed, inner.formed); placed = (over.placed, condition.placed, inner.placed); updating = inner.updating };
  }

  pub while_agrees : (a : n.Part) (x : q.Part) (body : List ns.Told) (xs : List qs.Lined) → Agree c a x → AllStmts c body xs → AgreeKind c (λ p w. a.standing p ++ ns.all_told body (in_a_loop w)) (λ line. qs.while_loop x xs)
  while_agrees a x body xs g h = record {
    at = λ p w k i line s v m.
        let told = ns.all_told body (in_a_loop w) in
        let test = g.term.at p (first (a.standing p) told k) s v m in
        let inner = block_fine _ (statements_fine body xs h (in_a_loop w) (second (a.standing p) told k) (looping i) s v (x.term s m).1) in
        record { formed = (test.formed, inner.formed); placed = (test.placed, inner.placed); updating = inner.updating };
  }

  -- ---- statements of one word, and the others

  pub quit_agrees : AgreeKind c (λ p w. ns.quit w p) (λ line s m. (Quit, m))
  quit_agrees = record { at = λ p w k i line s v m. record { formed = loops_truly w.in_loop k.all.0; placed = tt; updating = tt } }

  pub continue_agrees : AgreeKind c (λ p w. ns.quit w p) (λ line s m. (Continue, m))
  continue_agrees = record { at = λ p w k i line s v m. record { formed = loops_truly w.in_loop k.all.0; placed = tt; updating = tt } }

  pub fail_agrees : AgreeKind c (λ p w. []) (λ line s m. (Fail, m))
  fail_agrees = record { at = λ p w k i line s v m. record { formed = tt; placed = tt; updating = tt } }

  pub succeed_agrees : AgreeKind c (λ p w. []) (λ line s m. (Succeed, m))
  succeed_agrees = record { at = λ p w k i line s v m. record { formed = tt; placed = tt; updating = tt } }

  pub stop_agrees : AgreeKind c (λ p w. []) (λ line s m. (Stop, m))
  stop_agrees = record { at = λ p w k i line s v m. record { formed = tt; placed = tt; updating = tt } }

  pub pass_agrees : AgreeKind c (λ p w. []) (λ line s m. (Pass, m))
  pass_agrees = record { at = λ p w k i line s v m. record { formed = tt; placed = tt; updating = tt } }

  returned_fine : (e : Option Expr) → FineOption c e → Fine c (qs.returned e)
  returned_fine None h = fine_undefined
  returned_fine (Some e) h = h

  pub return_agrees : (b : Option n.Part) (y : Option q.Part) → AgreeOption c b y → AgreeKind c (λ p w. n.at p (what.Return w.in_procedure) ∷ n.optional_part b p) (λ line. qs.return_of y)
  return_agrees b y h = record {
    at = λ p w k i line s v m.
        let value = returned_fine _ ((optional_fine b y h).at p (second (n.at p (what.Return w.in_procedure) ∷ []) (n.optional_part b p) k) s v m) in
        record { formed = (i.is k.all.0, value.formed); placed = value.placed; updating = tt };
  }

  pub print_agrees : (as_ : List n.Part) (xs : List q.Part) → AllAgree c as_ xs → AgreeKind c (λ p w. n.all_parts as_ p) (λ line. qs.print_of xs)
  print_agrees as_ xs h = record {
    at = λ p w k i line s v m.
        let all = exprs_fine _ ((terms_fine as_ xs h).at p k s v m) in
        record { formed = all.formed; placed = all.placed; updating = tt };
  }

  variables_formed : (xs : List Word) (s : Scope) → Within c s → FormedVariables c.around.body (map (variable_of s) xs)
  variables_formed [] s v = tt
  variables_formed (x ∷ xs) s v = ((variable_fine x v).formed, variables_formed xs s v)

  variables_placed : (xs : List Word) (s : Scope) → Within c s → PlacedVariables c.vars (map (variable_of s) xs)
  variables_placed [] s v = tt
  variables_placed (x ∷ xs) s v = ((variable_fine {c = c} x v).placed, variables_placed xs s v)

  pub read_agrees : (xs : List Word) → AgreeKind c (λ p w. n.all_named xs p) (λ line. qs.read_of xs)
  read_agrees xs = record { at = λ p w k i line s v m. record { formed = variables_formed xs s v; placed = variables_placed xs s v; updating = tt } }
