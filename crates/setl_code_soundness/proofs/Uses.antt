-- The instructions of a construct name the variables that stand in it.
use Rattle.std.proofs.Common.{◌≡◌, ℕ, zero, suc, true, List, [], ◌∷◌, ◌++◌, Some, None, refl}
use Rattle.setl_model_runs.specs.Variable.{Variable}
use Rattle.setl_program.specs.declared.kinds.Quantifier.{Quantifier}
use Rattle.setl_program.specs.declared.kinds.Quantifier.TheVariants.{Exists, Forall, NotExists}
use Rattle.setl_program.specs.Program.{Slots, Binding, Member, Components, Point, Expr, Literal, Undefined, Name, Apply, Connect, Choose, Former, Selection, Quantified, Call, Newat, Eof, Ok, Exprs, no_expr, more_exprs, Iterators, no_iterator, more_iterators, Condition, no_condition, only_if, Arguments, no_argument, rd_argument, wr_argument, rw_argument, Selectors, no_selector, round_selector, brace_selector, Stmt, Assign, Update, AssignParts, TakeFrom, Perform, If, For, While, Quit, Continue, Fail, Succeed, Stop, Pass, Return, Print, Read, Block, no_stmt, more_stmts}
use Rattle.setl_model.specs.Slots.{variables_in}
use Rattle.setl_model.specs.Iterations.{bound_by, all_bound}
use Rattle.setl_code.specs.Code.{Alteration, Putting, Combining, TakingOut, Instr, Load, Take, StoreIn, Alter}
use Rattle.setl_code.specs.Piece.{Labels, Laid, nothing}
use Rattle.setl_code.specs.Generated.{store_slots, bind, clear, set_by, negated, expr, exprs, iterators, condition, arguments, selectors, alter, put, read_all, quit, stmt, block}
use Rattle.setl_code.specs.Names.{around, in_expr, in_exprs, in_iterators, in_condition, in_arguments, in_selectors, in_stmt, in_block}
use Rattle.setl_code.specs.Sound.{may_alter}
use Rattle.setl_program.specs.Updating.{UpdatingStmt, UpdatingBlock}
use Rattle.setl_code_soundness.proofs.Laying.{Each}

-- something holds of each of these variables
abbrev pub Each_of : (Variable → Type 0) → List Variable → Type 0
Each_of V [] = Unit {0}
Each_of V (x ∷ xs) = V x × Each_of V xs

pub split : (V : Variable → Type 0) (xs ys : List Variable) → Each_of V (xs ++ ys) → Each_of V xs × Each_of V ys
split V [] ys h = (tt, h)
split V (x ∷ xs) ys h = let two = split V xs ys h.1 in ((h.0, two.0), two.1)

pub joined : (V : Variable → Type 0) (xs ys : List Variable) → Each_of V xs → Each_of V ys → Each_of V (xs ++ ys)
joined V [] ys h g = g
joined V (x ∷ xs) ys h g = (h.0, joined V xs ys h.1 g)

-- what an instruction names
abbrev pub Uses : (Variable → Type 0) → ℕ → ℕ → Instr → Type 0
Uses V at line (Load x) = V x
Uses V at line (Take x) = V x
Uses V at line (StoreIn x) = V x
Uses V at line (Alter a x bs) = V x × (may_alter a ≡ true)
Uses V at line i = Unit {0}

module _ (V : Variable → Type 0) where
  -- ---- bound names

  abbrev Bounds : Binding → Type 0
  Bounds b = Each_of V (variables_in (bound_by b))

  around_split : (b : Binding) (source : List Variable) → Each_of V (around b source) → Bounds b × Each_of V source
  around_split (Member k x) source h = ((h.0, tt), h.1)
  around_split (Components k xs) source h = split V (variables_in xs) source h
  around_split (Point y x) source h = let two = split V (y ∷ source) (x ∷ []) h in ((two.0.0, (two.1.0, tt)), two.0.1)

  slots_used : (xs : Slots) (line : ℕ) (l : Labels) (at : ℕ) → Each_of V (variables_in xs) → Each (Uses V) l at (store_slots line xs at)
  slots_used [] line l at h = tt
  slots_used (None ∷ xs) line l at h = (tt, slots_used xs line l (suc at) h)
  slots_used (Some x ∷ xs) line l at h = (h.0, slots_used xs line l (suc at) h.1)

  bound_used : (b : Binding) (line : ℕ) (l : Labels) (at : ℕ) → Bounds b → Each (Uses V) l at (bind line b at)
  bound_used (Member k x) line l at h = (h.0, tt)
  bound_used (Components k xs) line l at h = (tt, slots_used xs line l (suc at) h)
  bound_used (Point y x) line l at h = (h.1.0, (h.0, tt))

  cleared_used : (xs : List Variable) (line : ℕ) (l : Labels) (at : ℕ) → Each_of V xs → Each (Uses V) l at (clear line xs at)
  cleared_used [] line l at h = tt
  cleared_used (x ∷ xs) line l at h = (tt, (h.0, cleared_used xs line l (suc (suc at)) h.1))

  all_bound_used : (is : Iterators) → Each_of V (in_iterators is) → Each_of V (all_bound is)
  all_bound_used no_iterator h = tt
  all_bound_used (more_iterators b es rest) h =
      let two = split V (around b (in_exprs es)) (in_iterators rest) h in
      joined V (variables_in (bound_by b)) (all_bound rest) (around_split b (in_exprs es) two.0).0 (all_bound_used rest two.1)

  negated_used : (q : Quantifier) (line : ℕ) (l : Labels) (at : ℕ) → Each (Uses V) l at (negated line q at)
  negated_used Exists line l at = tt
  negated_used Forall line l at = tt
  negated_used NotExists line l at = tt

  set_used : (all : Arguments) → Each_of V (in_arguments all) → Each_of V (variables_in (set_by all))
  set_used no_argument h = tt
  set_used (rd_argument e rest) h = set_used rest (split V (in_expr e) (in_arguments rest) h).1
  set_used (wr_argument x rest) h = (h.0, set_used rest h.1)
  set_used (rw_argument x rest) h = (h.0, set_used rest h.1)

  -- ---- expressions

  mutual
    expr_used : (e : Expr) (line : ℕ) (l : Labels) (at : ℕ) → Each_of V (in_expr e) → Each (Uses V) l at (expr line e at)
    expr_used (Literal d) line l at h = tt
    expr_used Undefined line l at h = tt
    expr_used (Name x) line l at h = h.0
    expr_used (Apply o es) line l at h = (exprs_used es line l at h, tt)
    expr_used (Connect k a b) line l at h = let two = split V (in_expr a) (in_expr b) h in (expr_used a line l at two.0, (tt, (expr_used b line l _ two.1, tt)))
    expr_used (Choose t a b) line l at h =
        let two = split V (in_expr t ++ in_expr a) (in_expr b) h in
        let one = split V (in_expr t) (in_expr a) two.0 in
        (expr_used t line l at one.0, (tt, (expr_used a line l _ one.1, (tt, expr_used b line l _ two.1))))
    expr_used (Former k e is t) line l at h =
        let two = split V (in_expr e ++ in_iterators is) (in_condition t) h in
        let one = split V (in_expr e) (in_iterators is) two.0 in
        (tt, iterators_used is _ line l (suc at) _ one.1 (λ a m at2. (condition_used t line m at2 a two.1, (expr_used e line m _ one.0, (tt, tt)))))
    expr_used (Selection k b es c) line l at h =
        let two = split V (around b (in_exprs es)) (in_expr c) h in
        let one = around_split b (in_exprs es) two.0 in
        (tt, (exprs_used es line l _ one.1, (tt, (tt, ((tt, bound_used b line l _ one.0), (expr_used c line l _ two.1, ((tt, (tt, tt)), (tt, tt))))))))
    expr_used (Quantified q is c) line l at h =
        let two = split V (in_iterators is) (in_expr c) h in
        (iterators_used is _ line _ at _ two.0 (λ a m at2. (expr_used c line m at2 two.1, (negated_used q line m _, (tt, (tt, (tt, tt)))))), (cleared_used (all_bound is) line l _ (all_bound_used is two.0), tt))
    expr_used (Call f all) line l at h = (arguments_used all line l at h, (tt, slots_used (set_by all) line l _ (set_used all h)))
    expr_used Newat line l at h = tt
    expr_used Eof line l at h = tt
    expr_used Ok line l at h = tt

    exprs_used : (es : Exprs) (line : ℕ) (l : Labels) (at : ℕ) → Each_of V (in_exprs es) → Each (Uses V) l at (exprs line es at)
    exprs_used no_expr line l at h = tt
    exprs_used (more_exprs e rest) line l at h = let two = split V (in_expr e) (in_exprs rest) h in (expr_used e line l at two.0, exprs_used rest line l _ two.1)

    iterators_used : (is : Iterators) (inside : ℕ → Laid) (line : ℕ) (l : Labels) (at back : ℕ) → Each_of V (in_iterators is) → ((a : ℕ) (m : Labels) (at2 : ℕ) → Each (Uses V) m at2 (inside a at2)) → Each (Uses V) l at (iterators line nothing is inside back at)
    iterators_used no_iterator inside line l at back h inner = inner back l at
    iterators_used (more_iterators b es rest) inside line l at back h inner =
        let two = split V (around b (in_exprs es)) (in_iterators rest) h in
        let one = around_split b (in_exprs es) two.0 in
        (exprs_used es line l at one.1, (tt, (tt, ((tt, bound_used b line l _ one.0), iterators_used rest inside line l _ _ two.1 inner))))

    condition_used : (t : Condition) (line : ℕ) (l : Labels) (at a : ℕ) → Each_of V (in_condition t) → Each (Uses V) l at (condition line t a at)
    condition_used no_condition line l at a h = tt
    condition_used (only_if c) line l at a h = (expr_used c line l at h, tt)

    arguments_used : (all : Arguments) (line : ℕ) (l : Labels) (at : ℕ) → Each_of V (in_arguments all) → Each (Uses V) l at (arguments line all at)
    arguments_used no_argument line l at h = tt
    arguments_used (rd_argument e rest) line l at h = let two = split V (in_expr e) (in_arguments rest) h in (expr_used e line l at two.0, arguments_used rest line l _ two.1)
    arguments_used (wr_argument x rest) line l at h = (tt, arguments_used rest line l _ h.1)
    arguments_used (rw_argument x rest) line l at h = (h.0, arguments_used rest line l _ h.1)

  -- ---- statements

  selectors_used : (ss : Selectors) (line : ℕ) (l : Labels) (at : ℕ) → Each_of V (in_selectors ss) → Each (Uses V) l at (selectors line ss at)
  selectors_used no_selector line l at h = tt
  selectors_used (round_selector e rest) line l at h = let two = split V (in_expr e) (in_selectors rest) h in (expr_used e line l at two.0, selectors_used rest line l _ two.1)
  selectors_used (brace_selector e rest) line l at h = let two = split V (in_expr e) (in_selectors rest) h in (expr_used e line l at two.0, selectors_used rest line l _ two.1)

  alter_used : (a : Alteration) (x : Variable) (ss : Selectors) (line : ℕ) (l : Labels) (at : ℕ) → may_alter a ≡ true → V x → Each_of V (in_selectors ss) → Each (Uses V) l at (alter line a x ss at)
  alter_used a x ss line l at may own h = (selectors_used ss line l at h, (own, may))

  put_used : (x : Variable) (ss : Selectors) (line : ℕ) (l : Labels) (at : ℕ) → V x → Each_of V (in_selectors ss) → Each (Uses V) l at (put line x ss at)
  put_used x no_selector line l at own h = own
  put_used x (round_selector e rest) line l at own h = alter_used Putting x (round_selector e rest) line l at refl own h
  put_used x (brace_selector e rest) line l at own h = alter_used Putting x (brace_selector e rest) line l at refl own h

  reads_used : (xs : List Variable) (line : ℕ) (l : Labels) (at : ℕ) → Each_of V xs → Each (Uses V) l at (read_all line xs at)
  reads_used [] line l at h = tt
  reads_used (x ∷ xs) line l at h = (tt, ((h.0, tt), reads_used xs line l _ h.1))

  quit_used : (leaves line : ℕ) (l : Labels) (at : ℕ) → Each (Uses V) l at (quit line leaves at)
  quit_used zero line l at = tt
  quit_used (suc k) line l at = (tt, tt)

  mutual
    stmt_used : (st : Stmt) (leaves line : ℕ) (l : Labels) (at : ℕ) → Each_of V (in_stmt st) → UpdatingStmt st → Each (Uses V) l at (stmt leaves line st at)
    stmt_used (Assign p e) leaves line l at h u = let two = split V (p.variable ∷ in_selectors p.selectors) (in_expr e) h in (expr_used e line l at two.1, put_used p.variable p.selectors line l _ two.0.0 two.0.1)
    stmt_used (Update o p e) leaves line l at h u = let two = split V (p.variable ∷ in_selectors p.selectors) (in_expr e) h in (expr_used e line l at two.1, alter_used (Combining o) p.variable p.selectors line l _ u two.0.0 two.0.1)
    stmt_used (AssignParts xs e) leaves line l at h u = let two = split V (variables_in xs) (in_expr e) h in (expr_used e line l at two.1, (tt, slots_used xs line l _ two.0))
    stmt_used (TakeFrom k x p) leaves line l at h u = (alter_used (TakingOut k) p.variable p.selectors line l at refl h.1.0 h.1.1, (h.0, tt))
    stmt_used (Perform e) leaves line l at h u = (expr_used e line l at h, tt)
    stmt_used (If e a b) leaves line l at h u =
        let two = split V (in_expr e ++ in_block a) (in_block b) h in
        let one = split V (in_expr e) (in_block a) two.0 in
        (expr_used e line l at one.0, (tt, (block_used a leaves l _ one.1 u.0, (tt, block_used b leaves l _ two.1 u.1))))
    stmt_used (For is t b) leaves line l at h u =
        let two = split V (in_iterators is ++ in_condition t) (in_block b) h in
        let one = split V (in_iterators is) (in_condition t) two.0 in
        iterators_used is _ line _ at _ one.0 (λ a m at2. (condition_used t line m at2 a one.1, (block_used b _ _ _ two.1 u, tt)))
    stmt_used (While e b) leaves line l at h u = let two = split V (in_expr e) (in_block b) h in (expr_used e line _ at two.0, (tt, (tt, (block_used b zero _ _ two.1 u, tt))))
    stmt_used Quit leaves line l at h u = quit_used leaves line l at
    stmt_used Continue leaves line l at h u = tt
    stmt_used Fail leaves line l at h u = tt
    stmt_used Succeed leaves line l at h u = tt
    stmt_used Stop leaves line l at h u = tt
    stmt_used Pass leaves line l at h u = tt
    stmt_used (Return e) leaves line l at h u = (expr_used e line l at h, tt)
    stmt_used (Print es) leaves line l at h u = (exprs_used es line l at h, tt)
    stmt_used (Read xs) leaves line l at h u = reads_used xs line l at h

    pub block_used : (b : Block) (leaves : ℕ) (l : Labels) (at : ℕ) → Each_of V (in_block b) → UpdatingBlock b → Each (Uses V) l at (block leaves b at)
    block_used no_stmt leaves l at h u = tt
    block_used (more_stmts line st rest) leaves l at h u = let two = split V (in_stmt st) (in_block rest) h in (stmt_used st leaves line l at two.0 u.0, block_used rest leaves l _ two.1 u.1)
