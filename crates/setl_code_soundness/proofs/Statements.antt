-- The code of statements and of bodies keeps shapes and falls in height.
use Rattle.std.proofs.Common.{◌≡◌, ◌<◌, ℕ, zero, suc, Bool, true, false, List, [], ◌∷◌, length, Option, Some, refl, sym, ap, ◌∙◌, subst, arith}
use Rattle.setl_model_runs.specs.Variable.{Variable}
use Rattle.setl_program.specs.Program.{Selectors, no_selector, round_selector, brace_selector, Stmt, Assign, Update, AssignParts, TakeFrom, Perform, If, For, While, Quit, Continue, Fail, Succeed, Stop, Pass, Return, Print, Read, Block, no_stmt, more_stmts, Procedure}
use Rattle.setl_program.specs.Formed.{FormedSelectors, InProcedure, FormedStmt, FormedBlock}
use Rattle.setl_code.specs.Code.{Alteration, Putting, Combining, TakingOut, Alter, LeaveAll, ReturnTop, GoBack, ForgetKept, PrintTop, ReadOne, StopRun, Body}
use Rattle.setl_code.specs.Piece.{jumps_on}
use Rattle.setl_code.specs.Generated.{count, levels, selectors, brackets, alter, put, read_all, quit, stmt, block}
use Rattle.setl_code.specs.Shapes.{AResult, Shape, on_to, alter_outs, without_levels, results}
use Rattle.setl_code_soundness.proofs.Laying.{itself, Checked}
use Rattle.setl_code_soundness.proofs.Joining.{no_code, then_, goes, stops, jumps, jumps_behind, jumps_again, chooses, ends_there, goes_on, names_end, goes_while}
use Rattle.setl_code_soundness.proofs.Expressions.{results_more, results_popped, exprs_popped, levels_left, drops, stores, slots_stored, parts_stored, ends_as, HasBodies, place, expr_checked, exprs_checked, iterators_checked, condition_checked}

-- ---- places

-- what an update pops below its selectors, and what it pushes
abbrev pub operands_of : Alteration → Shape → Shape
operands_of Putting s = AResult ∷ s
operands_of (Combining o) s = AResult ∷ s
operands_of (TakingOut k) s = s

abbrev pub left_by : Alteration → Shape → Shape
left_by Putting s = s
left_by (Combining o) s = s
left_by (TakingOut k) s = AResult ∷ s

alter_leads : (a : Alteration) (at : ℕ) (s : Shape) → alter_outs a at (Some (operands_of a s)) ≡ Some ((at, left_by a s) ∷ [])
alter_leads Putting at s = refl
alter_leads (Combining o) at s = refl
alter_leads (TakingOut k) at s = refl

-- where a loop of so many iterators over this shape is left and goes on
abbrev pub InLoop : Bool → (leaves : ℕ) → Shape → (exit again : Option Shape) → Type 0
InLoop false leaves v x y = Unit {0}
InLoop true leaves v x y = (w : Shape) × (x ≡ Some w) × (y ≡ Some v) × (without_levels leaves v ≡ Some w)

in_procedure : (n : ℕ) → InProcedure n → 0 < n
in_procedure zero h = absurd h
in_procedure (suc n) h = omega arith

module _ (bs : List Body) (n : ℕ) (ps : List Procedure) (has : HasBodies bs ps) where
  selectors_checked : {x y z : Option Shape} {s : Shape} (line : ℕ) (ss : Selectors) → FormedSelectors (place n ps) ss → Checked bs n x y z (λ a. selectors line ss) s (Some (results (length (brackets ss)) s))
  selectors_checked line no_selector f = no_code
  selectors_checked {s = s} line (round_selector e rest) f = ends_as (results_more (length (brackets rest)) s) (then_ (expr_checked bs n ps has line e f.0) (selectors_checked line rest f.1))
  selectors_checked {s = s} line (brace_selector e rest) f = ends_as (results_more (length (brackets rest)) s) (then_ (expr_checked bs n ps has line e f.0) (selectors_checked line rest f.1))

  alter_checked : {x y z : Option Shape} (s : Shape) (line : ℕ) (a : Alteration) (v : Variable) (ss : Selectors) → FormedSelectors (place n ps) ss → Checked bs n x y z (λ at. alter line a v ss) (operands_of a s) (Some (left_by a s))
  alter_checked s line a v ss f =
      then_ (selectors_checked line ss f)
      (goes (Alter a v (brackets ss)) (λ at. ap (alter_outs a at) (results_popped (length (brackets ss)) (operands_of a s)) ∙ alter_leads a at s) (λ hs h at less. (less, tt)) tt tt)

  put_checked : {x y z : Option Shape} (s : Shape) (line : ℕ) (v : Variable) (ss : Selectors) → FormedSelectors (place n ps) ss → Checked bs n x y z (λ a. put line v ss) (AResult ∷ s) (Some s)
  put_checked s line v no_selector f = stores line v
  put_checked s line v (round_selector e rest) f = alter_checked s line Putting v (round_selector e rest) f
  put_checked s line v (brace_selector e rest) f = alter_checked s line Putting v (brace_selector e rest) f

  -- ---- statements

  reads_checked : {x y z : Option Shape} {s : Shape} (line : ℕ) (xs : List Variable) → Checked bs n x y z (λ a. read_all line xs) s (Some s)
  reads_checked line [] = no_code
  reads_checked line (v ∷ xs) = then_ (goes ReadOne (λ at. refl) (λ hs h at less. (less, tt)) tt tt) (then_ (slots_stored line (Some v ∷ [])) (reads_checked line xs))

  quit_checked : {x y z : Option Shape} {v : Shape} {o : Option Shape} (line : ℕ) (leaves : ℕ) → InLoop true leaves v x y → Checked bs n x y z (λ a. quit line leaves) v o
  quit_checked {x = x} {y = y} {z = z} {v = v} {o = o} line zero (w, is, again, left) =
      let same : x ≡ Some v = is ∙ sym left in
      subst (λ e. Checked bs n e y z (λ a. quit line zero) v o) (sym same) jumps_behind
  quit_checked {x = x} {y = y} {z = z} {v = v} {o = o} line (suc k) (w, is, again, left) =
      subst (λ e. Checked bs n e y z (λ a. quit line (suc k)) v o) (sym is)
      (then_ (goes (LeaveAll (suc k)) (λ at. ap (on_to at 0) left) (λ hs h at less. (less, tt)) tt tt) jumps_behind)

  continue_checked : {x y z : Option Shape} {v : Shape} {o : Option Shape} (line : ℕ) (leaves : ℕ) → InLoop true leaves v x y → Checked bs n x y z (λ a. jumps_on line) v o
  continue_checked {x = x} {y = y} {z = z} {v = v} {o = o} line leaves (w, is, again, left) =
      subst (λ e. Checked bs n x e z (λ a. jumps_on line) v o) (sym again) jumps_again

  mutual
    stmt_checked : {x y z : Option Shape} {v : Shape} (l : Bool) (leaves line : ℕ) (st : Stmt) → FormedStmt (place n ps) l st → InLoop l leaves v x y → Checked bs n x y z (λ a. stmt leaves line st) v (Some v)
    stmt_checked {v = v} l leaves line (Assign p e) f loop = then_ (expr_checked bs n ps has line e f.2) (put_checked v line p.variable p.selectors f.1)
    stmt_checked {v = v} l leaves line (Update o p e) f loop = then_ (expr_checked bs n ps has line e f.2) (alter_checked v line (Combining o) p.variable p.selectors f.1)
    stmt_checked l leaves line (AssignParts xs e) f loop = then_ (expr_checked bs n ps has line e f.1) (parts_stored line xs)
    stmt_checked {v = v} l leaves line (TakeFrom k t p) f loop = then_ (alter_checked v line (TakingOut k) p.variable p.selectors f.2) (slots_stored line (Some t ∷ []))
    stmt_checked l leaves line (Perform e) f loop = then_ (expr_checked bs n ps has line e f) (drops line)
    stmt_checked l leaves line (If e a b) f loop = then_ (expr_checked bs n ps has line e f.0) (chooses (block_checked l leaves a f.1 loop) (block_checked l leaves b f.2 loop))
    stmt_checked {v = v} l leaves line (For is t b) f loop =
        ends_there (names_end {u = v} (itself v)
        (iterators_checked bs n ps has line is f.1 (then_ (condition_checked bs n ps has line t f.2)
        (then_ (goes_on (block_checked true (levels is) b f.3 (v, refl, refl, levels_left is v))) jumps))))
    stmt_checked {v = v} l leaves line (While e b) f loop = goes_while (expr_checked bs n ps has line e f.0) (block_checked true zero b f.1 (v, refl, refl, refl))
    stmt_checked true leaves line Quit f loop = quit_checked line leaves loop
    stmt_checked false leaves line Quit f loop = absurd f
    stmt_checked true leaves line Continue f loop = continue_checked line leaves loop
    stmt_checked false leaves line Continue f loop = absurd f
    stmt_checked l leaves line Fail f loop = stops GoBack (λ at. refl) (λ at. refl) tt tt
    stmt_checked l leaves line Succeed f loop = goes ForgetKept (λ at. refl) (λ hs h at less. (less, tt)) tt tt
    stmt_checked l leaves line Stop f loop = stops StopRun (λ at. refl) (λ at. refl) tt tt
    stmt_checked l leaves line Pass f loop = no_code
    stmt_checked l leaves line (Return e) f loop = then_ (expr_checked bs n ps has line e f.1) (stops ReturnTop (λ at. refl) (λ at. refl) (in_procedure n f.0) tt)
    stmt_checked {v = v} l leaves line (Print es) f loop =
        then_ (exprs_checked bs n ps has line es f) (goes (PrintTop (count es)) (λ at. ap (on_to at 0) (exprs_popped es v)) (λ hs h at less. (less, tt)) tt tt)
    stmt_checked l leaves line (Read xs) f loop = reads_checked line xs

    pub block_checked : {x y z : Option Shape} {v : Shape} (l : Bool) (leaves : ℕ) (b : Block) → FormedBlock (place n ps) l b → InLoop l leaves v x y → Checked bs n x y z (λ a. block leaves b) v (Some v)
    block_checked l leaves no_stmt f loop = no_code
    block_checked l leaves (more_stmts line st rest) f loop = then_ (stmt_checked l leaves line st f.0 loop) (block_checked l leaves rest f.1 loop)
