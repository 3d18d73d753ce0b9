-- The code of expressions keeps shapes and falls in height.
use Rattle.std.proofs.Common.{◌≡◌, ◌<◌, ℕ, zero, suc, ◌+◌, List, [], ◌∷◌, length, Option, Some, None, refl, ap, ◌∙◌, subst, arith}
use Rattle.std.specs.Prelude.{slice_get}
use Rattle.std.specs.Option.{option_map}
use Rattle.setl_value.specs.Datum.{bool}
use Rattle.setl_operators_table.specs.declared.Operator.TheVariants.{Not}
use Rattle.setl_model_runs.specs.Variable.{Variable}
use Rattle.setl_program.specs.declared.kinds.Quantifier.{Quantifier}
use Rattle.setl_program.specs.declared.kinds.Quantifier.TheVariants.{Exists, Forall, NotExists}
use Rattle.setl_program.specs.Program.{Slots, Binding, Member, Components, Point, Begin, Members, Points, begin_of, Expr, Literal, Undefined, Name, Apply, Connect, Choose, Former, Selection, Quantified, Call, Newat, Eof, Ok, Exprs, no_expr, more_exprs, Iterators, no_iterator, more_iterators, Condition, no_condition, only_if, Arguments, no_argument, rd_argument, wr_argument, rw_argument, Parameter, Procedure}
use Rattle.setl_program.specs.Formed.{Around, BindsMembers, number_of, Passed, PassedAs, FormedExpr, FormedExprs, FormedIterators, FormedCondition, FormedArguments}
use Rattle.setl_model.specs.Iterations.{decided, undecided, all_bound}
use Rattle.setl_code.specs.Code.{Push, PushAtom, PushEof, Load, StoreIn, Operate, DropTop, DupTop, PartsOf, BeginOver, BeginOf, AddBelow, LeaveAll, CallBody, KeepAll, TestBool, Body}
use Rattle.setl_code.specs.CodeOf.{procedure_body}
use Rattle.setl_code.specs.Piece.{Laid, ◌⨾◌, nothing, one}
use Rattle.setl_code.specs.Generated.{store_slots, parts, bind, clear, set_by, count_from, count, levels, negated, keep_or_drop, expr, exprs, iterators, condition, arguments}
use Rattle.setl_code.specs.Shapes.{AResult, ACollection, Shape, outs, on_to, lead, after, if_collection, call_outs, without_results, without_levels, results, handed, iterator_kind}
use Rattle.setl_program.specs.FormedLaws.{arguments_number, as_many}
use Rattle.setl_code_soundness.proofs.Laying.{itself, Checked}
use Rattle.setl_code_soundness.proofs.Joining.{no_code, then_, goes, jumps, jumps_behind, unless, over_unless, over_decides, chooses, names_end, leaves, with_item, goes_round}

-- ---- shapes

pub results_more : (n : ℕ) (s : Shape) → results n (AResult ∷ s) ≡ AResult ∷ results n s
results_more zero s = refl
results_more (suc n) s = ap (λ r. AResult ∷ r) (results_more n s)

pub results_popped : (n : ℕ) (s : Shape) → without_results n (results n s) ≡ Some s
results_popped zero s = refl
results_popped (suc n) s = results_popped n s

count_more : (es : Exprs) (n : ℕ) → count_from n es ≡ n + number_of es
count_more no_expr n = omega arith
count_more (more_exprs e rest) n = let later = count_more rest (suc n) in omega arith

pub counted : (es : Exprs) → count es ≡ number_of es
counted es = let all = count_more es 0 in omega arith

pub exprs_popped : (es : Exprs) (s : Shape) → without_results (count es) (results (number_of es) s) ≡ Some s
exprs_popped es s = ap (λ m. without_results m (results (number_of es) s)) (counted es) ∙ results_popped (number_of es) s

-- the iterators over operands
abbrev pub above : Iterators → Shape → Shape
above no_iterator s = s
above (more_iterators b es rest) s = above rest (iterator_kind (begin_of b) ∷ s)

one_level : (k : Begin) (m : ℕ) (s : Shape) → without_levels (suc m) (iterator_kind k ∷ s) ≡ without_levels m s
one_level (Members k) m s = refl
one_level Points m s = refl

levels_over : (is : Iterators) (m : ℕ) (s t : Shape) → without_levels m s ≡ Some t → without_levels (levels is + m) (above is s) ≡ Some t
levels_over no_iterator m s t h = let same : 0 + m ≡ m = omega arith in ap (λ k. without_levels k s) same ∙ h
levels_over (more_iterators b es rest) m s t h =
    let same : suc (levels rest) + m ≡ levels rest + suc m = omega arith in
    ap (λ k. without_levels k (above rest (iterator_kind (begin_of b) ∷ s))) same ∙ levels_over rest (suc m) (iterator_kind (begin_of b) ∷ s) t (one_level (begin_of b) m s ∙ h)

pub levels_left : (is : Iterators) (s : Shape) → without_levels (levels is) (above is s) ≡ Some s
levels_left is s = let same : levels is ≡ levels is + 0 = omega arith in ap (λ k. without_levels k (above is s)) same ∙ levels_over is 0 s s refl

module _ {bs : List Body} {n : ℕ} where
  -- ---- stores

  pub drops : {x y z : Option Shape} {s : Shape} (line : ℕ) → Checked bs n x y z (λ a. one line DropTop) (AResult ∷ s) (Some s)
  drops line = goes DropTop (λ at. refl) (λ hs h at less. (less, tt)) tt tt

  pub stores : {x y z : Option Shape} {s : Shape} (line : ℕ) (v : Variable) → Checked bs n x y z (λ a. one line (StoreIn v)) (AResult ∷ s) (Some s)
  stores line v = goes (StoreIn v) (λ at. refl) (λ hs h at less. (less, tt)) tt tt

  pub slots_stored : {x y z : Option Shape} {s : Shape} (line : ℕ) (xs : Slots) → Checked bs n x y z (λ a. store_slots line xs) (results (length xs) s) (Some s)
  slots_stored line [] = no_code
  slots_stored line (None ∷ xs) = then_ (drops line) (slots_stored line xs)
  slots_stored line (Some v ∷ xs) = then_ (stores line v) (slots_stored line xs)

  pub parts_stored : {x y z : Option Shape} {s : Shape} (line : ℕ) (xs : Slots) → Checked bs n x y z (λ a. parts line xs) (AResult ∷ s) (Some s)
  parts_stored line xs = then_ (goes (PartsOf (length xs)) (λ at. refl) (λ hs h at less. (less, tt)) tt tt) (slots_stored line xs)

  pub bound : {x y z : Option Shape} {s : Shape} (line : ℕ) (b : Binding) → Checked bs n x y z (λ a. bind line b) (with_item (begin_of b) s) (Some s)
  bound line (Member k v) = slots_stored line (Some v ∷ [])
  bound line (Components k xs) = parts_stored line xs
  bound line (Point v w) = slots_stored line (Some w ∷ Some v ∷ [])

  pub cleared : {x y z : Option Shape} {s : Shape} (line : ℕ) (xs : List Variable) → Checked bs n x y z (λ a. clear line xs) s (Some s)
  cleared line [] = no_code
  cleared line (v ∷ xs) = then_ (goes (Push None) (λ at. refl) (λ hs h at less. (less, tt)) tt tt) (then_ (stores line v) (cleared line xs))

  negates : {x y z : Option Shape} {s : Shape} (line : ℕ) (q : Quantifier) → Checked bs n x y z (λ a. negated line q) (AResult ∷ s) (Some (AResult ∷ s))
  negates line Exists = no_code
  negates line Forall = goes (Operate Not 1) (λ at. refl) (λ hs h at less. (less, tt)) tt tt
  negates line NotExists = no_code

  -- ---- iterators

  begins : {x y z : Option Shape} {s : Shape} (line : ℕ) (k : Begin) (es : Exprs) → Checked bs n x y z (λ a. one line (BeginOver k (count es))) (results (number_of es) s) (Some (iterator_kind k ∷ s))
  begins {s = s} line k es = goes (BeginOver k (count es)) (λ at. ap (λ t. lead t (λ u. (at, iterator_kind k ∷ u) ∷ [])) (exprs_popped es s)) (λ hs h at less. (less, tt)) tt tt

  pub leaves_levels : {x y z : Option Shape} {s : Shape} (line : ℕ) (is : Iterators) → Checked bs n x y z (λ a. one line (LeaveAll (levels is))) (above is s) (Some s)
  leaves_levels {s = s} line is = goes (LeaveAll (levels is)) (λ at. ap (on_to at 0) (levels_left is s)) (λ hs h at less. (less, tt)) tt tt

  adds : {x y z : Option Shape} (s : Shape) (line : ℕ) (is : Iterators) → Checked bs n x y z (λ a. one line (AddBelow (levels is))) (AResult ∷ above is (ACollection ∷ s)) (Some (above is (ACollection ∷ s)))
  adds s line is =
      let v = above is (ACollection ∷ s) in
      goes (AddBelow (levels is)) (λ at. ap (λ o. on_to at 0 (after o (λ u. if_collection u (Some v)))) (levels_left is (ACollection ∷ s))) (λ hs h at less. (less, tt)) tt tt

  -- a member of a selection is pushed once more before it is bound
  doubles : {x y z : Option Shape} {s : Shape} (line : ℕ) (b : Binding) → BindsMembers b → Checked bs n x y z (λ a. one line DupTop ⨾ bind line b) (with_item (begin_of b) s) (Some (AResult ∷ s))
  doubles line (Member k v) f = then_ (goes DupTop (λ at. refl) (λ hs h at less. (less, tt)) tt tt) (bound line (Member k v))
  doubles line (Components k xs) f = then_ (goes DupTop (λ at. refl) (λ hs h at less. (less, tt)) tt tt) (bound line (Components k xs))
  doubles line (Point v w) f = absurd f

  keeps_or_drops : {x y : Option Shape} {s : Shape} {o : Option Shape} (line : ℕ) (k : Begin) → Checked bs n x y (Some (iterator_kind k ∷ ACollection ∷ s)) (λ a. keep_or_drop line a) (AResult ∷ AResult ∷ iterator_kind k ∷ ACollection ∷ s) o
  keeps_or_drops {s = s} line k = then_ (over_unless (then_ (goes (AddBelow 1) (λ at. one k at) (λ hs h at less. (less, tt)) tt tt) jumps)) (then_ (drops line) jumps)
    where
      one : (k : Begin) (at : ℕ) → outs bs (AddBelow 1) at (AResult ∷ iterator_kind k ∷ ACollection ∷ s) ≡ Some ((at, iterator_kind k ∷ ACollection ∷ s) ∷ [])
      one (Members k) at = refl
      one Points at = refl

-- ---- calls

pub as_many_set : (ps : List Parameter) (all : Arguments) → PassedAs ps all → handed ps ≡ length (set_by all)
as_many_set [] no_argument h = refl
as_many_set (p ∷ ps) (rd_argument e rest) h = rw (h.0) (as_many_set ps rest h.1)
as_many_set (p ∷ ps) (wr_argument x rest) h = rw (h.0) (ap suc (as_many_set ps rest h.1))
as_many_set (p ∷ ps) (rw_argument x rest) h = rw (h.0) (ap suc (as_many_set ps rest h.1))
as_many_set [] (rd_argument e rest) h = absurd h
as_many_set [] (wr_argument x rest) h = absurd h
as_many_set [] (rw_argument x rest) h = absurd h
as_many_set (p ∷ ps) no_argument h = absurd h

pub ends_as : {bs : List Body} {n : ℕ} {x y z : Option Shape} {f : ℕ → Laid} {s t u : Shape} → t ≡ u → Checked bs n x y z f s (Some t) → Checked bs n x y z f s (Some u)
ends_as {bs = bs} {n = n} {x = x} {y = y} {z = z} {f = f} {s = s} is p = subst (λ w. Checked bs n x y z f s (Some w)) is p

-- the procedures' bodies follow the main program's
abbrev pub HasBodies : List Body → List Procedure → Type 0
HasBodies bs ps = (f : ℕ) → slice_get bs (suc f) ≡ option_map procedure_body (slice_get ps f)

-- where parts of this body stand
abbrev pub place : ℕ → List Procedure → Around
place n ps = record { body = n; procedures = ps }

module _ (bs : List Body) (n : ℕ) (ps : List Procedure) (has : HasBodies bs ps) where
  called : (f : ℕ) (all : Arguments) (at : ℕ) (s : Shape) → Passed (slice_get ps f) all → call_outs (slice_get bs (suc f)) at (results (arguments_number all) s) ≡ Some ((at, results (length (set_by all)) (AResult ∷ s)) ∷ [])
  called f all at s h = ap (λ b. call_outs b at (results (arguments_number all) s)) (has f) ∙ go (slice_get ps f) h
    where
      go : (p : Option Procedure) → Passed p all → call_outs (option_map procedure_body p) at (results (arguments_number all) s) ≡ Some ((at, results (length (set_by all)) (AResult ∷ s)) ∷ [])
      go None h = absurd h
      go (Some p) h =
          rw (as_many p.parameters all h, as_many_set p.parameters all h, results_popped (arguments_number all) s, results_more (length (set_by all)) s) refl

  mutual
    pub expr_checked : {x y z : Option Shape} {s : Shape} (line : ℕ) (e : Expr) → FormedExpr (place n ps) e → Checked bs n x y z (λ a. expr line e) s (Some (AResult ∷ s))
    expr_checked line (Literal d) f = goes (Push (Some d)) (λ at. refl) (λ hs h at less. (less, tt)) tt tt
    expr_checked line Undefined f = goes (Push None) (λ at. refl) (λ hs h at less. (less, tt)) tt tt
    expr_checked line (Name v) f = goes (Load v) (λ at. refl) (λ hs h at less. (less, tt)) tt tt
    expr_checked {s = s} line (Apply o es) f =
        then_ (exprs_checked line es f) (goes (Operate o (count es)) (λ at. ap (on_to at 1) (exprs_popped es s)) (λ hs h at less. (less, tt)) tt tt)
    expr_checked line (Connect k a b) f =
        then_ (expr_checked line a f.0) (over_decides k (then_ (expr_checked line b f.1) (goes TestBool (λ at. refl) (λ hs h at less. (less, tt)) tt tt)))
    expr_checked line (Choose t a b) f = then_ (expr_checked line t f.0) (chooses (expr_checked line a f.1) (expr_checked line b f.2))
    expr_checked {s = s} line (Former k e is t) f =
        then_ (goes (BeginOf k) (λ at. refl) (λ hs h at less. (less, tt)) tt tt)
        (names_end {u = ACollection ∷ s} (itself s)
        (iterators_checked line is f.2 (then_ (condition_checked line t f.3) (then_ (expr_checked line e f.1) (then_ (adds s line is) jumps)))))
    expr_checked {s = s} line (Selection k b es c) f =
        then_ (goes (BeginOf k) (λ at. refl) (λ hs h at less. (less, tt)) tt tt)
        (names_end {u = ACollection ∷ s} (itself s)
        (then_ (exprs_checked line es f.2) (then_ (begins line (begin_of b) es)
        (goes_round (begin_of b) (then_ (doubles line b f.0) (then_ (expr_checked line c f.4) (keeps_or_drops line (begin_of b))))))))
    expr_checked {s = s} line (Quantified q is c) f =
        leaves
        (names_end {u = s} (itself s)
        (iterators_checked line is f.1 (then_ (expr_checked line c f.2) (then_ (negates line q) (then_ unless (then_ (leaves_levels line is)
        (then_ (goes (Push (Some (bool (decided q)))) (λ at. refl) (λ hs h at less. (less, tt)) tt tt) jumps_behind)))))))
        (then_ (cleared line (all_bound is)) (goes (Push (Some (bool (undecided q)))) (λ at. refl) (λ hs h at less. (less, tt)) tt tt))
    expr_checked {s = s} line (Call p all) f =
        then_ (arguments_checked line all f.1)
        (then_ (goes (CallBody (suc p)) (λ at. called p all at s f.0) (λ hs h at less. tt) (let over : 0 < suc p = omega arith in over) tt) (slots_stored line (set_by all)))
    expr_checked line Newat f = goes PushAtom (λ at. refl) (λ hs h at less. tt) tt tt
    expr_checked line Eof f = goes PushEof (λ at. refl) (λ hs h at less. (less, tt)) tt tt
    expr_checked line Ok f = goes KeepAll (λ at. refl) (λ hs h at less. (less, tt)) tt tt

    pub exprs_checked : {x y z : Option Shape} {s : Shape} (line : ℕ) (es : Exprs) → FormedExprs (place n ps) es → Checked bs n x y z (λ a. exprs line es) s (Some (results (number_of es) s))
    exprs_checked line no_expr f = no_code
    exprs_checked {s = s} line (more_exprs e rest) f = ends_as (results_more (number_of rest) s) (then_ (expr_checked line e f.0) (exprs_checked line rest f.1))

    pub iterators_checked : {x y : Option Shape} {s : Shape} {o : Option Shape} {inside : ℕ → Laid} (line : ℕ) (is : Iterators) → FormedIterators (place n ps) is → Checked bs n x y (Some (above is s)) inside (above is s) o → Checked bs n x y (Some s) (λ a. iterators line nothing is inside a) s o
    iterators_checked line no_iterator f inner = inner
    iterators_checked line (more_iterators b es rest) f inner =
        then_ (exprs_checked line es f.1) (then_ (begins line (begin_of b) es)
        (goes_round (begin_of b) (then_ (then_ no_code (bound line b)) (iterators_checked line rest f.3 inner))))

    pub condition_checked : {x y : Option Shape} {s : Shape} (line : ℕ) (t : Condition) → FormedCondition (place n ps) t → Checked bs n x y (Some s) (λ a. condition line t a) s (Some s)
    condition_checked line no_condition f = no_code
    condition_checked line (only_if c) f = then_ (expr_checked line c f) unless

    pub arguments_checked : {x y z : Option Shape} {s : Shape} (line : ℕ) (all : Arguments) → FormedArguments (place n ps) all → Checked bs n x y z (λ a. arguments line all) s (Some (results (arguments_number all) s))
    arguments_checked line no_argument f = no_code
    arguments_checked {s = s} line (rd_argument e rest) f = ends_as (results_more (arguments_number rest) s) (then_ (expr_checked line e f.0) (arguments_checked line rest f.1))
    arguments_checked {s = s} line (wr_argument v rest) f =
        ends_as (results_more (arguments_number rest) s) (then_ (goes (Push None) (λ at. refl) (λ hs h at less. (less, tt)) tt tt) (arguments_checked line rest f.1))
    arguments_checked {s = s} line (rw_argument v rest) f =
        ends_as (results_more (arguments_number rest) s) (then_ (goes (Load v) (λ at. refl) (λ hs h at less. (less, tt)) tt tt) (arguments_checked line rest f.1))
