-- One lemma for each construct of expressions, with what its function knows as premises.
use Rattle.std.proofs.Common.{◌≡◌, ℕ, suc, List, [], refl, ap, sym, ◌∙◌, Some}
use Rattle.setl_value.specs.Datum.{bool}
use Rattle.setl_operators_table.specs.declared.Operator.{Operator}
use Rattle.setl_program.specs.declared.kinds.Connective.{Connective}
use Rattle.setl_program.specs.declared.kinds.Collection.{Collection}
use Rattle.setl_program.specs.declared.kinds.Quantifier.{Quantifier}
use Rattle.setl_program.specs.Program.{Binding, begin_of, Expr, Apply, Connect, Choose, Former, Selection, Quantified, Call, Exprs, Iterators, no_iterator, more_iterators, Condition, Arguments}
use Rattle.setl_model.specs.Iterations.{decided}
use Rattle.setl_code.specs.Code.{Push, Operate, Decides, TestBool, Unless, Jump, DupTop, BeginOver, NextOr, BeginOf, AddBelow, LeaveAll, CallBody}
use Rattle.setl_code.specs.Piece.{Laid, ◌⨾◌, nothing, one, jumps_out, over, either, with_end, with_start}
use Rattle.setl_code.specs.Generated.{store_slots, set_by, bind, count, levels, negated, keep_or_drop, expr, exprs, iterators, condition, arguments}
use Rattle.setl_gen_emitter.specs.declared.hole.Hole.{Hole}
use Rattle.setl_gen_emitter.specs.Emitted.{Emitted, here, after, with_step, with_exits}
use Rattle.setl_gen.specs.Heads.{begun, next, headed, opened}
use Rattle.setl_gen_emitter.specs.ShortCode.{undecided_code, with_end_undecided}
use Rattle.setl_gen_emitter.specs.EmittedLaws.{after_then, after_nothing, then_made, then_two, over_made, either_made, leaving_made}

-- ---- without iterators

pub apply_made : (line : ℕ) (o : Operator) (es : Exprs) (n : ℕ) (s t u : Emitted) → t ≡ after (exprs line es) s → n ≡ count es → u ≡ after (one line (Operate o n)) t → u ≡ after (expr line (Apply o es)) s
apply_made line o es n s t u e1 k e2 = then_made (exprs line es) (one line (Operate o (count es))) s t u e1 (e2 ∙ ap (λ m. after (one line (Operate o m)) t) k)

pub connect_made : (line : ℕ) (k : Connective) (a b : Expr) (at end : ℕ) (s s1 s2 s3 s4 u : Emitted) → s1 ≡ after (expr line a) s → at ≡ here s1 → s2 ≡ after (one line (Decides k 0)) s1 → s3 ≡ after (expr line b) s2 → s4 ≡ after (one line TestBool) s3 → end ≡ here s4 → u ≡ with_step at line (Decides k end) s4 → u ≡ after (expr line (Connect k a b)) s
connect_made line k a b at end s s1 s2 s3 s4 u e1 p e2 e3 e4 q e5 =
    then_made (expr line a) (over line (Decides k) (expr line b ⨾ one line TestBool)) s s1 u e1
    (over_made line (Decides k) (expr line b ⨾ one line TestBool) at end s1 s2 s4 u p e2 (then_made (expr line b) (one line TestBool) s2 s3 s4 e3 e4) q e5)

pub choose_made : (line : ℕ) (t a b : Expr) (at over there end : ℕ) (s s1 s2 s3 s4 s5 s6 u : Emitted) → s1 ≡ after (expr line t) s → at ≡ here s1 → s2 ≡ after (one line (Unless 0)) s1 → s3 ≡ after (expr line a) s2 → over ≡ here s3 → s4 ≡ after (one line (Jump 0)) s3 → there ≡ here s4 → s5 ≡ with_step at line (Unless there) s4 → s6 ≡ after (expr line b) s5 → end ≡ here s6 → u ≡ with_step over line (Jump end) s6 → u ≡ after (expr line (Choose t a b)) s
choose_made line t a b at over there end s s1 s2 s3 s4 s5 s6 u e1 p e2 e3 o e4 r e5 e6 q e7 =
    then_made (expr line t) (either line (expr line a) (expr line b)) s s1 u e1
    (either_made line (expr line a) (expr line b) at over there end s1 s2 s3 s4 s5 s6 u p e2 e3 o e4 r e5 e6 q e7)

pub condition_made : (line : ℕ) (c : Expr) (back : ℕ) (s t u : Emitted) → t ≡ after (expr line c) s → u ≡ after (one line (Unless back)) t → u ≡ after (expr line c ⨾ one line (Unless back)) s
condition_made line c back s t u e1 e2 = then_made (expr line c) (one line (Unless back)) s t u e1 e2

-- ---- iterators

pub begun_made : (line : ℕ) (i : Binding × Exprs) (n : ℕ) (s t u : Emitted) → t ≡ after (exprs line i.1) s → n ≡ count i.1 → u ≡ after (one line (BeginOver (begin_of i.0) n)) t → u ≡ after (begun line i) s
begun_made line i n s t u e1 k e2 = then_made (exprs line i.1) (one line (BeginOver (begin_of i.0) (count i.1))) s t u e1 (e2 ∙ ap (λ m. after (one line (BeginOver (begin_of i.0) m)) t) k)

pub head_made : (line back : ℕ) (i : Binding × Exprs) (s t u v : Emitted) → t ≡ after (begun line i) s → u ≡ after (one line (NextOr back)) t → v ≡ after (bind line i.0) u → v ≡ after (next line back i) (after (begun line i) s)
head_made line back i s t u v e1 e2 e3 = then_made (one line (NextOr back)) (bind line i.0) t u v e2 e3 ∙ ap (after (next line back i)) e1

pub start_is : (f : ℕ → Laid) (s : Emitted) → after (f (here s)) s ≡ after (with_start f) s
unfolding after
start_is f s = refl

bare : (a b : Laid) (s : Emitted) → after (a ⨾ (nothing ⨾ b)) s ≡ after (a ⨾ b) s
bare a b s =
    sym (after_then a (nothing ⨾ b) s) ∙ sym (after_then nothing b (after a s)) ∙ ap (after b) (after_nothing (after a s)) ∙ after_then a b s

bound_made : (line back : ℕ) (b : Binding) (es : Exprs) (rest : Laid) (s : Emitted) → after rest (after (next line back (b, es)) s) ≡ after (one line (NextOr back) ⨾ (nothing ⨾ bind line b) ⨾ rest) s
bound_made line back b es rest s =
    let a = one line (NextOr back) in
    let c = nothing ⨾ bind line b in
    ap (after rest) (sym (bare a (bind line b) s)) ∙ ap (after rest) (sym (after_then a c s)) ∙ after_then c rest (after a s) ∙ after_then a (c ⨾ rest) s

iterators_made : (line : ℕ) (is : Iterators) (inside : ℕ → Laid) (back : ℕ) (s : Emitted) → after (inside (headed line is back s).1) (headed line is back s).0 ≡ after (iterators line nothing is inside back) s
iterators_made line no_iterator inside back s = refl
iterators_made line (more_iterators b es rest) inside back s =
    let e = exprs line es in
    let g = one line (BeginOver (begin_of b) (count es)) in
    let t = after (begun line (b, es)) s in
    let f : ℕ → Laid = λ a. one line (NextOr back) ⨾ (nothing ⨾ bind line b) ⨾ iterators line nothing rest inside a in
    iterators_made line rest inside (here t) (after (next line back (b, es)) t)
    ∙ bound_made line back b es (iterators line nothing rest inside (here t)) t
    ∙ start_is f t
    ∙ ap (after (with_start f)) (sym (after_then e g s))
    ∙ after_then g (with_start f) (after e s)
    ∙ after_then e (g ⨾ with_start f) s

same_some : {X : Type 0} (x y : X) → Some x ≡ Some y → x ≡ y
same_some x y e = cc

-- the end of the first iterator is told behind all
pub rounds_made : (line : ℕ) (is : Iterators) (inside : ℕ → Laid) (at a end : ℕ) (s t u v : Emitted) → opened line is s ≡ Some (at, t, a) → u ≡ after (inside a) t → end ≡ here u → v ≡ with_step at line (NextOr end) u → v ≡ after (with_end (iterators line nothing is inside)) s
rounds_made line no_iterator inside at a end s t u v o e1 q e2 = cc
rounds_made line (more_iterators b es rest) inside at a end s t u v o e1 q e2 =
    let e = exprs line es in
    let g = one line (BeginOver (begin_of b) (count es)) in
    let r = after (begun line (b, es)) s in
    let s2 = after (one line (NextOr 0)) r in
    let h = headed line rest (here r) (after (next line 0 (b, es)) r) in
    let i : ℕ → Laid = λ p. (nothing ⨾ bind line b) ⨾ iterators line nothing rest inside p in
    let f : ℕ → Laid = λ p. over line NextOr (i p) in
    let both : (at, t, a) ≡ (here r, h.0, h.1) = same_some (at, t, a) (here r, h.0, h.1) (sym o) in
    let is_at : at ≡ here r = ap (λ (x : ℕ × Emitted × ℕ). x.0) both in
    let is_t : t ≡ h.0 = ap (λ (x : ℕ × Emitted × ℕ). x.1) both in
    let is_a : a ≡ h.1 = ap (λ (x : ℕ × Emitted × ℕ). x.2) both in
    let e3 : u ≡ after (i (here r)) s2 =
    e1 ∙ ap (λ m. after (inside m) t) is_a ∙ ap (after (inside h.1)) is_t
    ∙ iterators_made line rest inside (here r) (after (next line 0 (b, es)) r)
    ∙ bound_made line 0 b es (iterators line nothing rest inside (here r)) r
    ∙ sym (after_then (one line (NextOr 0)) (i (here r)) r) in
    over_made line NextOr (i (here r)) at end r s2 u v is_at refl e3 q e2
    ∙ start_is f r
    ∙ ap (after (with_start f)) (sym (after_then e g s))
    ∙ after_then g (with_start f) (after e s)
    ∙ after_then e (g ⨾ with_start f) s

-- ---- formers, selections, quantifiers, calls

pub former_made : (line : ℕ) (k : Collection) (e : Expr) (is : Iterators) (t : Condition) (at a n : ℕ) (s s1 s2 s3 s4 s5 u : Emitted) → s1 ≡ after (one line (BeginOf k)) s → opened line is s1 ≡ Some (at, s2, a) → s3 ≡ after (condition line t a) s2 → s4 ≡ after (expr line e) s3 → n ≡ levels is → s5 ≡ after (one line (AddBelow n) ⨾ one line (Jump a)) s4 → u ≡ with_step at line (NextOr (here s5)) s5 → u ≡ after (expr line (Former k e is t)) s
former_made line k e is t at a n s s1 s2 s3 s4 s5 u e1 o e3 e4 m e5 e6 =
    let f : ℕ → Laid = λ a. condition line t a ⨾ expr line e ⨾ one line (AddBelow (levels is)) ⨾ one line (Jump a) in
    let g5 = e5 ∙ ap (λ m. after (one line (AddBelow m) ⨾ one line (Jump a)) s4) m in
    then_made (one line (BeginOf k)) (with_end (iterators line nothing is f)) s s1 u e1
    (rounds_made line is f at a (here s5) s1 s2 s5 u o
    (then_two (condition line t a) (expr line e) (one line (AddBelow (levels is)) ⨾ one line (Jump a)) s2 s3 s4 s5 e3 e4 g5) refl e6)

pub quantified_made : (line : ℕ) (d : Quantifier) (is : Iterators) (c : Expr) (outer inner : List Hole) (at a n : ℕ) (s s1 s2 s3 s4 s5 s6 u : Emitted) → outer ≡ s.exits → s1 ≡ with_exits [] s → opened line is s1 ≡ Some (at, s2, a) → s3 ≡ after (expr line c) s2 → n ≡ levels is → s4 ≡ after (negated line d ⨾ one line (Unless a) ⨾ one line (LeaveAll n) ⨾ one line (Push (Some (bool (decided d)))) ⨾ jumps_out line) s3 → s5 ≡ with_step at line (NextOr (here s4)) s4 → inner ≡ s5.exits → s6 ≡ with_exits outer s5 → u ≡ with_end_undecided line d is inner s6 → u ≡ after (expr line (Quantified d is c)) s
quantified_made line d is c outer inner at a n s s1 s2 s3 s4 s5 s6 u o e1 p e3 m e4 e5 i e6 e7 =
    let rest : ℕ → ℕ → Laid = λ m a. negated line d ⨾ one line (Unless a) ⨾ one line (LeaveAll m) ⨾ one line (Push (Some (bool (decided d)))) ⨾ jumps_out line in
    let f : ℕ → Laid = λ a. expr line c ⨾ rest (levels is) a in
    let w = undecided_code line d is in
    let g4 = e4 ∙ ap (λ m. after (rest m a) s3) m in
    let x5 : s5 ≡ after (with_end (iterators line nothing is f)) s1 = rounds_made line is f at a (here s4) s1 s2 s4 s5 p (then_made (expr line c) (rest (levels is) a) s2 s3 s4 e3 g4) refl e5 in
    leaving_made (with_end (iterators line nothing is f)) w outer inner (here (after w s6)) s s1 s5 s6 (after w s6) u o e1 x5 i e6 refl refl e7

pub selection_made : (line : ℕ) (k : Collection) (b : Binding) (es : Exprs) (c : Expr) (n at : ℕ) (s s1 s2 s3 s4 s5 u : Emitted) → s1 ≡ after (one line (BeginOf k)) s → s2 ≡ after (exprs line es) s1 → n ≡ count es → at ≡ here (after (one line (BeginOver (begin_of b) n)) s2) → s3 ≡ after (one line (NextOr 0) ⨾ one line DupTop ⨾ bind line b) (after (one line (BeginOver (begin_of b) n)) s2) → s4 ≡ after (expr line c) s3 → s5 ≡ after (keep_or_drop line at) s4 → u ≡ with_step at line (NextOr (here s5)) s5 → u ≡ after (expr line (Selection k b es c)) s
selection_made line k b es c n at s s1 s2 s3 s4 s5 u e1 e2 m p e3 e4 e5 e6 =
    let g = one line (BeginOver (begin_of b) (count es)) in
    let r = after (one line (BeginOver (begin_of b) n)) s2 in
    let w = one line DupTop ⨾ bind line b in
    let f : ℕ → Laid = λ p. over line NextOr (w ⨾ expr line c ⨾ keep_or_drop line p) in
    let s0 = after (one line (NextOr 0)) r in
    let x3 : s3 ≡ after w s0 = e3 ∙ sym (after_then (one line (NextOr 0)) w r) in
    then_made (one line (BeginOf k)) (exprs line es ⨾ g ⨾ with_start f) s s1 u e1
    (then_two (exprs line es) g (with_start f) s1 s2 r u e2 (ap (λ m. after (one line (BeginOver (begin_of b) m)) s2) m)
    (over_made line NextOr (w ⨾ expr line c ⨾ keep_or_drop line (here r)) at (here s5) r s0 s5 u p refl
    (then_two w (expr line c) (keep_or_drop line (here r)) s0 s3 s4 s5 x3 e4 (e5 ∙ ap (λ m. after (keep_or_drop line m) s4) p)) refl e6
    ∙ start_is f r))

pub call_made : (line f n : ℕ) (all : Arguments) (s s1 s2 u : Emitted) → s1 ≡ after (arguments line all) s → n ≡ suc f → s2 ≡ after (one line (CallBody n)) s1 → u ≡ after (store_slots line (set_by all)) s2 → u ≡ after (expr line (Call f all)) s
call_made line f n all s s1 s2 u e1 m e2 e3 =
    then_two (arguments line all) (one line (CallBody (suc f))) (store_slots line (set_by all)) s s1 s2 u e1 (e2 ∙ ap (λ m. after (one line (CallBody m)) s1) m) e3
