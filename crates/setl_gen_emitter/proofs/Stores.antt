-- Stores in variables: a round of each loop over a list, and the stores of a binding.
use Rattle.std.proofs.Common.{◌≡◌, ℕ, ◌+◌, ◌<◌, List, [], ◌∷◌, ◌++◌, drop, length, ap, sym, ◌∙◌, Option, Some, None}
use Rattle.std.proofs.Math.ListN.{get_or}
use Rattle.std.proofs.lemmas.List.{length-map}
use Rattle.std.specs.Option.{option_map}
use Rattle.setl_model_runs.specs.Variable.{Variable}
use Rattle.setl_model.specs.Slots.{variables_in}
use Rattle.setl_model.specs.Iterations.{bound_by, all_bound}
use Rattle.setl_program.specs.declared.expr.Variable as v
use Rattle.setl_program.specs.declared.expr.Binding as bd
use Rattle.setl_program.specs.declared.expr.Binding.TheVariants as bind_is
use Rattle.setl_program.specs.declared.kinds.Source.{Source}
use Rattle.setl_program.specs.declared.expr.Expr as ex
use Rattle.setl_program.specs.declared.expr.Iterator as it
use Rattle.setl_program.specs.declared.expr.Iterator.{out-Iterator}
use Rattle.setl_program.specs.declared.expr.Argument as arg
use Rattle.setl_program.specs.declared.expr.Argument.{fold-roll-Argument}
use Rattle.setl_program.specs.declared.expr.Argument.TheVariants as an
use Rattle.setl_program.specs.declared.expr.Argument.TheOpen.{Argument-F}
use Rattle.setl_program.specs.Program.{Slots, Binding, Expr, Exprs, Arguments, no_argument, rd_argument}
use Rattle.setl_program.specs.code.Plain.{plain_variable, plain_slots, plain_binding, plain_expr, plain_iterator, plain_iterators, plain_argument, plain_arguments, argument_step, expr_step, link_step, iterator_step}
use Rattle.setl_code.specs.Code.{Push, DropTop, StoreIn, PartsOf}
use Rattle.setl_code.specs.Piece.{◌⨾◌, nothing, one}
use Rattle.setl_code.specs.Generated.{store_slots, parts, bind, set_by, clear}
use Rattle.setl_gen_emitter.specs.Emitted.{Emitted, after}
use Rattle.setl_gen_emitter.specs.EmittedLaws.{after_then, after_nothing, last}
use Rattle.setl_gen_emitter.specs.Items.{drop_at, iterator_is, ArgumentLayer, layer_of}
use Rattle.setl_gen_emitter.specs.ShortCode.{slot_code, clear_code, set_code}

-- ---- stores

store_item : (line : ℕ) (x : Option Variable) (rest : Slots) (s t : Emitted) → t ≡ after (slot_code line x) s → after (store_slots line rest) t ≡ after (store_slots line (x ∷ rest)) s
store_item line None rest s t e = ap (after (store_slots line rest)) e ∙ after_then (one line DropTop) (store_slots line rest) s
store_item line (Some x) rest s t e = ap (after (store_slots line rest)) e ∙ after_then (one line (StoreIn x)) (store_slots line rest) s

pub clear_after : (line : ℕ) (xs ys : List Variable) (s : Emitted) → after (clear line ys) (after (clear line xs) s) ≡ after (clear line (xs ++ ys)) s
clear_after line [] ys s = ap (after (clear line ys)) (after_nothing s)
clear_after line (x ∷ xs) ys s =
    let p = one line (Push None) in
    let q = one line (StoreIn x) in
    ap (after (clear line ys)) (sym (after_then p (q ⨾ clear line xs) s) ∙ sym (after_then q (clear line xs) (after p s)))
    ∙ clear_after line xs ys (after q (after p s))
    ∙ after_then q (clear line (xs ++ ys)) (after p s) ∙ after_then p (q ⨾ clear line (xs ++ ys)) s

pub stores_round : (line : ℕ) (xs : List (Option v.Variable)) (k : ℕ) (x : Option v.Variable) (s t : Emitted) → k < length xs → x ≡ get_or xs k x → t ≡ after (slot_code line (option_map plain_variable x)) s → after (store_slots line (plain_slots (drop (k + 1) xs))) t ≡ after (store_slots line (plain_slots (drop k xs))) s
stores_round line xs k x s t within read e =
    store_item line (option_map plain_variable x) (plain_slots (drop (k + 1) xs)) s t e
    ∙ ap (λ (r : List (Option v.Variable)). after (store_slots line (plain_slots r)) s) (sym (drop_at xs k x within read))

clear_item : (line : ℕ) (x : Option Variable) (rest : Slots) (s t : Emitted) → t ≡ after (clear_code line x) s → after (clear line (variables_in rest)) t ≡ after (clear line (variables_in (x ∷ rest))) s
clear_item line None rest s t e = ap (after (clear line (variables_in rest))) (e ∙ after_nothing s)
clear_item line (Some x) rest s t e =
    let p = one line (Push None) in
    let q = one line (StoreIn x) in
    let r = clear line (variables_in rest) in
    ap (after r) (e ∙ sym (after_then p q s)) ∙ after_then q r (after p s) ∙ after_then p (q ⨾ r) s

pub clears_round : (line : ℕ) (xs : List (Option v.Variable)) (k : ℕ) (x : Option v.Variable) (s t : Emitted) → k < length xs → x ≡ get_or xs k x → t ≡ after (clear_code line (option_map plain_variable x)) s → after (clear line (variables_in (plain_slots (drop (k + 1) xs)))) t ≡ after (clear line (variables_in (plain_slots (drop k xs)))) s
clears_round line xs k x s t within read e =
    clear_item line (option_map plain_variable x) (plain_slots (drop (k + 1) xs)) s t e
    ∙ ap (λ (r : List (Option v.Variable)). after (clear line (variables_in (plain_slots r))) s) (sym (drop_at xs k x within read))

pub bounds_round : (line : ℕ) (is : List it.Iterator) (k : ℕ) (x : it.Iterator) (s t : Emitted) → k < length is → x ≡ get_or is k x → t ≡ after (clear line (variables_in (bound_by (plain_binding (out-Iterator x).binding)))) s → after (clear line (all_bound (plain_iterators (drop (k + 1) is)))) t ≡ after (clear line (all_bound (plain_iterators (drop k is)))) s
bounds_round line is k x s t within read e =
    let rest = drop (k + 1) is in
    ap (after (clear line (all_bound (plain_iterators rest)))) (e ∙ ap (λ (p : Binding × Exprs). after (clear line (variables_in (bound_by p.0))) s) (sym (iterator_is x)))
    ∙ clear_after line (variables_in (bound_by (plain_iterator x).0)) (all_bound (plain_iterators rest)) s
    ∙ ap (λ (r : List it.Iterator). after (clear line (all_bound (plain_iterators r))) s) (sym (drop_at is k x within read))

-- ---- arguments

set_item : (line : ℕ) (l : ArgumentLayer) (rest : Arguments) (s t : Emitted) → t ≡ after (set_code line (argument_step l no_argument)) s → after (store_slots line (set_by rest)) t ≡ after (store_slots line (set_by (argument_step l rest))) s
set_item line (Argument-F.Rd x) rest s t e = ap (after (store_slots line (set_by rest))) (e ∙ after_nothing s)
set_item line (Argument-F.Wr x) rest s t e = store_item line (Some (plain_variable x)) (set_by rest) s t e
set_item line (Argument-F.Rw x) rest s t e = store_item line (Some (plain_variable x)) (set_by rest) s t e

set_of : (line : ℕ) (f : Arguments → Arguments) (l : ArgumentLayer) → f ≡ argument_step l → (rest : Arguments) (s t : Emitted) → t ≡ after (set_code line (f no_argument)) s → after (store_slots line (set_by rest)) t ≡ after (store_slots line (set_by (f rest))) s
set_of line f l is rest s t e =
    set_item line l rest s t (e ∙ ap (λ (g : Arguments → Arguments). after (set_code line (g no_argument)) s) is)
    ∙ ap (λ (g : Arguments → Arguments). after (store_slots line (set_by (g rest))) s) (sym is)

pub sets_round : (line : ℕ) (xs : List arg.Argument) (k : ℕ) (x : arg.Argument) (s t : Emitted) → k < length xs → x ≡ get_or xs k x → t ≡ after (set_code line (plain_argument x no_argument)) s → after (store_slots line (set_by (plain_arguments (drop (k + 1) xs)))) t ≡ after (store_slots line (set_by (plain_arguments (drop k xs)))) s
sets_round line xs k x s t within read e =
    set_of line (plain_argument x) (layer_of x).0 (layer_of x).1 (plain_arguments (drop (k + 1) xs)) s t e
    ∙ ap (λ (r : List arg.Argument). after (store_slots line (set_by (plain_arguments r))) s) (sym (drop_at xs k x within read))

-- ---- bindings

pub parts_made : (line n : ℕ) (xs : List (Option v.Variable)) (s t u : Emitted) → n ≡ length xs → t ≡ after (one line (PartsOf n)) s → u ≡ after (store_slots line (plain_slots xs)) t → u ≡ after (parts line (plain_slots xs)) s
parts_made line n xs s t u m e1 e2 =
    let k : n ≡ length (plain_slots xs) = m ∙ sym (length-map xs (λ (x : Option v.Variable). option_map plain_variable x)) in
    e2 ∙ ap (after (store_slots line (plain_slots xs))) (e1 ∙ ap (λ m. after (one line (PartsOf m)) s) k)
    ∙ after_then (one line (PartsOf (length (plain_slots xs)))) (store_slots line (plain_slots xs)) s

pub member_made : (line : ℕ) (b : bd.Binding) (k : Source) (x : v.Variable) (s u : Emitted) → b ≡ bind_is.Member k x → u ≡ after (one line (StoreIn (plain_variable x))) s → u ≡ after (bind line (plain_binding b)) s
member_made line b k x s u is e = e ∙ sym (last (one line (StoreIn (plain_variable x))) s) ∙ ap (λ (b : bd.Binding). after (bind line (plain_binding b)) s) (sym is)

pub point_made : (line : ℕ) (b : bd.Binding) (y x : v.Variable) (s t u : Emitted) → b ≡ bind_is.Point y x → t ≡ after (one line (StoreIn (plain_variable x))) s → u ≡ after (one line (StoreIn (plain_variable y))) t → u ≡ after (bind line (plain_binding b)) s
point_made line b y x s t u is e1 e2 =
    let p = one line (StoreIn (plain_variable x)) in
    let q = one line (StoreIn (plain_variable y)) in
    e2 ∙ sym (last q t) ∙ ap (after (q ⨾ nothing)) e1 ∙ after_then p (q ⨾ nothing) s ∙ ap (λ (b : bd.Binding). after (bind line (plain_binding b)) s) (sym is)

cleared : (line : ℕ) (x : Variable) (s : Emitted) → after (one line (Push None) ⨾ one line (StoreIn x)) s ≡ after (clear line (x ∷ [])) s
cleared line x s =
    let p = one line (Push None) in
    let q = one line (StoreIn x) in
    sym (after_then p q s) ∙ sym (last q (after p s)) ∙ after_then p (q ⨾ nothing) s

pub member_cleared : (line : ℕ) (b : bd.Binding) (k : Source) (x : v.Variable) (s u : Emitted) → b ≡ bind_is.Member k x → u ≡ after (one line (Push None) ⨾ one line (StoreIn (plain_variable x))) s → u ≡ after (clear line (variables_in (bound_by (plain_binding b)))) s
member_cleared line b k x s u is e = e ∙ cleared line (plain_variable x) s ∙ ap (λ (b : bd.Binding). after (clear line (variables_in (bound_by (plain_binding b)))) s) (sym is)

pub point_cleared : (line : ℕ) (b : bd.Binding) (y x : v.Variable) (s t u : Emitted) → b ≡ bind_is.Point y x → t ≡ after (one line (Push None) ⨾ one line (StoreIn (plain_variable y))) s → u ≡ after (one line (Push None) ⨾ one line (StoreIn (plain_variable x))) t → u ≡ after (clear line (variables_in (bound_by (plain_binding b)))) s
point_cleared line b y x s t u is e1 e2 =
    e2 ∙ cleared line (plain_variable x) t ∙ ap (after (clear line (plain_variable x ∷ []))) (e1 ∙ cleared line (plain_variable y) s)
    ∙ clear_after line (plain_variable y ∷ []) (plain_variable x ∷ []) s
    ∙ ap (λ (b : bd.Binding). after (clear line (variables_in (bound_by (plain_binding b)))) s) (sym is)

-- ---- kinds of arguments

pub rd_is : (x : arg.Argument) (e : ex.Expr) → x ≡ an.Rd e → plain_argument x ≡ rd_argument (plain_expr e)
rd_is x e is = ap plain_argument (is ∙ sym (an.rolls-Rd e)) ∙ fold-roll-Argument (Arguments → Arguments) Expr (Expr → Expr) (Binding × Exprs) argument_step expr_step link_step iterator_step (Argument-F.Rd e)

pub nothing_set : (line : ℕ) (x : arg.Argument) (e : ex.Expr) (s : Emitted) → x ≡ an.Rd e → s ≡ after (set_code line (plain_argument x no_argument)) s
nothing_set line x e s is = sym (after_nothing s) ∙ ap (λ (f : Arguments → Arguments). after (set_code line (f no_argument)) s) (sym (rd_is x e is))
