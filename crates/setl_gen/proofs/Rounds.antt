-- A round of each loop over a list of parts, and how many a list has.
use Rattle.std.proofs.Common.{◌≡◌, ℕ, suc, ◌+◌, ◌<◌, List, [], ◌∷◌, drop, length, refl, ap, sym, ◌∙◌, Some, None, arith}
use Rattle.std.proofs.Math.ListN.{get_or}
use Rattle.setl_model_runs.specs.Variable.{Variable}
use Rattle.setl_program.specs.declared.expr.Expr as ex
use Rattle.setl_program.specs.declared.expr.Iterator as it
use Rattle.setl_program.specs.declared.expr.Argument as arg
use Rattle.setl_program.specs.declared.expr.Iterator.{out-Iterator}
use Rattle.setl_program.specs.declared.expr.Argument.TheOpen.{Argument-F}
use Rattle.setl_program.specs.Program.{Binding, begin_of, Exprs, Arguments, no_argument}
use Rattle.setl_program.specs.code.Plain.{plain_variable, plain_binding, plain_expr, plain_exprs, plain_iterator, plain_iterators, plain_argument, plain_arguments, argument_step}
use Rattle.setl_code.specs.Code.{Push, Load, StoreIn, BeginOver, NextOr}
use Rattle.setl_code.specs.Piece.{one}
use Rattle.setl_code.specs.Generated.{store_slots, bind, arguments, count_from, count, levels, expr, exprs}
use Rattle.setl_gen_emitter.specs.Emitted.{Emitted, after}
use Rattle.setl_gen_emitter.specs.EmittedLaws.{after_then, last}
use Rattle.setl_gen_emitter.specs.Items.{drop_at, iterator_is, ArgumentLayer, layer_of}
use Rattle.setl_gen.specs.Heads.{begun, next, argument_code}
use Rattle.setl_gen.proofs.Constructs.{begun_made, head_made}

-- ---- expressions

pub count_from_is : (n : ℕ) (es : List ex.Expr) → n + length es ≡ count_from n (plain_exprs es)
count_from_is n [] = omega arith
count_from_is n (x ∷ es) = omega (arith, count_from_is (suc n) es)

pub count_is : (es : List ex.Expr) → length es ≡ count (plain_exprs es)
count_is es = omega (arith, count_from_is 0 es)

pub levels_is : (is : List it.Iterator) → length is ≡ levels (plain_iterators is)
levels_is [] = refl
levels_is (x ∷ is) = ap suc (levels_is is)

pub exprs_round : (line : ℕ) (es : List ex.Expr) (k : ℕ) (x : ex.Expr) (s t : Emitted) → k < length es → x ≡ get_or es k x → t ≡ after (expr line (plain_expr x)) s → after (exprs line (plain_exprs (drop (k + 1) es))) t ≡ after (exprs line (plain_exprs (drop k es))) s
exprs_round line es k x s t within read f =
    let rest = drop (k + 1) es in
    ap (after (exprs line (plain_exprs rest))) f
    ∙ after_then (expr line (plain_expr x)) (exprs line (plain_exprs rest)) s
    ∙ ap (λ (r : List ex.Expr). after (exprs line (plain_exprs r)) s) (sym (drop_at es k x within read))

pub iterator_begun : (line n : ℕ) (x : it.Iterator) (xs : List ex.Expr) (s t u : Emitted) → xs ≡ (out-Iterator x).sources → t ≡ after (exprs line (plain_exprs xs)) s → n ≡ length (out-Iterator x).sources → u ≡ after (one line (BeginOver (begin_of (plain_binding (out-Iterator x).binding)) n)) t → u ≡ after (begun line (plain_iterator x)) s
iterator_begun line n x xs s t u h e1 m e2 =
    let b = plain_binding (out-Iterator x).binding in
    let es = (out-Iterator x).sources in
    begun_made line (b, plain_exprs es) n s t u (e1 ∙ ap (λ (r : List ex.Expr). after (exprs line (plain_exprs r)) s) h) (m ∙ count_is es) e2
    ∙ ap (λ (i : Binding × Exprs). after (begun line i) s) (sym (iterator_is x))

pub iterator_headed : (line back : ℕ) (x : it.Iterator) (s r t u : Emitted) → r ≡ after (begun line (plain_iterator x)) s → t ≡ after (one line (NextOr back)) r → u ≡ after (bind line (plain_binding (out-Iterator x).binding)) t → u ≡ after (next line back (plain_iterator x)) (after (begun line (plain_iterator x)) s)
iterator_headed line back x s r t u e1 e2 e3 =
    head_made line back (plain_iterator x) s r t u e1 e2 (e3 ∙ ap (λ (i : Binding × Exprs). after (bind line i.0) t) (sym (iterator_is x)))

-- ---- arguments

argument_item : (line : ℕ) (l : ArgumentLayer) (rest : Arguments) (s t : Emitted) → t ≡ after (argument_code line (argument_step l no_argument)) s → after (arguments line rest) t ≡ after (arguments line (argument_step l rest)) s
argument_item line (Argument-F.Rd x) rest s t e = ap (after (arguments line rest)) e ∙ after_then (expr line x) (arguments line rest) s
argument_item line (Argument-F.Wr x) rest s t e = ap (after (arguments line rest)) e ∙ after_then (one line (Push None)) (arguments line rest) s
argument_item line (Argument-F.Rw x) rest s t e = ap (after (arguments line rest)) e ∙ after_then (one line (Load (plain_variable x))) (arguments line rest) s

argument_of : (line : ℕ) (f : Arguments → Arguments) (l : ArgumentLayer) → f ≡ argument_step l → (rest : Arguments) (s t : Emitted) → t ≡ after (argument_code line (f no_argument)) s → after (arguments line rest) t ≡ after (arguments line (f rest)) s
argument_of line f l is rest s t e =
    argument_item line l rest s t (e ∙ ap (λ (g : Arguments → Arguments). after (argument_code line (g no_argument)) s) is)
    ∙ ap (λ (g : Arguments → Arguments). after (arguments line (g rest)) s) (sym is)

pub arguments_round : (line : ℕ) (xs : List arg.Argument) (k : ℕ) (x : arg.Argument) (s t : Emitted) → k < length xs → x ≡ get_or xs k x → t ≡ after (argument_code line (plain_argument x no_argument)) s → after (arguments line (plain_arguments (drop (k + 1) xs))) t ≡ after (arguments line (plain_arguments (drop k xs))) s
arguments_round line xs k x s t within read e =
    argument_of line (plain_argument x) (layer_of x).0 (layer_of x).1 (plain_arguments (drop (k + 1) xs)) s t e
    ∙ ap (λ (r : List arg.Argument). after (arguments line (plain_arguments r)) s) (sym (drop_at xs k x within read))

-- ---- one variable

pub one_store : (line : ℕ) (x : Variable) (s t : Emitted) → t ≡ after (one line (StoreIn x)) s → t ≡ after (store_slots line (Some x ∷ [])) s
one_store line x s t e = e ∙ sym (last (one line (StoreIn x)) s)
