-- Links of a chain: their variables, and their code.
use Rattle.std.proofs.Common.{◌≡◌, ℕ, ◌+◌, ◌<◌, ◌≤◌, List, [], ◌∷◌, ◌++◌, drop, length, map, refl, ap, sym, ◌∙◌, append_assoc}
use Rattle.std.proofs.Math.ListN.{get_or}
use Rattle.std.proofs.lemmas.List.{append-nil, drop_all}
use Rattle.std.specs.Prelude.{OnOk, Result, Ok, Err}
use Rattle.setl_operators_table.specs.declared.Operator.{Operator}
use Rattle.setl_model_runs.specs.Variable.{Variable}
use Rattle.setl_program.specs.declared.kinds.Connective.{Connective}
use Rattle.setl_program.specs.declared.expr.Expr as ex
use Rattle.setl_program.specs.declared.expr.Expr.TheVariants as ch
use Rattle.setl_program.specs.declared.expr.Link.{Link, fold-roll-Link, fold_out-Link}
use Rattle.setl_program.specs.declared.expr.Link.TheVariants as li
use Rattle.setl_program.specs.declared.expr.Argument.TheOpen.{Link-F}
use Rattle.setl_program.specs.Program.{Binding, Expr, Undefined, Apply, Connect, Exprs, no_expr, more_exprs, Arguments}
use Rattle.setl_program.specs.Operators as program
use Rattle.setl_program.specs.Lists.{exprs_of, chained}
use Rattle.setl_program.specs.code.Plain.{plain_expr, plain_link, argument_step, expr_step, link_step, iterator_step}
use Rattle.setl_code.specs.Code.{Operate, Decides, TestBool}
use Rattle.setl_code.specs.Piece.{◌⨾◌, nothing, one}
use Rattle.setl_code.specs.Generated.{expr}
use Rattle.setl_code.specs.Names.{in_expr}
use Rattle.setl_gen_emitter.specs.Emitted.{Emitted, here, after, with_step}
use Rattle.setl_gen.specs.Heads.{CodeGoesOn}
use Rattle.setl_gen_emitter.specs.EmittedLaws.{then_made, last}
use Rattle.setl_gen.proofs.Constructs.{apply_made, connect_made}
use Rattle.setl_gen.proofs.ExprKinds.{chain_is, got}
use Rattle.setl_gen_emitter.specs.Items.{drop_at}

-- ---- variables

abbrev Layer : Type 0
Layer = Link-F (Arguments → Arguments) Expr (Expr → Expr) (Binding × Exprs)

-- a link is one of four
layer_of : (l : Link) → (y : Layer) × (plain_link l ≡ link_step y)
layer_of l = (_, fold_out-Link (Arguments → Arguments) Expr (Expr → Expr) (Binding × Exprs) argument_step expr_step link_step iterator_step l)

layer_variables : (y : Layer) (e : Expr) → in_expr (link_step y e) ≡ in_expr e ++ in_expr (link_step y Undefined)
layer_variables (Link-F.Unary o) e = refl
layer_variables (Link-F.Binary o x) e = refl
layer_variables (Link-F.Ternary o x z) e = refl
layer_variables (Link-F.Connect k x) e = refl

link_variables : (l : Link) (e : Expr) → in_expr (plain_link l e) ≡ in_expr e ++ in_expr (plain_link l Undefined)
link_variables l e =
    let y = layer_of l in
    ap (λ (f : Expr → Expr). in_expr (f e)) y.1 ∙ layer_variables y.0 e ∙ ap (λ (f : Expr → Expr). in_expr e ++ in_expr (f Undefined)) (sym y.1)

-- those of links: what they make of `om` has no others
abbrev variables : List Link → List Variable
variables ls = in_expr (chained Undefined (map plain_link ls))

pub chain_variables : (e : Expr) (ls : List Link) → in_expr (chained e (map plain_link ls)) ≡ in_expr e ++ variables ls
chain_variables e [] = sym (append-nil (in_expr e))
chain_variables e (l ∷ ls) =
    chain_variables (plain_link l e) ls
    ∙ ap (λ r. r ++ variables ls) (link_variables l e)
    ∙ append_assoc (in_expr e) (in_expr (plain_link l Undefined)) (variables ls)
    ∙ ap (λ r. in_expr e ++ r) (sym (chain_variables (plain_link l Undefined) ls))

pub found_round : (ls : List Link) (k : ℕ) (x : Link) (s t : List Variable) → k < length ls → x ≡ get_or ls k x → t ≡ s ++ in_expr (plain_link x Undefined) → t ++ variables (drop (k + 1) ls) ≡ s ++ variables (drop k ls)
found_round ls k x s t within read e =
    let rest = drop (k + 1) ls in
    ap (λ r. r ++ variables rest) e
    ∙ append_assoc s (in_expr (plain_link x Undefined)) (variables rest)
    ∙ ap (λ r. s ++ r) (sym (chain_variables (plain_link x Undefined) rest))
    ∙ ap (λ (r : List Link). s ++ variables r) (sym (drop_at ls k x within read))

pub found_links : (ls : List Link) (k : ℕ) (t z : List Variable) → length ls ≤ k → t ++ variables (drop k ls) ≡ z → t ≡ z
found_links ls k t z h inv = sym (append-nil t) ∙ ap (λ (r : List Link). t ++ variables r) (sym (drop_all k ls h)) ∙ inv

pub found_chain : (e first x : ex.Expr) (ls rest : List Link) (s s1 t : List Variable) → e ≡ ch.Chain first ls → x ≡ first → rest ≡ ls → s1 ≡ s ++ in_expr (plain_expr x) → t ≡ s1 ++ variables rest → t ≡ s ++ in_expr (plain_expr e)
found_chain e first x ls rest s s1 t is ef er e1 e2 =
    e2 ∙ ap (λ r. r ++ variables rest) e1
    ∙ append_assoc s (in_expr (plain_expr x)) (variables rest)
    ∙ ap (λ r. s ++ r) (sym (chain_variables (plain_expr x) rest))
    ∙ ap (λ (r : List Link). s ++ in_expr (chained (plain_expr x) (map plain_link r))) er
    ∙ ap (λ (y : ex.Expr). s ++ in_expr (chained (plain_expr y) (map plain_link ls))) ef
    ∙ ap (λ (y : Expr). s ++ in_expr y) (sym (chain_is e first ls is))

-- ---- code

pub unary_made : (line : ℕ) (o : Operator) (s t : Emitted) → t ≡ after (one line (Operate o 1)) s → CodeGoesOn line (program.one o) s t
unary_made line o s t h e b g = apply_made line o (more_exprs e no_expr) 1 b s t (g ∙ sym (last (expr line e) b)) refl h

pub binary_made : (line : ℕ) (o : Operator) (x : Expr) (s t u : Emitted) → t ≡ after (expr line x) s → u ≡ after (one line (Operate o 2)) t → CodeGoesOn line (λ e. program.two o e x) s u
binary_made line o x s t u h1 h2 e b g =
    apply_made line o (more_exprs e (more_exprs x no_expr)) 2 b t u
    (then_made (expr line e) (expr line x ⨾ nothing) b s t g (h1 ∙ sym (last (expr line x) s))) refl h2

pub connected : (line : ℕ) (k : Connective) (x : Expr) (at end : ℕ) (s s1 s2 s3 u : Emitted) → at ≡ here s → s1 ≡ after (one line (Decides k 0)) s → s2 ≡ after (expr line x) s1 → s3 ≡ after (one line TestBool) s2 → end ≡ here s3 → u ≡ with_step at line (Decides k end) s3 → CodeGoesOn line (λ e. Connect k e x) s u
connected line k x at end s s1 s2 s3 u p h1 h2 h3 q h4 e b g = connect_made line k e x at end b s s1 s2 s3 u g p h1 h2 h3 q h4

-- a link by its kind
pub unary_is : (l : Link) (o : Operator) → l ≡ li.Unary o → plain_link l ≡ program.one o
unary_is l o is = ap plain_link (is ∙ sym (li.rolls-Unary o)) ∙ fold-roll-Link (Arguments → Arguments) Expr (Expr → Expr) (Binding × Exprs) argument_step expr_step link_step iterator_step (Link-F.Unary o)

pub binary_is : (l : Link) (o : Operator) (x : ex.Expr) → l ≡ li.Binary o x → plain_link l ≡ (λ e. program.two o e (plain_expr x))
binary_is l o x is = ap plain_link (is ∙ sym (li.rolls-Binary o x)) ∙ fold-roll-Link (Arguments → Arguments) Expr (Expr → Expr) (Binding × Exprs) argument_step expr_step link_step iterator_step (Link-F.Binary o x)

pub connect_is : (l : Link) (k : Connective) (x y : ex.Expr) → l ≡ li.Connect k x → y ≡ x → plain_link l ≡ (λ e. Connect k e (plain_expr y))
connect_is l k x y is h =
    let f : ex.Expr → Expr → Expr = λ z e. Connect k e (plain_expr z) in
    ap plain_link (is ∙ sym (li.rolls-Connect k x)) ∙ fold-roll-Link (Arguments → Arguments) Expr (Expr → Expr) (Binding × Exprs) argument_step expr_step link_step iterator_step (Link-F.Connect k x) ∙ ap f (sym h)

ternary_is : (l : Link) (o : Operator) (x y : ex.Expr) → l ≡ li.Ternary o x y → plain_link l ≡ (λ e. Apply o (exprs_of (e ∷ plain_expr x ∷ plain_expr y ∷ [])))
ternary_is l o x y is = ap plain_link (is ∙ sym (li.rolls-Ternary o x y)) ∙ fold-roll-Link (Arguments → Arguments) Expr (Expr → Expr) (Binding × Exprs) argument_step expr_step link_step iterator_step (Link-F.Ternary o x y)

pub as_link : {A E : Type 0} (line : ℕ) (l : Link) (f : Expr → Expr) (s t : Emitted) → plain_link l ≡ f → (r : Result A E) → OnOk r (CodeGoesOn line f s t) → OnOk r (CodeGoesOn line (plain_link l) s t)
as_link line l f s t is (Ok x) g = λ e b h. g e b h ∙ ap (λ (z : Expr → Expr). after (expr line (z e)) b) (sym is)
as_link line l f s t is (Err x) g = g

-- an operator with its second and third operand
three_made : (line : ℕ) (o : Operator) (x y : Expr) (s t u v : Emitted) → t ≡ after (expr line x) s → u ≡ after (expr line y) t → v ≡ after (one line (Operate o 3)) u → CodeGoesOn line (λ e. Apply o (exprs_of (e ∷ x ∷ y ∷ []))) s v
three_made line o x y s t u v h1 h2 h3 e b g =
    apply_made line o (more_exprs e (more_exprs x (more_exprs y no_expr))) 3 b u v
    (then_made (expr line e) (expr line x ⨾ (expr line y ⨾ nothing)) b s u g
    (then_made (expr line x) (expr line y ⨾ nothing) s t u h1 (h2 ∙ sym (last (expr line y) t)))) refl h3

pub ternary_made : (line : ℕ) (l : Link) (o : Operator) (x y z w : ex.Expr) (s t u v : Emitted) → l ≡ li.Ternary o x y → z ≡ x → w ≡ y → t ≡ after (expr line (plain_expr z)) s → u ≡ after (expr line (plain_expr w)) t → v ≡ after (one line (Operate o 3)) u → CodeGoesOn line (plain_link l) s v
ternary_made line l o x y z w s t u v is hx hy h1 h2 h3 e b g =
    three_made line o (plain_expr x) (plain_expr y) s t u v (got line z x s t h1 hx) (got line w y t u h2 hy) h3 e b g
    ∙ ap (λ (f : Expr → Expr). after (expr line (f e)) b) (sym (ternary_is l o x y is))

-- what links that are left make of an expression
abbrev Rest : ℕ → List Link → Emitted → Emitted → Type 0
Rest line ls s t = CodeGoesOn line (λ e. chained e (map plain_link ls)) s t

pub chain_round : (line : ℕ) (ls : List Link) (k : ℕ) (x : Link) (s t : Emitted) → k < length ls → x ≡ get_or ls k x → CodeGoesOn line (plain_link x) s t → (u : Emitted) → Rest line (drop (k + 1) ls) t u → Rest line (drop k ls) s u
chain_round line ls k x s t within read f u g e b h =
    g (plain_link x e) b (f e b h) ∙ ap (λ (r : List Link). after (expr line (chained e (map plain_link r))) b) (sym (drop_at ls k x within read))

pub links_made : (line : ℕ) (ls : List Link) (k : ℕ) (s t : Emitted) → length ls ≤ k → ((u : Emitted) → Rest line (drop k ls) t u → Rest line ls s u) → Rest line ls s t
links_made line ls k s t h inv =
    inv t (λ x a w. w ∙ ap (λ (r : List Link). after (expr line (chained x (map plain_link r))) a) (sym (drop_all k ls h)))

pub chain_made : (line : ℕ) (e first x : ex.Expr) (ls rest : List Link) (s t u : Emitted) → e ≡ ch.Chain first ls → x ≡ first → rest ≡ ls → t ≡ after (expr line (plain_expr x)) s → Rest line rest t u → u ≡ after (expr line (plain_expr e)) s
chain_made line e first x ls rest s t u is hx hr g f =
    f (plain_expr x) s g
    ∙ ap (λ (r : List Link). after (expr line (chained (plain_expr x) (map plain_link r))) s) hr
    ∙ ap (λ (y : ex.Expr). after (expr line (chained (plain_expr y) (map plain_link ls))) s) hx
    ∙ ap (λ (y : Expr). after (expr line y) s) (sym (chain_is e first ls is))
