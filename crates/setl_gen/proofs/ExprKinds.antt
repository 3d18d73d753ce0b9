-- Expressions by their kind.
use Rattle.std.proofs.Common.{◌≡◌, ℕ, List, map, ap, sym, ◌∙◌, Option, Some, None}
use Rattle.std.specs.Option.{option_map}
use Rattle.std.specs.Prelude.{OnOk, Result, Ok, Err}
use Rattle.setl_program.specs.declared.kinds.Collection.{Collection}
use Rattle.setl_program.specs.declared.kinds.Quantifier.{Quantifier}
use Rattle.setl_program.specs.declared.expr.Binding.{Binding}
use Rattle.setl_program.specs.declared.expr.Iterator.{Iterator}
use Rattle.setl_program.specs.declared.expr.Expr.{Expr, fold-roll-Expr}
use Rattle.setl_program.specs.declared.expr.Expr.TheVariants as ex
use Rattle.setl_program.specs.declared.expr.Link.{Link}
use Rattle.setl_program.specs.declared.expr.Argument.TheOpen.{Expr-F}
use Rattle.setl_program.specs.Program as plain
use Rattle.setl_program.specs.Lists.{chained}
use Rattle.setl_program.specs.code.Plain.{plain_expr, plain_link, plain_exprs, plain_iterators, plain_binding, condition_of, argument_step, expr_step, link_step, iterator_step}
use Rattle.setl_code.specs.Generated.{expr}
use Rattle.setl_gen_emitter.specs.Emitted.{Emitted, after}

abbrev Puts : Type 0
Puts = plain.Arguments → plain.Arguments

abbrev Behind : Type 0
Behind = plain.Expr → plain.Expr

abbrev Turn : Type 0
Turn = plain.Binding × plain.Exprs

pub chain_is : (e first : Expr) (ls : List Link) → e ≡ ex.Chain first ls → plain_expr e ≡ chained (plain_expr first) (map plain_link ls)
chain_is e first ls is = ap plain_expr (is ∙ sym (ex.rolls-Chain first ls)) ∙ fold-roll-Expr Puts plain.Expr Behind Turn argument_step expr_step link_step iterator_step (Expr-F.Chain first ls)

pub choose_is : (e t a b : Expr) → e ≡ ex.Choose t a b → plain_expr e ≡ plain.Choose (plain_expr t) (plain_expr a) (plain_expr b)
choose_is e t a b is = ap plain_expr (is ∙ sym (ex.rolls-Choose t a b)) ∙ fold-roll-Expr Puts plain.Expr Behind Turn argument_step expr_step link_step iterator_step (Expr-F.Choose t a b)

pub former_is : (e : Expr) (k : Collection) (x : Expr) (is : List Iterator) (t : Option Expr) → e ≡ ex.Former k x is t → plain_expr e ≡ plain.Former k (plain_expr x) (plain_iterators is) (condition_of (option_map plain_expr t))
former_is e k x is None h = ap plain_expr (h ∙ sym (ex.rolls-Former k x is None)) ∙ fold-roll-Expr Puts plain.Expr Behind Turn argument_step expr_step link_step iterator_step (Expr-F.Former k x is None)
former_is e k x is (Some t) h = ap plain_expr (h ∙ sym (ex.rolls-Former k x is (Some t))) ∙ fold-roll-Expr Puts plain.Expr Behind Turn argument_step expr_step link_step iterator_step (Expr-F.Former k x is (Some t))

pub selection_is : (e : Expr) (k : Collection) (b : Binding) (es : List Expr) (c : Expr) → e ≡ ex.Selection k b es c → plain_expr e ≡ plain.Selection k (plain_binding b) (plain_exprs es) (plain_expr c)
selection_is e k b es c is = ap plain_expr (is ∙ sym (ex.rolls-Selection k b es c)) ∙ fold-roll-Expr Puts plain.Expr Behind Turn argument_step expr_step link_step iterator_step (Expr-F.Selection k b es c)

pub quantified_is : (e : Expr) (q : Quantifier) (is : List Iterator) (c : Expr) → e ≡ ex.Quantified q is c → plain_expr e ≡ plain.Quantified q (plain_iterators is) (plain_expr c)
quantified_is e q is c h = ap plain_expr (h ∙ sym (ex.rolls-Quantified q is c)) ∙ fold-roll-Expr Puts plain.Expr Behind Turn argument_step expr_step link_step iterator_step (Expr-F.Quantified q is c)

-- an expression that a box gave
pub got : (line : ℕ) (x y : Expr) (s t : Emitted) → t ≡ after (expr line (plain_expr x)) s → x ≡ y → t ≡ after (expr line (plain_expr y)) s
got line x y s t e is = e ∙ ap (λ (z : Expr). after (expr line (plain_expr z)) s) is

-- code of an expression that is of a kind, where it was made
pub as_kind : {A E : Type 0} (line : ℕ) (e : Expr) (x : plain.Expr) (s t : Emitted) → plain_expr e ≡ x → (r : Result A E) → OnOk r (t ≡ after (expr line x) s) → OnOk r (t ≡ after (expr line (plain_expr e)) s)
as_kind line e x s t is (Ok v) g = g ∙ ap (λ (y : plain.Expr). after (expr line y) s) (sym is)
as_kind line e x s t is (Err v) g = g
