-- The items of lists, and what they stand for by their fields.
use Rattle.std.proofs.Common.{◌≡◌, ℕ, ◌+◌, ◌<◌, List, ◌∷◌, drop, length, ap, sym, ◌∙◌}
use Rattle.std.proofs.Math.ListN.{get_or}
use Rattle.std.proofs.lemmas.List.{drop_more}
use Rattle.setl_program.specs.declared.expr.Iterator as it
use Rattle.setl_program.specs.declared.expr.Iterator.{out-Iterator, fold_out-Iterator}
use Rattle.setl_program.specs.declared.expr.Argument as arg
use Rattle.setl_program.specs.declared.expr.Argument.{fold_out-Argument}
use Rattle.setl_program.specs.declared.expr.Argument.TheOpen.{Argument-F}
use Rattle.setl_program.specs.Program.{Binding, Expr, Exprs, Arguments}
use Rattle.setl_program.specs.code.Plain.{plain_binding, plain_exprs, plain_iterator, plain_argument, argument_step, expr_step, link_step, iterator_step}

-- what is left of a list begins with the item at the place
pub drop_at : {X : Type 0} (xs : List X) (i : ℕ) (x : X) → i < length xs → x ≡ get_or xs i x → drop i xs ≡ x ∷ drop (i + 1) xs
drop_at xs i x within read = drop_more xs i x within ∙ ap (λ z. z ∷ drop (i + 1) xs) (sym read)

-- an iterator by its fields
pub iterator_is : (x : it.Iterator) → plain_iterator x ≡ (plain_binding (out-Iterator x).binding, plain_exprs (out-Iterator x).sources)
iterator_is x = fold_out-Iterator (Arguments → Arguments) Expr (Expr → Expr) (Binding × Exprs) argument_step expr_step link_step iterator_step x

-- an argument whose parts are plain
abbrev pub ArgumentLayer : Type 0
ArgumentLayer = Argument-F (Arguments → Arguments) Expr (Expr → Expr) (Binding × Exprs)

-- what an argument puts before the others is one of three
pub layer_of : (x : arg.Argument) → (l : ArgumentLayer) × (plain_argument x ≡ argument_step l)
layer_of x = (_, fold_out-Argument (Arguments → Arguments) Expr (Expr → Expr) (Binding × Exprs) argument_step expr_step link_step iterator_step x)
