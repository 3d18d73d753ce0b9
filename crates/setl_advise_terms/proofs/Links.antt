-- The shapes of chains.
use Rattle.std.proofs.Common.{◌≡◌, ℕ, ◌+◌, ◌<◌, ◌≤◌, List, ◌∷◌, drop, length, map, ap, sym, ◌∙◌}
use Rattle.std.proofs.Math.ListN.{get_or}
use Rattle.std.proofs.lemmas.List.{drop_all, drop_more}
use Rattle.setl_program.specs.declared.expr.Expr as ex
use Rattle.setl_program.specs.declared.expr.Expr.{fold-roll-Expr}
use Rattle.setl_program.specs.declared.expr.Expr.TheVariants as ch
use Rattle.setl_program.specs.declared.expr.Link.{Link}
use Rattle.setl_program.specs.declared.expr.Argument.TheOpen.{Expr-F}
use Rattle.setl_program.specs.Program.{Binding, Expr, Exprs, Arguments}
use Rattle.setl_program.specs.Lists.{chained}
use Rattle.setl_program.specs.code.Plain.{plain_expr, plain_link, argument_step, expr_step, link_step, iterator_step}
use Rattle.setl_advise_flows.specs.Operators.{Shape}
use Rattle.setl_advise_flows.specs.Expressions.{Flows, shape_of}

-- what is left of a list begins with the item at the place
pub drop_at : {X : Type 0} (xs : List X) (i : ℕ) (x : X) → i < length xs → x ≡ get_or xs i x → drop i xs ≡ x ∷ drop (i + 1) xs
drop_at xs i x within read = drop_more xs i x within ∙ ap (λ z. z ∷ drop (i + 1) xs) (sym read)

chain_is : (e first : ex.Expr) (ls : List Link) → e ≡ ch.Chain first ls → plain_expr e ≡ chained (plain_expr first) (map plain_link ls)
chain_is e first ls is =
    ap plain_expr (is ∙ sym (ch.rolls-Chain first ls))
    ∙ fold-roll-Expr (Arguments → Arguments) Expr (Expr → Expr) (Binding × Exprs) argument_step expr_step link_step iterator_step (Expr-F.Chain first ls)

module _ (s : Flows) where
  -- each expression of a shape is of another one with links behind it
  abbrev pub Gives : List Link → Shape → Shape → Type 0
  Gives ls w v = (e : Expr) → shape_of s e ≡ w → shape_of s (chained e (map plain_link ls)) ≡ v

  -- what links from a place on give of the second shape, all of them give of the first
  abbrev pub Rest : List Link → ℕ → Shape → Shape → Type 0
  Rest ls k w all = (v : Shape) → Gives (drop k ls) all v → Gives ls w v

  pub links_round : (ls : List Link) (k : ℕ) (x : Link) (w all next : Shape) → k < length ls → x ≡ get_or ls k x → ((e : Expr) → shape_of s e ≡ all → shape_of s (plain_link x e) ≡ next) → Rest ls k w all → Rest ls (k + 1) w next
  links_round ls k x w all next within read one inv v rest =
      inv v (λ e is. ap (λ (r : List Link). shape_of s (chained e (map plain_link r))) (drop_at ls k x within read) ∙ rest (plain_link x e) (one e is))

  pub links_end : (ls : List Link) (k : ℕ) (w all : Shape) → length ls ≤ k → Rest ls k w all → Gives ls w all
  links_end ls k w all h inv = inv all (λ e is. ap (λ (r : List Link). shape_of s (chained e (map plain_link r))) (drop_all k ls h) ∙ is)

  pub chain_done : (e first x : ex.Expr) (ls rest : List Link) (w v : Shape) → e ≡ ch.Chain first ls → x ≡ first → rest ≡ ls → w ≡ shape_of s (plain_expr x) → Gives rest w v → v ≡ shape_of s (plain_expr e)
  chain_done e first x ls rest w v is ef er h g =
      sym (g (plain_expr x) (sym h))
      ∙ ap (λ (r : List Link). shape_of s (chained (plain_expr x) (map plain_link r))) er
      ∙ ap (λ (y : ex.Expr). shape_of s (chained (plain_expr y) (map plain_link ls))) ef
      ∙ ap (λ (y : Expr). shape_of s y) (sym (chain_is e first ls is))
