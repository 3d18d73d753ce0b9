-- The conditions of chains.
use Rattle.std.proofs.Common.{◌≡◌, ℕ, ◌+◌, ◌<◌, ◌≤◌, List, [], ◌∷◌, ◌++◌, drop, length, map, refl, ap, sym, ◌∙◌, append_assoc}
use Rattle.std.proofs.Math.ListN.{get_or}
use Rattle.std.proofs.lemmas.List.{append-nil, drop_all, drop_more}
use Rattle.setl_program.specs.declared.expr.Expr as ex
use Rattle.setl_program.specs.declared.expr.Expr.{fold-roll-Expr}
use Rattle.setl_program.specs.declared.expr.Expr.TheVariants as ch
use Rattle.setl_program.specs.declared.expr.Link.{Link, fold_out-Link}
use Rattle.setl_program.specs.declared.expr.Argument.TheOpen.{Expr-F, Link-F}
use Rattle.setl_program.specs.Program.{Binding, Expr, Undefined, Exprs, Arguments, Procedure}
use Rattle.setl_program.specs.Lists.{chained}
use Rattle.setl_program.specs.code.Plain.{plain_expr, plain_link, argument_step, expr_step, link_step, iterator_step}
use Rattle.setl_advise_conditions.specs.Conditions.{Condition}
use Rattle.setl_advise_conditions.specs.Parts.{expr_conditions}

-- what is left of a list begins with the item at the place
pub drop_at : {X : Type 0} (xs : List X) (i : ℕ) (x : X) → i < length xs → x ≡ get_or xs i x → drop i xs ≡ x ∷ drop (i + 1) xs
drop_at xs i x within read = drop_more xs i x within ∙ ap (λ z. z ∷ drop (i + 1) xs) (sym read)

abbrev Layer : Type 0
Layer = Link-F (Arguments → Arguments) Expr (Expr → Expr) (Binding × Exprs)

-- a link is one of four
layer_of : (l : Link) → (y : Layer) × (plain_link l ≡ link_step y)
layer_of l = (_, fold_out-Link (Arguments → Arguments) Expr (Expr → Expr) (Binding × Exprs) argument_step expr_step link_step iterator_step l)

chain_is : (e first : ex.Expr) (ls : List Link) → e ≡ ch.Chain first ls → plain_expr e ≡ chained (plain_expr first) (map plain_link ls)
chain_is e first ls is =
    ap plain_expr (is ∙ sym (ch.rolls-Chain first ls))
    ∙ fold-roll-Expr (Arguments → Arguments) Expr (Expr → Expr) (Binding × Exprs) argument_step expr_step link_step iterator_step (Expr-F.Chain first ls)

module _ (qs : List Procedure) where
  layer_conditions : (y : Layer) (e : Expr) → expr_conditions qs (link_step y e) ≡ expr_conditions qs e ++ expr_conditions qs (link_step y Undefined)
  layer_conditions (Link-F.Unary o) e = refl
  layer_conditions (Link-F.Binary o x) e = refl
  layer_conditions (Link-F.Ternary o x z) e = refl
  layer_conditions (Link-F.Connect k x) e = refl

  link_conditions : (l : Link) (e : Expr) → expr_conditions qs (plain_link l e) ≡ expr_conditions qs e ++ expr_conditions qs (plain_link l Undefined)
  link_conditions l e =
      let y = layer_of l in
      ap (λ (f : Expr → Expr). expr_conditions qs (f e)) y.1 ∙ layer_conditions y.0 e ∙ ap (λ (f : Expr → Expr). expr_conditions qs e ++ expr_conditions qs (f Undefined)) (sym y.1)

  -- those of links: what they make of `om` has no others
  abbrev links_conditions : List Link → List Condition
  links_conditions ls = expr_conditions qs (chained Undefined (map plain_link ls))

  chain_conditions : (e : Expr) (ls : List Link) → expr_conditions qs (chained e (map plain_link ls)) ≡ expr_conditions qs e ++ links_conditions ls
  chain_conditions e [] = sym (append-nil (expr_conditions qs e))
  chain_conditions e (l ∷ ls) =
      chain_conditions (plain_link l e) ls
      ∙ ap (λ r. r ++ links_conditions ls) (link_conditions l e)
      ∙ append_assoc (expr_conditions qs e) (expr_conditions qs (plain_link l Undefined)) (links_conditions ls)
      ∙ ap (λ r. expr_conditions qs e ++ r) (sym (chain_conditions (plain_link l Undefined) ls))

  pub links_round : (ls : List Link) (k : ℕ) (x : Link) (s t : List Condition) → k < length ls → x ≡ get_or ls k x → t ≡ s ++ expr_conditions qs (plain_link x Undefined) → t ++ links_conditions (drop (k + 1) ls) ≡ s ++ links_conditions (drop k ls)
  links_round ls k x s t within read e =
      let rest = drop (k + 1) ls in
      ap (λ r. r ++ links_conditions rest) e
      ∙ append_assoc s (expr_conditions qs (plain_link x Undefined)) (links_conditions rest)
      ∙ ap (λ r. s ++ r) (sym (chain_conditions (plain_link x Undefined) rest))
      ∙ ap (λ (r : List Link). s ++ links_conditions r) (sym (drop_at ls k x within read))

  pub links_end : (ls : List Link) (k : ℕ) (t z : List Condition) → length ls ≤ k → t ++ links_conditions (drop k ls) ≡ z → t ≡ z
  links_end ls k t z h inv = sym (append-nil t) ∙ ap (λ (r : List Link). t ++ links_conditions r) (sym (drop_all k ls h)) ∙ inv

  pub chain_done : (e first x : ex.Expr) (ls rest : List Link) (s s1 t : List Condition) → e ≡ ch.Chain first ls → x ≡ first → rest ≡ ls → s1 ≡ s ++ expr_conditions qs (plain_expr x) → t ≡ s1 ++ links_conditions rest → t ≡ s ++ expr_conditions qs (plain_expr e)
  chain_done e first x ls rest s s1 t is ef er e1 e2 =
      e2 ∙ ap (λ r. r ++ links_conditions rest) e1
      ∙ append_assoc s (expr_conditions qs (plain_expr x)) (links_conditions rest)
      ∙ ap (λ r. s ++ r) (sym (chain_conditions (plain_expr x) rest))
      ∙ ap (λ (r : List Link). s ++ expr_conditions qs (chained (plain_expr x) (map plain_link r))) er
      ∙ ap (λ (y : ex.Expr). s ++ expr_conditions qs (chained (plain_expr y) (map plain_link ls))) ef
      ∙ ap (λ (y : Expr). s ++ expr_conditions qs y) (sym (chain_is e first ls is))
