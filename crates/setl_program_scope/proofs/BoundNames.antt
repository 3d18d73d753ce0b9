-- Names that iterators bind, put one after another.
use Rattle.std.proofs.Common.{◌≡◌, ◌<◌, ◌+◌, ◌∙◌, ℕ, suc, List, [], ◌∷◌, ◌++◌, map, drop, length, get_or, refl, sym, ap, add-one, drop-cons}
use Rattle.setl_tree.specs.declared.expr.Iter.{Iter}
use Rattle.setl_names.specs.Names.{Name, with_name, with_names}
use Rattle.setl_program.specs.Expressions.{turn_of, names_of_turns}

both : (xs ys zs : List Name) → with_names (with_names xs ys) zs ≡ with_names xs (ys ++ zs)
both xs [] zs = refl
both xs (y ∷ ys) zs = both (with_name xs y) ys zs

abbrev with_turns : List Name → List Iter → List Name
with_turns names turns = with_names names (names_of_turns (map turn_of turns))

-- the names of one iterator more
pub one_turn : (turns : List Iter) (i : ℕ) (t : Iter) (names more whole : List Name) → i < length turns → t ≡ get_or turns i t → with_turns names (drop i turns) ≡ whole → more ≡ with_names names (turn_of t).names →
    with_turns more (drop (i + 1) turns) ≡ whole
one_turn turns i t names more whole h is inv put =
    ap (λ (ns : List Name). with_turns ns (drop (i + 1) turns)) put
    ∙ ap (λ n. with_turns (with_names names (turn_of t).names) (drop n turns)) (add-one i)
    ∙ both names (turn_of t).names (names_of_turns (map turn_of (drop (suc i) turns)))
    ∙ ap (with_turns names) (ap (λ (u : Iter). u ∷ drop (suc i) turns) is ∙ sym (drop-cons turns i t h))
    ∙ inv
