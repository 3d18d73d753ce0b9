-- The input of a trial, line by line.
use Rattle.std.proofs.Common.{◌≡◌, ◌∙◌, ℕ, suc, List, [], ◌∷◌, ◌++◌, ap, ap₂, subst, append_assoc}
use Rattle.setl_top.specs.Trials.{text_of, next_draw, drawn, edge_line, edge_lines}

-- one line more was added
pub edges_on : (nodes n m x next : ℕ) (old new total : List ℕ) → n ≡ suc m → next ≡ next_draw (next_draw x) → new ≡ old ++ (edge_line (drawn nodes (next_draw x)) (drawn nodes (next_draw (next_draw x))) ++ 10 ∷ []) → old ++ text_of (edge_lines nodes n x) ≡ total → new ++ text_of (edge_lines nodes m next) ≡ total
edges_on nodes n m x next old new total is to more h =
    let line : List ℕ = edge_line (drawn nodes (next_draw x)) (drawn nodes (next_draw (next_draw x))) in
    let rest : List ℕ = text_of (edge_lines nodes m (next_draw (next_draw x))) in
    let all : old ++ (line ++ 10 ∷ rest) ≡ total = subst (λ (k : ℕ). old ++ text_of (edge_lines nodes k x) ≡ total) is h in
    ap₂ (λ (xs : List ℕ) (y : ℕ). xs ++ text_of (edge_lines nodes m y)) more to
    ∙ append_assoc old (line ++ 10 ∷ []) rest
    ∙ ap (λ (xs : List ℕ). old ++ xs) (append_assoc line (10 ∷ []) rest)
    ∙ all
