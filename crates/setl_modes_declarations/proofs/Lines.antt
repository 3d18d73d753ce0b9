-- What one more `repr` line declares.
use Rattle.std.proofs.Common.{◌≡◌, ℕ, suc, ◌+◌, ◌<◌, drop, length, get_or, add-one, drop-cons, List, ◌∷◌, ◌++◌, ap, sym, ◌∙◌, append_assoc}
use Rattle.setl_tree.specs.declared.mode.ReprLine.{ReprLine}
use Rattle.setl_modes.specs.Modes.{Mode}
use Rattle.setl_modes.specs.Declarations.{Name, Bases, with_line, bases_from, line_variables, variables_from}

pub split : (lines : List ReprLine) (i : ℕ) (l : ReprLine) → i < length lines → l ≡ get_or lines i l → drop i lines ≡ l ∷ drop (i + 1) lines
split lines i l h is = drop-cons lines i l h ∙ ap (λ (z : ReprLine). z ∷ drop (suc i) lines) (sym is) ∙ ap (λ n. l ∷ drop n lines) (sym (add-one i))

-- the bases with those of one more line
pub line_bases_put : (lines : List ReprLine) (i : ℕ) (l : ReprLine) (before after whole : Bases) → i < length lines → l ≡ get_or lines i l → after ≡ with_line l before →
    bases_from before (drop i lines) ≡ whole → bases_from after (drop (i + 1) lines) ≡ whole
line_bases_put lines i l before after whole h is e inv =
    ap (λ (bs : Bases). bases_from bs (drop (i + 1) lines)) e
    ∙ ap (bases_from before) (sym (split lines i l h is))
    ∙ inv

-- the variables with those of one more line
pub line_variables_put : (lines : List ReprLine) (i : ℕ) (l : ReprLine) (before after : Bases) (vars new whole : List (Name × Mode)) → i < length lines → l ≡ get_or lines i l → after ≡ with_line l before → new ≡ vars ++ line_variables l before →
    vars ++ variables_from before (drop i lines) ≡ whole → new ++ variables_from after (drop (i + 1) lines) ≡ whole
line_variables_put lines i l before after vars new whole h is e en inv =
    let rest : List ReprLine = drop (i + 1) lines in
    ap (λ (vs : List (Name × Mode)). vs ++ variables_from after rest) en
    ∙ ap (λ (bs : Bases). (vars ++ line_variables l before) ++ variables_from bs rest) e
    ∙ append_assoc vars (line_variables l before) (variables_from (with_line l before) rest)
    ∙ ap (λ (ls : List ReprLine). vars ++ variables_from before ls) (sym (split lines i l h is))
    ∙ inv
