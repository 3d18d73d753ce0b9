-- The line of a base, part by part.
use Rattle.std.proofs.Common.{◌≡◌, ◌∙◌, ℕ, List, [], ◌∷◌, ◌++◌, codes, decimal, length, refl, ap, sym}
use Rattle.std.proofs.lemmas.List.{append_assoc}
use Rattle.setl_base.specs.Base.{BaseState}
use Rattle.setl_modes_dump.specs.Dump.{base_line}
use Rattle.setl_rep_layout.specs.Members.{values_of}
use Rattle.setl_rep_layout.specs.Texts.{after_blanks, inner_texts}
use Rattle.setl_rep_layout.proofs.Members.{count_of}
use Rattle.setl_rep_layout.proofs.Words.{spaced_after}

abbrev head_of : List ℕ → ℕ → List ℕ
head_of name n = codes "base " ++ name ++ codes " " ++ decimal n ++ codes ":"

by_head : (name : List ℕ) (b : BaseState) → base_line name (values_of b) ≡ (head_of name (length b.members) ++ after_blanks (inner_texts (values_of b))) ++ 10 ∷ []
by_head name b =
    ap (λ l. l ++ 10 ∷ []) (spaced_after (codes "base " ++ name ++ codes " " ++ decimal (length (values_of b)) ++ codes ":") (inner_texts (values_of b)))
    ∙ ap (λ n. (head_of name n ++ after_blanks (inner_texts (values_of b))) ++ 10 ∷ []) (count_of b)

pub base_line_by : (name : List ℕ) (b : BaseState) (n : ℕ) (t0 t1 t2 t3 t4 t5 t6 t7 : List ℕ) → n ≡ length b.members
    → t1 ≡ t0 ++ codes "base " → t2 ≡ t1 ++ name → t3 ≡ t2 ++ 32 ∷ [] → t4 ≡ t3 ++ decimal n → t5 ≡ t4 ++ 58 ∷ []
    → t6 ≡ t5 ++ after_blanks (inner_texts (values_of b)) → t7 ≡ t6 ++ 10 ∷ [] → t7 ≡ t0 ++ base_line name (values_of b)
base_line_by name b n t0 t1 t2 t3 t4 t5 t6 t7 e p1 p2 p3 p4 p5 p6 p7 =
    p7
    ∙ ap (λ l. l ++ 10 ∷ []) (p6 ∙ ap (λ l. l ++ after_blanks (inner_texts (values_of b))) (p5 ∙ ap (λ l. l ++ 58 ∷ []) (p4 ∙ ap (λ l. l ++ decimal n) (p3 ∙ ap (λ l. l ++ 32 ∷ []) (p2 ∙ ap (λ l. l ++ name) p1)))))
    ∙ joined
    ∙ ap (λ m. t0 ++ ((head_of name m ++ after_blanks (inner_texts (values_of b))) ++ 10 ∷ [])) e
    ∙ ap (λ l. t0 ++ l) (sym (by_head name b))
  where
    joined : (((((t0 ++ codes "base ") ++ name) ++ 32 ∷ []) ++ decimal n) ++ 58 ∷ []) ++ after_blanks (inner_texts (values_of b)) ++ 10 ∷ [] ≡ t0 ++ ((head_of name n ++ after_blanks (inner_texts (values_of b))) ++ 10 ∷ [])
    joined = simp append_assoc refl
