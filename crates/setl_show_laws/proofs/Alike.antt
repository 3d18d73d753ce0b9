-- Trees that are the same up to lines have the same canonical text.
use Rattle.std.proofs.Common.{◌≡◌, ℕ, pos, List, [], ◌∷◌, ◌++◌, map, Some, None, refl, sym, ap, subst, ◌∙◌, append_assoc}
use Rattle.setl_tree.specs.declared.kind.Kind.{Kind}
use Rattle.setl_tree.specs.declared.kind.Kind.TheVariants as k
use Rattle.setl_tree.specs.declared.stmt.Branch.{Branch, Branch-F, roll-Branch, map-Branch, fold-roll-Branch}
use Rattle.setl_tree.specs.declared.stmt.Stmt.{Stmt, Stmt-F, roll-Stmt, map-Stmt, fold-roll-Stmt, ind-Stmt}
use Rattle.setl_tree.specs.declared.stmt.StmtKind.{StmtKind, roll-StmtKind, map-StmtKind, fold-roll-StmtKind}
use Rattle.setl_tree.specs.declared.stmt.StmtKind.TheOpen.{StmtKind-F}
use Rattle.setl_tree.specs.Tokens.{Tokens}
use Rattle.setl_tree.specs.Canonical.{sign_at, name_at, all_of, behind_commas, with_commas, elseif_tokens, kind_step, branch_step, stmt_step, stmt_tokens}
use Rattle.setl_show.specs.Parts.{kind_tokens, branch_tokens}
use Rattle.setl_show.specs.Text.{bytes_of, behind, text_of}
use Rattle.setl_show_laws.specs.Lines.{stmt_layer, bare_stmt, bare_kind, bare_branch}

-- the tokens have the same text
pub record Alike (a b : Tokens) : Type 0 where
  pub text : text_of a ≡ text_of b

pub same : {a : Tokens} → Alike a a
same = record { text = refl }

text_both : (a b : Tokens) → text_of (a ++ b) ≡ text_of a ++ text_of b
text_both [] b = refl
text_both (t ∷ a) b =
    let front : List ℕ = bytes_of t.kind t.text t.value in
    ap (λ (z : List ℕ). front ++ behind t.kind ∷ z) (text_both a b) ∙ sym (append_assoc front (behind t.kind ∷ text_of a) (text_of b))

pub joined : {a b c d : Tokens} → Alike a c → Alike b d → Alike (a ++ b) (c ++ d)
joined {a = a} {b = b} {c = c} {d = d} h j = record { text = text_both a b ∙ (λ i. h.text i ++ j.text i) ∙ sym (text_both c d) }

pub word : {a b : Tokens} (kind : Kind) (l m : ℕ) → Alike a b → Alike (sign_at l kind ∷ a) (sign_at m kind ∷ b)
word kind l m h = record { text = ap (λ (z : List ℕ). bytes_of kind [] (pos 0) ++ behind kind ∷ z) h.text }

pub named : {a b : Tokens} (x : List ℕ) (l m : ℕ) → Alike a b → Alike (name_at l x ∷ a) (name_at m x ∷ b)
named x l m h = record { text = ap (λ (z : List ℕ). bytes_of k.Name x (pos 0) ++ behind k.Name ∷ z) h.text }

-- ---- lists whose parts are changed

module _ (A : Type 0) (f : A → Tokens) (change : A → A) (one : (x : A) → Alike (f x) (f (change x))) where
  pub all_alike : (xs : List A) → Alike (all_of (map f xs)) (all_of (map f (map change xs)))
  all_alike [] = same
  all_alike (x ∷ xs) = joined (one x) (all_alike xs)

  behind_alike : (xs : List A) → Alike (behind_commas (map f xs)) (behind_commas (map f (map change xs)))
  behind_alike [] = same
  behind_alike (x ∷ xs) = word k.Comma 0 0 (joined (one x) (behind_alike xs))

  pub commas_alike : (xs : List A) → Alike (with_commas (map f xs)) (with_commas (map f (map change xs)))
  commas_alike [] = same
  commas_alike (x ∷ xs) = joined (one x) (behind_alike xs)

-- ---- statements

abbrev KindAlike : StmtKind → Type 0
KindAlike x = (l m : ℕ) → Alike (kind_tokens x l) (kind_tokens (bare_kind x) m)

abbrev BranchAlike : Branch → Type 0
BranchAlike x = Alike (branch_tokens x) (branch_tokens (bare_branch x))

abbrev pub StmtAlike : Stmt → Type 0
StmtAlike x = Alike (stmt_tokens x) (stmt_tokens (bare_stmt x))

-- one layer with its tokens, and the same layer with all lines 0
abbrev kind_shown : StmtKind-F StmtKind Branch Stmt → ℕ → Tokens
kind_shown x = kind_step (map-StmtKind StmtKind Branch Stmt (ℕ → Tokens) Tokens Tokens kind_tokens branch_tokens stmt_tokens x)

abbrev kind_bared : StmtKind-F StmtKind Branch Stmt → StmtKind-F StmtKind Branch Stmt
kind_bared x = map-StmtKind StmtKind Branch Stmt StmtKind Branch Stmt bare_kind bare_branch bare_stmt x

kind_is : (x : StmtKind-F StmtKind Branch Stmt) → kind_tokens (roll-StmtKind x) ≡ kind_shown x
kind_is x = fold-roll-StmtKind (ℕ → Tokens) Tokens Tokens kind_step branch_step stmt_step x

bare_kind_is : (x : StmtKind-F StmtKind Branch Stmt) → kind_tokens (bare_kind (roll-StmtKind x)) ≡ kind_shown (kind_bared x)
bare_kind_is x = ap kind_tokens (fold-roll-StmtKind StmtKind Branch Stmt roll-StmtKind roll-Branch stmt_layer x) ∙ kind_is (kind_bared x)

kind_from : (x : StmtKind-F StmtKind Branch Stmt) → ((l m : ℕ) → Alike (kind_shown x l) (kind_shown (kind_bared x) m)) → KindAlike (roll-StmtKind x)
kind_from x h l m = record { text = (λ i. text_of (kind_is x i l)) ∙ (h l m).text ∙ sym (λ i. text_of (bare_kind_is x i m)) }

branch_is : (x : Branch-F StmtKind Branch Stmt) → branch_tokens (roll-Branch x) ≡ branch_step (map-Branch StmtKind Branch Stmt (ℕ → Tokens) Tokens Tokens kind_tokens branch_tokens stmt_tokens x)
branch_is x = fold-roll-Branch (ℕ → Tokens) Tokens Tokens kind_step branch_step stmt_step x

stmt_is : (x : Stmt-F StmtKind Branch Stmt) → stmt_tokens (roll-Stmt x) ≡ kind_tokens x.kind x.line
stmt_is x = fold-roll-Stmt (ℕ → Tokens) Tokens Tokens kind_step branch_step stmt_step x

-- a layer whose parts are alike
module _ (K B S : Type 0) (kind : K → StmtKind) (branch : B → Branch) (stmt : S → Stmt) (hk : (x : K) → KindAlike (kind x)) (hb : (x : B) → BranchAlike (branch x)) (hs : (x : S) → StmtAlike (stmt x)) where
  body_alike : (xs : List S) → Alike (all_of (map stmt_tokens (map stmt xs))) (all_of (map stmt_tokens (map bare_stmt (map stmt xs))))
  body_alike [] = same
  body_alike (x ∷ xs) = joined (hs x) (body_alike xs)

  elseifs_alike : (xs : List B) → Alike (elseif_tokens (map branch_tokens (map branch xs))) (elseif_tokens (map branch_tokens (map bare_branch (map branch xs))))
  elseifs_alike [] = same
  elseifs_alike (x ∷ xs) = word k.Elseif 0 0 (joined (hb x) (elseifs_alike xs))

  abbrev of_kind : StmtKind-F K B S → StmtKind-F StmtKind Branch Stmt
  of_kind y = map-StmtKind K B S StmtKind Branch Stmt kind branch stmt y

  kind_cases : (y : StmtKind-F K B S) (l m : ℕ) → Alike (kind_shown (of_kind y) l) (kind_shown (kind_bared (of_kind y)) m)
  kind_cases (StmtKind-F.If first others None) l m = word k.If l m (joined (hb first) (joined (elseifs_alike others) same))
  kind_cases (StmtKind-F.If first others (Some body)) l m = word k.If l m (joined (hb first) (joined (elseifs_alike others) (word k.Else 0 0 (joined (body_alike body) same))))
  kind_cases (StmtKind-F.For over c body) l m = word k.LeftParen l m (word k.For 0 0 (joined same (joined same (word k.RightParen 0 0 (joined (body_alike body) same)))))
  kind_cases (StmtKind-F.While c body) l m = word k.LeftParen l m (word k.While 0 0 (joined same (word k.RightParen 0 0 (joined (body_alike body) same))))
  kind_cases _ l m = record { text = refl }

  kind_layer : (y : StmtKind-F K B S) → KindAlike (roll-StmtKind (of_kind y))
  kind_layer y = kind_from (of_kind y) (kind_cases y)

  branch_layer : (y : Branch-F K B S) → BranchAlike (roll-Branch (map-Branch K B S StmtKind Branch Stmt kind branch stmt y))
  branch_layer y =
      let x = map-Branch K B S StmtKind Branch Stmt kind branch stmt y in
      let bare = map-Branch StmtKind Branch Stmt StmtKind Branch Stmt bare_kind bare_branch bare_stmt x in
      let here : Alike (branch_step (map-Branch StmtKind Branch Stmt (ℕ → Tokens) Tokens Tokens kind_tokens branch_tokens stmt_tokens x)) (branch_step (map-Branch StmtKind Branch Stmt (ℕ → Tokens) Tokens Tokens kind_tokens branch_tokens stmt_tokens bare)) =
      joined same (word k.Then 0 0 (body_alike y.body)) in
      record { text = ap text_of (branch_is x) ∙ here.text ∙ sym (ap text_of (ap branch_tokens (fold-roll-Branch StmtKind Branch Stmt roll-StmtKind roll-Branch stmt_layer x) ∙ branch_is bare)) }

  stmt_alike_layer : (y : Stmt-F K B S) → StmtAlike (roll-Stmt (map-Stmt K B S StmtKind Branch Stmt kind branch stmt y))
  stmt_alike_layer y =
      let x = map-Stmt K B S StmtKind Branch Stmt kind branch stmt y in
      record { text = ap text_of (stmt_is x) ∙ (hk y.kind y.line 0).text ∙ sym (ap text_of (ap stmt_tokens (fold-roll-Stmt StmtKind Branch Stmt roll-StmtKind roll-Branch stmt_layer x) ∙ stmt_is (record { line = 0; kind = bare_kind (kind y.kind) }))) }

pub stmt_alike : (s : Stmt) → StmtAlike s
stmt_alike = ind-Stmt KindAlike BranchAlike StmtAlike
    (λ x y e. subst (λ z. KindAlike (roll-StmtKind z)) e (kind_layer _ _ _ (λ p. p.0) (λ p. p.0) (λ p. p.0) (λ p. p.1) (λ p. p.1) (λ p. p.1) y))
    (λ x y e. subst (λ z. BranchAlike (roll-Branch z)) e (branch_layer _ _ _ (λ p. p.0) (λ p. p.0) (λ p. p.0) (λ p. p.1) (λ p. p.1) (λ p. p.1) y))
    (λ x y e. subst (λ z. StmtAlike (roll-Stmt z)) e (stmt_alike_layer _ _ _ (λ p. p.0) (λ p. p.0) (λ p. p.0) (λ p. p.1) (λ p. p.1) (λ p. p.1) y))
