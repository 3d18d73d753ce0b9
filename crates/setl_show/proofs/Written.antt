-- Bytes to which tokens are added one by one.
use Rattle.std.proofs.Common.{◌≡◌, ℕ, List, [], ◌∷◌, ◌++◌, sym, ◌∙◌, append_assoc}
use Rattle.std.proofs.lemmas.List.{append-nil}
use Rattle.setl_tree.specs.Tokens.{Tokens}
use Rattle.setl_show.specs.Text.{text_of, with_tokens, put, bytes_of, behind}

pub written : (bytes : List ℕ) (toks : Tokens) → with_tokens bytes toks ≡ bytes ++ text_of toks
unfolding put
written bytes [] = sym (append-nil bytes)
written bytes (t ∷ toks) = written (bytes ++ (bytes_of t.kind t.text t.value ++ behind t.kind ∷ [])) toks ∙ simp append_assoc
