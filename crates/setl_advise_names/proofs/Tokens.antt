-- The names of tokens, one token at a time.
use Rattle.std.proofs.Common.{◌≡◌, ◌∙◌, ◌+◌, ℕ, List, [], ◌∷◌, ◌++◌, drop, slice_get, Option, Some, IfSome, refl, sym, ap, subst}
use Rattle.setl_value_pages.specs.ListLaws.{front_there}
use Rattle.setl_token.specs.Bytes.{lower}
use Rattle.setl_token.specs.Text.{token_text}
use Rattle.setl_token.specs.declared.Token.{Token}
use Rattle.setl_names.specs.Names.{Name, with_name, with_names}
use Rattle.setl_advise_names.specs.Free.{if_name, name_in, spelled_names}

-- names that are put one list after the other
in_two : (xs ys zs : List Name) → with_names xs (ys ++ zs) ≡ with_names (with_names xs ys) zs
in_two xs [] zs = refl
in_two xs (y ∷ ys) zs = in_two (with_name xs y) ys zs

-- those of a token were put
pub one_more : (source : List ℕ) (ts : List Token) (i : ℕ) (t : Token) (text : List ℕ) (names new all : List Name) → slice_get ts i ≡ Some t → IfSome (slice_get ts i) (λ u. text ≡ token_text source u) →
    new ≡ with_names names (if_name t.kind (lower text)) → with_names names (spelled_names source (drop i ts)) ≡ all → with_names new (spelled_names source (drop (i + 1) ts)) ≡ all
one_more source ts i t text names new all there told put whole =
    let rest = spelled_names source (drop (i + 1) ts) in
    let text_is : text ≡ token_text source t = subst (λ (o : Option Token). IfSome o (λ u. text ≡ token_text source u)) there told in
    ap (λ ns. with_names ns rest) put
    ∙ ap (λ x. with_names (with_names names (if_name t.kind (lower x))) rest) text_is
    ∙ sym (in_two names (name_in source t) rest)
    ∙ ap (λ us. with_names names (spelled_names source us)) (sym (front_there i ts t there))
    ∙ whole
