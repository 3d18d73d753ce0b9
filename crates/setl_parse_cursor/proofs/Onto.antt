-- Parts that are put behind others.
use Rattle.std.proofs.Common.{◌≡◌, ℕ, zero, suc, Bool, true, false, if◌then◌else◌, List, [], ◌∷◌, ◌++◌, Ok, Err, refl, sym, ap, ◌∙◌}
use Rattle.std.proofs.lemmas.List.{append_assoc, append-nil}
use Rattle.setl_tree.specs.declared.kind.Kind.{Kind}
use Rattle.setl_tree.specs.Tokens.{Tokens}
use Rattle.setl_parse_reading.specs.code.Reading.{Outcome, Reader, ◌>>=◌, and_then, pure, next_kind, many_from}

module _ {A : Type 0} (begins : Kind → Bool) (item : Reader A) (items : List A) where
  -- what was found is put behind the items
  abbrev put : List A → Reader (List A)
  put xs = pure (items ++ xs)

  abbrev Holds : ℕ → Type 0
  Holds n = (found : List A) (i : Tokens) → many_from begins item n (items ++ found) i ≡ and_then (many_from begins item n found i) put

  read : (n : ℕ) → Holds n → (found : List A) (o : Outcome A) → and_then o (λ x. many_from begins item n (items ++ found ++ x ∷ [])) ≡ and_then (and_then o (λ x. many_from begins item n (found ++ x ∷ []))) put
  read n ih found (Ok p) = ap (λ xs. many_from begins item n xs p.1) (append_assoc items found (p.0 ∷ [])) ∙ ih (found ++ p.0 ∷ []) p.1
  read n ih found (Err e) = refl

  turn : (n : ℕ) → Holds n → (found : List A) (i : Tokens) (b : Bool)
      → (if b then (item >>= (λ x. many_from begins item n (items ++ found ++ x ∷ []))) else pure (items ++ found)) i
      ≡ and_then ((if b then (item >>= (λ x. many_from begins item n (found ++ x ∷ []))) else pure found) i) put
  turn n ih found i true = read n ih found (item i)
  turn n ih found i false = refl

  put_behind : (n : ℕ) → Holds n
  unfolding many_from
  put_behind zero found i = refl
  put_behind (suc n) found i = turn n (put_behind n) found i (begins (next_kind i))

  pub starts : (n : ℕ) (i : Tokens) → and_then (many_from begins item n [] i) put ≡ many_from begins item n items i
  starts n i = sym (put_behind n [] i) ∙ ap (λ xs. many_from begins item n xs i) (append-nil items)
