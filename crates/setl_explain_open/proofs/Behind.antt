-- Steps of the walk over tokens.
use Rattle.std.proofs.Common.{◌≡◌, ◌∙◌, ℕ, zero, suc, ◌+◌, ◌<◌, ◌≤◌, nat_lt, Bool, true, false, if◌then◌else◌, List, [], ◌∷◌, length, map, drop, slice_get, Some, ap, sym, subst, fold, refl, arith}
use Rattle.std.proofs.lemmas.Bool.Decides.{nat_tests}
use Rattle.std.proofs.lemmas.List.{drop-map}
use Rattle.std.specs.Option.{unwrap_or}
use Rattle.setl_value_pages.specs.ListLaws.{front_there}
use Rattle.setl_tree.specs.declared.kind.Kind.{Kind}
use Rattle.setl_token.specs.Text.{Lexed, token_text}
use Rattle.setl_token.specs.declared.Token.{Token}
use Rattle.setl_parse_reading.specs.code.Reading.{next_kind}
use Rattle.setl_parse_cursor.specs.Plain.{plain_tokens, plain_token, kind_of}
use Rattle.setl_explain_open.specs.Opens.{Reached, behind, behind_before}
use Rattle.setl_explain_open.specs.code.Steps.{IsStep}

-- the kind of a token of a list
kind_there : (l : Lexed) (i : ℕ) (t : Token) → slice_get l.tokens i ≡ Some t → next_kind (drop i (plain_tokens l)) ≡ kind_of t.kind (token_text l.source t)
unfolding plain_token
kind_there l i t h = ap next_kind (drop-map (plain_token l.source) i l.tokens ∙ ap (map (plain_token l.source)) (front_there i l.tokens t h))

one_item : {A : Type 0} (xs : List A) (i : ℕ) (x y : A) → slice_get xs i ≡ Some x → slice_get xs i ≡ Some y → x ≡ y
one_item xs i x y h k = ap (λ o. unwrap_or o x) (sym h ∙ k)

-- a token behind the place is passed over
pub skips : (l : Lexed) (at i : ℕ) (r : Reached) (x : Token) → slice_get l.tokens i ≡ Some x → at ≤ x.from → IsStep l at i r r
skips l at i r x h late t k = subst (λ (y : Token). r ≡ behind_before l.source at r y) (one_item l.tokens i x t h k) (passed (nat_lt x.from at) (grind (arith, nat_tests, late)))
  where
    passed : (b : Bool) → b ≡ false → r ≡ (if b then behind r (kind_of x.kind (token_text l.source x)) x.line else r)
    passed true e = absurd (cc)
    passed false e = refl

-- one before it is read
pub reads : (l : Lexed) (at i : ℕ) (r next : Reached) (x : Token) (kind : Kind) → slice_get l.tokens i ≡ Some x → x.from < at → kind ≡ next_kind (drop i (plain_tokens l)) → next ≡ behind r kind x.line → IsStep l at i r next
reads l at i r next x kind h early is step t k = subst (λ (y : Token). next ≡ behind_before l.source at r y) (one_item l.tokens i x t h k) (taken (nat_lt x.from at) (grind (arith, nat_tests, early)))
  where
    taken : (b : Bool) → b ≡ true → next ≡ (if b then behind r (kind_of x.kind (token_text l.source x)) x.line else r)
    taken true e = step ∙ ap (λ z. behind r z x.line) (is ∙ kind_there l i x h)
    taken false e = absurd (cc)

item_there : {A : Type 0} (xs : List A) (i : ℕ) → i < length xs → (x : A) × (slice_get xs i ≡ Some x)
item_there [] i h = absurd (omega (arith, h))
item_there (x ∷ xs) zero h = (x, refl)
item_there (x ∷ xs) (suc i) h = item_there xs i (omega (arith, h))

-- a step goes on with the walk
pub walks_on : (l : Lexed) (at i : ℕ) (r next last : Reached) → i < length l.tokens → IsStep l at i r next → fold (behind_before l.source at) r (drop i l.tokens) ≡ last → fold (behind_before l.source at) next (drop (i + 1) l.tokens) ≡ last
walks_on l at i r next last within step walk =
    let t = item_there l.tokens i within in
    ap (λ z. fold (behind_before l.source at) z (drop (i + 1) l.tokens)) (step t.0 t.1) ∙ ap (fold (behind_before l.source at) r) (sym (front_there i l.tokens t.0 t.1)) ∙ walk
