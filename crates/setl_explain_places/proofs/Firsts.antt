-- The first token on a line, and the first from a line on that is spelled so.
use Rattle.std.proofs.Common.{◌≡◌, ◌≢◌, ◌∙◌, ◌+◌, ℕ, nat_le, Bool, true, false, ◌&&◌, if◌then◌else◌, List, drop, slice_get, Option, Some, IfSome, sym, ap, subst, arith}
use Rattle.std.specs.Str.{str_eq_ignore_ascii_case}
use Rattle.std.proofs.lemmas.Bool.Decides.{nat_tests}
use Rattle.setl_value_pages.specs.ListLaws.{front_there}
use Rattle.setl_token.specs.Text.{token_text}
use Rattle.setl_token.specs.declared.Token.{Token}
use Rattle.setl_explain_places.specs.Places.{first_from, spelled_in}

-- where the token stands on the line
pub first_here : (ts : List Token) (i : ℕ) (t : Token) (line end : ℕ) → slice_get ts i ≡ Some t → t.line ≡ line → first_from (drop i ts) line end ≡ t.from
first_here ts i t line end h e = rw (front_there i ts t h) (grind (arith, nat_tests, e))

-- where it doesn't
pub first_later : (ts : List Token) (i : ℕ) (t : Token) (line end : ℕ) → slice_get ts i ≡ Some t → t.line ≢ line → first_from (drop i ts) line end ≡ first_from (drop (i + 1) ts) line end
first_later ts i t line end h e = rw (front_there i ts t h) (grind (arith, nat_tests, e))

-- the text of the token with this index
text_of : (source text : List ℕ) (ts : List Token) (i : ℕ) (t : Token) → slice_get ts i ≡ Some t → IfSome (slice_get ts i) (λ u. text ≡ token_text source u) → text ≡ token_text source t
text_of source text ts i t h spelled = subst (λ (o : Option Token). IfSome o (λ u. text ≡ token_text source u)) h spelled

-- the first token that is spelled so, where this one may be it
abbrev step : List ℕ → List ℕ → List Token → ℕ → Token → ℕ → ℕ → Bool → ℕ
step source x ts i t line end test = if nat_le line t.line && test then t.from else spelled_in source x (drop (i + 1) ts) line end

spelled_step : (source x text : List ℕ) (ts : List Token) (i : ℕ) (t : Token) (line end : ℕ) → slice_get ts i ≡ Some t → IfSome (slice_get ts i) (λ u. text ≡ token_text source u) →
    spelled_in source x (drop i ts) line end ≡ (if nat_le line t.line && str_eq_ignore_ascii_case text x then t.from else spelled_in source x (drop (i + 1) ts) line end)
spelled_step source x text ts i t line end h spelled =
    rw (front_there i ts t h) (ap (λ z. step source x ts i t line end (str_eq_ignore_ascii_case z x)) (sym (text_of source text ts i t h spelled)))

-- where it is, and where it isn't
pub spelled_here : (source x text : List ℕ) (ts : List Token) (i : ℕ) (t : Token) (line end : ℕ) (test : Bool) → slice_get ts i ≡ Some t → IfSome (slice_get ts i) (λ u. text ≡ token_text source u) →
    test ≡ (nat_le line t.line && str_eq_ignore_ascii_case text x) → test ≡ true → spelled_in source x (drop i ts) line end ≡ t.from
spelled_here source x text ts i t line end test h spelled is holds =
    spelled_step source x text ts i t line end h spelled ∙ ap (λ (b : Bool). if b then t.from else spelled_in source x (drop (i + 1) ts) line end) (sym is ∙ holds)

pub spelled_later : (source x text : List ℕ) (ts : List Token) (i : ℕ) (t : Token) (line end : ℕ) (test : Bool) → slice_get ts i ≡ Some t → IfSome (slice_get ts i) (λ u. text ≡ token_text source u) →
    test ≡ (nat_le line t.line && str_eq_ignore_ascii_case text x) → test ≡ false → spelled_in source x (drop i ts) line end ≡ spelled_in source x (drop (i + 1) ts) line end
spelled_later source x text ts i t line end test h spelled is fails =
    spelled_step source x text ts i t line end h spelled ∙ ap (λ (b : Bool). if b then t.from else spelled_in source x (drop (i + 1) ts) line end) (sym is ∙ fails)
