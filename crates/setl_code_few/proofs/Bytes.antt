-- A source has at most as many tokens as bytes.
use Rattle.std.proofs.Common.{◌≤◌, ◌<◌, ℕ, ◌+◌, List, [], ◌∷◌, length, length-drop, length-take-le, take, drop, Contains, ap, subst, arith}
use Rattle.std.proofs.lemmas.List.Elements.{All-from_recursion}
use Rattle.std.specs.List.{AllByRecursion}
use Rattle.setl_token.specs.declared.Token.{Token}
use Rattle.setl_token.specs.declared.TokenKind.{TokenKind}
use Rattle.setl_token.specs.declared.TokenKind.TheVariants as kind
use Rattle.setl_token.specs.declared.pieces.PieceKind.{PieceKind}
use Rattle.setl_token.specs.declared.pieces.PieceKind.TheVariants as is
use Rattle.setl_token.specs.declared.pieces.Piece.{Piece}
use Rattle.setl_token.specs.Spellings.{spellings, listed, signs}
use Rattle.setl_token.specs.Form.{IsForm}
use Rattle.setl_token.specs.Lex.{CutsInto, token_of, tokens_of}
use Rattle.setl_code_few.specs.Claims.{TokensAreFew}

abbrev HasByte : List ℕ → Type 0
HasByte text = 0 < length text

signs_some : AllByRecursion HasByte signs
unfolding spellings listed signs
signs_some = (omega arith, (omega arith, (omega arith, (omega arith, (omega arith, (omega arith, (omega arith, (omega arith, (omega arith, (omega arith, (omega arith, (omega arith, (omega arith, (omega arith, (omega arith, (omega arith, (omega arith, (omega arith, (omega arith, (omega arith, (omega arith, (omega arith, (omega arith, (omega arith, tt))))))))))))))))))))))))

sign_some : (s : List ℕ) → Contains signs s → HasByte s
sign_some s c = subst HasByte c.2 (All-from_recursion HasByte signs signs_some c.0 s c.1)

token_some : (k : TokenKind) (text behind : List ℕ) → IsForm (is.Token k) text behind → HasByte text
token_some kind.Word text behind form = form.0.0
token_some kind.Name text behind form = form.0.0
token_some (kind.Number n) text behind form = form.0.0
token_some kind.Str text behind form = let same = ap length form.text_is in omega (arith, same)
token_some kind.Sign text behind form = sign_some text form

piece_few : (source : List ℕ) (at len : ℕ) (z : List ℕ) (k : PieceKind) (others : List Token) → len ≤ length z → IsForm k (take len z) (drop len z) → length others ≤ length (drop len z) → length (token_of source at len k others) ≤ length z
piece_few source at len z (is.Token k) others fits form later =
    let some : 0 < length (take len z) = token_some k (take len z) (drop len z) form in
    let front = length-take-le len z fits in
    let back = length-drop len z in
    omega (arith, fits, later, some, front, back)
piece_few source at len z is.Blank others fits form later = let back = length-drop len z in omega (arith, later, back)
piece_few source at len z is.Comment others fits form later = let back = length-drop len z in omega (arith, later, back)

tokens_few : (source : List ℕ) (at : ℕ) (z : List ℕ) (ps : List Piece) → CutsInto z ps [] → length (tokens_of source at ps) ≤ length z
tokens_few source at z [] h = omega arith
tokens_few source at z (p ∷ ps) h =
    piece_few source at p.len z p.kind (tokens_of source (at + p.len) ps) h.1.begins.0 h.1.begins.1 (tokens_few source (at + p.len) (drop p.len z) ps h.2)

pub tokens_are_few : TokensAreFew
tokens_are_few source tokens h = subst (λ (ts : List Token). length ts ≤ length source) h.among (tokens_few source 0 source h.pieces h.all)
