-- The text of tokens is cut into them.
use Rattle.std.proofs.Common.{◌≡◌, ℕ, ◌+◌, ◌-◌, ◌<◌, true, List, [], ◌∷◌, ◌++◌, length, take, drop, Ok, refl, sym, ap, subst, ◌∙◌, arith, length-append, append_assoc, IsTrue, ◌↔◌}
use Rattle.std.proofs.Math.Seq.{drop-append_seam, take-append_seam}
use Rattle.setl_tree.specs.Tokens.{Token, Tokens}
use Rattle.setl_token.specs.declared.TokenKind.{TokenKind}
use Rattle.setl_token.specs.declared.pieces.PieceKind.TheVariants as is
use Rattle.setl_token.specs.declared.pieces.Piece.{Piece}
use Rattle.setl_token.specs.Bytes.{is_blank}
use Rattle.setl_token.specs.Form.{IsForm, IsLongest}
use Rattle.setl_token.specs.Lex.{CutsInto, tokens_of}
use Rattle.setl_token.specs.code.Pieces.{piece_at, piece}
use Rattle.setl_show.specs.Text.{bytes_of, behind, text_of}
use Rattle.setl_show_laws.specs.Reading.{Reads, AreRead, AllLegal, AreLegal, IsSpelledAs}
use Rattle.setl_show_laws.proofs.Forms.{sort_of, behind_blank, form, reads}

-- a token that a blank follows is the longest at its place
abbrev pub BlankEnds : Type 0
BlankEnds = (k : TokenKind) (text : List ℕ) (blank : ℕ) (rest : List ℕ) → IsForm (is.Token k) text (blank ∷ rest) → IsTrue (is_blank blank) → IsLongest (text ++ blank ∷ rest) (piece (is.Token k) (length text))

-- the longest piece is the one that is computed
abbrev pub PieceAt : Type 0
PieceAt = (z : List ℕ) (p : Piece) → 0 < length z → (piece_at z ≡ Ok p) ↔ IsLongest z p

abbrev bytes : Token → List ℕ
bytes t = bytes_of t.kind t.text t.value

-- each token, and the blank behind it
abbrev pub pieces_of : Tokens → List Piece
pieces_of [] = []
pieces_of (t ∷ toks) = piece (is.Token (sort_of t.kind t.value)) (length (bytes t)) ∷ piece is.Blank 1 ∷ pieces_of toks

a_blank : (b : ℕ) (back : List ℕ) → is_blank b ≡ true → piece_at (b ∷ back) ≡ Ok (piece is.Blank 1)
unfolding piece_at
a_blank b back e = rw e refl

pub cuts : BlankEnds → PieceAt → (toks : Tokens) → AllLegal toks → CutsInto (text_of toks) (pieces_of toks) []
cuts ends at [] h = refl
cuts ends at (t ∷ toks) h =
    let b : ℕ = behind t.kind in
    let rest : List ℕ = text_of toks in
    let blank : is_blank b ≡ true = behind_blank t.kind in
    let some : 0 < length (b ∷ rest) = omega arith in
    let later : CutsInto (b ∷ rest) (piece is.Blank 1 ∷ pieces_of toks) [] = (some, (at (b ∷ rest) (piece is.Blank 1) some).0 (a_blank b rest blank), cuts ends at toks h.1) in (
      omega (arith, length-append (bytes t) (b ∷ rest)),
      ends (sort_of t.kind t.value) (bytes t) b rest (form t.kind t.text t.value b rest h.0 blank) blank,
      subst (λ (z : List ℕ). CutsInto z (piece is.Blank 1 ∷ pieces_of toks) []) (sym (drop-append_seam (bytes t) (b ∷ rest))) later,
    )

-- the bytes between two places
text_at : (front text back : List ℕ) (at : ℕ) → at ≡ length front → take (at + length text - at) (drop at (front ++ (text ++ back))) ≡ text
text_at front text back at e =
    let len : at + length text - at ≡ length text = omega arith in
    rw (len, e, drop-append_seam front (text ++ back)) (take-append_seam text back)

are_read : (source front : List ℕ) (at : ℕ) (toks : Tokens) → AllLegal toks → at ≡ length front → source ≡ front ++ text_of toks → AreRead source (tokens_of source at (pieces_of toks)) toks
are_read source front at [] h a e = tt
are_read source front at (t ∷ toks) h a e =
    let b : ℕ = behind t.kind in
    let rest : List ℕ = text_of toks in
    let text : take (at + length (bytes t) - at) (drop at source) ≡ bytes t = ap (λ (s : List ℕ). take (at + length (bytes t) - at) (drop at s)) e ∙ text_at front (bytes t) (b ∷ rest) at a in
    let len : at + length (bytes t) + 1 ≡ length (front ++ (bytes t ++ b ∷ [])) = omega (arith, length-append front (bytes t ++ b ∷ []), length-append (bytes t) (b ∷ [])) in (
      subst (λ (z : List ℕ). Reads (sort_of t.kind t.value) z t.kind t.text t.value) (sym text) (reads t.kind t.text t.value h.0),
      are_read source (front ++ (bytes t ++ b ∷ [])) (at + length (bytes t) + 1) toks h.1 len (e ∙ simp append_assoc),
    )

pub text_spelled : BlankEnds → PieceAt → (toks : Tokens) → AreLegal toks → IsSpelledAs (text_of toks) toks
text_spelled ends at toks h = record {
  lexemes = tokens_of (text_of toks) 0 (pieces_of toks);
  spelled = record { pieces = pieces_of toks; all = cuts ends at toks h.all; among = refl };
  read = are_read (text_of toks) [] 0 toks h.all refl refl;
}
