-- The bytes of each token of a source are of the form of its kind.
use Rattle.std.proofs.Common.{◌≡◌, ℕ, ◌+◌, ◌-◌, List, [], ◌∷◌, take, drop, refl, ap, subst, ◌∙◌, arith}
use Rattle.std.proofs.lemmas.List.{drop-drop}
use Rattle.setl_token.specs.declared.Token.{Token as Lexeme}
use Rattle.setl_token.specs.declared.TokenKind.{TokenKind}
use Rattle.setl_token.specs.declared.pieces.PieceKind.{PieceKind}
use Rattle.setl_token.specs.declared.pieces.PieceKind.TheVariants as is
use Rattle.setl_token.specs.declared.pieces.Piece.{Piece}
use Rattle.setl_token.specs.Form.{IsForm}
use Rattle.setl_token.specs.Lex.{Spelled, CutsInto, line_at, token_of, tokens_of}
use Rattle.setl_token.specs.Text.{IsFormed}

abbrev pub AllFormed : List ℕ → List Lexeme → Type 0
AllFormed source [] = Unit {0}
AllFormed source (l ∷ others) = IsFormed source l × AllFormed source others

one_token : (source z : List ℕ) (at len : ℕ) (s : TokenKind) → z ≡ drop at source → IsForm (is.Token s) (take len z) (drop len z) → IsFormed source (record { kind = s; from = at; to = at + len; line = line_at source at })
one_token source z at len s e form =
    let length_is : at + len - at ≡ len = omega arith in
    let text : take len z ≡ take (at + len - at) (drop at source) = rw (length_is, e) refl in
    let back : drop len z ≡ drop (at + len) source = rw e (drop-drop len at source) in
    record { form = subst (IsForm (is.Token s) (take (at + len - at) (drop at source))) back (subst (λ (y : List ℕ). IsForm (is.Token s) y (drop len z)) text form) }

one_piece : (source z : List ℕ) (at len : ℕ) (p : PieceKind) (others : List Lexeme) → z ≡ drop at source → IsForm p (take len z) (drop len z) → AllFormed source others → AllFormed source (token_of source at len p others)
one_piece source z at len is.Blank others e form later = later
one_piece source z at len is.Comment others e form later = later
one_piece source z at len (is.Token s) others e form later = (one_token source z at len s e form, later)

pieces_formed : (source z : List ℕ) (at : ℕ) (ps : List Piece) → z ≡ drop at source → CutsInto z ps [] → AllFormed source (tokens_of source at ps)
pieces_formed source z at [] e h = tt
pieces_formed source z at (p ∷ ps) e h = one_piece source z at p.len p.kind (tokens_of source (at + p.len) ps) e h.1.begins.1
    (pieces_formed source (drop p.len z) (at + p.len) ps (ap (drop p.len) e ∙ drop-drop p.len at source) h.2)

pub all_formed : (source : List ℕ) (tokens : List Lexeme) → Spelled source tokens → AllFormed source tokens
all_formed source tokens s = subst (AllFormed source) s.among (pieces_formed source source 0 s.pieces refl s.all)
