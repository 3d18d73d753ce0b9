-- The piece that begins at the front of bytes, computed. A piece is a token, a blank or a comment.
use Rattle.std.specs.Prelude.{ℕ, ◌+◌, pos, Bool, ◌||◌, ◌&&◌, if◌then◌else◌, ◌==◌, nat_le, List, [], ◌∷◌, take, drop, slice_index, Option, Some, None, Result, Ok, Err}
use Rattle.std.specs.Char.{is_ascii_digit, is_ascii_alphabetic}
use Rattle.std.specs.List.{prefix_len}
use Rattle.setl_token.specs.declared.TokenKind.{TokenKind}
use Rattle.setl_token.specs.declared.TokenKind.TheVariants as kind
use Rattle.setl_token.specs.declared.Cause.{Cause}
use Rattle.setl_token.specs.declared.Cause.TheVariants as cause
use Rattle.setl_token.specs.declared.pieces.Class.{Class}
use Rattle.setl_token.specs.declared.pieces.Class.TheVariants as class
use Rattle.setl_token.specs.declared.pieces.PieceKind.{PieceKind}
use Rattle.setl_token.specs.declared.pieces.PieceKind.TheVariants as is
use Rattle.setl_token.specs.declared.pieces.Piece.{Piece}
use Rattle.setl_token.specs.Bytes.{is_blank, is_in_line, is_in_word, lower, value_of, limit}
use Rattle.setl_token.specs.Spellings.{is_reserved}

abbrev pub is_in : Class → ℕ → Bool
is_in class.Digit b = is_ascii_digit b
is_in class.Word b = is_in_word b
is_in class.Line b = is_in_line b

abbrev pub piece : PieceKind → ℕ → Piece
piece k n = record { kind = k; len = n }

-- a word if the text is reserved, whatever its letters' case, else a name
abbrev pub word_kind : List ℕ → TokenKind
word_kind text = if is_reserved (lower text) then kind.Word else kind.Name

abbrev pub within_limit : ℕ → Option ℕ
within_limit n = if nat_le n limit then Some n else None

abbrev pub number_piece : ℕ → Option ℕ → Result Piece Cause
number_piece len (Some n) = Ok (piece (is.Token (kind.Number (pos n))) len)
number_piece len None = Err cause.WideNumber

-- Where a string ends of which `at` bytes were passed and these are left: behind the first apostrophe that no
-- apostrophe follows, and nowhere if a line feed or the end comes first. Two apostrophes stand for one.
abbrev pub string_end : ℕ → List ℕ → Option ℕ
string_end at [] = None
string_end at (b ∷ []) = if b == 39 then Some (at + 1) else None
string_end at (b ∷ c ∷ z) =
    if b == 39 then (if c == 39 then string_end (at + 2) z else Some (at + 1))
    else (if b == 10 then None else string_end (at + 1) (c ∷ z))

abbrev pub string_piece : Option ℕ → Result Piece Cause
string_piece (Some n) = Ok (piece (is.Token kind.Str) n)
string_piece None = Err cause.OpenString

-- the signs of two bytes: `:=` `/=` `<=` `>=` `..` `**`
abbrev pub is_sign_pair : ℕ → ℕ → Bool
is_sign_pair b next =
    (next == 61 && (b == 58 || b == 47 || b == 60 || b == 62)) || (b == next && (b == 46 || b == 42))

-- the signs of one byte: `;` `:` `,` `(` `)` `{` `}` `[` `]` `|` `=` `<` `>` `+` `-` `*` `/` `#`
abbrev pub is_single_sign : ℕ → Bool
is_single_sign b =
    b == 59 || b == 58 || b == 44 || b == 40 || b == 41 || b == 123 || b == 125 || b == 91 || b == 93
    || b == 124 || b == 61 || b == 60 || b == 62 || b == 43 || b == 45 || b == 42 || b == 47 || b == 35

-- how many bytes the sign has that begins with these two, or 0
abbrev pub sign_len : ℕ → ℕ → ℕ
sign_len b next = if is_sign_pair b next then 2 else (if is_single_sign b then 1 else 0)

abbrev pub sign_piece : ℕ → Result Piece Cause
sign_piece n = if n == 0 then Err cause.Byte else Ok (piece (is.Token kind.Sign) n)

-- the piece that begins at the front of bytes, of which there is at least one, or why none does
unfoldable pub piece_at : List ℕ → Result Piece Cause
piece_at z =
    let b = slice_index z 0 in
    let in_line = prefix_len is_in_line z in
    let in_word = prefix_len is_in_word z in
    let digits = prefix_len is_ascii_digit z in
    if is_blank b then Ok (piece is.Blank 1)
    else (if b == 36 then Ok (piece is.Comment in_line)
    else (if is_ascii_alphabetic b then Ok (piece (is.Token (word_kind (take in_word z))) in_word)
    else (if is_ascii_digit b then number_piece digits (within_limit (value_of (take digits z)))
    else (if b == 39 then string_piece (string_end 1 (drop 1 z))
    else sign_piece (sign_len b (slice_index z 1))))))
