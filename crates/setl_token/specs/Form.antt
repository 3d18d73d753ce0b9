-- The forms of tokens, blanks and comments as a table, and the longest piece at a place.
use Rattle.std.specs.Prelude.{◌≡◌, ◌≢◌, ◌<◌, ◌≤◌, ℕ, pos, IsTrue, false, ◌==◌, if◌then◌else◌, List, [], ◌∷◌, ◌++◌, length, take, drop, slice_index, Contains}
use Rattle.std.specs.Char.{is_ascii_digit, is_ascii_alphabetic}
use Rattle.std.specs.List.{list_all, prefix_len}
use Rattle.setl_token.specs.declared.TokenKind.TheVariants as kind
use Rattle.setl_token.specs.declared.Cause.{Cause}
use Rattle.setl_token.specs.declared.Cause.TheVariants as cause
use Rattle.setl_token.specs.declared.pieces.PieceKind.{PieceKind}
use Rattle.setl_token.specs.declared.pieces.PieceKind.TheVariants as is
use Rattle.setl_token.specs.declared.pieces.Piece.{Piece}
use Rattle.setl_token.specs.Bytes.{is_blank, is_in_word, is_in_line, lower, value_of, limit}
use Rattle.setl_token.specs.Spellings.{listed, signs}

-- a letter, then letters, digits and `_`
abbrev pub IsWordText : List ℕ → Type 0
IsWordText text = (0 < length text) × IsTrue (is_ascii_alphabetic (slice_index text 0)) × IsTrue (list_all is_in_word text)

-- digits, which no digit follows, and whose value is within the limit
abbrev pub IsNumberText : List ℕ → List ℕ → Type 0
IsNumberText text behind =
    (0 < length text) × IsTrue (list_all is_ascii_digit text) × (is_ascii_digit (slice_index behind 0) ≡ false) × (value_of text ≤ limit)

-- bytes with each apostrophe doubled
abbrev pub doubled : List ℕ → List ℕ
doubled [] = []
doubled (b ∷ body) = if b == 39 then 39 ∷ 39 ∷ doubled body else b ∷ doubled body

-- an apostrophe, bytes other than a line feed with each apostrophe doubled, and an apostrophe which none follows
pub record IsStringText (text behind : List ℕ) : Type 0 where
  pub body : List ℕ
  pub text_is : text ≡ 39 ∷ (doubled body ++ 39 ∷ [])
  pub in_line : IsTrue (list_all is_in_line body)
  pub closed : slice_index behind 0 ≢ 39

-- a text of the form of this kind, by what stands behind it
abbrev pub IsForm : PieceKind → List ℕ → List ℕ → Type 0
IsForm is.Blank text behind = (length text ≡ 1) × IsTrue (is_blank (slice_index text 0))
IsForm is.Comment text behind = (slice_index text 0 ≡ 36) × IsTrue (list_all is_in_line text)
IsForm (is.Token kind.Word) text behind = IsWordText text × Contains listed (lower text)
IsForm (is.Token kind.Name) text behind = IsWordText text × (Contains listed (lower text) → ⊥)
IsForm (is.Token (kind.Number n)) text behind = IsNumberText text behind × (n ≡ pos (value_of text))
IsForm (is.Token kind.Str) text behind = IsStringText text behind
IsForm (is.Token kind.Sign) text behind = Contains signs text

-- the first bytes, of which there are so many, are of the form of this kind
abbrev pub BeginsWith : List ℕ → PieceKind → ℕ → Type 0
BeginsWith z k n = (n ≤ length z) × IsForm k (take n z) (drop n z)

-- the piece begins at the front, and none that is longer does
pub record IsLongest (z : List ℕ) (p : Piece) : Type 0 where
  pub begins : BeginsWith z p.kind p.len
  pub longest : (k : PieceKind) (n : ℕ) → p.len < n → BeginsWith z k n → ⊥

-- no token, blank or comment begins at the front
abbrev pub BeginsNone : List ℕ → Type 0
BeginsNone z = (k : PieceKind) (n : ℕ) → BeginsWith z k n → ⊥

-- this is why no token, blank or comment begins at the front
abbrev pub IsCause : Cause → List ℕ → Type 0
IsCause cause.Byte z = (is_ascii_digit (slice_index z 0) ≡ false) × (slice_index z 0 ≢ 39) × BeginsNone z
IsCause cause.OpenString z = (slice_index z 0 ≡ 39) × BeginsNone z
IsCause cause.WideNumber z = IsTrue (is_ascii_digit (slice_index z 0)) × (limit < value_of (take (prefix_len is_ascii_digit z) z)) × BeginsNone z
