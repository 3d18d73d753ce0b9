-- A place of a source as line and column, and its line with a mark below the place.
use Rattle.std.specs.Prelude.{ℕ, ◌+◌, ◌-◌, ◌==◌, ◌||◌, ◌&&◌, nat_lt, nat_le, if◌then◌else◌, List, [], ◌∷◌, ◌++◌, length, take, drop, slice_range, flat_map, codes, decimal}
use Rattle.std.specs.List.{prefix_len, suffix_len}
use Rattle.std.specs.Str.{str_eq_ignore_ascii_case}
use Rattle.setl_token.specs.Bytes.{is_in_line}
use Rattle.setl_token.specs.Lex.{line_at}
use Rattle.setl_token.specs.Text.{Lexed, token_text}
use Rattle.setl_token.specs.declared.Token.{Token}

-- where the line of a place begins: behind the last line feed before it
abbrev pub line_start : List ℕ → ℕ → ℕ
line_start source at = at - suffix_len is_in_line (take at source)

-- the bytes at the front up to the first line feed
abbrev pub line_of : List ℕ → List ℕ
line_of z = take (prefix_len is_in_line z) z

-- What stands below a byte, so that a mark comes to stand below what follows: a tab below a tab, nothing below a byte that
-- goes on a character of several bytes, and otherwise a blank.
abbrev pub below : ℕ → List ℕ
below b = if b == 9 then 9 ∷ [] else if nat_lt b 128 || nat_le 192 b then 32 ∷ [] else []

unfoldable pub position_text : ℕ → ℕ → List ℕ
position_text line column = codes "line " ++ decimal line ++ codes ", column " ++ decimal column ++ 10 ∷ []

-- a line, and below it a mark behind some of its bytes
unfoldable pub marked_text : List ℕ → List ℕ → List ℕ
marked_text line before = codes "    " ++ line ++ codes "\n    " ++ flat_map below before ++ codes "^\n"

-- the line and the column of a place, its line and a mark below it, where the line begins at `start`
unfoldable pub place_from : List ℕ → ℕ → ℕ → List ℕ
place_from source start at = position_text (line_at source at) (at - start + 1) ++ marked_text (line_of (drop start source)) (slice_range source start at)

-- the line and the column of a place, the source's line there, and a mark below the place
abbrev pub place_text : List ℕ → ℕ → List ℕ
place_text source at = place_from source (line_start source at) at

-- the place of the first token on a line, or the end where there is none
abbrev pub first_from : List Token → ℕ → ℕ → ℕ
first_from [] line end = end
first_from (t ∷ ts) line end = if t.line == line then t.from else first_from ts line end

abbrev pub first_on_line : Lexed → ℕ → ℕ
first_on_line l line = first_from l.tokens line (length l.source)

-- the place of the first token from a line on that is spelled so, whatever the case of its letters, or the end where there is
-- none
abbrev pub spelled_in : List ℕ → List ℕ → List Token → ℕ → ℕ → ℕ
spelled_in source x [] line end = end
spelled_in source x (t ∷ ts) line end = if nat_le line t.line && str_eq_ignore_ascii_case (token_text source t) x then t.from else spelled_in source x ts line end

abbrev pub spelled_from : Lexed → ℕ → List ℕ → ℕ
spelled_from l line x = spelled_in l.source x l.tokens line (length l.source)
