-- Names and strings hold no line feed.
use Rattle.std.proofs.Common.{◌≡◌, ◌≢◌, ℕ, true, List, [], ◌∷◌, sym, subst, arith}
use Rattle.std.proofs.lemmas.Bool.{and_parts}
use Rattle.std.proofs.lemmas.Bool.Decides.{nat_tests}
use Rattle.std.specs.Char.{to_ascii_lowercase}
use Rattle.std.specs.List.{list_all, AllByRecursion}
use Rattle.setl_tree.specs.Texts.{IsTextByte}
use Rattle.setl_token.specs.declared.TokenKind.{TokenKind}
use Rattle.setl_token.specs.declared.TokenKind.TheVariants as kind
use Rattle.setl_token.specs.declared.pieces.PieceKind.TheVariants as is
use Rattle.setl_token.specs.Bytes.{is_in_line, is_in_word, lower}
use Rattle.setl_token.specs.Form.{IsForm}
use Rattle.setl_parse_cursor.specs.Plain.{content_of}
use Rattle.setl_parse_cursor.proofs.Undoubled.{holds_body}

abbrev pub IsClean : List ℕ → Type 0
IsClean xs = AllByRecursion IsTextByte xs

not_feed : (b : ℕ) → is_in_line b ≡ true → b ≢ 10
not_feed b h e = absurd (grind (arith, nat_tests))

clean_line : (body : List ℕ) → list_all is_in_line body ≡ true → IsClean body
clean_line [] h = tt
clean_line (b ∷ body) h = let both = and_parts (is_in_line b) (list_all is_in_line body) h in (not_feed b both.0, clean_line body both.1)

word_byte : (b : ℕ) → is_in_word b ≡ true → to_ascii_lowercase b ≢ 10
word_byte b h e = absurd (grind (arith, nat_tests))

clean_lower : (xs : List ℕ) → list_all is_in_word xs ≡ true → IsClean (lower xs)
clean_lower [] h = tt
clean_lower (b ∷ xs) h = let both = and_parts (is_in_word b) (list_all is_in_word xs) h in (word_byte b both.0, clean_lower xs both.1)

-- what a token of this kind holds has no line feed
pub clean_form : (k : TokenKind) (text behind : List ℕ) → IsForm (is.Token k) text behind → IsClean (content_of k text)
clean_form kind.Word text behind form = tt
clean_form kind.Name text behind form = clean_lower text form.0.2
clean_form (kind.Number n) text behind form = tt
clean_form kind.Str text behind form = subst IsClean (sym (holds_body text behind form)) (clean_line form.body form.in_line)
clean_form kind.Sign text behind form = tt
