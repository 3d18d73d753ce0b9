-- A source reads as one list of tokens, up to lines.
use Rattle.std.proofs.Common.{◌≡◌, ℕ, ◌<◌, ◌==◌, Bool, true, false, if◌then◌else◌, List, [], ◌∷◌, ◌++◌, length, length-append, refl, sym, ap, subst, ◌∙◌, arith}
use Rattle.std.proofs.lemmas.Bool.{eqb-true}
use Rattle.std.specs.Str.{bytes_eq}
use Rattle.setl_tree.specs.declared.kind.Kind.{Kind}
use Rattle.setl_tree.specs.declared.kind.Kind.TheVariants as k
use Rattle.setl_tree.specs.Tokens.{Token, Tokens}
use Rattle.setl_token.specs.declared.Token.{Token as Lexeme}
use Rattle.setl_token.specs.declared.TokenKind.{TokenKind}
use Rattle.setl_token.specs.declared.TokenKind.TheVariants as is
use Rattle.setl_token.specs.Form.{doubled}
use Rattle.setl_token.specs.Lex.{Spelled}
use Rattle.setl_token.specs.Text.{token_text}
use Rattle.setl_token.specs.Spellings.{spellings, spelling, IsSpelled}
use Rattle.setl_show.specs.Text.{quoted}
use Rattle.setl_show_laws.specs.Lines.{SameToken, SameTokens}
use Rattle.setl_show_laws.specs.Reading.{Reads, AreRead, IsSpelledAs}

-- ---- no two kinds are spelled alike

unfoldable kinds : List Kind
kinds =
    k.Abs ∷ k.And ∷ k.Arb ∷ k.Atom ∷ k.Base ∷ k.Boolean ∷ k.Continue ∷ k.Div ∷ k.Domain ∷ k.Elmt ∷ k.Else ∷ k.Elseif ∷ k.End ∷ k.Eof ∷ k.Even ∷
    k.Exists ∷ k.Fail ∷ k.False ∷ k.For ∷ k.Forall ∷ k.From ∷ k.Fromb ∷ k.Frome ∷ k.General ∷ k.If ∷ k.Impl ∷ k.In ∷ k.Incs ∷ k.Int ∷ k.Integer ∷
    k.IsAtom ∷ k.IsBoolean ∷ k.IsInteger ∷ k.IsMap ∷ k.IsSet ∷ k.IsString ∷ k.IsTuple ∷ k.Less ∷ k.Lessf ∷ k.Local ∷ k.Max ∷ k.Min ∷ k.Mmap ∷
    k.Mod ∷ k.Newat ∷ k.Not ∷ k.Notexists ∷ k.Notin ∷ k.Npow ∷ k.Odd ∷ k.Ok ∷ k.Om ∷ k.Or ∷ k.Pass ∷ k.Pow ∷ k.Print ∷ k.Proc ∷ k.Procedure ∷
    k.Program ∷ k.Quit ∷ k.Range ∷ k.Rd ∷ k.Read ∷ k.Remote ∷ k.Repr ∷ k.Return ∷ k.Rw ∷ k.Set ∷ k.Smap ∷ k.Sparse ∷ k.Stop ∷ k.Str ∷ k.String ∷
    k.Subset ∷ k.Succeed ∷ k.Then ∷ k.True ∷ k.Tuple ∷ k.Var ∷ k.While ∷ k.With ∷ k.Wr ∷ k.Assign ∷ k.Dots ∷ k.NotEqual ∷ k.AtMost ∷ k.AtLeast ∷ k.Power ∷
    k.Semicolon ∷ k.Colon ∷ k.Comma ∷ k.LeftParen ∷ k.RightParen ∷ k.LeftBrace ∷ k.RightBrace ∷ k.LeftBracket ∷ k.RightBracket ∷ k.Bar ∷ k.Equal ∷
    k.LessThan ∷ k.GreaterThan ∷ k.Plus ∷ k.Minus ∷ k.Star ∷ k.Slash ∷ k.Hash ∷ []

-- the first kind that is spelled so
abbrev first_spelled : List Kind → List ℕ → Kind
first_spelled [] text = k.SourceEnd
first_spelled (x ∷ xs) text = if bytes_eq text (spelling x) then x else first_spelled xs text

found : (kind : Kind) → IsSpelled kind → first_spelled kinds (spelling kind) ≡ kind
unfolding kinds spellings spelling
found k.SourceEnd h = absurd h
found k.Name h = absurd h
found k.Number h = absurd h
found k.StringLiteral h = absurd h
found _ h = refl

spelled_alike : (a b : Kind) → IsSpelled a → IsSpelled b → spelling a ≡ spelling b → a ≡ b
spelled_alike a b h j e = sym (found a h) ∙ ap (first_spelled kinds) e ∙ found b j

-- ---- what a string holds

-- bytes behind an opening apostrophe, up to the closing one, with each doubled apostrophe made single
abbrev unquoted : List ℕ → List ℕ
unquoted [] = []
unquoted (b ∷ []) = []
unquoted (b ∷ c ∷ z) = b ∷ (if b == 39 then unquoted z else unquoted (c ∷ z))

plain_byte : (b : ℕ) (w : List ℕ) → (b == 39) ≡ false → 0 < length w → unquoted (b ∷ w) ≡ b ∷ unquoted w
plain_byte b [] e some = absurd (omega (arith, some))
plain_byte b (c ∷ z) e some = rw e refl

unquoted_if : (b : ℕ) (test : Bool) (body : List ℕ) → (b == 39) ≡ test → unquoted (doubled body ++ 39 ∷ []) ≡ body → unquoted (doubled (b ∷ body) ++ 39 ∷ []) ≡ b ∷ body
unquoted_if b true body e h = rw (e, h) (ap (λ (c : ℕ). c ∷ body) (sym (eqb-true b 39 e)))
unquoted_if b false body e h = rw e (plain_byte b (doubled body ++ 39 ∷ []) e (omega (arith, length-append (doubled body) (39 ∷ []))) ∙ ap (λ (z : List ℕ). b ∷ z) h)

unquoted_is : (body : List ℕ) → unquoted (doubled body ++ 39 ∷ []) ≡ body
unquoted_is [] = refl
unquoted_is (b ∷ body) = unquoted_if b (b == 39) body refl (unquoted_is body)

abbrev inside : List ℕ → List ℕ
inside [] = []
inside (b ∷ z) = unquoted z

quoted_alike : (t u : List ℕ) → quoted t ≡ quoted u → t ≡ u
quoted_alike t u e = sym (unquoted_is t) ∙ ap inside e ∙ unquoted_is u

-- ---- tokens

token_same : (s : TokenKind) (bytes : List ℕ) (t u : Token) → Reads s bytes t.kind t.text t.value → Reads s bytes u.kind u.text u.value → SameToken t u
token_same is.Word bytes t u a b = record { kind = spelled_alike t.kind u.kind a.0 b.0 (sym a.1 ∙ b.1); text = a.2 ∙ sym b.2; value = a.3 ∙ sym b.3 }
token_same is.Sign bytes t u a b = record { kind = spelled_alike t.kind u.kind a.0 b.0 (sym a.1 ∙ b.1); text = a.2 ∙ sym b.2; value = a.3 ∙ sym b.3 }
token_same is.Name bytes t u a b = record { kind = a.0 ∙ sym b.0; text = a.1 ∙ sym b.1; value = a.2 ∙ sym b.2 }
token_same (is.Number n) bytes t u a b = record { kind = a.0 ∙ sym b.0; text = a.1 ∙ sym b.1; value = a.2 ∙ sym b.2 }
token_same is.Str bytes t u a b = record { kind = a.0 ∙ sym b.0; text = quoted_alike t.text u.text (sym a.1 ∙ b.1); value = a.2 ∙ sym b.2 }

all_same : (source : List ℕ) (ls : List Lexeme) (ts us : Tokens) → AreRead source ls ts → AreRead source ls us → SameTokens ts us
all_same source [] [] [] a b = tt
all_same source [] [] (u ∷ us) a b = absurd b
all_same source [] (t ∷ ts) us a b = absurd a
all_same source (l ∷ ls) [] us a b = absurd a
all_same source (l ∷ ls) (t ∷ ts) [] a b = absurd b
all_same source (l ∷ ls) (t ∷ ts) (u ∷ us) a b = (token_same l.kind (token_text source l) t u a.0 b.0, all_same source ls ts us a.1 b.1)

-- a source is spelled of one list of tokens
abbrev pub OneSpelling : Type 0
OneSpelling = (source : List ℕ) (ls ms : List Lexeme) → Spelled source ls → Spelled source ms → ls ≡ ms

pub readings_same : OneSpelling → (source : List ℕ) (ts us : Tokens) → IsSpelledAs source ts → IsSpelledAs source us → SameTokens ts us
readings_same one source ts us s r = all_same source r.lexemes ts us (subst (λ (ls : List Lexeme). AreRead source ls ts) (one source s.lexemes r.lexemes s.spelled r.spelled) s.read) r.read
