-- What is told of a refused source below the line of its reason.
use Rattle.std.specs.Prelude.{◌≡◌, ℕ, min, ◌==◌, if◌then◌else◌, List, ◌++◌, length, codes, Option, Some, None}
use Rattle.setl_tree.specs.declared.kind.Kind.{Kind}
use Rattle.setl_tree.specs.declared.tree.Tree.{Tree}
use Rattle.setl_tree.specs.Programs as grammar
use Rattle.setl_token.specs.Lex.{Spelled}
use Rattle.setl_token.specs.Text.{Lexed}
use Rattle.setl_token.specs.declared.Token.{Token}
use Rattle.setl_parse_cursor.specs.Plain.{plain_tokens}
use Rattle.setl_names.specs.Breaks.{break_at}
use Rattle.setl_names.specs.Names.{Name}
use Rattle.setl_names.specs.declared.broken.Break.{Break}
use Rattle.setl_explain_words.specs.Texts.{fault_text, rule_text}
use Rattle.setl_explain_words.specs.declared.fault.SourceFault.{SourceFault}
use Rattle.setl_explain_words.specs.declared.fault.SourceFault.TheVariants as fault
use Rattle.setl_explain_places.specs.Places.{place_text, first_on_line, spelled_from}
use Rattle.setl_explain_open.specs.Opens.{open_at}
use Rattle.setl_explain_open.specs.Texts.{open_text}
use Rattle.setl_top_rules.specs.Rules.{breaking_name}
use Rattle.setl_top_status.specs.declared.reason.Reason.{Reason}
use Rattle.setl_top_status.specs.declared.reason.Reason.TheVariants as reason
use Rattle.setl_top_explanation.specs.Next.{AreTold, next_text}

-- a place, or the end of the source where the place is past it
abbrev pub shown_text : List ℕ → ℕ → List ℕ
shown_text source at = place_text source (min at (length source))

-- a place, and what a fault there means
abbrev pub fault_explained : List ℕ → ℕ → SourceFault → List ℕ
fault_explained source at why = shown_text source at ++ fault_text why

-- the place of a nesting that is one too many, what is open there, and what that means
abbrev pub nesting_explained : Lexed → ℕ → List ℕ
nesting_explained l at = shown_text l.source at ++ open_text (open_at l at) ++ fault_text fault.Nesting

-- The place of a rule that is broken by no name: for a word that stands where it may not the first such word from the line on,
-- otherwise the first token on the line.
unfoldable pub word_place : Lexed → Break → ℕ
word_place l b =
    if b.rule == 13 then min (spelled_from l b.line (codes "quit")) (spelled_from l b.line (codes "continue"))
    else if b.rule == 14 then spelled_from l b.line (codes "return")
    else first_on_line l b.line

-- the place of a broken rule: the first token from its line on that is the name by which it is broken
abbrev pub break_place : Lexed → Break → Option Name → ℕ
break_place l b None = word_place l b
break_place l b (Some x) = spelled_from l b.line x

-- that place, and what the rule asks for
abbrev pub rule_explained : Lexed → Break → Option Name → List ℕ
rule_explained l b name = place_text l.source (break_place l b name) ++ rule_text b.rule

-- a place, what can stand there, what is open there, and what a fault of syntax means
unfoldable pub syntax_text : Lexed → ℕ → List Kind → List ℕ
syntax_text l place kinds = place_text l.source place ++ next_text kinds ++ open_text (open_at l place) ++ fault_text fault.Syntax

-- this is told of a fault of syntax at a place
pub record ExplainsSyntax (l : Lexed) (place : ℕ) (text : List ℕ) : Type 0 where
  pub kinds : List Kind
  pub told : AreTold l.source place kinds
  pub text_is : text ≡ syntax_text l place kinds

-- this is told of tokens that break a rule, by the tree that they derive
pub record ExplainsRule (l : Lexed) (b : Break) (text : List ℕ) : Type 0 where
  pub tree : Tree
  pub derived : grammar.program 200 (plain_tokens l) tree
  pub text_is : text ≡ rule_explained l b (breaking_name tree b)

-- a source with its tokens
abbrev pub lexed : List ℕ → List Token → Lexed
lexed source tokens = record { source = source; tokens = tokens }

-- this is told below the line of a reason for which the source is refused
abbrev pub Explains : List ℕ → Reason → List ℕ → Type 0
Explains source reason.TooLong text = text ≡ fault_text fault.TooLong
Explains source (reason.Byte at) text = text ≡ fault_explained source at fault.Byte
Explains source (reason.OpenString at) text = text ≡ fault_explained source at fault.OpenString
Explains source (reason.WideNumber at) text = text ≡ fault_explained source at fault.WideNumber
Explains source (reason.Syntax at) text = (tokens : List Token) × Spelled source tokens × ExplainsSyntax (lexed source tokens) (min at (length source)) text
Explains source (reason.Nesting at) text = (tokens : List Token) × Spelled source tokens × (text ≡ nesting_explained (lexed source tokens) at)
Explains source (reason.Broken rule line) text = (tokens : List Token) × Spelled source tokens × ExplainsRule (lexed source tokens) (break_at line rule) text

-- a source has one explanation of a reason
abbrev pub OneExplanation : Type 0
OneExplanation = (source : List ℕ) (why : Reason) (one two : List ℕ) → Explains source why one → Explains source why two → one ≡ two
