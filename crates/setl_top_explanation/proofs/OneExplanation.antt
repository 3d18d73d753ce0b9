-- A source has one explanation of a reason.
use Rattle.std.proofs.Common.{◌≡◌, ◌∙◌, ◌^◌, ℕ, Bool, true, false, List, [], nat_lt, length, MatchBool, min, sym, ap, subst}
use Rattle.setl_tree.specs.declared.kind.Kind.{Kind}
use Rattle.setl_token.specs.Lex.{Spelled}
use Rattle.setl_token.specs.Text.{Lexed}
use Rattle.setl_token.specs.declared.Token.{Token}
use Rattle.setl_parse_reading.specs.Claims.{TreeIsUnique}
use Rattle.setl_parse_cursor.specs.Plain.{plain_tokens}
use Rattle.setl_names.specs.Breaks.{break_at}
use Rattle.setl_names.specs.declared.broken.Break.{Break}
use Rattle.setl_explain_next.specs.Next.{IsNext, OneList}
use Rattle.setl_top_rules.specs.Rules.{breaking_name}
use Rattle.setl_top_status.specs.declared.reason.Reason.TheVariants as reason
use Rattle.setl_top_explanation.specs.Explanations.{ExplainsRule, ExplainsSyntax, OneExplanation, lexed, syntax_text, nesting_explained, rule_explained}

-- a source is spelled of one list of tokens
abbrev OneSpelling : Type 0
OneSpelling = (source : List ℕ) (ts us : List Token) → Spelled source ts → Spelled source us → ts ≡ us

module _ (lists : OneList) (trees : TreeIsUnique) where
  told_once : (source : List ℕ) (at : ℕ) (long : Bool) (one two : List Kind) → MatchBool long (one ≡ []) (IsNext source at one) → MatchBool long (two ≡ []) (IsNext source at two) → one ≡ two
  told_once source at true one two a b = a ∙ sym b
  told_once source at false one two a b = lists source at one two a b

  one_syntax : (l : Lexed) (place : ℕ) (one two : List ℕ) → ExplainsSyntax l place one → ExplainsSyntax l place two → one ≡ two
  one_syntax l place one two a b =
      a.text_is ∙ ap (syntax_text l place) (told_once l.source place (nat_lt (2 ^ 20) (length l.source)) a.kinds b.kinds a.told b.told) ∙ sym b.text_is

  one_rule : (l : Lexed) (b : Break) (one two : List ℕ) → ExplainsRule l b one → ExplainsRule l b two → one ≡ two
  one_rule l b one two x y =
      x.text_is ∙ ap (λ t. rule_explained l b (breaking_name t b)) (trees (plain_tokens l) x.tree y.tree (200, x.derived) (200, y.derived)) ∙ sym y.text_is

  pub one_text : OneSpelling → OneExplanation
  one_text spelling source reason.TooLong one two a b = a ∙ sym b
  one_text spelling source (reason.Byte at) one two a b = a ∙ sym b
  one_text spelling source (reason.OpenString at) one two a b = a ∙ sym b
  one_text spelling source (reason.WideNumber at) one two a b = a ∙ sym b
  one_text spelling source (reason.Syntax at) one two a b =
      one_syntax (lexed source b.0) (min at (length source)) one two (subst (λ ts. ExplainsSyntax (lexed source ts) (min at (length source)) one) (spelling source a.0 b.0 a.1 b.1) a.2) b.2
  one_text spelling source (reason.Nesting at) one two a b =
      a.2 ∙ ap (λ ts. nesting_explained (lexed source ts) at) (spelling source a.0 b.0 a.1 b.1) ∙ sym b.2
  one_text spelling source (reason.Broken rule line) one two a b =
      one_rule (lexed source b.0) (break_at line rule) one two (subst (λ ts. ExplainsRule (lexed source ts) (break_at line rule) one) (spelling source a.0 b.0 a.1 b.1) a.2) b.2
