-- Which sources are programs, and which line tells that one isn't.
use Rattle.std.specs.Prelude.{◌≡◌, ◌<◌, ◌≤◌, ◌^◌, ℕ, List, length, Some, None}
use Rattle.setl_token.specs.Lex.{Spelled, LexFails}
use Rattle.setl_token.specs.Text.{Lexed}
use Rattle.setl_token.specs.declared.Cause.{Cause}
use Rattle.setl_token.specs.declared.Cause.TheVariants as cause
use Rattle.setl_token.specs.declared.Token.{Token}
use Rattle.setl_tree.specs.Programs as grammar
use Rattle.setl_tree.specs.declared.tree.Tree.{Tree}
use Rattle.setl_parse_cursor.specs.Plain.{plain_tokens}
use Rattle.setl_parse.specs.Places.{IsFaultOf}
use Rattle.setl_parse.specs.declared.fault.ParseFault.{ParseFault}
use Rattle.setl_parse.specs.declared.fault.ParseFault.TheVariants as fault
use Rattle.setl_names.specs.Breaks.{first_break, break_at}
use Rattle.setl_names.specs.declared.broken.Break.{Break}
use Rattle.setl_program.specs.Program.{Program}
use Rattle.setl_program.specs.ProgramOf.{program_of}
use Rattle.setl_top_status.specs.Reasons.{reason_line}
use Rattle.setl_top_rules.specs.Rules.{all_breaks}
use Rattle.setl_top_status.specs.declared.reason.Reason.{Reason}
use Rattle.setl_top_status.specs.declared.reason.Reason.TheVariants as reason

-- ---- programs

-- a source with its tokens
abbrev pub lexed : List ℕ → List Token → Lexed
lexed source tokens = record { source = source; tokens = tokens }

-- the source has at most 2^24 bytes and is spelled by tokens that derive the tree within 200 nestings
pub record IsParsed (source : List ℕ) (tree : Tree) : Type 0 where
  pub short : length source ≤ 2 ^ 24
  pub tokens : List Token
  pub spelled : Spelled source tokens
  pub derived : grammar.program 200 (plain_tokens (lexed source tokens)) tree

-- and no rule is broken
pub record IsProgram (source : List ℕ) (tree : Tree) : Type 0 where
  pub parsed : IsParsed source tree
  pub sound : first_break (all_breaks tree) ≡ None

-- the source is accepted, and this is its program
pub record Accepted (source : List ℕ) (program : Program) : Type 0 where
  pub tree : Tree
  pub is_program : IsProgram source tree
  pub meaning : program ≡ program_of tree

-- ---- refusals

-- the source has at most 2^24 bytes, and this is its first lexical fault
pub record IsUnspelled (source : List ℕ) (cause : Cause) (place : ℕ) : Type 0 where
  pub short : length source ≤ 2 ^ 24
  pub fails : LexFails source cause place

-- The source has at most 2^24 bytes and is spelled by tokens that have this fault: of syntax at the first with which those
-- so far begin no program, or of nesting at the first that opens a nesting inside 200 others, whichever stands first.
pub record IsUnparsed (source : List ℕ) (stop : ParseFault) : Type 0 where
  pub short : length source ≤ 2 ^ 24
  pub tokens : List Token
  pub spelled : Spelled source tokens
  pub fault : IsFaultOf (lexed source tokens) stop

-- the source has a tree, and this is the first of its breaks, by line and then by rule
pub record IsUnsound (source : List ℕ) (broken : Break) : Type 0 where
  pub tree : Tree
  pub parsed : IsParsed source tree
  pub first : first_break (all_breaks tree) ≡ Some broken

-- why a source is refused; each reason leaves out those before it
abbrev pub IsRefusedFor : List ℕ → Reason → Type 0
IsRefusedFor source reason.TooLong = 2 ^ 24 < length source
IsRefusedFor source (reason.Byte place) = IsUnspelled source cause.Byte place
IsRefusedFor source (reason.OpenString place) = IsUnspelled source cause.OpenString place
IsRefusedFor source (reason.WideNumber place) = IsUnspelled source cause.WideNumber place
IsRefusedFor source (reason.Syntax place) = IsUnparsed source (fault.Syntax place)
IsRefusedFor source (reason.Nesting place) = IsUnparsed source (fault.Nesting place)
IsRefusedFor source (reason.Broken rule line) = IsUnsound source (break_at line rule)

-- the error line with which a source is refused
pub record Refusal (source line : List ℕ) : Type 0 where
  pub reason : Reason
  pub refused : IsRefusedFor source reason
  pub tells : line ≡ reason_line reason
