-- A source is refused for one reason, or it is a program, and not both.
use Rattle.std.proofs.Common.{◌≡◌, ◌⊎◌, inl, inr, ◌<◌, ◌≤◌, ◌^◌, ℕ, List, length, Option, Some, None, refl, ap, subst, arith}
use Rattle.std.proofs.lemmas.Bool.Decides.{leb_tells}
use Rattle.setl_token.specs.Lex.{Spelled, LexFails}
use Rattle.setl_token.specs.Text.{Lexed}
use Rattle.setl_token.specs.declared.Cause.{Cause}
use Rattle.setl_token.specs.declared.Cause.TheVariants as cause
use Rattle.setl_token.specs.declared.Token.{Token}
use Rattle.setl_tree.specs.Programs as grammar
use Rattle.setl_tree.specs.declared.tree.Tree.{Tree}
use Rattle.setl_parse_reading.specs.Claims.{TreeIsUnique}
use Rattle.setl_parse_reading.specs.Fronts.{FaultOf}
use Rattle.setl_parse_reading.specs.declared.fault.Fault.{Fault}
use Rattle.setl_parse_reading.specs.declared.fault.Fault.TheVariants as reading
use Rattle.setl_parse_cursor.specs.Plain.{plain_tokens}
use Rattle.setl_parse.specs.Places.{FaultIsUnique, ProgramsHaveNoFault, OthersHaveAFault, IsFaultOf, fault_of}
use Rattle.setl_parse.specs.declared.fault.ParseFault.{ParseFault}
use Rattle.setl_parse.specs.declared.fault.ParseFault.TheVariants as fault
use Rattle.setl_names.specs.Breaks.{first_break, break_at}
use Rattle.setl_names.specs.declared.broken.Break.{Break}
use Rattle.setl_top.specs.Accepted.{lexed, IsParsed, IsProgram, IsUnspelled, IsUnparsed, IsUnsound, IsRefusedFor}
use Rattle.setl_top.specs.Laws.{EitherProgramOrRefused}
use Rattle.setl_top_rules.specs.Rules.{all_breaks}
use Rattle.setl_top_status.specs.declared.reason.Reason.{Reason}
use Rattle.setl_top_status.specs.declared.reason.Reason.TheVariants as reason

-- the laws of lexing and of the grammar
pub record FrontLaws : Type 0 where
  pub one_spelling : (source : List ℕ) (ts us : List Token) → Spelled source ts → Spelled source us → ts ≡ us
  pub not_both : (source : List ℕ) (ts : List Token) (why : Cause) (place : ℕ) → Spelled source ts → LexFails source why place → ⊥
  pub one_fault : (source : List ℕ) (c d : Cause) (i j : ℕ) → LexFails source c i → LexFails source d j → (c ≡ d) × (i ≡ j)
  pub one_tree : TreeIsUnique
  pub one_place : FaultIsUnique
  pub no_fault : ProgramsHaveNoFault

-- the tokens of a source derive this tree
abbrev Derived : List ℕ → List Token → Tree → Type 0
Derived source ts tree = grammar.program 200 (plain_tokens (lexed source ts)) tree

-- a source has one tree
pub one_parsed : FrontLaws → (source : List ℕ) (t u : Tree) → IsParsed source t → IsParsed source u → t ≡ u
one_parsed laws source t u a b =
    let tokens = laws.one_spelling source b.tokens a.tokens b.spelled a.spelled in
    laws.one_tree (plain_tokens (lexed source a.tokens)) t u (200, a.derived) (200, subst (λ ts. Derived source ts u) tokens b.derived)

pub one_program_tree : FrontLaws → (source : List ℕ) (t u : Tree) → IsProgram source t → IsProgram source u → t ≡ u
one_program_tree laws source t u a b = one_parsed laws source t u a.parsed b.parsed

-- ---- the stages of reading

abbrev lex_reason : Cause → ℕ → Reason
lex_reason cause.Byte place = reason.Byte place
lex_reason cause.OpenString place = reason.OpenString place
lex_reason cause.WideNumber place = reason.WideNumber place

abbrev stop_reason : ParseFault → Reason
stop_reason (fault.Syntax place) = reason.Syntax place
stop_reason (fault.Nesting place) = reason.Nesting place
stop_reason fault.NoMemory = reason.TooLong

-- the stage at which a source is refused
data Stage (source : List ℕ) : Reason → Type 0 where
  long : 2 ^ 24 < length source → Stage source reason.TooLong
  lexing : (why : Cause) (place : ℕ) → IsUnspelled source why place → Stage source (lex_reason why place)
  parsing : (stop : ParseFault) → IsUnparsed source stop → Stage source (stop_reason stop)
  resolving : (broken : Break) → IsUnsound source broken → Stage source (reason.Broken broken.rule broken.line)

stage : (source : List ℕ) (r : Reason) → IsRefusedFor source r → Stage source r
stage source reason.TooLong h = long h
stage source (reason.Byte place) h = lexing cause.Byte place h
stage source (reason.OpenString place) h = lexing cause.OpenString place h
stage source (reason.WideNumber place) h = lexing cause.WideNumber place h
stage source (reason.Syntax place) h = parsing (fault.Syntax place) h
stage source (reason.Nesting place) h = parsing (fault.Nesting place) h
stage source (reason.Broken rule line) h = resolving (break_at line rule) h

-- ---- what excludes what

not_long : (source : List ℕ) → 2 ^ 24 < length source → length source ≤ 2 ^ 24 → ⊥
not_long source h k = omega arith

not_unspelled : FrontLaws → (source : List ℕ) (ts : List Token) (why : Cause) (place : ℕ) → Spelled source ts → IsUnspelled source why place → ⊥
not_unspelled laws source ts why place s u = laws.not_both source ts why place s u.fails

not_unparsed : FrontLaws → (source : List ℕ) (tree : Tree) (stop : ParseFault) → IsParsed source tree → IsUnparsed source stop → ⊥
not_unparsed laws source tree stop p u =
    laws.no_fault (lexed source u.tokens) tree stop (subst (λ ts. Derived source ts tree) (laws.one_spelling source p.tokens u.tokens p.spelled u.spelled) p.derived) u.fault

not_unsound : FrontLaws → (source : List ℕ) (tree : Tree) (broken : Break) → IsProgram source tree → IsUnsound source broken → ⊥
not_unsound laws source tree broken p u =
    let same = ap (λ t. first_break (all_breaks t)) (one_parsed laws source tree u.tree p.parsed u.parsed) in
    let x = p.sound in
    let y = u.first in
    cc

-- a program isn't refused
not_at_stage : FrontLaws → (source : List ℕ) (r : Reason) → Stage source r → (tree : Tree) → IsProgram source tree → ⊥
not_at_stage laws source _ (long h) tree p = not_long source h p.parsed.short
not_at_stage laws source _ (lexing why place u) tree p = not_unspelled laws source p.parsed.tokens why place p.parsed.spelled u
not_at_stage laws source _ (parsing stop u) tree p = not_unparsed laws source tree stop p.parsed u
not_at_stage laws source _ (resolving broken u) tree p = not_unsound laws source tree broken p u

pub not_refused : FrontLaws → (source : List ℕ) (r : Reason) → IsRefusedFor source r → (tree : Tree) → IsProgram source tree → ⊥
not_refused laws source r h = not_at_stage laws source r (stage source r h)

-- ---- one reason

one_stop : FrontLaws → (source : List ℕ) (s t : ParseFault) → IsUnparsed source s → IsUnparsed source t → s ≡ t
one_stop laws source s t a b =
    let tokens = laws.one_spelling source b.tokens a.tokens b.spelled a.spelled in
    laws.one_place (lexed source a.tokens) s t a.fault (subst (λ ts. IsFaultOf (lexed source ts) t) tokens b.fault)

one_break : FrontLaws → (source : List ℕ) (s t : Break) → IsUnsound source s → IsUnsound source t → s ≡ t
one_break laws source s t a b =
    let same = ap (λ x. first_break (all_breaks x)) (one_parsed laws source a.tree b.tree a.parsed b.parsed) in
    let x = a.first in
    let y = b.first in
    cc

one_stage : FrontLaws → (source : List ℕ) (a b : Reason) → Stage source a → Stage source b → a ≡ b
one_stage laws source _ _ (long h) (long k) = refl
one_stage laws source _ _ (long h) (lexing c i u) = absurd (not_long source h u.short)
one_stage laws source _ _ (long h) (parsing s u) = absurd (not_long source h u.short)
one_stage laws source _ _ (long h) (resolving x u) = absurd (not_long source h u.parsed.short)
one_stage laws source _ _ (lexing c i u) (long k) = absurd (not_long source k u.short)
one_stage laws source _ _ (lexing c i u) (lexing d j v) =
    let same = laws.one_fault source c d i j u.fails v.fails in
    λ x. lex_reason (same.0 x) (same.1 x)
one_stage laws source _ _ (lexing c i u) (parsing s v) = absurd (not_unspelled laws source v.tokens c i v.spelled u)
one_stage laws source _ _ (lexing c i u) (resolving x v) = absurd (not_unspelled laws source v.parsed.tokens c i v.parsed.spelled u)
one_stage laws source _ _ (parsing s u) (long k) = absurd (not_long source k u.short)
one_stage laws source _ _ (parsing s u) (lexing c i v) = absurd (not_unspelled laws source u.tokens c i u.spelled v)
one_stage laws source _ _ (parsing s u) (parsing t v) = ap stop_reason (one_stop laws source s t u v)
one_stage laws source _ _ (parsing s u) (resolving x v) = absurd (not_unparsed laws source v.tree s v.parsed u)
one_stage laws source _ _ (resolving x u) (long k) = absurd (not_long source k u.parsed.short)
one_stage laws source _ _ (resolving x u) (lexing c i v) = absurd (not_unspelled laws source u.parsed.tokens c i u.parsed.spelled v)
one_stage laws source _ _ (resolving x u) (parsing s v) = absurd (not_unparsed laws source u.tree s u.parsed v)
one_stage laws source _ _ (resolving x u) (resolving y v) = ap (λ (z : Break). reason.Broken z.rule z.line) (one_break laws source x y u v)

pub one_reason : FrontLaws → (source : List ℕ) (a b : Reason) → IsRefusedFor source a → IsRefusedFor source b → a ≡ b
one_reason laws source a b h k = one_stage laws source a b (stage source a h) (stage source b k)

-- ---- each source is one of them

-- each source is spelled, or fails
abbrev LexingIsTotal : Type 0
LexingIsTotal = (source : List ℕ) → ((ts : List Token) × Spelled source ts) ⊎ ((why : Cause) × (place : ℕ) × LexFails source why place)

module _ (source : List ℕ) (short : length source ≤ 2 ^ 24) where
  abbrev Read : Type 0
  Read = ((tree : Tree) × IsProgram source tree) ⊎ ((r : Reason) × IsRefusedFor source r)

  failed : (why : Cause) (place : ℕ) → LexFails source why place → Read
  failed cause.Byte place h = inr (reason.Byte place, record { short = short; fails = h })
  failed cause.OpenString place h = inr (reason.OpenString place, record { short = short; fails = h })
  failed cause.WideNumber place h = inr (reason.WideNumber place, record { short = short; fails = h })

  -- want of memory is no fault of tokens
  no_memory : (l : Lexed) (e : Fault) → FaultOf 200 (plain_tokens l) e → fault.NoMemory ≡ fault_of l e → ⊥
  no_memory l reading.Memory h is = h
  no_memory l (reading.Syntax left) h is = absurd (cc)
  no_memory l (reading.Nesting left) h is = absurd (cc)

  stopped : (ts : List Token) → Spelled source ts → (f : ParseFault) → IsFaultOf (lexed source ts) f → Read
  stopped ts s (fault.Syntax place) h = inr (reason.Syntax place, record { short = short; tokens = ts; spelled = s; fault = h })
  stopped ts s (fault.Nesting place) h = inr (reason.Nesting place, record { short = short; tokens = ts; spelled = s; fault = h })
  stopped ts s fault.NoMemory h = absurd (no_memory (lexed source ts) h.0 h.1 h.2)

  parsed : (tree : Tree) → IsParsed source tree → (first : Option Break) → first_break (all_breaks tree) ≡ first → Read
  parsed tree p None h = inl (tree, record { parsed = p; sound = h })
  parsed tree p (Some b) h = inr (reason.Broken b.rule b.line, record { tree = tree; parsed = p; first = h })

  pub program_or_refused : LexingIsTotal → OthersHaveAFault → Read
  program_or_refused lexes parses = elim (lexes source) [
    | inl s ↦ elim (parses (lexed source s.0)) [
      | inl d ↦ parsed d.0 (record { short = short; tokens = s.0; spelled = s.1; derived = d.1 }) (first_break (all_breaks d.0)) refl
      | inr f ↦ stopped s.0 s.1 f.0 f.1
    ]
    | inr f ↦ failed f.0 f.1 f.2
  ]

pub either : LexingIsTotal → OthersHaveAFault → EitherProgramOrRefused
either lexes parses source = elim (leb_tells (length source) (2 ^ 24)) [
  | inl x ↦ program_or_refused source x.1 lexes parses
  | inr x ↦ inr (reason.TooLong, x.1)
]
