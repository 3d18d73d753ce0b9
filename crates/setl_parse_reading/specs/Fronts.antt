-- What a program may begin with, and the fault that tokens have which are no program.
use Rattle.std.specs.Prelude.{◌≡◌, ◌≤◌, ℕ, Bool, true, false, [], ◌∷◌, ◌++◌, length}
use Rattle.setl_tree.specs.declared.kind.Kind.{Kind}
use Rattle.setl_tree.specs.declared.kind.Kind.TheVariants as k
use Rattle.setl_tree.specs.declared.tree.Tree.{Tree}
use Rattle.setl_tree.specs.Tokens.{Token, Tokens}
use Rattle.setl_tree.specs.Programs.{Derives, program}
use Rattle.setl_parse_reading.specs.declared.fault.Fault.{Fault}
use Rattle.setl_parse_reading.specs.declared.fault.Fault.TheVariants.{Memory, Syntax, Nesting}

-- Some tokens behind these make a program of them, whatever the number of nestings inside one another.
abbrev pub Begins : Tokens → Type 0
Begins toks = (more : Tokens) × (tree : Tree) × Derives (toks ++ more) tree

-- No tree has the tokens. Those before the place at which so many are left begin a program, and with the token there they
-- begin none. At the end of the tokens there is no such token: all of them begin a program.
pub record GoesWrong (toks : Tokens) (left : ℕ) : Type 0 where
  pub front : Tokens
  pub rest : Tokens
  pub parts : toks ≡ front ++ rest
  pub place : length rest ≡ left
  pub begins : Begins front
  pub none : (tree : Tree) → Derives toks tree → ⊥
  pub wrong : (t : Token) (others : Tokens) → rest ≡ t ∷ others → Begins (front ++ t ∷ []) → ⊥

-- The tokens that open a nesting: a bracket, `if`, and the word of a quantifier. (The second mode of an `smap` or `mmap`
-- opens one too, but inside as many others as the bracket before it did, so it is never the first that is one too many.)
unfoldable pub opens_nesting : Kind → Bool
opens_nesting k.LeftParen = true
opens_nesting k.LeftBrace = true
opens_nesting k.LeftBracket = true
opens_nesting k.If = true
opens_nesting k.Exists = true
opens_nesting k.Forall = true
opens_nesting k.Notexists = true
opens_nesting _ = false

-- At the place at which so many tokens are left stands one that opens a nesting. The tokens up to it, with it, begin a
-- program, and none with at most so many nestings inside one another.
pub record Opens (room : ℕ) (toks : Tokens) (left : ℕ) : Type 0 where
  pub front : Tokens
  pub opener : Token
  pub others : Tokens
  pub parts : toks ≡ front ++ opener ∷ others
  pub place : length (opener ∷ others) ≡ left
  pub opens : opens_nesting opener.kind ≡ true
  pub begins : Begins (front ++ opener ∷ [])
  pub none : (more : Tokens) (tree : Tree) → program room ((front ++ opener ∷ []) ++ more) tree → ⊥

-- The fault of tokens that are no program with at most so many nestings inside one another: of syntax where they go wrong
-- and no token before opens one nesting too many (none behind does), and of nesting at the first token that opens one too
-- many.
abbrev pub FaultOf : ℕ → Tokens → Fault → Type 0
FaultOf room toks Memory = ⊥
FaultOf room toks (Syntax left) = GoesWrong toks left × ((before : ℕ) → Opens room toks before → ⊥)
FaultOf room toks (Nesting left) = Opens room toks left × ((before : ℕ) → Opens room toks before → before ≤ left)
