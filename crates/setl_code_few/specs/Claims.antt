-- How much code a program has, by the number of its tokens.
use Rattle.std.specs.Prelude.{◌≡◌, ◌≤◌, ◌^◌, ◌*◌, ℕ, List, length, map, slice_get, Some}
use Rattle.setl_token.specs.Lex.{Spelled}
use Rattle.setl_token.specs.declared.Token.{Token}
use Rattle.setl_tree.specs.Tokens.{Tokens}
use Rattle.setl_tree.specs.Programs.{Derives}
use Rattle.setl_tree.specs.declared.tree.Tree.{Tree}
use Rattle.setl_model_runs.specs.Variable.{Variable}
use Rattle.setl_program.specs.Program.{Program}
use Rattle.setl_program.specs.ProgramOf.{program_of}
use Rattle.setl_code.specs.Code.{Body, Code}
use Rattle.setl_code.specs.CodeOf.{code_of}
use Rattle.setl_code.specs.CodeCore.{variables_of}
use Rattle.setl_code.specs.Sound.{Few}

-- Each body has at most nine steps for each of so many tokens, and at most as many variables; and there are at most as
-- many bodies, variables of the whole program and declared variables.
pub record Linear (c : Code) (declared : List Variable) (tokens : ℕ) : Type 0 where
  pub bodies : (n : ℕ) (b : Body) → slice_get c.bodies n ≡ Some b → (length b.steps ≤ 9 * tokens) × (length (variables_of n b) ≤ tokens)
  pub counts : (length c.bodies ≤ tokens) × (length c.vars ≤ tokens) × (length declared ≤ tokens)

-- the declared variables of a program
abbrev pub declared_of : Program → List Variable
declared_of p = map (λ m. m.0) p.modes

-- the code of a derived tree, by its tokens
abbrev pub CodeIsLinear : Type 0
CodeIsLinear = (toks : Tokens) (t : Tree) → Derives toks t → Linear (code_of (program_of t)) (declared_of (program_of t)) (length toks)

-- of at most 2^24 tokens there is code with numbers of 32 bits
abbrev pub CodeIsFew : Type 0
CodeIsFew = (toks : Tokens) (t : Tree) → Derives toks t → length toks ≤ 2 ^ 24 → Few (code_of (program_of t)) (declared_of (program_of t))

-- a source is spelled by at most as many tokens as it has bytes
abbrev pub TokensAreFew : Type 0
TokensAreFew = (source : List ℕ) (tokens : List Token) → Spelled source tokens → length tokens ≤ length source
