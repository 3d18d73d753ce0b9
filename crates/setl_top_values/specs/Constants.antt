-- The constants in the code of a source are values.
use Rattle.std.specs.Prelude.{ℕ, List}
use Rattle.setl_tree.specs.declared.tree.Tree.{Tree}
use Rattle.setl_tree.specs.Programs.{Derives}
use Rattle.setl_token.specs.declared.Token.{Token}
use Rattle.setl_token.specs.Lex.{Spelled}
use Rattle.setl_parse_cursor.specs.Plain.{plain_tokens}
use Rattle.setl_model_runs.specs.Variable.{Variable}
use Rattle.setl_model_values.specs.ModelValues.{AreBytes}
use Rattle.setl_program.specs.ProgramOf.{program_of}
use Rattle.setl_code.specs.Code.{Code}
use Rattle.setl_code.specs.CodeOf.{code_of}
use Rattle.setl_code_marked.specs.Marked.{Marked}
use Rattle.setl_code_values.specs.Standing.{CodeStands}

-- a source is spelled by tokens that derive the tree
pub record IsTreeOf (source : List ℕ) (tree : Tree) : Type 0 where
  pub tokens : List Token
  pub spelled : Spelled source tokens
  pub derived : Derives (plain_tokens (record { source = source; tokens = tokens })) tree

abbrev pub ConstantsAreValues : Type 0
ConstantsAreValues = (source : List ℕ) (tree : Tree) → AreBytes source → IsTreeOf source tree → CodeStands (code_of (program_of tree))

-- and so are those of its marked code
abbrev pub MarkedConstantsAreValues : Type 0
MarkedConstantsAreValues = (declared : List Variable) (c m : Code) → Marked declared c m → CodeStands c → CodeStands m
