-- How much marked code a program has, by the number of its tokens.
use Rattle.std.specs.Prelude.{◌≤◌, ◌^◌, length}
use Rattle.setl_tree.specs.Tokens.{Tokens}
use Rattle.setl_tree.specs.Programs.{Derives}
use Rattle.setl_tree.specs.declared.tree.Tree.{Tree}
use Rattle.setl_program.specs.ProgramOf.{program_of}
use Rattle.setl_code.specs.Code.{Code}
use Rattle.setl_code.specs.CodeOf.{code_of}
use Rattle.setl_code.specs.Sound.{Few}
use Rattle.setl_code_marked.specs.Marked.{Marked}
use Rattle.setl_code_few.specs.Claims.{Linear, declared_of}

-- where the last uses of variables are marked in the code of a derived tree
abbrev pub MarkedIsLinear : Type 0
MarkedIsLinear = (toks : Tokens) (t : Tree) (c : Code) → Derives toks t → Marked (declared_of (program_of t)) (code_of (program_of t)) c → Linear c (declared_of (program_of t)) (length toks)

-- of at most 2^24 tokens there is marked code with numbers of 32 bits
abbrev pub MarkedIsFew : Type 0
MarkedIsFew = (toks : Tokens) (t : Tree) (c : Code) → Derives toks t → length toks ≤ 2 ^ 24 → Marked (declared_of (program_of t)) (code_of (program_of t)) c → Few c (declared_of (program_of t))
