-- What accepted sources have by the laws.
use Rattle.std.proofs.Common.{ℕ, List, subst, sym}
use Rattle.setl_program_laws.specs.Claims.{IsAccepted, AcceptedIsFormed}
use Rattle.setl_parse_cursor.specs.Plain.{plain_tokens}
use Rattle.setl_model.specs.Ending.{EveryRunEnds, NoneIsStuck}
use Rattle.setl_program.specs.Formed.{Formed}
use Rattle.setl_program.specs.Program.{Program}
use Rattle.setl_tree.specs.declared.tree.Tree.{Tree}
use Rattle.setl_top.specs.Accepted.{lexed, IsProgram, Accepted}
use Rattle.setl_top.specs.Laws.{AcceptedRunsEnd, NoAcceptedRunIsStuck}
use Rattle.setl_names.specs.Breaks as names
use Rattle.setl_modes_declarations.specs.Declares as declarations
use Rattle.setl_top_rules.specs.RulesLaws.{none_before}

-- the tree of a program is accepted
pub is_accepted : (source : List ℕ) (tree : Tree) → IsProgram source tree → IsAccepted tree
is_accepted source tree p = record {
  tokens = plain_tokens (lexed source p.parsed.tokens);
  derived = (200, p.parsed.derived);
  sound = none_before (names.breaks tree) (declarations.breaks tree) p.sound;
}

formed : AcceptedIsFormed → (source : List ℕ) (program : Program) → Accepted source program → Formed program
formed law source program a = subst Formed (sym a.meaning) (law a.tree (is_accepted source a.tree a.is_program))

pub runs_end : AcceptedIsFormed → EveryRunEnds → AcceptedRunsEnd
runs_end law ends source program a = ends program (formed law source program a)

pub never_stuck : AcceptedIsFormed → NoneIsStuck → NoAcceptedRunIsStuck
never_stuck law stuck source program a = stuck program (formed law source program a)
