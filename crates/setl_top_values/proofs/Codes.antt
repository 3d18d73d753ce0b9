-- The code of an accepted source of bytes, and the states that its runs reach.
use Rattle.std.proofs.Common.{ℕ, List, sym, subst, inl, inr}
use Rattle.setl_tree.specs.declared.tree.Tree.{Tree}
use Rattle.setl_program.specs.Program.{Program}
use Rattle.setl_code.specs.CodeOf.{code_of}
use Rattle.setl_code_marked.specs.Marked.{declared_in}
use Rattle.setl_code_values.specs.Laws.{StartsStand, RunsStand}
use Rattle.setl_code_values.specs.Standing.{CodeStands}
use Rattle.setl_top_values.specs.Constants.{IsTreeOf, ConstantsAreValues, MarkedConstantsAreValues}
use Rattle.setl_model.specs.Step.{test_of}
use Rattle.setl_code.specs.CodeMeans.{code_first}
use Rattle.setl_top.specs.Accepted.{IsParsed}
use Rattle.setl_top_values.specs.Claims.{CodeOfProgramsStands, ReachedStatesStand}

tree_of : (source : List ℕ) (tree : Tree) → IsParsed source tree → IsTreeOf source tree
tree_of source tree p = record { tokens = p.tokens; spelled = p.spelled; derived = (200, p.derived) }

-- what is made of the code of programs
pub record Laws : Type 0 where
  pub plain : ConstantsAreValues
  pub marked : MarkedConstantsAreValues
  pub starts : StartsStand
  pub runs : RunsStand

module _ (laws : Laws) where
  pub code_stands : CodeOfProgramsStands
  code_stands source program code is =
      let a = is.accepted in
      let own : CodeStands (code_of program) = subst (λ (p : Program). CodeStands (code_of p)) (sym a.meaning) (laws.plain source a.tree is.bytes (tree_of source a.tree a.is_program.parsed)) in
      elim is.generated [
        | inl same ↦ subst CodeStands (sym same) own
        | inr marks ↦ laws.marked (declared_in program.modes) (code_of program) code marks own
      ]

  pub states_stand : ReachedStatesStand
  states_stand source program code input turns n based is bytes few counts =
      laws.runs code (test_of program.modes based) n (code_first code input turns) (code_stands source program code is) counts (laws.starts code input turns bytes few)
