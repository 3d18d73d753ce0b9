-- The explanation of a source that is refused.
use Rattle.std.specs.Prelude.{◌≡◌, ℕ, List, [], ◌∷◌, ◌++◌}
use Rattle.setl_top_explanation.specs.Explanations as below
use Rattle.setl_top_status.specs.Reasons.{reason_line}
use Rattle.setl_top_status.specs.declared.reason.Reason.{Reason}

-- the line that a check tells, and below it the explanation of this reason
pub record IsExplained (source : List ℕ) (reason : Reason) (text : List ℕ) : Type 0 where
  pub told : List ℕ
  pub explains : below.Explains source reason told
  pub text_is : text ≡ (reason_line reason ++ 10 ∷ []) ++ told
