-- What becomes of an explanation.
use Rattle.std.proofs.Common.{◌≡◌, ◌∙◌, ◌<◌, ◌^◌, ℕ, List, [], ◌∷◌, ◌++◌, length, ap, subst}
use Rattle.setl_io.specs.Files.{IsText}
use Rattle.setl_top_explanation.specs.Explanations as below
use Rattle.setl_top_status.specs.Reasons.{reason_line}
use Rattle.setl_top_status.specs.Seen.{Seen, SeenFiles}
use Rattle.setl_top_status.specs.code.Loads.{HasText, IsStill}
use Rattle.setl_top_status.specs.declared.reason.Reason.{Reason}
use Rattle.setl_top_status.specs.declared.reason.Reason.TheVariants as reason
use Rattle.setl_top_status.specs.declared.status.Status.{Status}
use Rattle.setl_top.specs.Explained.{IsExplained}
use Rattle.setl_top.specs.code.Explains.{WritesExplanation, explained_so, starved_of, ExplainsText, Explains, of_text, of_long}

-- the line of a reason, and its explanation behind it
pub is_explained : (source : List ℕ) (why : Reason) (line told text : List ℕ) → below.Explains source why told → line ≡ reason_line why ++ 10 ∷ [] → text ≡ line ++ told → IsExplained source why text
is_explained source why line told text e l t = record { told = told; explains = e; text_is = t ∙ ap (λ x. x ++ told) l }

-- what is told of a source that is too long is told of each
of_each : (source other : List ℕ) (text : List ℕ) → IsExplained source reason.TooLong text → IsExplained other reason.TooLong text
of_each source other text e = record { told = e.told; explains = e.explains; text_is = e.text_is }

-- so is what is written of it
written_of_each : (source other : List ℕ) (out out' err err' : Seen (List ℕ)) (ends : Status) → WritesExplanation source reason.TooLong out out' err err' ends → WritesExplanation other reason.TooLong out out' err err' ends
written_of_each source other out out' err err' _ (explained_so text w shown is written e) = explained_so text w shown (of_each source other text is) written e
written_of_each source other out out' err err' _ (starved_of none h) = starved_of none h

-- after a load that told nothing
module _ (name : List ℕ) (files files' : SeenFiles) (out out' err mid err' : Seen (List ℕ)) (still : IsStill name files files' err mid) where
  -- a source was explained then
  pub text_then : (source : List ℕ) → HasText (2 ^ 24) files.held name source → (ends : Status) → ExplainsText source out out' mid err' ends → Explains name files files' out out' err err' ends
  text_then source t ends w = of_text source ends t.text still.load (subst (λ (o : Seen (List ℕ)). ExplainsText source out out' o err' ends) still.same w)

  -- or it was told that it is too long
  pub long_then : (other : List ℕ) → ((source : List ℕ) × IsText files.held name source × (2 ^ 24 < length source)) → (ends : Status) → WritesExplanation other reason.TooLong out out' mid err' ends → Explains name files files' out out' err err' ends
  long_then other t ends w =
      of_long t.0 ends t.1 t.2 still.load (subst (λ (o : Seen (List ℕ)). WritesExplanation t.0 reason.TooLong out out' o err' ends) still.same (written_of_each other t.0 out out' mid err' ends w))
