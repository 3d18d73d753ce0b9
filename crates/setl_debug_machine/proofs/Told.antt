-- What a walk adds is the part of the screen.
use Rattle.std.proofs.Common.{◌≡◌, ◌∙◌, ℕ, List, ◌++◌, Result, Ok, Err, OnOk, OnErr, if◌then◌else◌, ap}
use Rattle.std.specs.Result.{is_ok}
use Rattle.setl_watch.specs.Profiles.{profile}
use Rattle.setl_watch.specs.Watches.{reported}
use Rattle.setl_debug_machine.specs.Screens.{PlainRun}
use Rattle.setl_debug_machine.specs.code.Walks.{AddsPart, Sees, written_by}
use Rattle.setl_debug_machine.specs.declared.walk.Walk.{Walk}

pub adds_written : {A E : Type 0} (r : PlainRun) (turns : ℕ) (w : Walk) (done : Result A E) (before bytes after : List ℕ) → Sees r turns w → bytes ≡ written_by w → after ≡ (if is_ok done then before ++ bytes else before) → OnOk done (AddsPart r turns (λ s. s.written) before after)
adds_written r turns w (Ok x) before bytes after sees is new = (sees.screen, sees.is, new ∙ ap (λ b. before ++ b) (is ∙ sees.written))
adds_written r turns w (Err e) before bytes after sees is new = tt

-- after an error it is as before
pub leaves : {A E : Type 0} (done : Result A E) (before bytes after : List ℕ) → after ≡ (if is_ok done then before ++ bytes else before) → OnErr done (after ≡ before)
leaves (Ok x) before bytes after new = tt
leaves (Err e) before bytes after new = new

pub adds_profile : {A E : Type 0} (r : PlainRun) (turns : ℕ) (w : Walk) (done : Result A E) (before after : List ℕ) → Sees r turns w → OnOk done (after ≡ before ++ reported (profile w.tally.profile)) → OnOk done (AddsPart r turns (λ s. s.profile) before after)
adds_profile r turns w (Ok x) before after sees new = (sees.screen, sees.is, new ∙ ap (λ b. before ++ b) sees.calls)
adds_profile r turns w (Err e) before after sees new = tt
