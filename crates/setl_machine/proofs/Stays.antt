-- A call that does nothing to the outside.
use Rattle.std.proofs.Common.{◌<◌, ℕ, Bool, List, [], ◌++◌, Option, None, Some, refl, sym, ◌∙◌, arith}
use Rattle.std.proofs.lemmas.List.{append-nil}
use Rattle.std.specs.Io.KnownBytes.{Appends, append_known}
use Rattle.setl_model_runs.specs.Run.{step}
use Rattle.setl_code.specs.Code.{Code}
use Rattle.setl_code.specs.CodeCore.{CodeCore}
use Rattle.setl_code.specs.Machine.{machine}
use Rattle.setl_text.specs.code.Reads.{StaysHonest, TakesOff}
use Rattle.setl_machine_control.specs.Declaring.{Modes, tested}
use Rattle.setl_machine_control.specs.Answers.{start, said}
use Rattle.setl_machine.specs.Outcome.{Seen, Ran}
use Rattle.setl_machine_control.specs.declared.end.End.TheVariants.{Paused, NoMemory}
use Rattle.setl_machine.proofs.Silence.{says_nothing}

pub appends_same : (b : Option (List ℕ)) → Appends b b []
appends_same None = tt
appends_same (Some a) = sym (append-nil a)

known_same : (b : Option (List ℕ)) → Appends (append_known b []) b []
known_same None = tt
known_same (Some a) = sym (append-nil (a ++ []) ∙ append-nil a)

pub honest_same : (ended : Bool) (left : Option (List ℕ)) → StaysHonest ended left ended left
honest_same ended None = tt
honest_same ended (Some l) = λ h e. h e

pub takes_none : (left : Option (List ℕ)) → TakesOff left left
takes_none None = ([], tt)
takes_none (Some l) = ([], refl)

-- no step
pub ran_none : (modes : Modes) (c : Code) (k : CodeCore) (seen : Seen) → Ran modes c 0 k seen seen k Paused
ran_none modes c k seen = (refl, appends_same seen.held, (refl, refl))

-- memory was refused at the first step
pub ran_refused : (modes : Modes) (c : Code) (n : ℕ) (k to : CodeCore) (seen : Seen) → 0 < n → Ran modes c n k seen seen to NoMemory
ran_refused modes c n k to seen h =
    (start k, said (step (machine c) (tested modes) (start k)), record { after = 0; fewer = h; reached = refl; says = refl }, says_nothing modes c k, (0, omega arith, known_same seen.held), (refl, refl))
