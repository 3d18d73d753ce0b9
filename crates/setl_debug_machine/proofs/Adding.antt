-- What the answers of a run add.
use Rattle.std.proofs.Common.{◌≡◌, ◌∙◌, sym, ap, subst, ℕ, List, [], ◌++◌, Option, Some, Result, Ok, Err, OnOk}
use Rattle.setl_model_turns.specs.Laws.{TurnsOnlyCut}
use Rattle.setl_debug_target.specs.Screens.{Screen, Stand, Sees}
use Rattle.setl_debug_machine.specs.Growing.{HasScreen}
use Rattle.setl_debug_machine.specs.Screens.{PlainRun}
use Rattle.setl_debug_machine.specs.code.Walks.{AddsPart}

-- a part of the screen at the place where a run stands
pub adds_there : {A E : Type 0} (result : Result A E) (r : PlainRun) (turns line : ℕ) (stand : Option Stand) (part : Screen → List ℕ) (before after : List ℕ) → TurnsOnlyCut → stand ≡ Some (record { turns = turns; line = line }) →
    OnOk result (AddsPart r turns part before after) → OnOk result (Sees (HasScreen r) stand (λ place s. after ≡ before ++ part s))
adds_there (Ok x) r turns line stand part before after cut there a = subst (λ p. Sees (HasScreen r) p (λ place s. after ≡ before ++ part s)) (sym there) (a.0, (a.1, cut), a.2)
adds_there (Err e) r turns line stand part before after cut there a = tt

-- the same of a part that was written apart, into no bytes, and then added
pub adds_apart : {A E : Type 0} (result : Result A E) (r : PlainRun) (turns : ℕ) (part : Screen → List ℕ) (none text before after : List ℕ) → none ≡ [] → AddsPart r turns part none text → OnOk result (after ≡ before ++ text) → OnOk result (AddsPart r turns part before after)
adds_apart (Ok x) r turns part none text before after empty a more = (a.0, a.1, more ∙ ap (λ t. before ++ t) (a.2 ∙ ap (λ n. n ++ part a.0) empty))
adds_apart (Err e) r turns part none text before after empty a more = tt
