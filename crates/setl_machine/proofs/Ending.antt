-- A step that ends a run writes and tells nothing.
use Rattle.std.proofs.Common.{◌≡◌, ◌⊎◌, inl, inr, ◌∙◌, ℕ, List, [], ◌∷◌, ◌++◌, length, refl, sym, ap, arith}
use Rattle.std.proofs.lemmas.List.{append-nil}
use Rattle.setl_model_runs.specs.Events.{End}
use Rattle.setl_model_runs.specs.Run.{State, Next, Goes, Ends, settle, step}
use Rattle.setl_code.specs.Code.{Code}
use Rattle.setl_code.specs.CodeCore.{Popped, Pops, Lacks, popped, CodeCore}
use Rattle.setl_code.specs.Machine.{on_popped, print_values, do_step, machine}
use Rattle.setl_machine_control.specs.Declaring.{Modes, tested}
use Rattle.setl_machine_control.specs.Answers.{start, said}
use Rattle.setl_code_events.specs.Told.{EndsTellNothing}
use Rattle.setl_machine.specs.Outcome.{AtPrint, EndsWriteNothing, EndsChangeNothing, StepsAdd, behind, all_behind}
use Rattle.setl_machine.proofs.Hearing.{ends_silent}
use Rattle.setl_machine.proofs.RunLaws.{step_behind}
use Rattle.setl_machine.proofs.SlotsKept.{same_slots}
use Rattle.setl_machine.proofs.Silence.{says_nothing}

none_long : (xs : List ℕ) → length xs ≡ 0 → xs ≡ []
none_long [] h = refl
none_long (x ∷ xs) h = absurd (omega (arith, h))

module _ (c : Code) (modes : Modes) (k : CodeCore) (e : End) (s : State CodeCore) where
  printed : (p : Popped) → settle (machine c) (tested modes) (start k) (on_popped p (λ vs xs. print_values vs xs k)) ≡ Ends e s → s.out ≡ []
  printed Lacks h = ap said (sym h)
  printed (Pops vs xs) h = absurd (cc)

  ended : (length (said (step (machine c) (tested modes) (start k))) ≡ 0) ⊎ AtPrint c k → step (machine c) (tested modes) (start k) ≡ Ends e s → s.out ≡ []
  ended (inl h) i = ap said (sym i) ∙ none_long (said (step (machine c) (tested modes) (start k))) h
  ended (inr print) i =
      printed (popped print.1 [] k.now.operands) (ap (λ f. settle (machine c) (tested modes) (start k) (do_step c f k)) (sym print.2) ∙ i)

pub ends_nothing : EndsWriteNothing
ends_nothing c modes k e s h = ended c modes k e s (says_nothing modes c k) h

-- ---- from any state

pub steps_add : StepsAdd
steps_add c test a = step_behind (machine c) test a

ends_behind : (a s : State CodeCore) (e : End) (x : Next CodeCore) → ((f : End) (t : State CodeCore) → x ≡ Ends f t → (t.out ≡ []) × (t.events ≡ [])) → all_behind a x ≡ Ends e s → (s.out ≡ a.out) × (s.events ≡ a.events)
ends_behind a s e (Goes t) none h = absurd (cc)
ends_behind a s e (Ends f t) none h =
    let same : behind a t ≡ s = cc in
    let nothing = none f t refl in (
      sym (ap (λ (z : State CodeCore). z.out) same) ∙ ap (λ o. a.out ++ o) nothing.0 ∙ append-nil a.out,
      sym (ap (λ (z : State CodeCore). z.events) same) ∙ ap (λ es. a.events ++ es) nothing.1 ∙ append-nil a.events,
    )

pub changes_nothing : EndsTellNothing → EndsChangeNothing
changes_nothing quiet c modes a s e main bare h =
    let none = ends_behind a s e (step (machine c) (tested modes) (start a.core)) (λ f t is. (ends_nothing c modes a.core f t is, ends_silent quiet modes c a.core f t main bare is)) (sym (steps_add c (tested modes) a) ∙ h) in
    (none.0, none.1, same_slots c modes a e s main bare h)
