-- The laws of the bound on turns.
use Rattle.std.proofs.Common.{◌≡◌, refl, sym, ap, ◌∙◌, subst, ℕ, Bool, List, [], ◌++◌, append-nil}
use Rattle.std.specs.Prelude.{◌≤◌}
use Rattle.setl_program.specs.Program.{Program}
use Rattle.setl_model_runs.specs.Events.{End, Done, Stopped, Spent, Stuck}
use Rattle.setl_model_runs.specs.Run.{State, Next, Ends, run}
use Rattle.setl_model.specs.Core.{Core}
use Rattle.setl_model.specs.Laws.{IsFront, ReachedOutputIsFront}
use Rattle.setl_model.specs.Means.{first, Means}
use Rattle.setl_model.specs.Step.{language, test_of}
use Rattle.setl_model_turns.specs.Laws.{HasMoreTurns, IsFrontOfEvents, MoreTurnsKeepTheEnd, MoreTurnsGoOn, TurnsOnlyCut}
use Rattle.setl_model_turns.proofs.Steps.{Comes, KeepsLast, run_comes, passes, adds_until_end, one_end}

first_has_more : (p : Program) (input : List ℕ) (few many : ℕ) → few ≤ many → HasMoreTurns (first p input few) (first p input many)
first_has_more p input few many h = (many, h, refl)

same_out : (a b : State Core) → HasMoreTurns a b → b.out ≡ a.out
same_out a b (n, h, e) = ap (λ s. s.out) e

same_events : (a b : State Core) → HasMoreTurns a b → b.events ≡ a.events
same_events a b (n, h, e) = ap (λ s. s.events) e

ends_with : (e : End) (s : State Core) (y : Next Core) → (e ≡ Spent → ⊥) → KeepsLast e s y → (t : State Core) × (y ≡ Ends e t) × HasMoreTurns s t
ends_with Done s y other h = h
ends_with (Stopped why line) s y other h = h
ends_with Stuck s y other h = h
ends_with Spent s y other h = absurd (other refl)

pub keeps : MoreTurnsKeepTheEnd
keeps p input few many based out end le other h =
    let come = run_comes p (test_of p.modes based) h.steps (first p input few) (first p input many) (first_has_more p input few many le) in
    let last = ends_with end h.last _ other (subst (λ x. Comes x (run (language p) (test_of p.modes based) h.steps (first p input many))) h.ends come) in
    (record { steps = h.steps; last = last.0; ends = last.1; written = same_out h.last last.0 last.2 ∙ h.written }, last.2)

pub goes_on : MoreTurnsGoOn
goes_on p input few many based out le h =
    let passed = passes p (test_of p.modes based) h.steps (first p input few) (first p input many) h.last (first_has_more p input few many le) h.ends in
    (passed.1, (passed.0, passed.2), passed.3)

module _ (reached : ReachedOutputIsFront) where
  from_spent : (p : Program) (input : List ℕ) (few many : ℕ) (based : Bool) (out later : List ℕ) (last : End) → few ≤ many → (h : Means p input few based out Spent) → (g : Means p input many based later last) → IsFront out later × IsFrontOfEvents h.last.events g.last.events
  from_spent p input few many based out later last le h g =
      let on = goes_on p input few many based out le h in
      let front = reached p input many based on.0 later last on.1 g in
      let added = adds_until_end p (test_of p.modes based) on.1.0 g.steps (first p input many) on.0 g.last last on.1.1 g.ends in (
        (front.0, front.1 ∙ ap (λ o. o ++ front.0) (same_out h.last on.0 on.2 ∙ h.written)),
        (added.0, added.1 ∙ ap (λ o. o ++ added.0) (same_events h.last on.0 on.2)),
      )

  from_end : (p : Program) (input : List ℕ) (few many : ℕ) (based : Bool) (out later : List ℕ) (end last : End) → few ≤ many → (end ≡ Spent → ⊥) → (h : Means p input few based out end) → (g : Means p input many based later last) → IsFront out later × IsFrontOfEvents h.last.events g.last.events
  from_end p input few many based out later end last le other h g =
      let kept = keeps p input few many based out end le other h in
      let one = one_end p (test_of p.modes based) kept.0.steps g.steps (first p input many) kept.0.last g.last end last kept.0.ends g.ends in
      let same : kept.0.last ≡ g.last = cc in
      let outs : later ≡ out = sym g.written ∙ ap (λ s. s.out) (sym same) ∙ kept.0.written in
      let events : g.last.events ≡ h.last.events = ap (λ s. s.events) (sym same) ∙ same_events h.last kept.0.last kept.1 in
      (([], outs ∙ sym (append-nil out)), ([], events ∙ sym (append-nil h.last.events)))

  pub only_cut : TurnsOnlyCut
  only_cut p input few many based out later Spent last le h g = from_spent p input few many based out later last le h g
  only_cut p input few many based out later Done last le h g = from_end p input few many based out later Done last le (λ e. cc) h g
  only_cut p input few many based out later (Stopped why line) last le h g = from_end p input few many based out later (Stopped why line) last le (λ e. cc) h g
  only_cut p input few many based out later Stuck last le h g = from_end p input few many based out later Stuck last le (λ e. cc) h g
