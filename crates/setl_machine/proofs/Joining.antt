-- Runs in a row, with what they tell and what their events make of something.
use Rattle.std.proofs.Common.{◌≡◌, ◌∙◌, ◌+◌, ◌-◌, ◌≤◌, ℕ, List, [], ◌∷◌, ◌++◌, refl, sym, ap, subst, arith}
use Rattle.setl_model_runs.specs.Events.{Event}
use Rattle.setl_model_runs.specs.Run.{State, Next, Goes, Ends, step}
use Rattle.setl_model_runs.specs.Run as runs
use Rattle.setl_code.specs.Code.{Code}
use Rattle.setl_code.specs.CodeCore.{CodeCore}
use Rattle.setl_code.specs.Machine.{machine}
use Rattle.setl_machine_control.specs.Declaring.{Modes, tested}
use Rattle.setl_machine_control.specs.Answers.{start, Answers}
use Rattle.setl_machine_control.specs.declared.end.End.{End}
use Rattle.setl_machine_control.specs.declared.end.End.TheVariants.{Done, Stopped, Spent, Paused, ReadFault, WriteFault, NoMemory, Stuck}
use Rattle.setl_machine.specs.Gaining.{each_with, bases_by}
use Rattle.setl_machine.specs.Hearing.{events_told, Makes, RunMakes}
use Rattle.setl_machine.specs.Outcome.{Seen, Ran}
use Rattle.setl_machine.proofs.RanLaws.{Came, came}
use Rattle.setl_machine.proofs.RunLaws.{all_behind, run_joined, run_ended, run_one}

told_behind : (s : State CodeCore) (x : Next CodeCore) → events_told (all_behind s x) ≡ s.events ++ events_told x
told_behind s (Goes t) = refl
told_behind s (Ends e t) = refl

-- events in two parts make what they make as a whole
abbrev pub MakesInParts : {S : Type 0} → (List Event → S → S) → Type 0
MakesInParts {S} after = (es ds : List Event) (s : S) → after (es ++ ds) s ≡ after ds (after es s)

pub bases_in_parts : (modes : Modes) → MakesInParts (bases_by modes)
bases_in_parts modes [] ds bs = refl
bases_in_parts modes (e ∷ es) ds bs = bases_in_parts modes es ds (each_with modes 0 bs e)

-- they made it so, however it ended
pub made : {S : Type 0} (after : List Event → S → S) (x : Next CodeCore) (s u : S) → u ≡ after (events_told x) s → (e : End) → Makes after x s u e
made after x s u h Done = h
made after x s u h (Stopped why line) = h
made after x s u h Spent = h
made after x s u h Paused = h
made after x s u h Stuck = h
made after x s u h ReadFault = tt
made after x s u h WriteFault = tt
made after x s u h NoMemory = tt

-- by what others made
made_by : {S : Type 0} (after : List Event → S → S) (x y : Next CodeCore) (s t u : S) → (u ≡ after (events_told y) t → u ≡ after (events_told x) s) → (e : End) → Makes after y t u e → Makes after x s u e
made_by after x y s t u f Done h = f h
made_by after x y s t u f (Stopped why line) h = f h
made_by after x y s t u f Spent h = f h
made_by after x y s t u f Paused h = f h
made_by after x y s t u f Stuck h = f h
made_by after x y s t u f ReadFault h = tt
made_by after x y s t u f WriteFault h = tt
made_by after x y s t u f NoMemory h = tt

-- two runs in a row, of which the first paused
pub makes_join : {S : Type 0} (after : List Event → S → S) → MakesInParts after → (modes : Modes) (c : Code) (n j : ℕ) (from mid : CodeCore) (old now : Seen) (s t u : S) (e : End) → Ran modes c n from old now mid Paused → RunMakes after modes c n from s t Paused → RunMakes after modes c j mid t u e → RunMakes after modes c (n + j) from s u e
makes_join after parts modes c n j from mid old now s t u e p a b = made_by after all next s t u both e b
  where
    first : Next CodeCore
    first = runs.run (machine c) (tested modes) n (start from)

    next : Next CodeCore
    next = runs.run (machine c) (tested modes) j (start mid)

    all : Next CodeCore
    all = runs.run (machine c) (tested modes) (n + j) (start from)

    w : Came first old now mid
    w = came modes first old now mid p

    whole : events_told all ≡ w.state.events ++ events_told next
    whole =
        ap events_told (run_joined (machine c) (tested modes) n j (start from) w.state w.goes ∙ ap (λ k. all_behind w.state (runs.run (machine c) (tested modes) j (start k))) w.core)
        ∙ told_behind w.state next

    both : u ≡ after (events_told next) t → u ≡ after (events_told all) s
    both b =
        b
        ∙ ap (after (events_told next)) (a ∙ ap (λ x. after (events_told x) s) w.goes)
        ∙ sym (ap (λ es. after es s) whole ∙ parts w.state.events (events_told next) s)

-- one step is a run of one
pub makes_one : {S : Type 0} (after : List Event → S → S) (modes : Modes) (c : Code) (k : CodeCore) (s u : S) (e : End) → Makes after (step (machine c) (tested modes) (start k)) s u e → RunMakes after modes c 1 k s u e
makes_one after modes c k s u e g = subst (λ x. Makes after x s u e) (sym (run_one (machine c) (tested modes) (start k))) g

-- a run that ended is one of more steps
pub makes_longer : {S : Type 0} (after : List Event → S → S) (modes : Modes) (c : Code) (n k : ℕ) (from to : CodeCore) (old new : Seen) (s u : S) (e : End) → (e ≡ Paused → ⊥) → n ≤ k → Ran modes c n from old new to e → RunMakes after modes c n from s u e → RunMakes after modes c k from s u e
makes_longer after modes c n k from to old new s u e ne le p g = go e ne p g
  where
    total : n + (k - n) ≡ k
    total = omega arith

    first : Next CodeCore
    first = runs.run (machine c) (tested modes) n (start from)

    all : Next CodeCore
    all = runs.run (machine c) (tested modes) k (start from)

    longer : (x : Next CodeCore) (e : End) → first ≡ x → (e ≡ Paused → ⊥) → Answers modes x to e → u ≡ after (events_told first) s → u ≡ after (events_told all) s
    longer (Ends d t) e h ne a g =
        g ∙ ap (λ x. after (events_told x) s) (h ∙ sym (ap (λ j. runs.run (machine c) (tested modes) j (start from)) (sym total) ∙ run_ended (machine c) (tested modes) n (k - n) (start from) d t h))
    longer (Goes t) Paused h ne a g = absurd (ne refl)
    longer (Goes t) Done h ne a g = absurd a
    longer (Goes t) (Stopped why line) h ne a g = absurd a
    longer (Goes t) Spent h ne a g = absurd a
    longer (Goes t) Stuck h ne a g = absurd a
    longer (Goes t) ReadFault h ne a g = absurd a
    longer (Goes t) WriteFault h ne a g = absurd a
    longer (Goes t) NoMemory h ne a g = absurd a

    go : (e : End) → (e ≡ Paused → ⊥) → Ran modes c n from old new to e → RunMakes after modes c n from s u e → RunMakes after modes c k from s u e
    go Done ne p g = longer first Done refl ne p.0 g
    go (Stopped why line) ne p g = longer first (Stopped why line) refl ne p.0 g
    go Spent ne p g = longer first Spent refl ne p.0 g
    go Stuck ne p g = longer first Stuck refl ne p.0 g
    go Paused ne p g = absurd (ne refl)
    go ReadFault ne p g = tt
    go WriteFault ne p g = tt
    go NoMemory ne p g = tt
