-- The dump of a store where a run ended.
use Rattle.std.proofs.Common.{◌≡◌, ◌∙◌, List, sym, ap}
use Rattle.setl_modes_dump.specs.Dump.{Bases}
use Rattle.setl_model.specs.Entered.{Base, entered}
use Rattle.setl_model_runs.specs.Run.{Next, Goes, Ends}
use Rattle.setl_model_runs.specs.Run as runs
use Rattle.setl_code.specs.CodeCore.{CodeCore}
use Rattle.setl_code.specs.Machine.{machine}
use Rattle.setl_code_layout.specs.Claims.{LaysOutVariablesAlone}
use Rattle.setl_code_layout.specs.Layout.{code_layout, members_of}
use Rattle.setl_store.specs.Gained.{no_members}
use Rattle.setl_machine_control.specs.Answers.{start, Answers, IsLikely}
use Rattle.setl_machine_control.specs.Control.{in_world}
use Rattle.setl_machine_control.specs.Declaring.{Modes, tested}
use Rattle.setl_machine_control.specs.declared.end.End.{End}
use Rattle.setl_machine_control.specs.declared.end.End.TheVariants.{Done, Stopped, Spent, Paused, ReadFault, WriteFault, NoMemory, Stuck}
use Rattle.setl_machine.specs.Gaining.{bases_after, RunGains}
use Rattle.setl_machine.specs.Hearing.{events_told}
use Rattle.setl_machine.specs.Outcome.{last, Ran}
use Rattle.setl_machine_layout.specs.Claims.{BasesAreEntered, LaysOut, RunsLayOut}

abbrev IsEnd : End → Type 0
IsEnd Paused = ⊥
IsEnd ReadFault = ⊥
IsEnd WriteFault = ⊥
IsEnd NoMemory = ⊥
IsEnd e = Unit {0}

-- at an end the core now is likely the last state's
likely : (modes : Modes) (x : Next CodeCore) (k : CodeCore) (e : End) → IsEnd e → Answers modes x k e → IsLikely (last x) k
likely modes (Ends d t) k Done i a = a.1
likely modes (Ends d t) k (Stopped why line) i a = a.1
likely modes (Ends d t) k Spent i a = a.1
likely modes (Ends d t) k Stuck i a = a.1
likely modes (Ends d t) k Paused i a = absurd i
likely modes (Ends d t) k ReadFault i a = absurd i
likely modes (Ends d t) k WriteFault i a = absurd i
likely modes (Ends d t) k NoMemory i a = absurd i
likely modes (Goes t) k Done i a = absurd a
likely modes (Goes t) k (Stopped why line) i a = absurd a
likely modes (Goes t) k Spent i a = absurd a
likely modes (Goes t) k Stuck i a = absurd a
likely modes (Goes t) k Paused i a = absurd i
likely modes (Goes t) k ReadFault i a = absurd i
likely modes (Goes t) k WriteFault i a = absurd i
likely modes (Goes t) k NoMemory i a = absurd i

pub dumps_are_alike : BasesAreEntered → LaysOutVariablesAlone → RunsLayOut
dumps_are_alike enter alone names modes count c n from old new w s e within p g = go e p g
  where
    x : Next CodeCore
    x = runs.run (machine c) (tested modes) n (start from)

    there : Bases
    there = λ b. entered modes b (events_told x)

    alike : IsLikely (last x) (in_world w s.core) → s.bases ≡ bases_after modes (no_members count) (events_told x) → code_layout names modes (members_of s.bases) s.core ≡ code_layout names modes there (last x)
    alike k g =
        ap (λ (bs : List Base). code_layout names modes (members_of bs) s.core) g
        ∙ ap (λ (bs : Bases). code_layout names modes bs s.core) (λ i b. enter modes count (events_told x) within b i)
        ∙ alone names modes there (last x) s.core (sym (ap (λ (k : CodeCore). k.globals) k.1)) (sym (ap (λ (k : CodeCore). k.now.own) k.1)) (sym (ap (λ (k : CodeCore). k.callers) k.1))

    ends : (e : End) → IsEnd e → Answers modes x (in_world w s.core) e → s.bases ≡ bases_after modes (no_members count) (events_told x) → code_layout names modes (members_of s.bases) s.core ≡ code_layout names modes there (last x)
    ends e i a g = alike (likely modes x (in_world w s.core) e i a) g

    go : (e : End) → Ran modes c n from old new (in_world w s.core) e → RunGains modes c n from (no_members count) s.bases e → LaysOut names modes x s e
    go Done p g = ends Done tt p.0 g
    go (Stopped why line) p g = ends (Stopped why line) tt p.0 g
    go Spent p g = ends Spent tt p.0 g
    go Stuck p g = ends Stuck tt p.0 g
    go Paused p g = tt
    go ReadFault p g = tt
    go WriteFault p g = tt
    go NoMemory p g = tt
