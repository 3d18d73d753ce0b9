-- What the store of a run has to dump at its end.
use Rattle.std.specs.Prelude.{◌≡◌, ℕ, List, [], ◌∷◌, length}
use Rattle.setl_model_runs.specs.Events.{Event}
use Rattle.setl_model_runs.specs.Run.{Next}
use Rattle.setl_model_runs.specs.Run as runs
use Rattle.setl_model.specs.Entered.{entered}
use Rattle.setl_model.specs.World.{World}
use Rattle.setl_code.specs.Code.{Code}
use Rattle.setl_code.specs.CodeCore.{CodeCore}
use Rattle.setl_code.specs.Machine.{machine}
use Rattle.setl_code_layout.specs.Layout.{code_layout, members_of, NamesWithin}
use Rattle.setl_store.specs.Gained.{no_members}
use Rattle.setl_store.specs.Standing.{Standing}
use Rattle.setl_machine_control.specs.Answers.{start}
use Rattle.setl_machine_control.specs.Control.{in_world}
use Rattle.setl_machine_control.specs.Declaring.{Modes, tested}
use Rattle.setl_machine_control.specs.declared.end.End.{End}
use Rattle.setl_machine_control.specs.declared.end.End.TheVariants as end
use Rattle.setl_machine.specs.Gaining.{bases_after, RunGains}
use Rattle.setl_machine.specs.Hearing.{events_told}
use Rattle.setl_machine.specs.Outcome.{last, Seen, Ran}

-- the modes of the declared variables name none but so many bases
abbrev pub AllNameWithin : ℕ → Modes → Type 0
AllNameWithin count [] = Unit {0}
AllNameWithin count (m ∷ ms) = NamesWithin count m.1 × AllNameWithin count ms

-- the members of each base are what the events enter into it
abbrev pub BasesAreEntered : Type 0
BasesAreEntered = (modes : Modes) (count : ℕ) (es : List Event) → AllNameWithin count modes → (n : ℕ) → members_of (bases_after modes (no_members count) es) n ≡ entered modes n es

-- and no base comes or goes
abbrev pub BasesStayAsMany : Type 0
BasesStayAsMany = (modes : Modes) (count : ℕ) (es : List Event) → length (bases_after modes (no_members count) es) ≡ count

-- Where a run ended, the dump of what the store holds and tells is that of its last state; after a fault and want of memory nothing is known of it.
abbrev pub LaysOut : List (List ℕ) → Modes → Next CodeCore → Standing → End → Type 0
LaysOut names modes x s end.ReadFault = Unit {0}
LaysOut names modes x s end.WriteFault = Unit {0}
LaysOut names modes x s end.NoMemory = Unit {0}
LaysOut names modes x s end.Paused = Unit {0}
LaysOut names modes x s e = code_layout names modes (members_of s.bases) s.core ≡ code_layout names modes (λ n. entered modes n (events_told x)) (last x)

abbrev pub RunsLayOut : Type 0
RunsLayOut = (names : List (List ℕ)) (modes : Modes) (count : ℕ) (c : Code) (n : ℕ) (from : CodeCore) (old new : Seen) (w : World) (s : Standing) (e : End) → AllNameWithin count modes →
    Ran modes c n from old new (in_world w s.core) e → RunGains modes c n from (no_members count) s.bases e → LaysOut names modes (runs.run (machine c) (tested modes) n (start from)) s e
