-- How the code stands after a step, and how a run ends.
use Rattle.std.specs.Prelude.{◌≡◌, ℕ, List, [], ◌++◌}
use Rattle.setl_model_runs.specs.Events as run
use Rattle.setl_model_runs.specs.Run.{State, Next, Goes, Ends, settle}
use Rattle.setl_code.specs.Code.{Code, Instr}
use Rattle.setl_code.specs.CodeCore.{CodeCore}
use Rattle.setl_code.specs.Machine.{machine, do_instr}
use Rattle.setl_store.specs.Standing.{over}
use Rattle.setl_machine_control.specs.Declaring.{Modes, tested, declared_at}
use Rattle.setl_machine_control.specs.declared.end.End.{End}
use Rattle.setl_machine_control.specs.declared.end.End.TheVariants as end
use Rattle.setl_machine_control.specs.declared.end.StopKind.{StopKind}
use Rattle.setl_machine_control.specs.declared.end.StopKind.TheVariants as kind

-- a state at which nothing was written or told yet
abbrev pub start : CodeCore → State CodeCore
start k = record { core = k; out = []; events = [] }

-- what an instruction of a line does at a core, where these declarations count
abbrev pub next_of : Modes → Code → ℕ → Instr → CodeCore → Next CodeCore
next_of modes c line i k = settle (machine c) (tested modes) (start k) (do_instr c line i k)

-- the bytes written
abbrev pub said : Next CodeCore → List ℕ
said (Goes s) = s.out
said (Ends e s) = s.out

-- why a run stops; a declaration is named by its place
abbrev pub kind_of : Modes → StopKind → run.StopKind
kind_of modes kind.Om = run.Om
kind_of modes kind.Kind = run.Kind
kind_of modes kind.Zero = run.Zero
kind_of modes kind.Range = run.Range
kind_of modes kind.Wide = run.Wide
kind_of modes kind.Deep = run.Deep
kind_of modes kind.Form = run.Form
kind_of modes kind.Nothing = run.Nothing
kind_of modes (kind.Unfit k) = run.Unfit (declared_at modes k)

-- The same but for the operands of the body at work, and for bytes of the input that were taken ahead for a read that
-- stopped.
abbrev pub IsLikely : CodeCore → CodeCore → Type 0
IsLikely a b = (taken : List ℕ) × (over [] a ≡ over [] (record b { world = record b.world { input = taken ++ b.world.input } }))

-- The answer says how the code stands there, and the core now is the last state's, or likely so at an end.
abbrev pub Answers : Modes → Next CodeCore → CodeCore → End → Type 0
Answers modes (Goes s) k end.Paused = s.core ≡ k
Answers modes (Ends e s) k end.Done = (e ≡ run.Done) × IsLikely s.core k
Answers modes (Ends e s) k (end.Stopped why line) = (e ≡ run.Stopped (kind_of modes why) line) × IsLikely s.core k
Answers modes (Ends e s) k end.Spent = (e ≡ run.Spent) × IsLikely s.core k
Answers modes (Ends e s) k end.Stuck = (e ≡ run.Stuck) × IsLikely s.core k
Answers modes n k e = ⊥

-- What an instruction did that neither reads nor writes. After want of memory nothing is known of the core.
abbrev pub Quiet : Modes → Next CodeCore → CodeCore → End → Type 0
Quiet modes n k end.NoMemory = Unit {0}
Quiet modes n k e = Answers modes n k e × (said n ≡ [])
