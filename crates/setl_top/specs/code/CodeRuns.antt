-- What a run of code does to its input and its output, and what its watchers are told, where some variables are declared; and its
-- dump.
use Rattle.std.specs.Prelude.{◌≡◌, ℕ, Bool, true, false, List, [], ◌++◌, if◌then◌else◌}
use Rattle.setl_model.specs.Entered.{Base, entered}
use Rattle.setl_model_runs.specs.Run.{Next}
use Rattle.setl_model_runs.specs.Run as runs
use Rattle.setl_code.specs.Code.{Code}
use Rattle.setl_code.specs.CodeCore.{CodeCore}
use Rattle.setl_code.specs.CodeMeans.{code_first}
use Rattle.setl_code.specs.Machine.{machine}
use Rattle.setl_code_layout.specs.Layout.{code_layout}
use Rattle.setl_text.specs.code.Reads.{TakesOff}
use Rattle.setl_machine_control.specs.Answers.{start}
use Rattle.setl_machine_control.specs.Declaring.{Modes, tested}
use Rattle.setl_machine.specs.Hearing.{events_told, Hears}
use Rattle.setl_machine.specs.Outcome.{last, Ran, ReadsOnly, Seen, seen}
use Rattle.setl_machine.specs.Writing.{RunWrites}
use Rattle.setl_machine_control.specs.declared.end.End.{End}
use Rattle.setl_machine_control.specs.declared.end.End.TheVariants as end
use Rattle.setl_watch.specs.Watches.{Watched}
use Rattle.setl_top.specs.Headline.{IsInput, IsLeft}
use Rattle.setl_top.specs.Watching.{headed}
use Rattle.setl_top.specs.code.Runs.{Streams, streams}

-- what the machine's contract sees of the output and the input
abbrev pub seen_of : Streams → Seen
seen_of s = seen s.output.held s.output.faults s.input.faults

-- From its first state the machine did some steps of the code on this input, and ended so. What it left of the input and
-- what it keeps of it is what the last state has. Each print was one piece for the output.
pub record RunsCode (c : Code) (modes : Modes) (turns : ℕ) (before after : Streams) (e : End) : Type 0 where
  pub input : List ℕ
  pub known : IsInput before.input.held input
  pub steps : ℕ
  pub last : CodeCore
  pub ran : Ran modes c steps (code_first c input turns).core (seen_of before) (seen_of after) last e
  pub reads : ReadsOnly modes c steps (code_first c input turns).core before.output.held after.output.held before.input.held after.input.held
  pub left : IsLeft before.input.held after.input.held last.world.input
  pub took : TakesOff before.input.held after.input.held
  pub whole : ¬ (e ≡ end.Paused)
  pub heard : Hears modes c steps (code_first c input turns).core before.watchers after.watchers e
  pub wrote : RunWrites modes c steps (code_first c input turns).core before.output.calls after.output.calls e

-- ---- the dump

-- whether that is an end of the program itself
abbrev pub is_own : End → Bool
is_own end.Done = true
is_own (end.Stopped why line) = true
is_own end.Spent = true
is_own e = false

-- Of an end with this dump the reports were made these, and the answer is this: the dump was put before them, or memory was refused
-- for that; of another end they are as before.
pub data PutsDump (dump : List ℕ) (e : End) (before after : List ℕ) : End → Type 0 where
  put : is_own e ≡ true → after ≡ dump ++ before → PutsDump dump e before after e
  no_room : is_own e ≡ true → PutsDump dump e before after end.NoMemory
  no_dump : is_own e ≡ false → after ≡ before → PutsDump dump e before after e

-- the dump of the last state of a run of code
abbrev pub last_dump : List (List ℕ) → Modes → Next CodeCore → List ℕ
last_dump names modes x = code_layout names modes (λ b. entered modes b (events_told x)) (last x)

-- what stands before the reports at an end whose dump is this
abbrev pub front : Bool → End → List ℕ → List ℕ
front dump end.Done text = if dump then text else []
front dump (end.Stopped why line) text = if dump then text else []
front dump end.Spent text = if dump then text else []
front dump e text = []

-- The machine ran the code, and where the dump is asked for, that of the state in which the program ended stands before the
-- reports; or memory was refused for that.
pub data DumpsCode (names : List (List ℕ)) (c : Code) (modes : Modes) (turns : ℕ) (dump : Bool) (before after : Streams) : End → Type 0 where
  dumped : (e : End) (heard : Watched) → (x : RunsCode c modes turns before (streams after.input after.output heard) e) → after.watchers ≡ headed (front dump e (last_dump names modes (runs.run (machine c) (tested modes) x.steps (start (code_first c x.input turns).core)))) heard → DumpsCode names c modes turns dump before after e
  not_dumped : (e : End) (heard : Watched) → is_own e ≡ true → RunsCode c modes turns before (streams after.input after.output heard) e → DumpsCode names c modes turns dump before after end.NoMemory
