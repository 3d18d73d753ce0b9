-- What becomes of a trial.
use Rattle.std.specs.Prelude.{◌≡◌, ◌-◌, ◌^◌, ℕ, Bool, true, false, List, [], ◌∷◌, ◌++◌, None}
use Rattle.setl_model.specs.Means.{Means}
use Rattle.setl_machine_control.specs.Answers.{kind_of}
use Rattle.setl_machine_control.specs.declared.end.End.{End}
use Rattle.setl_machine_control.specs.declared.end.End.TheVariants as end
use Rattle.setl_program.specs.Program.{Program}
use Rattle.setl_model_runs.specs.Events as run
use Rattle.setl_top.specs.Accepted.{Accepted, IsRefusedFor}
use Rattle.setl_top_status.specs.Ends.{error_line}
use Rattle.setl_top_status.specs.Lines.{TriesLine, fault_line}
use Rattle.setl_top_status.specs.Reasons.{reason_line}
use Rattle.setl_top.specs.Trials.{trial_source, trial_input, trial_line}
use Rattle.setl_top_status.specs.Seen.{Seen}
use Rattle.setl_top_status.specs.code.Writes.{Written}
use Rattle.setl_top.specs.Runnable.{OfProgram}
use Rattle.setl_top.specs.code.Ready.{IsReady}
use Rattle.setl_top.specs.code.Runs.{counted}
use Rattle.setl_top.specs.declared.ready.Ready.{Ready}
use Rattle.setl_top_status.specs.code.Tells.{Tells}
use Rattle.setl_top_status.specs.declared.fault.Fault.TheVariants as fault
use Rattle.setl_top_status.specs.declared.reason.Reason.{Reason}
use Rattle.setl_top_status.specs.declared.status.Status.{Status}
use Rattle.setl_top_status.specs.declared.status.Status.TheVariants as status
use Rattle.setl_top_words.specs.Words.{Options}

-- the options of a run of a trial
abbrev pub trial_options : Bool → Options
trial_options based = record { turns = 2 ^ 63 - 1; based = based; dump = false; watch = None }

-- the program of a trial is ready to run
pub record IsTrial (ready : Ready) : Type 0 where
  pub program : Program
  pub accepted : Accepted trial_source program
  pub bases : List (List ℕ)
  pub is_ready : IsReady (OfProgram bases program) ready

-- a run of this program on an input in memory, with its declarations or without, printed this and ended so in the machine
abbrev pub RunEnds : Program → List ℕ → Bool → List ℕ → End → Type 0
RunEnds program input based printed end.Done = Means program input (2 ^ 63 - 1) based printed run.Done
RunEnds program input based printed (end.Stopped why line) = Means program input (2 ^ 63 - 1) based printed (run.Stopped (kind_of (counted (trial_options based) (OfProgram [] program)) why) line)
RunEnds program input based printed end.Spent = Means program input (2 ^ 63 - 1) based printed run.Spent
RunEnds program input based printed end.ReadFault = ⊥
RunEnds program input based printed end.WriteFault = ⊥
RunEnds program input based printed end.NoMemory = ⊥
RunEnds program input based printed end.Paused = ⊥
RunEnds program input based printed end.Stuck = ⊥

-- a run of the program of a trial with its declarations printed this and ended so
pub record TrialRuns (seed nodes : ℕ) (printed : List ℕ) (end : run.End) : Type 0 where
  pub program : Program
  pub accepted : Accepted trial_source program
  pub means : Means program (trial_input seed nodes) (2 ^ 63 - 1) true printed end

-- what a trial does to the output and to the error output
pub data Tries (seed nodes : ℕ) (out out' err err' : Seen (List ℕ)) : Status → Type 0 where
  trial_refused : (reason : Reason) (ends : Status) → IsRefusedFor trial_source reason → out' ≡ out → Tells status.Refused (reason_line reason ++ 10 ∷ []) err err' ends → Tries seed nodes out out' err err' ends
  trial_done : (printed : List ℕ) (ends : Status) → TrialRuns seed nodes printed run.Done → Written (trial_line seed nodes printed) out out' err err' ends → Tries seed nodes out out' err err' ends
  trial_stopped : (printed : List ℕ) (kind : run.StopKind) (line : ℕ) (ends : Status) → TrialRuns seed nodes printed (run.Stopped kind line) → out' ≡ out → Tells status.Stopped (error_line (run.Stopped kind line)) err err' ends → Tries seed nodes out out' err err' ends
  trial_spent : (printed : List ℕ) (ends : Status) → TrialRuns seed nodes printed run.Spent → out' ≡ out → Tells status.Spent (error_line run.Spent) err err' ends → Tries seed nodes out out' err err' ends
  trial_starved : out' ≡ out → TriesLine (fault_line fault.NoMemory) err err' → Tries seed nodes out out' err err' status.NoMemory
