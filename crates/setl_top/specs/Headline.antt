-- What a call of the program answers, and what it does to the outside.
use Rattle.std.specs.Prelude.{◌≡◌, ◌⊎◌, ◌<◌, ◌≤◌, ℕ, Bool, List, [], ◌∷◌, ◌++◌, length, take, if◌then◌else◌, Option, None, Some, ⊤}
use Rattle.std.specs.Io.KnownBytes.{Appends, Consumes, prepend_known}
use Rattle.setl_io.specs.Faults.{Rose, more, one_more}
use Rattle.setl_machine.specs.Prints.{prints}
use Rattle.setl_model_runs.specs.Events.{End}
use Rattle.setl_model_runs.specs.Events as run
use Rattle.setl_program.specs.Program.{Program}
use Rattle.setl_explain_words.specs.Texts.{stop_text}
use Rattle.setl_explain_words.specs.declared.stop.Stop.{Stop}
use Rattle.setl_top.specs.Accepted.{Refusal}
use Rattle.setl_top_advice.specs.Advised.{HasRepr}
use Rattle.setl_top.specs.Built.{IsLongCode}
use Rattle.setl_top.specs.Outside.{Outside}
pub use Rattle.setl_top.specs.Requests.{IsToLoad, Job, IsInput, IsToRun, IsOfProgram, IsToList, IsToBuild, IsToAdvise, TellsRefusal, IsToRefuse, IsNoCode, IsToExplain, IsToDebug, IsNoScript, IsDebugged, IsDebuggedUpTo, IsTried}
use Rattle.setl_top.specs.Runnable.{Meant, IsAt, Printing, Reading}
use Rattle.setl_top.specs.Trials.{trial_source}
use Rattle.setl_top.specs.Watching.{IsThere, no_watcher_line, reports_of}
use Rattle.setl_top_images.specs.CodeFiles.{flaw_line}
use Rattle.setl_top_images.specs.declared.images.Flaw.TheVariants.{TooLong}
use Rattle.setl_top_status.specs.Ends.{status_of, error_line}
use Rattle.setl_top_status.specs.Lines.{BreaksIn, TriesLine, fault_line}
use Rattle.setl_top_status.specs.Seen.{CountRose, CountStays, LoadsOnce, FailsOnce, one_piece}
use Rattle.setl_top_status.specs.declared.fault.Fault.TheVariants as fault
use Rattle.setl_top_status.specs.declared.status.Status.{Status}
use Rattle.setl_top_status.specs.declared.status.Status.TheVariants.{Done, Refused, Words, Stopped, Spent, ReadFault, WriteFault, NoMemory}
use Rattle.setl_top_words.specs.Words.{Command, Options, Run, Check, Code, Build, Advise, Explain, TellStop, Trial, Spells, watched_by, IsFaulty}
use Rattle.setl_top_words.specs.Told.{TellsFaulty}
use Rattle.setl_top_words.specs.declared.reading.FileKind.{FileKind}

-- ---- what a run does that the words ask for

-- Where an input is told, what is left of it, behind some bytes that were taken ahead, is this.
abbrev pub IsLeft : Option (List ℕ) → Option (List ℕ) → List ℕ → Type 0
IsLeft None left bytes = ⊤
IsLeft (Some input) left bytes = (kept : List ℕ) × (prepend_known kept left ≡ Some bytes)

-- It comes to its end, which has this status, with this output. Each print is one write, so the output was handed so many pieces.
-- It leaves what its last state has of the input, but for bytes that were taken ahead. The dump of that state is told, where it is
-- asked for, then its watchers report what they were told of its events, and then comes the error line.
pub record IsRun (words : List (List ℕ)) (before : Outside) (status : Status) (out err : List ℕ) (left : Option (List ℕ)) (pieces : Option ℕ) : Type 0 where
  pub job : Job
  pub asked : IsToRun words before job
  pub end : End
  pub ends : status_of end ≡ Some status
  pub means : Meant job.runnable job.input job.turns job.based out end
  pub writes : pieces ≡ more (prints means.events) before.output.calls
  pub leaves : IsLeft before.input.held left means.left
  pub tells : err ≡ (if job.dump then means.dump else []) ++ reports_of job.watchers means.events ++ error_line end

-- it has written this at one of its states
pub record IsAtState (words : List (List ℕ)) (before : Outside) (out : List ℕ) : Type 0 where
  pub job : Job
  pub asked : IsToRun words before job
  pub at : IsAt job.runnable job.input job.turns job.based out

-- it has written this when a `print` of that line is in hand, and has this left of its input there
pub record IsAtPrint (words : List (List ℕ)) (before : Outside) (out line : List ℕ) : Type 0 where
  pub job : Job
  pub asked : IsToRun words before job
  pub left : List ℕ
  pub at : Printing job.runnable job.input job.turns job.based out line left

-- it has written this when a `read` is in hand
pub record IsAtRead (words : List (List ℕ)) (before : Outside) (out : List ℕ) : Type 0 where
  pub job : Job
  pub asked : IsToRun words before job
  pub at : Reading job.runnable job.input job.turns job.based out

-- ---- a call that comes to its end

-- what a trial with this line writes whose run ends so: the line where it is done, and otherwise nothing
abbrev pub trial_output : End → List ℕ → List ℕ
trial_output run.Done line = line
trial_output (run.Stopped why at) line = []
trial_output run.Spent line = []
trial_output run.Stuck line = []

-- the words ask for a trial with this line, whose run ends so, with this status
pub record TrialEnds (words : List (List ℕ)) (status : Status) (line : List ℕ) (end : End) : Type 0 where
  pub tried : IsTried words line end
  pub ends : status_of end ≡ Some status

-- Where nothing fails: the status, what is added to the output and to the error output, what is left of the input, and the
-- output's count of pieces, of which a text is one. How many a session writes isn't said.
pub data Answers (words : List (List ℕ)) (before : Outside) : Status → (out err : List ℕ) → (left : Option (List ℕ)) → (pieces : Option ℕ) → Type 0 where
  faulty_words : (told : List ℕ) → IsFaulty words → TellsFaulty words told → Answers words before Words [] told before.input.held before.output.calls
  no_such_watcher : (command : Command) → Spells words command → (IsThere (watched_by command) before.watchers → ⊥) → Answers words before Words [] no_watcher_line before.input.held before.output.calls
  refused : (line : List ℕ) → IsToRefuse words before line → Answers words before Refused [] (line ++ 10 ∷ []) before.input.held before.output.calls
  checked : IsOfProgram words before Check → Answers words before Done [] [] before.input.held before.output.calls
  code_refused : (line : List ℕ) → IsNoCode words before line → Answers words before Refused [] (line ++ 10 ∷ []) before.input.held before.output.calls
  listed : (text : List ℕ) → IsToList words before text → Answers words before Done text [] before.input.held (one_piece text before.output.calls)
  built : (bytes : List ℕ) → IsToBuild words before bytes → Answers words before Done bytes [] before.input.held (one_piece bytes before.output.calls)
  too_long_built : (a : IsOfProgram words before Build) → IsLongCode a.tree → Answers words before Refused [] (flaw_line TooLong ++ 10 ∷ []) before.input.held before.output.calls
  advised : (text : List ℕ) → IsToAdvise words before text → Answers words before Done text [] before.input.held (one_piece text before.output.calls)
  has_repr : (line : List ℕ) (a : IsOfProgram words before Advise) → HasRepr a.tree line → Answers words before Refused [] (line ++ 10 ∷ []) before.input.held before.output.calls
  explained : (text : List ℕ) → IsToExplain words before text → Answers words before Refused text [] before.input.held (one_piece text before.output.calls)
  no_fault : IsOfProgram words before Explain → Answers words before Done [] [] before.input.held before.output.calls
  stop_told : (stop : Stop) → Spells words (TellStop stop) → Answers words before Done (stop_text stop) [] before.input.held (one_piece (stop_text stop) before.output.calls)
  script_refused : (line : List ℕ) (left : Option (List ℕ)) → IsNoScript words before line left → Answers words before Refused [] (line ++ 10 ∷ []) left before.output.calls
  debugged : (told : List ℕ) (left : Option (List ℕ)) (pieces : Option ℕ) → (a : IsDebugged words before told) → Consumes before.input.held left a.asked.bytes → Answers words before Done told [] left pieces
  run_ended : (status : Status) (out err : List ℕ) (left : Option (List ℕ)) (pieces : Option ℕ) → IsRun words before status out err left pieces → Answers words before status out err left pieces
  trial_refused : (seed nodes : ℕ) (line : List ℕ) → Spells words (Trial seed nodes) → Refusal trial_source line → Answers words before Refused [] (line ++ 10 ∷ []) before.input.held before.output.calls
  trial_ended : (status : Status) (line : List ℕ) (end : End) → TrialEnds words status line end → Answers words before status (trial_output end line) (error_line end) before.input.held (one_piece (trial_output end line) before.output.calls)

-- The one load of a call: where the words name a file, it is of that file and no fault, and where they name none, there is none.
pub data LoadsAsked (words : List (List ℕ)) (before after : Outside) : Type 0 where
  loads_it : (name : List ℕ) → IsToLoad words before name → LoadsOnce name before.files after.files → LoadsAsked words before after
  loads_none : ((name : List ℕ) → IsToLoad words before name → ⊥) → after.files ≡ before.files → LoadsAsked words before after

-- nothing failed before the last line was tried on the error output
pub record IsQuiet (words : List (List ℕ)) (before after : Outside) : Type 0 where
  pub files : LoadsAsked words before after
  pub input : CountStays before.input after.input
  pub output : CountStays before.output after.output

-- the call came to its end; what is told is one piece, and where nothing is told, the error output is as before
pub record Ended (words : List (List ℕ)) (before after : Outside) (status : Status) : Type 0 where
  pub out : List ℕ
  pub err : List ℕ
  pub answer : Answers words before status out err after.input.held after.output.calls
  pub out_gained : Appends before.output.held after.output.held out
  pub err_gained : Appends before.error_output.held after.error_output.held err
  pub quiet : IsQuiet words before after
  pub told : CountStays before.error_output after.error_output
  pub piece : after.error_output.calls ≡ one_piece err before.error_output.calls
  pub silent : err ≡ [] → after.error_output ≡ before.error_output

-- ---- a call that is broken off

-- some of a listing, of a code file, of advice, of an explanation, of the text of a stop or of a trial's line, and not all of it
pub data UpToWrite (words : List (List ℕ)) (before : Outside) : List ℕ → Type 0 where
  in_listing : (text : List ℕ) (n : ℕ) → IsToList words before text → n < length text → UpToWrite words before (take n text)
  in_code_file : (bytes : List ℕ) (n : ℕ) → IsToBuild words before bytes → n < length bytes → UpToWrite words before (take n bytes)
  in_advice : (text : List ℕ) (n : ℕ) → IsToAdvise words before text → n < length text → UpToWrite words before (take n text)
  in_explanation : (text : List ℕ) (n : ℕ) → IsToExplain words before text → n < length text → UpToWrite words before (take n text)
  in_stop : (stop : Stop) (n : ℕ) → Spells words (TellStop stop) → n < length (stop_text stop) → UpToWrite words before (take n (stop_text stop))
  in_trial : (line : List ℕ) (n : ℕ) → IsTried words line run.Done → n < length line → UpToWrite words before (take n line)

-- anywhere: nothing, the output of a state, the output up to a print with some of its line, and not all of it, a front of
-- what the first commands of a session tell, or what stands where a text is being written
pub data UpToAny (words : List (List ℕ)) (before : Outside) : List ℕ → Type 0 where
  no_program : UpToAny words before []
  at_state : (out : List ℕ) → IsAtState words before out → UpToAny words before out
  in_print : (out line : List ℕ) (n : ℕ) → IsAtPrint words before out line → n < length line → UpToAny words before (out ++ take n line)
  in_session : (told : List ℕ) (n : ℕ) → IsDebuggedUpTo words before told → n ≤ length told → UpToAny words before (take n told)
  in_write : (out : List ℕ) → UpToWrite words before out → UpToAny words before out

-- the one load, of the file that the words name, failed, and the input and the output are as before
pub record LoadFailed (words : List (List ℕ)) (before after : Outside) : Type 0 where
  pub name : List ℕ
  pub asked : IsToLoad words before name
  pub failed : FailsOnce name before.files after.files
  pub input : after.input ≡ before.input
  pub output : after.output ≡ before.output

-- a read failed in a run, after this output, and nothing else did
pub record InputFailed (words : List (List ℕ)) (before after : Outside) (out : List ℕ) : Type 0 where
  pub rose : CountRose before.input after.input
  pub reading : IsAtRead words before out
  pub files : LoadsAsked words before after
  pub output : CountStays before.output after.output

-- a read of a session's script failed, nothing else did, and the output is as before
pub record ScriptFailed (words : List (List ℕ)) (before after : Outside) : Type 0 where
  pub program : Program
  pub based : Bool
  pub asked : IsToDebug words before program based
  pub rose : CountRose before.input after.input
  pub files : LoadsAsked words before after
  pub output : after.output ≡ before.output

-- what couldn't be read, with what the output has gained then
pub data ReadCause (words : List (List ℕ)) (before after : Outside) : (out : List ℕ) → Type 0 where
  load_failed : LoadFailed words before after → ReadCause words before after []
  script_failed : ScriptFailed words before after → ReadCause words before after []
  read_failed : (out : List ℕ) → InputFailed words before after out → ReadCause words before after out

-- the line of the fault is tried, and nothing else is told
pub record ReadFailed (words : List (List ℕ)) (before after : Outside) : Type 0 where
  pub out : List ℕ
  pub cause : ReadCause words before after out
  pub out_gained : Appends before.output.held after.output.held out
  pub tried : TriesLine (fault_line fault.Read) before.error_output after.error_output

-- The output failed in a print, after the output up to it and some of its line, and not all of it, and nothing else did.
-- The input has what the run had left there, but for bytes that were taken ahead. The line of the fault is tried.
pub record PrintFailed (words : List (List ℕ)) (before after : Outside) (out line : List ℕ) (n : ℕ) : Type 0 where
  pub rose : CountRose before.output after.output
  pub printing : IsAtPrint words before out line
  pub part : n < length line
  pub leaves : IsLeft before.input.held after.input.held printing.left
  pub files : LoadsAsked words before after
  pub input : CountStays before.input after.input
  pub tried : TriesLine (fault_line fault.Write) before.error_output after.error_output

-- the output failed in a text that was being written, nothing else did, the input is as before, and the line of the fault is
-- tried
pub record TextFailed (words : List (List ℕ)) (before after : Outside) (out : List ℕ) : Type 0 where
  pub rose : CountRose before.output after.output
  pub writing : UpToWrite words before out
  pub files : LoadsAsked words before after
  pub input : after.input ≡ before.input
  pub tried : TriesLine (fault_line fault.Write) before.error_output after.error_output

-- The output failed in what the first commands of a session tell, of which it has gained some, and not all, and nothing else
-- did. The script was taken off the input, and the line of the fault is tried.
pub record SessionFailed (words : List (List ℕ)) (before after : Outside) (told : List ℕ) (n : ℕ) : Type 0 where
  pub rose : CountRose before.output after.output
  pub telling : IsDebuggedUpTo words before told
  pub part : n < length told
  pub taken : Consumes before.input.held after.input.held telling.asked.bytes
  pub files : LoadsAsked words before after
  pub input : CountStays before.input after.input
  pub tried : TriesLine (fault_line fault.Write) before.error_output after.error_output

-- The error output failed at what an answer tells, after the whole output, and nothing failed before. It gained some of that
-- and not all, and then the line of the fault is tried.
pub record TellingFailed (words : List (List ℕ)) (before after : Outside) (out err : List ℕ) : Type 0 where
  pub status : Status
  pub answer : Answers words before status out err after.input.held after.output.calls
  pub fails : BreaksIn fault.Write err before.error_output after.error_output
  pub quiet : IsQuiet words before after

-- what couldn't be written, with what the output has gained then
pub data WriteCause (words : List (List ℕ)) (before after : Outside) : (out : List ℕ) → Type 0 where
  print_failed : (out line : List ℕ) (n : ℕ) → PrintFailed words before after out line n → WriteCause words before after (out ++ take n line)
  session_failed : (told : List ℕ) (n : ℕ) → SessionFailed words before after told n → WriteCause words before after (take n told)
  out_failed : (out : List ℕ) → TextFailed words before after out → WriteCause words before after out
  err_failed : (out err : List ℕ) → TellingFailed words before after out err → WriteCause words before after out

pub record WriteFailed (words : List (List ℕ)) (before after : Outside) : Type 0 where
  pub out : List ℕ
  pub cause : WriteCause words before after out
  pub out_gained : Appends before.output.held after.output.held out

-- Where memory was refused: anywhere with nothing told, or after the whole output, for what an answer tells or in it. Then the
-- line of the fault is tried.
pub data MemoryCause (words : List (List ℕ)) (before after : Outside) : (out : List ℕ) → Type 0 where
  at_work : (out : List ℕ) → UpToAny words before out → TriesLine (fault_line fault.NoMemory) before.error_output after.error_output → MemoryCause words before after out
  untold : (status : Status) (out err : List ℕ) → Answers words before status out err after.input.held after.output.calls → TriesLine (fault_line fault.NoMemory) before.error_output after.error_output → MemoryCause words before after out
  at_end : (status : Status) (out err : List ℕ) → Answers words before status out err after.input.held after.output.calls → BreaksIn fault.NoMemory err before.error_output after.error_output → MemoryCause words before after out

-- memory was refused, and nothing failed before; the files may not have been asked for yet
pub record MemoryFailed (words : List (List ℕ)) (before after : Outside) : Type 0 where
  pub out : List ℕ
  pub cause : MemoryCause words before after out
  pub out_gained : Appends before.output.held after.output.held out
  pub files : LoadsAsked words before after ⊎ (after.files ≡ before.files)
  pub input : CountStays before.input after.input
  pub output : CountStays before.output after.output

-- ---- the headline

-- what each status says of the words and of the outside before and after the call
abbrev pub Headline : List (List ℕ) → Outside → Outside → Status → Type 0
Headline words before after Done = Ended words before after Done
Headline words before after Refused = Ended words before after Refused
Headline words before after Words = Ended words before after Words
Headline words before after Stopped = Ended words before after Stopped
Headline words before after Spent = Ended words before after Spent
Headline words before after ReadFault = ReadFailed words before after
Headline words before after WriteFault = WriteFailed words before after
Headline words before after NoMemory = MemoryFailed words before after

-- a run took bytes off the input's front, which has a `read` in hand at one of its states, and the output has gained all that
-- the run had written there
pub record ReadsOff (words : List (List ℕ)) (before after : Outside) : Type 0 where
  pub out : List ℕ
  pub more : List ℕ
  pub taken : List ℕ
  pub reading : IsAtRead words before out
  pub gained : Appends before.output.held after.output.held (out ++ more)
  pub takes : Consumes before.input.held after.input.held taken

-- What became of the input: it is as it was, a session over an accepted program took bytes off its front as its script, or a
-- run read some of it or none.
pub data InputLeft (words : List (List ℕ)) (before after : Outside) : Type 0 where
  untouched : after.input ≡ before.input → InputLeft words before after
  script_taken : (program : Program) (based : Bool) (taken : List ℕ) → IsToDebug words before program based → Consumes before.input.held after.input.held taken → InputLeft words before after
  not_read : (kind : FileKind) (options : Options) (name : List ℕ) → Spells words (Run kind options name) → IsThere options.watch before.watchers → after.input.held ≡ before.input.held → InputLeft words before after
  read_from : ReadsOff words before after → InputLeft words before after

-- a check writes nothing to the output and leaves the input as it was, however it ends
pub record LeavesRest (before after : Outside) : Type 0 where
  pub input : after.input ≡ before.input
  pub output : after.output ≡ before.output

abbrev pub CheckLeavesRest : List (List ℕ) → Outside → Outside → Type 0
CheckLeavesRest words before after = (name : List ℕ) → Spells words (Check name) → LeavesRest before after

-- a listing leaves the input as it was, however it ends
abbrev pub ListingLeavesInput : List (List ℕ) → Outside → Outside → Type 0
ListingLeavesInput words before after = (name : List ℕ) → Spells words (Code name) → after.input ≡ before.input

-- a code file that is built leaves the input as it was, however it ends
abbrev pub BuildLeavesInput : List (List ℕ) → Outside → Outside → Type 0
BuildLeavesInput words before after = (name : List ℕ) → Spells words (Build name) → after.input ≡ before.input

-- advice leaves the input as it was, however it ends
abbrev pub AdviceLeavesInput : List (List ℕ) → Outside → Outside → Type 0
AdviceLeavesInput words before after = (name : List ℕ) → Spells words (Advise name) → after.input ≡ before.input

-- an explanation leaves the input as it was, however it ends
abbrev pub ExplanationLeavesInput : List (List ℕ) → Outside → Outside → Type 0
ExplanationLeavesInput words before after = (name : List ℕ) → Spells words (Explain name) → after.input ≡ before.input

-- a trial leaves the files and the input as they were, however it ends
pub record LeavesFilesAndInput (before after : Outside) : Type 0 where
  pub files : after.files ≡ before.files
  pub input : after.input ≡ before.input

abbrev pub TrialLeavesFilesAndInput : List (List ℕ) → Outside → Outside → Type 0
TrialLeavesFilesAndInput words before after = (seed nodes : ℕ) → Spells words (Trial seed nodes) → LeavesFilesAndInput before after

-- a fault was counted, or one or more of the error output
abbrev pub AnyRose : Outside → Outside → Type 0
AnyRose before after = (Rose before.files.faults after.files.faults ⊎ CountRose before.input after.input) ⊎ (CountRose before.output after.output ⊎ (one_more before.error_output.faults ≤ after.error_output.faults))
