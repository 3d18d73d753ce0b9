-- Laws over the headline and the definitions under it.
use Rattle.std.specs.Prelude.{◌≡◌, ◌<◌, ◌≤◌, ◌^◌, ◌↔◌, ◌⊎◌, ℕ, Bool, true, List, [], ◌∷◌, ◌++◌, length, if◌then◌else◌, Option, Some}
use Rattle.setl_io.specs.Faults.{more}
use Rattle.setl_machine.specs.Prints.{prints}
use Rattle.setl_model.specs.Ending.{Ending}
use Rattle.setl_model_runs.specs.Events.{End, Stopped, Stuck, Unfit}
use Rattle.setl_model_runs.specs.Variable.{Variable}
use Rattle.setl_model.specs.Means.{Means}
use Rattle.setl_program.specs.Program.{Program}
use Rattle.setl_program.specs.ProgramOf.{program_of}
use Rattle.setl_tree.specs.declared.tree.Tree.{Tree}
use Rattle.setl_top.specs.Accepted.{IsProgram, Accepted, IsRefusedFor, Refusal}
use Rattle.setl_top.specs.Headline.{Headline, InputLeft, LoadFailed, LoadsAsked, Ended, AnyRose, Answers, Job, IsToLoad, IsToRun, IsTried, TellsRefusal, trial_output}
use Rattle.setl_top.specs.Built.{IsBuilt, IsLongCode, CodeRefusal}
use Rattle.setl_top.specs.Runnable.{Meant, of_tree, of_image, RunsAlike}
use Rattle.setl_code.specs.Code as plain
use Rattle.setl_code.specs.CodeOf.{code_of}
use Rattle.setl_code.specs.Sound.{Few}
use Rattle.setl_code_marked.specs.Marked.{declared_in}
use Rattle.setl_image_format.specs.ImageCodec.{Image}
use Rattle.setl_top_images.specs.CodeFiles.{IsCodeFile, flaw_line}
use Rattle.setl_top_images.specs.declared.images.Flaw.TheVariants.{TooLong}
use Rattle.setl_top_advice.specs.Advised.{IsAdvised, HasRepr}
use Rattle.setl_top_advice.specs.Put.{with_section}
use Rattle.setl_top.specs.Explained.{IsExplained}
use Rattle.setl_top.specs.Listings.{IsListing, IsMarked}
use Rattle.setl_top.specs.Outside.{Outside}
use Rattle.setl_top.specs.Watching.{IsThere, IsNoRequest, reports_of}
use Rattle.setl_debug_script.specs.declared.command.Command.{Command as ScriptCommand}
use Rattle.setl_top_session.specs.Sessions.{IsTold, IsScript, ScriptRefusal}
use Rattle.setl_top_status.specs.Ends.{status_of, error_line}
use Rattle.setl_top_status.specs.Seen.{CountStays}
use Rattle.setl_top_status.specs.declared.reason.Reason.{Reason}
use Rattle.setl_top_status.specs.declared.status.Status.{Status}
use Rattle.setl_top_status.specs.declared.status.Status.TheVariants.{NoMemory, ReadFault, Refused, WriteFault}
use Rattle.setl_top_status.specs.declared.status.Status.TheVariants as ended
use Rattle.setl_top_words.specs.Words.{Options, Command, Run, Check, Code, Build, Advise, Explain, Debug, Trial, Spells}
use Rattle.setl_top_words.specs.declared.reading.FileKind.TheVariants.{CodeFile}

-- ---- sources

-- each source is a program or is refused for a reason
abbrev pub EitherProgramOrRefused : Type 0
EitherProgramOrRefused = (source : List ℕ) → ((tree : Tree) × IsProgram source tree) ⊎ ((reason : Reason) × IsRefusedFor source reason)

-- and not both
abbrev pub NotProgramAndRefused : Type 0
NotProgramAndRefused = (source : List ℕ) (tree : Tree) (reason : Reason) → IsProgram source tree → IsRefusedFor source reason → ⊥

-- a program has one tree
abbrev pub OneTree : Type 0
OneTree = (source : List ℕ) (one two : Tree) → IsProgram source one → IsProgram source two → one ≡ two

-- and any other source has one reason
abbrev pub OneReason : Type 0
OneReason = (source : List ℕ) (one two : Reason) → IsRefusedFor source one → IsRefusedFor source two → one ≡ two

-- ---- calls

-- the call failed in none of the three ways only where it came to its end
abbrev pub IsComplete : Type 0
IsComplete = (words : List (List ℕ)) (before after : Outside) (status : Status) →
    Headline words before after status → (AnyRose before after ⊎ (status ≡ NoMemory)) ⊎ Ended words before after status

-- a load that failed was the one load, of the file that the words name, and ends the call: the input and the output are as before
abbrev pub FailedLoadEnds : Type 0
FailedLoadEnds = (words : List (List ℕ)) (before after : Outside) (status : Status) →
    Headline words before after status → before.files.faults < after.files.faults →
    (status ≡ ReadFault) × LoadFailed words before after

-- a read that failed ends it, and nothing else failed but, at the fault's line, the error output
abbrev pub FailedReadEnds : Type 0
FailedReadEnds = (words : List (List ℕ)) (before after : Outside) (status : Status) →
    Headline words before after status → before.input.faults < after.input.faults →
    (status ≡ ReadFault) × LoadsAsked words before after × CountStays before.output after.output

-- and so does a write of the output
abbrev pub FailedWriteEnds : Type 0
FailedWriteEnds = (words : List (List ℕ)) (before after : Outside) (status : Status) →
    Headline words before after status → before.output.faults < after.output.faults →
    (status ≡ WriteFault) × LoadsAsked words before after × CountStays before.input after.input

-- words that are faulty or ask for a watcher that isn't there are never answered by a read fault, and the input is left as
-- it was
abbrev pub FaultyWordsReadNothing : Type 0
FaultyWordsReadNothing = (words : List (List ℕ)) (before after : Outside) → IsNoRequest words before.watchers →
    (Headline words before after ReadFault → ⊥) × (InputLeft words before after → after.input ≡ before.input)

-- exactly they end so
abbrev pub WordsExactly : Type 0
WordsExactly = (words : List (List ℕ)) (before : Outside) (status : Status) (out err : List ℕ) (left : Option (List ℕ)) (pieces : Option ℕ) →
    Answers words before status out err left pieces → (status ≡ ended.Words) ↔ IsNoRequest words before.watchers

-- the texts are told
abbrev pub TellsTexts : Outside → (List ℕ → Option (List ℕ)) → Type 0
TellsTexts before texts = before.files.held ≡ Some texts

-- and that of this name is this
pub record TellsText (before : Outside) (name source : List ℕ) : Type 0 where
  pub texts : List ℕ → Option (List ℕ)
  pub told : TellsTexts before texts
  pub there : texts name ≡ Some source

-- the words ask this of a file, whose text is told, and it is this
pub record AsksOf (words : List (List ℕ)) (before : Outside) (asks : List ℕ → Command) (source : List ℕ) : Type 0 where
  pub name : List ℕ
  pub spelled : Spells words (asks name)
  pub text : TellsText before name source

-- a source that is refused is answered by its line, and nothing is written
abbrev pub RefusesExactly : Type 0
RefusesExactly = (words : List (List ℕ)) (before : Outside) (name source line : List ℕ) (status : Status) (out err : List ℕ) (left : Option (List ℕ)) (pieces : Option ℕ) →
    (asked : IsToLoad words before name) → TellsRefusal asked.command → TellsText before name source → Refusal source line → Answers words before status out err left pieces →
    (status ≡ Refused) × (out ≡ []) × (err ≡ line ++ 10 ∷ []) × (left ≡ before.input.held)

-- a check is done exactly where the source is a program, and then nothing is told
abbrev pub ChecksExactly : Type 0
ChecksExactly = (words : List (List ℕ)) (before : Outside) (source : List ℕ) (status : Status) (out err : List ℕ) (left : Option (List ℕ)) (pieces : Option ℕ) →
    AsksOf words before Check source → Answers words before status out err left pieces →
    ((status ≡ ended.Done) ↔ ((tree : Tree) × IsProgram source tree)) × (out ≡ []) × (status ≡ ended.Done → err ≡ []) × (left ≡ before.input.held)

-- A listing is done exactly where the source is a program, and what is written is the listing
-- of that program; otherwise it is refused and writes nothing.
abbrev pub ListsExactly : Type 0
ListsExactly = (words : List (List ℕ)) (before : Outside) (source : List ℕ) (status : Status) (out err : List ℕ) (left : Option (List ℕ)) (pieces : Option ℕ) →
    AsksOf words before Code source → Answers words before status out err left pieces →
    ((status ≡ ended.Done) ↔ ((tree : Tree) × IsProgram source tree))
    × ((tree : Tree) → IsProgram source tree → IsListing tree out × (err ≡ []))
    × ((status ≡ ended.Done) ⊎ ((status ≡ ended.Refused) × (out ≡ []))) × (left ≡ before.input.held)

-- each program has a listing, and only one
abbrev pub OneListing : Type 0
OneListing = (tree : Tree) → (text : List ℕ) × IsListing tree text × ((other : List ℕ) → IsListing tree other → other ≡ text)

-- Bytes that are no code file are refused by the line of their flaw, and write nothing.
abbrev pub RefusesCodeExactly : Type 0
RefusesCodeExactly = (words : List (List ℕ)) (before : Outside) (options : Options) (bytes line : List ℕ) (status : Status) (out err : List ℕ) (left : Option (List ℕ)) (pieces : Option ℕ) →
    AsksOf words before (Run CodeFile options) bytes → IsThere options.watch before.watchers → CodeRefusal bytes line → Answers words before status out err left pieces →
    (status ≡ Refused) × (out ≡ []) × (err ≡ line ++ 10 ∷ []) × (left ≡ before.input.held)

-- Numbers of 32 bits are enough for the bodies, steps, slots and declared variables of the code of each program, also where
-- last uses are takes.
abbrev pub CodeIsFew : Type 0
CodeIsFew = (source : List ℕ) (tree : Tree) → IsProgram source tree →
    Few (code_of (program_of tree)) (declared_in (program_of tree).modes)
    × ((c : plain.Code) → IsMarked (program_of tree) c → Few c (declared_in (program_of tree).modes))

-- A code file is built only where the source is a program, and what is written is then a code file of that program, unless
-- its spelling is too long, which is refused; any other source is refused and writes nothing.
abbrev pub BuildsExactly : Type 0
BuildsExactly = (words : List (List ℕ)) (before : Outside) (source : List ℕ) (status : Status) (out err : List ℕ) (left : Option (List ℕ)) (pieces : Option ℕ) →
    AsksOf words before Build source → Answers words before status out err left pieces →
    (status ≡ ended.Done → (tree : Tree) × IsProgram source tree)
    × ((tree : Tree) → IsProgram source tree → ((status ≡ ended.Done) × IsBuilt tree out × (err ≡ [])) ⊎ ((status ≡ Refused) × (out ≡ []) × IsLongCode tree × (err ≡ flaw_line TooLong ++ 10 ∷ [])))
    × ((status ≡ ended.Done) ⊎ ((status ≡ Refused) × (out ≡ []))) × (left ≡ before.input.held)

-- The code file that is built of a source runs as the source does: each run of the one ends as that of the other, with the
-- same output, the same events and the same dump, and leaves the same of its input.
abbrev pub CodeFilesRunAlike : Type 0
CodeFilesRunAlike = (source bytes : List ℕ) (tree : Tree) (i : Image) → IsProgram source tree → IsBuilt tree bytes → IsCodeFile bytes i →
    RunsAlike (of_tree tree) (of_image i) × RunsAlike (of_image i) (of_tree tree)

-- Advice is done exactly where the source is a program without declarations, and what is written is then advice for it; a
-- program with declarations is refused by the line of the first of them.
abbrev pub AdvisesExactly : Type 0
AdvisesExactly = (words : List (List ℕ)) (before : Outside) (source : List ℕ) (status : Status) (out err : List ℕ) (left : Option (List ℕ)) (pieces : Option ℕ) →
    AsksOf words before Advise source → Answers words before status out err left pieces →
    ((status ≡ ended.Done) ↔ ((tree : Tree) × IsProgram source tree × (tree.modes ≡ [])))
    × ((tree : Tree) → IsProgram source tree → tree.modes ≡ [] → IsAdvised source tree out × (err ≡ []))
    × ((tree : Tree) (line : List ℕ) → IsProgram source tree → HasRepr tree line → (status ≡ Refused) × (out ≡ []) × (err ≡ line ++ 10 ∷ []))
    × (left ≡ before.input.held)

-- no run of the program in which its declarations count ends for a value that doesn't fit
abbrev pub NeverUnfit : Program → Type 0
NeverUnfit program = (input : List ℕ) (turns : ℕ) (out : List ℕ) (variable : Variable) (line : ℕ) → Means program input turns true out (Stopped (Unfit variable) line) → ⊥

-- The source in which advice stands is accepted, where it has at most 2^24 bytes, and its program never ends so.
abbrev pub AdvisedSourcesFit : Type 0
AdvisedSourcesFit = (source : List ℕ) (tree : Tree) (text : List ℕ) → (a : IsAdvised source tree text) → let whole = with_section source text a.from a.to in length whole ≤ 2 ^ 24 →
    (program : Program) × Accepted whole program × NeverUnfit program

-- An explanation is done exactly where the source is a program, and then writes nothing; otherwise the source is refused, and
-- what is written is the explanation of its reason. Nothing is told on the error output.
abbrev pub ExplainsExactly : Type 0
ExplainsExactly = (words : List (List ℕ)) (before : Outside) (source : List ℕ) (status : Status) (out err : List ℕ) (left : Option (List ℕ)) (pieces : Option ℕ) →
    AsksOf words before Explain source → Answers words before status out err left pieces →
    ((tree : Tree) → IsProgram source tree → (status ≡ ended.Done) × (out ≡ []))
    × ((reason : Reason) → IsRefusedFor source reason → (status ≡ Refused) × IsExplained source reason out)
    × (err ≡ []) × (left ≡ before.input.held)

-- A session over a program is done exactly where the input is a script, and what is written is then what its commands tell; other
-- input is refused by its one line, and nothing is written.
abbrev pub DebugsExactly : Type 0
DebugsExactly = (words : List (List ℕ)) (before : Outside) (input : List ℕ) (based : Bool) (source : List ℕ) (tree : Tree) (status : Status) (out err : List ℕ) (left : Option (List ℕ)) (pieces : Option ℕ) →
    AsksOf words before (Debug based) source → before.input.held ≡ Some input → IsProgram source tree → Answers words before status out err left pieces →
    ((status ≡ ended.Done) ↔ ((script : List ScriptCommand) × IsScript input script))
    × (status ≡ ended.Done → (script : List ScriptCommand) × IsScript input script × IsTold (record { program = program_of tree; based = based; script = script }) script out × (err ≡ []))
    × ((line : List ℕ) → ScriptRefusal input line → (status ≡ Refused) × (out ≡ []) × (err ≡ line ++ 10 ∷ []))

-- a trial never answers a read fault
abbrev pub TrialsReadNothing : Type 0
TrialsReadNothing = (words : List (List ℕ)) (before after : Outside) (seed nodes : ℕ) → Spells words (Trial seed nodes) →
    Headline words before after ReadFault → ⊥

-- A trial ends as the run of its program with its declarations, and writes its line where that is done.
abbrev pub TriesExactly : Type 0
TriesExactly = (words : List (List ℕ)) (before : Outside) (line : List ℕ) (end : End) (status : Status) (out err : List ℕ) (left : Option (List ℕ)) (pieces : Option ℕ) →
    IsTried words line end → Answers words before status out err left pieces →
    (status_of end ≡ Some status) × (out ≡ trial_output end line) × (err ≡ error_line end) × (left ≡ before.input.held)

-- a run of which texts and input are told is answered as it ends, and each print is one write
abbrev pub EndsExactly : Type 0
EndsExactly = (words : List (List ℕ)) (before : Outside) (input : List ℕ) (job : Job) (said : List ℕ) (end : End) (status : Status) (out err : List ℕ) (left : Option (List ℕ)) (pieces : Option ℕ) →
    ((texts : List ℕ → Option (List ℕ)) × TellsTexts before texts) → before.input.held ≡ Some input →
    IsToRun words before job → (means : Meant job.runnable job.input job.turns job.based said end) → Answers words before status out err left pieces →
    (status_of end ≡ Some status) × (out ≡ said) × (err ≡ (if job.dump then means.dump else []) ++ reports_of job.watchers means.events ++ error_line end)
    × (pieces ≡ more (prints means.events) before.output.calls)

-- every run of an accepted program ends, for every input and bound on turns, whether declarations count or not
abbrev pub AcceptedRunsEnd : Type 0
AcceptedRunsEnd = (source : List ℕ) (program : Program) → Accepted source program →
    (input : List ℕ) (turns : ℕ) (based : Bool) → Ending program input turns based

-- and none is stuck
abbrev pub NoAcceptedRunIsStuck : Type 0
NoAcceptedRunIsStuck = (source : List ℕ) (program : Program) → Accepted source program →
    (input : List ℕ) (turns : ℕ) (based : Bool) (out : List ℕ) → Means program input turns based out Stuck → ⊥
