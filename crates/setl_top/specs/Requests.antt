-- What the words of a call ask for, where the outside is so before it.
use Rattle.std.specs.Prelude.{◌≡◌, ◌-◌, ◌^◌, ℕ, Bool, true, List, take, Option, None, Some, ⊤}
use Rattle.setl_io.specs.Files.{IsText}
use Rattle.setl_io.specs.Source.{AreBytes}
use Rattle.setl_model_runs.specs.Events.{End}
use Rattle.setl_model.specs.Means.{Means}
use Rattle.setl_program.specs.Program.{Program}
use Rattle.setl_tree.specs.declared.tree.Tree.{Tree}
use Rattle.setl_top.specs.Accepted.{IsProgram, Accepted, IsRefusedFor, Refusal}
use Rattle.setl_top_advice.specs.Advised.{IsAdvised}
use Rattle.setl_top.specs.Built.{IsBuilt, CodeRefusal}
use Rattle.setl_top.specs.Explained.{IsExplained}
use Rattle.setl_top.specs.Listings.{IsListing}
use Rattle.setl_top.specs.Outside.{Outside}
use Rattle.setl_top.specs.Runnable.{Runnable, Holds}
use Rattle.setl_top.specs.Trials.{trial_source, trial_input, trial_line}
use Rattle.setl_top.specs.Watching.{asked_for, IsThere}
use Rattle.setl_top_session.specs.Sessions.{Session, IsTold, IsScript, IsAll, TakesScript, ScriptRefusal}
use Rattle.setl_top_status.specs.declared.reason.Reason.{Reason}
use Rattle.setl_watch.specs.Watches.{Watch}
use Rattle.setl_top_words.specs.Words.{Options, Command, Run, Check, Code, Build, Advise, Explain, TellStop, Debug, Trial, Spells, HasFile, RunsFile, watched_by}
use Rattle.setl_top_words.specs.declared.reading.FileKind.{FileKind}
use Rattle.setl_top_words.specs.declared.reading.FileKind.TheVariants.{Source, CodeFile}

-- the words ask for the text of this file, and for a watcher that is there or for none
pub record IsToLoad (words : List (List ℕ)) (before : Outside) (name : List ℕ) : Type 0 where
  pub command : Command
  pub spelled : Spells words command
  pub file : HasFile command name
  pub there : IsThere (watched_by command) before.watchers

-- what is run: a program or code, the bytes of its input, its bound on turns, whether its declarations count, whether its dump
-- is told, and the watchers that are told its events
pub record Job : Type 0 where
  pub runnable : Runnable
  pub input : List ℕ
  pub turns : ℕ
  pub based : Bool
  pub dump : Bool
  pub watchers : List Watch

-- where the bytes left of an input are told, they are these, and otherwise they are bytes
abbrev pub IsInput : Option (List ℕ) → List ℕ → Type 0
IsInput None bytes = AreBytes bytes
IsInput (Some left) bytes = left ≡ bytes

-- the words ask for this to be run
pub record IsToRun (words : List (List ℕ)) (before : Outside) (job : Job) : Type 0 where
  pub command : Command
  pub kind : FileKind
  pub name : List ℕ
  pub bytes : List ℕ
  pub spelled : Spells words command
  pub runs : RunsFile command kind name job.turns job.based job.dump
  pub text : IsText before.files.held name bytes
  pub holds : Holds kind bytes job.runnable
  pub input : IsInput before.input.held job.input
  pub there : IsThere (watched_by command) before.watchers
  pub watched : job.watchers ≡ asked_for (watched_by command) before.watchers

-- the words ask this of the file of a program
pub record IsOfProgram (words : List (List ℕ)) (before : Outside) (asks : List ℕ → Command) : Type 0 where
  pub name : List ℕ
  pub source : List ℕ
  pub tree : Tree
  pub spelled : Spells words (asks name)
  pub text : IsText before.files.held name source
  pub is_program : IsProgram source tree

-- the words ask for the code of a program, and this is its listing
pub record IsToList (words : List (List ℕ)) (before : Outside) (listed : List ℕ) : Type 0 where
  pub asked : IsOfProgram words before Code
  pub is_listing : IsListing asked.tree listed

-- the words ask for the code file of a program, and it is this
pub record IsToBuild (words : List (List ℕ)) (before : Outside) (bytes : List ℕ) : Type 0 where
  pub asked : IsOfProgram words before Build
  pub is_built : IsBuilt asked.tree bytes

-- the words ask for advice for a program without declarations, and this is it
pub record IsToAdvise (words : List (List ℕ)) (before : Outside) (text : List ℕ) : Type 0 where
  pub asked : IsOfProgram words before Advise
  pub is_advised : IsAdvised asked.source asked.tree text

-- a command that tells on the error output why a source is refused; an explanation writes it to the output
abbrev pub TellsRefusal : Command → Type 0
TellsRefusal (Run Source options name) = ⊤
TellsRefusal (Run CodeFile options name) = ⊥
TellsRefusal (Check name) = ⊤
TellsRefusal (Code name) = ⊤
TellsRefusal (Build name) = ⊤
TellsRefusal (Advise name) = ⊤
TellsRefusal (Explain name) = ⊥
TellsRefusal (TellStop stop) = ⊥
TellsRefusal (Debug based name) = ⊤
TellsRefusal (Trial seed nodes) = ⊤

-- the words ask for what is refused with this line on the error output
pub record IsToRefuse (words : List (List ℕ)) (before : Outside) (line : List ℕ) : Type 0 where
  pub name : List ℕ
  pub source : List ℕ
  pub asked : IsToLoad words before name
  pub tells : TellsRefusal asked.command
  pub text : IsText before.files.held name source
  pub refusal : Refusal source line

-- the words ask for a run of a file that is no code file, which is refused with this line
pub record IsNoCode (words : List (List ℕ)) (before : Outside) (line : List ℕ) : Type 0 where
  pub options : Options
  pub name : List ℕ
  pub bytes : List ℕ
  pub spelled : Spells words (Run CodeFile options name)
  pub there : IsThere options.watch before.watchers
  pub text : IsText before.files.held name bytes
  pub refusal : CodeRefusal bytes line

-- the words ask for the explanation of a source that is refused, and this is it
pub record IsToExplain (words : List (List ℕ)) (before : Outside) (text : List ℕ) : Type 0 where
  pub name : List ℕ
  pub source : List ℕ
  pub reason : Reason
  pub spelled : Spells words (Explain name)
  pub text_of : IsText before.files.held name source
  pub refused_for : IsRefusedFor source reason
  pub is_explained : IsExplained source reason text

-- the words ask for a trial, the run of its program on its input ends so with its declarations, and this is the trial's line
pub record IsTried (words : List (List ℕ)) (line : List ℕ) (end : End) : Type 0 where
  pub seed : ℕ
  pub nodes : ℕ
  pub program : Program
  pub printed : List ℕ
  pub spelled : Spells words (Trial seed nodes)
  pub accepted : Accepted trial_source program
  pub means : Means program (trial_input seed nodes) (2 ^ 63 - 1) true printed end
  pub is_line : line ≡ trial_line seed nodes printed

-- ---- sessions of the debugger

-- the words ask for a session over this program, in which its declarations count or not
pub record IsToDebug (words : List (List ℕ)) (before : Outside) (program : Program) (based : Bool) : Type 0 where
  pub name : List ℕ
  pub source : List ℕ
  pub spelled : Spells words (Debug based name)
  pub text : IsText before.files.held name source
  pub accepted : Accepted source program

-- the words ask for a session whose script is refused with this line, and this is left of the input
pub record IsNoScript (words : List (List ℕ)) (before : Outside) (line : List ℕ) (left : Option (List ℕ)) : Type 0 where
  pub program : Program
  pub based : Bool
  pub bytes : List ℕ
  pub asked : IsToDebug words before program based
  pub taken : TakesScript before.input.held left bytes
  pub refusal : ScriptRefusal bytes line

-- the words ask for this session, whose script the input has
pub record IsToFollow (words : List (List ℕ)) (before : Outside) (s : Session) : Type 0 where
  pub asked : IsToDebug words before s.program s.based
  pub bytes : List ℕ
  pub input : IsAll before.input.held bytes
  pub is_script : IsScript bytes s.script

-- and this is what its script tells
pub record IsDebugged (words : List (List ℕ)) (before : Outside) (told : List ℕ) : Type 0 where
  pub session : Session
  pub asked : IsToFollow words before session
  pub tells : IsTold session session.script told

-- or what the first commands of its script tell
pub record IsDebuggedUpTo (words : List (List ℕ)) (before : Outside) (told : List ℕ) : Type 0 where
  pub session : Session
  pub asked : IsToFollow words before session
  pub count : ℕ
  pub tells : IsTold session (take count session.script) told
