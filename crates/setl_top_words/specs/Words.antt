-- The plain form of the words: a command, the options of a run and the file that the command reads, or the two numbers of a
-- trial.
use Rattle.std.specs.Prelude.{◌≡◌, ◌≢◌, ◌<◌, ◌≤◌, ◌-◌, ◌^◌, ℕ, Bool, true, false, List, [], ◌∷◌, ◌++◌, ◌&&◌, Option, Some, None, ⊤, codes, decimal}
use Rattle.std.specs.List.{flat_map, fold}
use Rattle.setl_top_options.specs.declared.given.RunOption.{RunOption}
use Rattle.setl_top_options.specs.declared.given.RunOption.TheVariants.{Unbased, Dump, Turns, Watch}
use Rattle.setl_top_options.specs.declared.watching.Asked.{Asked}
use Rattle.setl_top_options.specs.declared.watching.Asked.TheVariants.{Trace, Cover, Profile}
use Rattle.setl_top_words.specs.declared.reading.FileKind.{FileKind}
use Rattle.setl_top_words.specs.declared.reading.FileKind.TheVariants.{Source, CodeFile}
use Rattle.setl_explain_words.specs.Stops.{stop_name}
use Rattle.setl_explain_words.specs.declared.stop.Stop.{Stop}

-- a file's name isn't empty and doesn't begin with a dash
abbrev pub IsFile : List ℕ → Type 0
IsFile [] = ⊥
IsFile (c ∷ name) = c ≢ 45

-- ---- the watchers of a run

-- the word by which a watcher is asked for
abbrev pub watcher_word : Asked → List ℕ
watcher_word Trace = codes "trace"
watcher_word Cover = codes "cover"
watcher_word Profile = codes "profile"

-- ---- the options of a run

-- the words of an option; a number is written by decimal digits, without sign and without a leading zero
abbrev pub option_words : RunOption → List (List ℕ)
option_words Unbased = codes "--unbased" ∷ []
option_words Dump = codes "--dump" ∷ []
option_words (Turns n) = codes "--turns" ∷ decimal n ∷ []
option_words (Watch asked) = codes "--watch" ∷ watcher_word asked ∷ []

abbrev pub IsInRange : RunOption → Type 0
IsInRange Unbased = ⊤
IsInRange Dump = ⊤
IsInRange (Turns n) = n < 2 ^ 63
IsInRange (Watch asked) = ⊤

abbrev pub IsSameKind : RunOption → RunOption → Type 0
IsSameKind Unbased Unbased = ⊤
IsSameKind Dump Dump = ⊤
IsSameKind (Turns n) (Turns m) = ⊤
IsSameKind (Watch a) (Watch b) = ⊤
IsSameKind option other = ⊥

-- the option is of another kind than each of these
abbrev pub IsOther : RunOption → List RunOption → Type 0
IsOther option [] = ⊤
IsOther option (x ∷ xs) = (IsSameKind option x → ⊥) × IsOther option xs

-- each option is in its range, and none is of a kind that was there before
abbrev pub AreOptions : List RunOption → Type 0
AreOptions [] = ⊤
AreOptions (x ∷ xs) = IsInRange x × IsOther x xs × AreOptions xs

-- what the options of a run come to: the bound on its turns, whether its declarations count, whether the dump is asked for, and
-- the watcher that is told its events, if one is asked for
pub record Options : Type 0 where
  pub turns : ℕ
  pub based : Bool
  pub dump : Bool
  pub watch : Option Asked

abbrev pub default_options : Options
default_options = record { turns = 2 ^ 63 - 1; based = true; dump = false; watch = None }

abbrev pub with_option : Options → RunOption → Options
with_option options Unbased = record options { based = false }
with_option options Dump = record options { dump = true }
with_option options (Turns n) = record options { turns = n }
with_option options (Watch asked) = record options { watch = Some asked }

abbrev pub options_of : List RunOption → Options
options_of given = fold with_option default_options given

-- ---- the commands

-- the word that asks for a run of a source or of a code file
abbrev pub run_word : FileKind → List ℕ
run_word Source = codes "run"
run_word CodeFile = codes "exec"

-- what the words ask for: to run a source or a code file, to check a source, to list its code, to build its code file, to
-- advise declarations for it, to explain why it is refused, to tell what a stop means, to follow a script over the states of
-- its run, or to try the program of a trial on an input that is drawn from a seed, with so many nodes
pub data Command : Type 0 where
  Run : (kind : FileKind) → (options : Options) → (name : List ℕ) → Command
  Check : (name : List ℕ) → Command
  Code : (name : List ℕ) → Command
  Build : (name : List ℕ) → Command
  Advise : (name : List ℕ) → Command
  Explain : (name : List ℕ) → Command
  TellStop : (stop : Stop) → Command
  Debug : (based : Bool) → (name : List ℕ) → Command
  Trial : (seed nodes : ℕ) → Command

-- the words of a run: its options in any order, and last the file
pub record SpellsRun (words : List (List ℕ)) (kind : FileKind) (options : Options) (name : List ℕ) : Type 0 where
  pub given : List RunOption
  pub spelled : words ≡ run_word kind ∷ flat_map option_words given ++ name ∷ []
  pub valid : AreOptions given
  pub file : IsFile name
  pub means : options ≡ options_of given

-- the words before the file by which declarations count or not
abbrev pub based_words : Bool → List (List ℕ)
based_words true = []
based_words false = codes "--unbased" ∷ []

-- the words of a trial: the seed and the number of nodes in decimal digits, without sign and without a leading zero
pub record SpellsTrial (words : List (List ℕ)) (seed nodes : ℕ) : Type 0 where
  pub spelled : words ≡ codes "trial" ∷ decimal seed ∷ decimal nodes ∷ []
  pub seed_in_range : seed < 2 ^ 63
  pub some_nodes : 1 ≤ nodes
  pub few_nodes : nodes ≤ 2000

-- the words are the plain form of a command
abbrev pub Spells : List (List ℕ) → Command → Type 0
Spells words (Run kind options name) = SpellsRun words kind options name
Spells words (Check name) = (words ≡ codes "check" ∷ name ∷ []) × IsFile name
Spells words (Code name) = (words ≡ codes "code" ∷ name ∷ []) × IsFile name
Spells words (Build name) = (words ≡ codes "build" ∷ name ∷ []) × IsFile name
Spells words (Advise name) = (words ≡ codes "advise" ∷ name ∷ []) × IsFile name
Spells words (Explain name) = (words ≡ codes "explain" ∷ name ∷ []) × IsFile name
Spells words (TellStop stop) = words ≡ codes "explain" ∷ codes "--stop" ∷ stop_name stop ∷ []
Spells words (Debug based name) = (words ≡ codes "debug" ∷ based_words based ++ name ∷ []) × IsFile name
Spells words (Trial seed nodes) = SpellsTrial words seed nodes

-- the file that a command reads, if it reads one
abbrev pub HasFile : Command → List ℕ → Type 0
HasFile (Run kind options name) file = file ≡ name
HasFile (Check name) file = file ≡ name
HasFile (Code name) file = file ≡ name
HasFile (Build name) file = file ≡ name
HasFile (Advise name) file = file ≡ name
HasFile (Explain name) file = file ≡ name
HasFile (TellStop stop) file = ⊥
HasFile (Debug based name) file = file ≡ name
HasFile (Trial seed nodes) file = ⊥

-- the run tells its dump: it is asked for, and declarations count
abbrev pub dumps : Options → Bool
dumps options = options.dump && options.based

-- A command runs what this file holds, a source or code. `turns` bounds the turns of the run, `based` says whether
-- declarations count, and `dump` whether the dump is told.
abbrev pub RunsFile : Command → FileKind → List ℕ → ℕ → (based dump : Bool) → Type 0
RunsFile (Run kind options name) what file turns based dump = (what ≡ kind) × (file ≡ name) × (turns ≡ options.turns) × (based ≡ options.based) × (dump ≡ dumps options)
RunsFile (Check name) what file turns based dump = ⊥
RunsFile (Code name) what file turns based dump = ⊥
RunsFile (Build name) what file turns based dump = ⊥
RunsFile (Advise name) what file turns based dump = ⊥
RunsFile (Explain name) what file turns based dump = ⊥
RunsFile (TellStop stop) what file turns based dump = ⊥
RunsFile (Debug counts name) what file turns based dump = ⊥
RunsFile (Trial seed nodes) what file turns based dump = ⊥

-- the watcher that a command asks for, if it asks for one
abbrev pub watched_by : Command → Option Asked
watched_by (Run kind options name) = options.watch
watched_by (Check name) = None
watched_by (Code name) = None
watched_by (Build name) = None
watched_by (Advise name) = None
watched_by (Explain name) = None
watched_by (TellStop stop) = None
watched_by (Debug based name) = None
watched_by (Trial seed nodes) = None

-- the words are of no plain form
abbrev pub IsFaulty : List (List ℕ) → Type 0
IsFaulty words = (command : Command) → Spells words command → ⊥

-- words spell at most one command
abbrev pub OneCommand : Type 0
OneCommand = (words : List (List ℕ)) (a b : Command) → Spells words a → Spells words b → a ≡ b
