-- What is run: the program of a source, or the code of a code file; and what a run of it is.
use Rattle.std.specs.Prelude.{◌≡◌, ℕ, Bool, List, map}
use Rattle.setl_model_runs.specs.Events.{Event, End}
use Rattle.setl_model.specs.Means.{Means}
use Rattle.setl_model.specs.Dump.{layout}
use Rattle.setl_model.specs.Entered.{entered}
use Rattle.setl_program.specs.Program.{Program}
use Rattle.setl_program.specs.ProgramOf.{program_of}
use Rattle.setl_code.specs.Code.{Code}
use Rattle.setl_code.specs.CodeMeans.{CodeMeans}
use Rattle.setl_code_layout.specs.Layout.{code_layout}
use Rattle.setl_code.specs.Plain.{plain_code}
use Rattle.setl_image_format.specs.ImageCodec.{Image}
use Rattle.setl_image_sound.specs.SoundImage.{declarations_of}
use Rattle.setl_model_runs.specs.Variable.{Variable}
use Rattle.setl_modes.specs.Declarations.{bases_of}
use Rattle.setl_modes.specs.Modes.{Mode}
use Rattle.setl_tree.specs.declared.tree.Tree.{Tree}
use Rattle.setl_top_images.specs.CodeFiles.{IsCodeFile}
use Rattle.setl_top_words.specs.declared.reading.FileKind.{FileKind}
use Rattle.setl_top_words.specs.declared.reading.FileKind.TheVariants.{Source, CodeFile}
use Rattle.setl_top.specs.Accepted.{IsProgram}
use Rattle.setl_top.specs.Moments.{AtState, AtPrint, AtRead, CodeAtState, CodeAtPrint, CodeAtRead}

-- a program, or code with the declarations of its variables; either with the names of its bases in the order of their
-- declarations
pub data Runnable : Type 0 where
  OfProgram : (bases : List (List ℕ)) → Program → Runnable
  OfCode : (bases : List (List ℕ)) → Code → List (Variable × Mode) → Runnable

-- the names of the bases
abbrev pub bases_by : Runnable → List (List ℕ)
bases_by (OfProgram names p) = names
bases_by (OfCode names c modes) = names

-- the declared variables with their modes
abbrev pub declared_by : Runnable → List (Variable × Mode)
declared_by (OfProgram names p) = p.modes
declared_by (OfCode names c modes) = modes

abbrev pub of_tree : Tree → Runnable
of_tree t = OfProgram (map (λ b. b.0) (bases_of t.modes)) (program_of t)

abbrev pub of_image : Image → Runnable
of_image i = OfCode (map (λ b. b.0) i.bases) (plain_code i.code) (declarations_of i)

-- what these bytes hold: a source its program, and a code file its code
abbrev pub Holds : FileKind → List ℕ → Runnable → Type 0
Holds Source bytes r = (tree : Tree) × IsProgram bytes tree × (r ≡ of_tree tree)
Holds CodeFile bytes r = (i : Image) × IsCodeFile bytes i × (r ≡ of_image i)

-- ---- runs

-- The run of it on an input with so many turns ends so, after it wrote this output, with these events, and its last state
-- has this left of the input, and this dump: the members that the events entered into each base, and the values of the declared
-- variables.
abbrev pub EndsWith : Runnable → List ℕ → ℕ → Bool → List ℕ → End → List Event → (left dump : List ℕ) → Type 0
EndsWith (OfProgram names p) input turns based out end events left dump =
    (m : Means p input turns based out end) × (events ≡ m.last.events) × (left ≡ m.last.core.shared.world.input)
    × (dump ≡ layout names p.modes m.last)
EndsWith (OfCode names c modes) input turns based out end events left dump =
    (m : CodeMeans c modes input turns based out end) × (events ≡ m.last.events) × (left ≡ m.last.core.world.input)
    × (dump ≡ code_layout names modes (λ b. entered modes b m.last.events) m.last.core)

pub record Meant (r : Runnable) (input : List ℕ) (turns : ℕ) (based : Bool) (out : List ℕ) (end : End) : Type 0 where
  pub events : List Event
  pub left : List ℕ
  pub dump : List ℕ
  pub so : EndsWith r input turns based out end events left dump

-- it has written this at one of its states
abbrev pub IsAt : Runnable → List ℕ → ℕ → Bool → List ℕ → Type 0
IsAt (OfProgram names p) input turns based out = AtState p input turns based out
IsAt (OfCode names c modes) input turns based out = CodeAtState c modes input turns based out

-- it has written this when a `print` of that line is in hand, and has this left of its input there
abbrev pub Printing : Runnable → List ℕ → ℕ → Bool → (out line left : List ℕ) → Type 0
Printing (OfProgram names p) input turns based out line left = (at : AtPrint p input turns based out line) × (left ≡ at.state.core.shared.world.input)
Printing (OfCode names c modes) input turns based out line left = (at : CodeAtPrint c modes input turns based out line) × (left ≡ at.state.core.world.input)

-- it has written this when a `read` is in hand
abbrev pub Reading : Runnable → List ℕ → ℕ → Bool → List ℕ → Type 0
Reading (OfProgram names p) input turns based out = AtRead p input turns based out
Reading (OfCode names c modes) input turns based out = CodeAtRead c modes input turns based out

-- what ends so with the one ends so with the other, with the same events, the same left of the input and the same dump
abbrev pub RunsAlike : Runnable → Runnable → Type 0
RunsAlike r s = (input : List ℕ) (turns : ℕ) (based : Bool) (out : List ℕ) (end : End) → (m : Meant r input turns based out end) → (n : Meant s input turns based out end) × (n.events ≡ m.events) × (n.left ≡ m.left) × (n.dump ≡ m.dump)
