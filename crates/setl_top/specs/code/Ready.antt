-- What a file holds that is to be run, once it was loaded.
use Rattle.std.specs.Prelude.{◌≡◌, ℕ, List, [], ◌∷◌, ◌++◌, map}
use Rattle.setl_io.specs.Files.{Texts, IsText}
use Rattle.setl_code.specs.declared.code.Code.{Code as RustCode}
use Rattle.setl_code.specs.MayRun.{MayRun}
use Rattle.setl_code.specs.Plain.{plain_code}
use Rattle.setl_image_format.specs.ImageCodec.{Image}
use Rattle.setl_image_sound.specs.SoundImage.{SoundImage}
use Rattle.setl_machine_control.specs.Declaring.{IsBare, AreOfMain}
use Rattle.setl_program.specs.code.Plain.{plain_declared}
use Rattle.setl_top_images.specs.CodeFiles.{IsFlawed, flaw_line}
use Rattle.setl_top_images.specs.declared.images.Flaw.{Flaw}
use Rattle.setl_top_status.specs.Seen.{Seen, SeenFiles, LoadsOnce}
use Rattle.setl_top_status.specs.code.Loads.{NotRead}
use Rattle.setl_top_status.specs.code.Tells.{Tells}
use Rattle.setl_top_status.specs.declared.status.Status.{Status}
use Rattle.setl_top_status.specs.declared.status.Status.TheVariants as status
use Rattle.setl_top_words.specs.declared.reading.FileKind.{FileKind}
use Rattle.setl_top_words.specs.declared.reading.FileKind.TheVariants.{Source, CodeFile}
use Rattle.setl_top.specs.Listings.{IsMarked}
use Rattle.setl_top.specs.Runnable.{Runnable, OfProgram, OfCode, of_image, bases_by, declared_by, Holds}
use Rattle.setl_top.specs.code.Loads.{NotLoaded}
use Rattle.setl_top.specs.code.Runs.{IsMeant}
use Rattle.setl_top.specs.declared.ready.Ready.{Ready}

-- the code runs what is to be run
abbrev pub RunsFor : Runnable → RustCode → Type 0
RunsFor (OfProgram names p) code = IsMeant p × IsMarked p (plain_code code)
RunsFor (OfCode names c modes) code = (i : Image) × SoundImage i × (OfCode names c modes ≡ of_image i) × (plain_code code ≡ c)

-- code, the names of its bases and its declarations that are ready to run
pub record IsReady (r : Runnable) (ready : Ready) : Type 0 where
  pub may_run : MayRun ready.code
  pub bare : IsBare (plain_code ready.code)
  pub main : AreOfMain (map plain_declared ready.declared)
  pub runs : RunsFor r ready.code
  pub bases : map (λ b. b.name) ready.bases ≡ bases_by r
  pub declared : map plain_declared ready.declared ≡ declared_by r

-- what a file holds was made ready
pub record LoadedReady (kind : FileKind) (texts : Texts) (name : List ℕ) (ready : Ready) : Type 0 where
  pub bytes : List ℕ
  pub text : IsText texts name bytes
  pub runnable : Runnable
  pub holds : Holds kind bytes runnable
  pub is_ready : IsReady runnable ready

-- why a file is no code that is ready to run, and what was told of it
pub data NotCode (name : List ℕ) (files files' : SeenFiles) (err err' : Seen (List ℕ)) : Status → Type 0 where
  flawed_so : (bytes : List ℕ) (flaw : Flaw) (ends : Status) → IsText files.held name bytes → IsFlawed bytes flaw → LoadsOnce name files files' → Tells status.Refused (flaw_line flaw ++ 10 ∷ []) err err' ends → NotCode name files files' err err' ends
  unread_so : (ends : Status) → NotRead name files files' err err' ends → NotCode name files files' err err' ends

-- why what a file holds isn't ready to run
abbrev pub NotReady : FileKind → (name : List ℕ) → (files files' : SeenFiles) → (err err' : Seen (List ℕ)) → Status → Type 0
NotReady Source name files files' err err' ends = NotLoaded name files files' err err' ends
NotReady CodeFile name files files' err err' ends = NotCode name files files' err err' ends
