-- What becomes of a text that is to be loaded, by what is seen of the files and of the error output before and after.
use Rattle.std.specs.Prelude.{◌≡◌, ◌<◌, ◌≤◌, ◌^◌, ℕ, List, length, [], ◌∷◌, ◌++◌, Option, Some, None}
use Rattle.setl_io.specs.Files.{Texts, IsText}
use Rattle.setl_top_status.specs.Lines.{TriesLine, fault_line}
use Rattle.setl_top_status.specs.Reasons.{reason_line}
use Rattle.setl_top_status.specs.Seen.{Seen, SeenFiles, LoadsOnce, FailsOnce, LoadsAtMost}
use Rattle.setl_top_status.specs.code.Tells.{Tells}
use Rattle.setl_top_status.specs.declared.fault.Fault.TheVariants as fault
use Rattle.setl_top_status.specs.declared.reason.Reason.TheVariants as reason
use Rattle.setl_top_status.specs.declared.status.Status.{Status}
use Rattle.setl_top_status.specs.declared.status.Status.TheVariants as status

-- the text of a file that was loaded, which has at most so many bytes
pub record HasText (most : ℕ) (texts : Texts) (name source : List ℕ) : Type 0 where
  pub text : IsText texts name source
  pub short : length source ≤ most

-- the file was asked for once, and nothing was told
pub record IsStill (name : List ℕ) (files files' : SeenFiles) (err err' : Seen (List ℕ)) : Type 0 where
  pub load : LoadsOnce name files files'
  pub same : err' ≡ err

-- the text of a file that was loaded, or that it is too long
abbrev pub FoundText : {T : Type 0} → (T → List ℕ) → (most : ℕ) → Texts → (name : List ℕ) → Option T → Type 0
FoundText items most texts name (Some source) = HasText most texts name (items source)
FoundText items most texts name None = (source : List ℕ) × IsText texts name source × (most < length source)

-- why a text wasn't read, and what was told of it
pub data NotRead (name : List ℕ) (files files' : SeenFiles) (err err' : Seen (List ℕ)) : Status → Type 0 where
  failed_read : FailsOnce name files files' → TriesLine (fault_line fault.Read) err err' → NotRead name files files' err err' status.ReadFault
  starved_read : LoadsAtMost name files files' → TriesLine (fault_line fault.NoMemory) err err' → NotRead name files files' err err' status.NoMemory

-- why there is no text, and what was told of it
pub data NoText (name : List ℕ) (files files' : SeenFiles) (err err' : Seen (List ℕ)) : Status → Type 0 where
  too_long : (source : List ℕ) (ends : Status) → IsText files.held name source → 2 ^ 24 < length source → LoadsOnce name files files' → Tells status.Refused (reason_line reason.TooLong ++ 10 ∷ []) err err' ends → NoText name files files' err err' ends
  not_read : FailsOnce name files files' → TriesLine (fault_line fault.Read) err err' → NoText name files files' err err' status.ReadFault
  no_room : LoadsAtMost name files files' → TriesLine (fault_line fault.NoMemory) err err' → NoText name files files' err err' status.NoMemory
