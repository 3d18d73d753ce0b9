-- What was told after a load that told nothing.
use Rattle.std.proofs.Common.{inl, ℕ, List, [], ◌∷◌, ◌++◌, subst}
use Rattle.setl_io.specs.Files.{IsText}
use Rattle.setl_tree.specs.declared.tree.Tree.{Tree}
use Rattle.setl_top.specs.Accepted.{IsRefusedFor}
use Rattle.setl_top.specs.code.Lists.{WritesListing, Lists, listed_so}
use Rattle.setl_top.specs.code.Loads.{Loaded, NotLoaded, not_accepted, not_read, no_room}
use Rattle.setl_top_status.specs.Lines.{TriesLine, fault_line}
use Rattle.setl_top_status.specs.Reasons.{reason_line}
use Rattle.setl_top_status.specs.Seen.{Seen, SeenFiles}
use Rattle.setl_top.specs.code.Builds.{WritesCode, Builds, built_so}
use Rattle.setl_top.specs.code.Ready.{NotCode, flawed_so, unread_so}
use Rattle.setl_top_images.specs.CodeFiles.{IsFlawed, flaw_line}
use Rattle.setl_top_images.specs.declared.images.Flaw.{Flaw}
use Rattle.setl_top_status.specs.code.Loads.{IsStill, NoText, starved_read}
use Rattle.setl_top_status.specs.code.Loads as loads
use Rattle.setl_top_status.specs.code.Tells.{Tells}
use Rattle.setl_top_status.specs.declared.fault.Fault.TheVariants as fault
use Rattle.setl_top_status.specs.declared.reason.Reason.{Reason}
use Rattle.setl_top_status.specs.declared.reason.Reason.TheVariants as reason
use Rattle.setl_top_status.specs.declared.status.Status.{Status}
use Rattle.setl_top_status.specs.declared.status.Status.TheVariants as status

module _ (name : List ℕ) (files files' : SeenFiles) where
  -- where there is no text, there is no program
  pub not_loaded_by : (err err' : Seen (List ℕ)) (ends : Status) → NoText name files files' err err' ends → NotLoaded name files files' err err' ends
  not_loaded_by err err' ends (loads.too_long source _ is long still told) = not_accepted source reason.TooLong ends is long still told
  not_loaded_by err err' ends (loads.not_read rose told) = not_read rose told
  not_loaded_by err err' ends (loads.no_room still told) = no_room still told

  module _ (err mid : Seen (List ℕ)) (still : IsStill name files files' err mid) (err' : Seen (List ℕ)) where
    -- a refusal that was told then
    pub not_accepted_then : (source : List ℕ) (reason : Reason) (ends : Status) → IsText files.held name source → IsRefusedFor source reason → Tells status.Refused (reason_line reason ++ 10 ∷ []) mid err' ends → NotLoaded name files files' err err' ends
    not_accepted_then source reason ends text why told =
        not_accepted source reason ends text why still.load (subst (λ (o : Seen (List ℕ)). Tells status.Refused (reason_line reason ++ 10 ∷ []) o err' ends) still.same told)

    -- want of memory that was told then
    pub no_room_then : TriesLine (fault_line fault.NoMemory) mid err' → NotLoaded name files files' err err' status.NoMemory
    no_room_then told = no_room (inl still.load) (subst (λ (o : Seen (List ℕ)). TriesLine (fault_line fault.NoMemory) o err') still.same told)

    -- a listing that was written then, or not
    pub listed_then : (tree : Tree) (out out' : Seen (List ℕ)) → Loaded files.held name tree → (ends : Status) → WritesListing tree out out' mid err' ends → Lists name files files' out out' err err' ends
    listed_then tree out out' loaded ends w =
        listed_so tree ends loaded still.load (subst (λ (o : Seen (List ℕ)). WritesListing tree out out' o err' ends) still.same w)

    -- a code file that was to be written then
    pub built_then : (tree : Tree) (out out' : Seen (List ℕ)) → Loaded files.held name tree → (ends : Status) → WritesCode tree out out' mid err' ends → Builds name files files' out out' err err' ends
    built_then tree out out' loaded ends w =
        built_so tree ends loaded still.load (subst (λ (o : Seen (List ℕ)). WritesCode tree out out' o err' ends) still.same w)

    -- a code file that was refused then
    pub flawed_then : (bytes : List ℕ) (flaw : Flaw) (ends : Status) → IsText files.held name bytes → IsFlawed bytes flaw → Tells status.Refused (flaw_line flaw ++ 10 ∷ []) mid err' ends → NotCode name files files' err err' ends
    flawed_then bytes flaw ends text why told =
        flawed_so bytes flaw ends text why still.load (subst (λ (o : Seen (List ℕ)). Tells status.Refused (flaw_line flaw ++ 10 ∷ []) o err' ends) still.same told)

    -- want of memory for it
    pub code_starved_then : TriesLine (fault_line fault.NoMemory) mid err' → NotCode name files files' err err' status.NoMemory
    code_starved_then told = unread_so status.NoMemory (starved_read (inl still.load) (subst (λ (o : Seen (List ℕ)). TriesLine (fault_line fault.NoMemory) o err') still.same told))
