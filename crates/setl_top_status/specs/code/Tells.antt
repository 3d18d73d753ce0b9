-- What becomes of the last line of a call.
use Rattle.std.specs.Prelude.{◌≡◌, ℕ, List, []}
use Rattle.std.specs.Io.KnownBytes.{Appends}
use Rattle.setl_top_status.specs.Lines.{BreaksIn, TriesLine, fault_line}
use Rattle.setl_top_status.specs.Seen.{Seen, CountStays, one_piece}
use Rattle.setl_top_status.specs.Status.{fault_status}
use Rattle.setl_top_status.specs.declared.fault.Fault.{Fault}
use Rattle.setl_top_status.specs.declared.fault.Fault.TheVariants as fault
use Rattle.setl_top_status.specs.declared.status.Status.{Status}
use Rattle.setl_top_status.specs.declared.status.Status.TheVariants as status

-- The status stands where the line was written, as one piece, and else it is the fault's. Where there is no line, nothing is tried.
pub data Tells (ends : Status) (line : List ℕ) (before after : Seen (List ℕ)) : Status → Type 0 where
  whole : Appends before.held after.held line → after.calls ≡ one_piece line before.calls → CountStays before after → (line ≡ [] → after ≡ before) → Tells ends line before after ends
  failed : BreaksIn fault.Write line before after → Tells ends line before after status.WriteFault
  starved : BreaksIn fault.NoMemory line before after → Tells ends line before after status.NoMemory
  no_memory : TriesLine (fault_line fault.NoMemory) before after → Tells ends line before after status.NoMemory

-- the status is the fault's, and its line was tried
abbrev pub BreaksOff : Fault → (before after : Seen (List ℕ)) → Status → Type 0
BreaksOff why before after ends = (ends ≡ fault_status why) × TriesLine (fault_line why) before after
