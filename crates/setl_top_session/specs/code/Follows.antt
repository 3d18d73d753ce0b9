-- What the commands of a session write.
use Rattle.std.specs.Prelude.{◌≡◌, ◌<◌, ◌≤◌, ℕ, List, length, take}
use Rattle.std.specs.Io.KnownBytes.{Appends}
use Rattle.setl_top_status.specs.Lines.{TriesLine, fault_line}
use Rattle.setl_top_status.specs.Seen.{Seen, CountRose, CountStays}
use Rattle.setl_top_status.specs.declared.fault.Fault.TheVariants as fault
use Rattle.setl_top_status.specs.declared.status.Status.{Status}
use Rattle.setl_top_status.specs.declared.status.Status.TheVariants as status
use Rattle.setl_top_session.specs.Sessions.{Session, IsTold}

-- all that the script tells; or some of what its first commands tell, and not all where the output failed
pub data FollowsScript (s : Session) (out out' err err' : Seen (List ℕ)) : Status → Type 0 where
  followed : (told : List ℕ) → IsTold s s.script told → Appends out.held out'.held told → CountStays out out' → err' ≡ err → FollowsScript s out out' err err' status.Done
  unwritten : (count : ℕ) (told : List ℕ) (n : ℕ) → IsTold s (take count s.script) told → n < length told → Appends out.held out'.held (take n told) → CountRose out out' → TriesLine (fault_line fault.Write) err err' → FollowsScript s out out' err err' status.WriteFault
  starved : (count : ℕ) (told : List ℕ) (n : ℕ) → IsTold s (take count s.script) told → n ≤ length told → Appends out.held out'.held (take n told) → CountStays out out' → TriesLine (fault_line fault.NoMemory) err err' → FollowsScript s out out' err err' status.NoMemory
