-- What becomes of a text that is to be written.
use Rattle.std.specs.Prelude.{◌≡◌, ℕ, List}
use Rattle.std.specs.Io.KnownBytes.{Appends}
use Rattle.setl_io.specs.Sink.{AppendsPart}
use Rattle.setl_top_status.specs.Lines.{TriesLine, fault_line}
use Rattle.setl_top_status.specs.Seen.{Seen, CountRose, CountStays, one_piece}
use Rattle.setl_top_status.specs.declared.fault.Fault.TheVariants as fault
use Rattle.setl_top_status.specs.declared.status.Status.{Status}
use Rattle.setl_top_status.specs.declared.status.Status.TheVariants as status

-- What becomes of a text that is to be written to the output, and of the error output: all of it is written, as one piece,
-- or some of it and not all, or memory was refused before the write.
pub data Written (text : List ℕ) (out out' err err' : Seen (List ℕ)) : Status → Type 0 where
  all_written : Appends out.held out'.held text → out'.calls ≡ one_piece text out.calls → CountStays out out' → err' ≡ err → Written text out out' err err' status.Done
  write_failed : AppendsPart out.held out'.held text → CountRose out out' → TriesLine (fault_line fault.Write) err err' → Written text out out' err err' status.WriteFault
  write_starved : AppendsPart out.held out'.held text → CountStays out out' → TriesLine (fault_line fault.NoMemory) err err' → Written text out out' err err' status.NoMemory
  no_text : out' ≡ out → TriesLine (fault_line fault.NoMemory) err err' → Written text out out' err err' status.NoMemory
