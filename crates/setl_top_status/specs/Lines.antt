-- The line of a fault, and what an output gains from a line that is tried.
use Rattle.std.specs.Prelude.{◌≡◌, ◌⊎◌, ℕ, List, [], ◌∷◌, ◌++◌, codes}
use Rattle.std.specs.Io.KnownBytes.{Appends}
use Rattle.std.specs.Option.{option_map}
use Rattle.setl_io.specs.Faults.{one_more}
use Rattle.setl_io.specs.Sink.{AppendsPart}
use Rattle.setl_top_status.specs.Seen.{Seen, CountRose, CountStays}
use Rattle.setl_top_status.specs.declared.fault.Fault.{Fault}
use Rattle.setl_top_status.specs.declared.fault.Fault.TheVariants.{Read, Write, NoMemory}

-- the line that tells what broke a call off, with its byte 10
abbrev pub fault_line : Fault → List ℕ
fault_line Read = codes "read fault" ++ 10 ∷ []
fault_line Write = codes "write fault" ++ 10 ∷ []
fault_line NoMemory = codes "no memory" ++ 10 ∷ []

-- The line is tried once, as one piece: it is gained without a fault, or some of it is and not all, with one fault at most.
pub record TriesLine (line : List ℕ) (before after : Seen (List ℕ)) : Type 0 where
  pub piece : after.calls ≡ option_map one_more before.calls
  pub gained : (Appends before.held after.held line × CountStays before after) ⊎ (AppendsPart before.held after.held line × (CountRose before after ⊎ CountStays before after))

-- the one fault of a write that failed, and none where memory was refused
abbrev pub CountsOf : Fault → (before after : Seen (List ℕ)) → Type 0
CountsOf Read before after = ⊥
CountsOf Write before after = CountRose before after
CountsOf NoMemory before after = CountStays before after

-- A text was being told, as one piece: some of it is gained, and not all, and then the line of what broke it off is tried.
pub record BreaksIn (why : Fault) (text : List ℕ) (before after : Seen (List ℕ)) : Type 0 where
  pub then : Seen (List ℕ)
  pub piece : then.calls ≡ option_map one_more before.calls
  pub part : AppendsPart before.held then.held text
  pub count : CountsOf why before then
  pub tried : TriesLine (fault_line why) then after
