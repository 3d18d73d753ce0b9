-- Lines that were tried, by what a write answered.
use Rattle.std.proofs.Common.{◌≡◌, ◌<◌, inl, inr, ℕ, List, [], ◌∷◌, length, Option, Result, Ok, Err, OnOk, OnErr, refl, ap, arith}
use Rattle.std.specs.Prelude.{IsErrOf}
use Rattle.std.specs.Io.KnownBytes.{Appends}
use Rattle.std.specs.Option.{option_map}
use Rattle.setl_io.specs.Faults.{one_more}
use Rattle.setl_io.specs.Sink.{AppendsPart}
use Rattle.setl_io.specs.declared.whole.WriteFault.{WriteFault}
use Rattle.setl_io.specs.declared.whole.WriteFault.TheVariants.{Failed, NoMemory}
use Rattle.setl_top_status.specs.Lines.{TriesLine, fault_line}
use Rattle.setl_top_status.specs.Seen.{Seen, CountRose, CountStays, one_piece}
use Rattle.setl_top_status.specs.declared.fault.Fault.{Fault}
use Rattle.setl_top_status.specs.declared.fault.Fault.TheVariants as fault

-- each of these lines has bytes
pub some_line : (why : Fault) → 0 < length (fault_line why)
some_line fault.Read = omega arith
some_line fault.Write = omega arith
some_line fault.NoMemory = omega arith

-- what was written is one piece, unless it is empty
pub one_by : {S : Type 0} (pieces : S → Option ℕ) (text : List ℕ) (old new : S) → (text ≡ [] → new ≡ old) → (0 < length text → pieces new ≡ option_map one_more (pieces old)) → pieces new ≡ one_piece text (pieces old)
one_by pieces [] old new none some = ap pieces (none refl)
one_by pieces (byte ∷ text) old new none some = some (omega arith)

module _ (line : List ℕ) (before after : Seen (List ℕ)) (piece : after.calls ≡ option_map one_more before.calls) where
  pub tried_by : {T : Type 0} (r : Result T WriteFault) → OnOk r (Appends before.held after.held line) → OnErr r (AppendsPart before.held after.held line) → OnOk r (CountStays before after) → (IsErrOf r Failed → CountRose before after) → (IsErrOf r NoMemory → CountStays before after) → TriesLine line before after
  tried_by (Ok x) all part still failed starved = record { piece = piece; gained = inl (all, still) }
  tried_by (Err Failed) all part still failed starved = record { piece = piece; gained = inr (part, inl (failed refl)) }
  tried_by (Err NoMemory) all part still failed starved = record { piece = piece; gained = inr (part, inr (starved refl)) }
