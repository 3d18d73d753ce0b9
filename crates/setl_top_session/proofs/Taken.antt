-- What became of a script, by what was read of the input.
use Rattle.std.proofs.Common.{◌≡◌, ◌<◌, ◌^◌, ℕ, List, [], ◌∷◌, ◌++◌, length, Option, None, Some, Result, Ok, Err, IfSome, IfErr, sym, arith}
use Rattle.std.specs.Io.KnownBytes.{Consumes}
use Rattle.setl_top_session.specs.Sessions.{IsAll, TakesScript, long_script}
use Rattle.setl_top_session.specs.code.Scripts.{NoScript, NotSpelled, not_spelled, refused_bytes}
use Rattle.setl_top_status.specs.Seen.{Seen, CountStays}
use Rattle.setl_top_status.specs.code.Tells.{Tells}
use Rattle.setl_top_status.specs.declared.status.Status.{Status}
use Rattle.setl_top_status.specs.declared.status.Status.TheVariants as status
use Rattle.std.proofs.Common.{codes}

all_of : (old : Option (List ℕ)) (bytes : List ℕ) → IfSome old (λ xs. bytes ≡ xs) → IsAll old bytes
all_of None bytes h = tt
all_of (Some xs) bytes h = sym h

-- the whole input is a script's text
pub takes_whole : (old new : Option (List ℕ)) (bytes : List ℕ) → IfSome old (λ xs. bytes ≡ xs) → Consumes old new bytes → TakesScript old new bytes
takes_whole old new bytes all taken = (taken, λ _. all_of old bytes all)

-- more bytes than a script may have
pub too_long : (input input' err err' : Seen (List ℕ)) (taken : List ℕ) → Consumes input.held input'.held taken → 2 ^ 20 < length taken → CountStays input input' → (ends : Status) → Tells status.Refused (codes "script too long" ++ 10 ∷ []) err err' ends → NoScript input input' err err' ends
too_long input input' err err' taken c long count ends told =
    not_spelled taken ends (c, λ short. absurd (omega (arith, long, short))) count (refused_bytes (codes "script too long") ends (long_script long) told)

-- why they are no script
pub not_spelled_by : {T : Type 0} → (input input' err err' : Seen (List ℕ)) (bytes : List ℕ) (r : Result T Status) → TakesScript input.held input'.held bytes → CountStays input input' → IfErr r (NotSpelled bytes err err') → IfErr r (NoScript input input' err err')
not_spelled_by input input' err err' bytes (Ok x) taken count h = tt
not_spelled_by input input' err err' bytes (Err ends) taken count h = not_spelled bytes ends taken count h
