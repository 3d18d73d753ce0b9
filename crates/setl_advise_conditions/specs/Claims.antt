-- What the conditions of a program say of its flows.
use Rattle.std.specs.Prelude.{◌≡◌, ◌<◌, ◌≤◌}
use Rattle.setl_program.specs.Program.{Program}
use Rattle.setl_program.specs.Formed.{Formed}
use Rattle.setl_advise_flows.specs.Flow.{Flow, capped, join, Below}
use Rattle.setl_advise_flows.specs.Expressions.{Flows, Solves}
use Rattle.setl_advise_conditions.specs.Conditions.{MeetsAll}
use Rattle.setl_advise_conditions.specs.Parts.{conditions_of}
use Rattle.setl_advise_conditions.specs.Rank.{rank}

-- Flows that meet each condition of a formed program meet all that the program asks.
abbrev pub MetIsSolved : Type 0
MetIsSolved = (p : Program) (s : Flows) → Formed p → MeetsAll s (conditions_of p) → Solves p s

-- And flows that meet all that a program asks meet each of its conditions.
abbrev pub SolvedIsMet : Type 0
SolvedIsMet = (p : Program) (s : Flows) → Solves p s → MeetsAll s (conditions_of p)

-- What a join adds to a flow raises its rank, where it adds something.
abbrev pub JoinsRise : Type 0
JoinsRise = (f g : Flow) → capped 3 f ≡ f → capped 3 g ≡ g → (Below f g → ⊥) → rank 3 g < rank 3 (join f g)

-- A flow has a rank of at most 106, so that it rises that often at most.
abbrev pub RanksAreBounded : Type 0
RanksAreBounded = (f : Flow) → rank 3 f ≤ 106
