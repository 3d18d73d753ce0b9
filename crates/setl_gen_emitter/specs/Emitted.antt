-- What an emitter holds.
use Rattle.std.specs.Prelude.{ℕ, List, [], ◌∷◌, ◌++◌, length, map, slice_set}
use Rattle.setl_code.specs.Code.{Instr, Jump, Step}
use Rattle.setl_code.specs.Piece.{Piece, empty, step, jump_out, jump_on, join, ending_at, going_on_at, past, Labels, steps_of, Laid}
use Rattle.setl_code.specs.Plain.{plain_step}
use Rattle.setl_gen_emitter.specs.declared.hole.Hole.{Hole}
use Rattle.setl_gen_emitter.specs.declared.emitter.Emitter.{Emitter}
use Rattle.setl_gen_emitter.specs.Table.{Table, variables}

-- The variables of the body, where the innermost loop goes on, the steps, and the jumps out of that loop, whose target is
-- not known before its end.
pub record Emitted : Type 0 where
  pub table : Table
  pub again : ℕ
  pub steps : List Step
  pub exits : List Hole

abbrev pub held : Emitter → Emitted
held e = record {
  table = e.names;
  again = e.again;
  steps = map (plain_step (variables e.names)) e.steps.items;
  exits = e.exits;
}

-- the place of the next step
abbrev pub here : Emitted → ℕ
here s = length s.steps

abbrev pub hole : ℕ → ℕ → Hole
hole at l = record { place = at; line = l }

-- the jumps of a piece, from its place on, that lead out of a loop around it
abbrev pub exits_of : ℕ → Piece → List Hole
exits_of at empty = []
exits_of at (step line i) = []
exits_of at (jump_out line) = hole at line ∷ []
exits_of at (jump_on line) = []
exits_of at (join p q) = exits_of at p ++ exits_of (past at p) q
exits_of at (ending_at to p) = []
exits_of at (going_on_at to p) = exits_of at p

-- a jump out whose target isn't known has 0
abbrev pub labels : ℕ → Labels
labels again = record { exit = 0; again = again }

-- with this code behind the steps
unfoldable pub after : Laid → Emitted → Emitted
after a s =
    let p = a (here s) in
    record s { steps = s.steps ++ steps_of (labels s.again) p; exits = s.exits ++ exits_of (here s) p }

-- with another step at a place
abbrev pub with_step : ℕ → ℕ → Instr → Emitted → Emitted
with_step at line i s = record s { steps = slice_set s.steps at (line, i) }

-- with the targets of these jumps
abbrev pub filled : (to : ℕ) → List Hole → List Step → List Step
filled to [] steps = steps
filled to (h ∷ hs) steps = slice_set (filled to hs steps) h.place (h.line, Jump to)

abbrev pub all_filled : (to : ℕ) → List Hole → Emitted → Emitted
all_filled to hs s = record s { steps = filled to hs s.steps }

-- these jumps lead to the next step
abbrev pub closed : List Hole → Emitted → Emitted
closed hs s = all_filled (here s) hs s

-- with these jumps out
abbrev pub with_exits : List Hole → Emitted → Emitted
with_exits hs s = record s { exits = hs }

-- inside a loop that goes on at a place
abbrev pub with_again : ℕ → Emitted → Emitted
with_again at s = record s { again = at }
