-- The moves of which every step is one.
use Rattle.std.specs.Prelude.{ℕ, List, [], ◌∷◌, Option}
use Rattle.setl_value.specs.Datum.{Datum}
use Rattle.setl_model_runs.specs.Variable.{Variable, Bound}
use Rattle.setl_operators_table.specs.Outcome.{Outcome}
use Rattle.setl_model_runs.specs.Run.{Move, Moves}
use Rattle.setl_model.specs.Core.{Hand, Result, Frame, Core, line_of, write_variable}
use Rattle.setl_model.specs.World.{Holding}
use Rattle.setl_model.specs.World as world

-- how the core of the meaning holds its world
abbrev pub holding : Holding Core
holding = record {
  world = λ c. c.shared.world;
  put = λ w c. record c { shared = record c.shared { world = w } };
}

-- goes on with this in hand over these frames
abbrev pub go : Hand → List Frame → Core → Move Core
go hand work c = Moves [] [] (record c { hand = hand; work = work }) 0 []

-- the same, and stores a value at a line; a former's own name is bound without an event and without a test
abbrev pub store_or_bind : ℕ → Variable → Option Datum → Hand → List Frame → Core → Move Core
store_or_bind line (Bound former name) v hand work c = go hand work (record c { shared = write_variable (Bound former name) v c.shared })
store_or_bind line x v hand work c = Moves [] [] (record c { hand = hand; work = work }) line ((x, v) ∷ [])

-- goes on after one turn, if one is left
abbrev pub turn : Core → (Core → Move Core) → Move Core
turn c next = world.turn holding c next

-- goes on with what an operation at a line gives
abbrev pub with_outcome : Outcome → ℕ → Core → (Option Datum → Core → Move Core) → Move Core
with_outcome o line c next = world.with_outcome holding o line c next

-- hands what an operation gives to the innermost frame
abbrev pub deliver : Outcome → List Frame → Core → Move Core
deliver outcome work c = with_outcome outcome (line_of work) c (λ v d. go (Result v) work d)
