-- Tables of worked programs.
use Rattle.std.specs.Prelude.{◌≡◌, ℕ, Bool, true, false, List, [], ◌∷◌, ◌++◌, map}
use Rattle.setl_program.specs.Program.{Expr, Program}
use Rattle.setl_model_runs.specs.Events.{Event, StopKind, End, Done, Stopped, Spent}
use Rattle.setl_model_runs.specs.Run.{State, Ends, run}
use Rattle.setl_model.specs.Core.{Core}
use Rattle.setl_model.specs.Step.{language, test_of}
use Rattle.setl_model.specs.Means.{Means, first}
use Rattle.setl_model.specs.Dump.{layout}
use Rattle.setl_program.specs.Source.{print, lines}

-- A worked program: what it reads, its turns, whether its declarations count, what it writes and how it ends.
pub record Row : Type 0 where
  pub program : Program
  pub input : List ℕ
  pub turns : ℕ
  pub based : Bool
  pub out : List ℕ
  pub end : End

-- the program means what the row says
abbrev pub Holds : Row → Type 0
Holds r = Means r.program r.input r.turns r.based r.out r.end

abbrev pub AllHold : List Row → Type 0
AllHold [] = Unit {0}
AllHold (r ∷ rs) = Holds r × AllHold rs

-- ---- rows of expressions, which are printed on line 2

-- their line
abbrev pub writes : ℕ → List Expr → List ℕ → Row
writes turns es out = record { program = lines (print es ∷ []); input = []; turns = turns; based = true; out = out ++ 10 ∷ []; end = Done }

-- too few turns
abbrev pub spends : ℕ → List Expr → Row
spends turns es = record { program = lines (print es ∷ []); input = []; turns = turns; based = true; out = []; end = Spent }

-- each stops for the same cause
abbrev stopping : StopKind → Expr → Row
stopping kind e = record { program = lines (print (e ∷ []) ∷ []); input = []; turns = 9; based = true; out = []; end = Stopped kind 2 }

abbrev pub all_stop : StopKind → List Expr → List Row
all_stop kind es = map (stopping kind) es

-- ---- rows of programs

abbrev pub does : ℕ → Program → List ℕ → Row
does turns p out = record { program = p; input = []; turns = turns; based = true; out = out; end = Done }

abbrev pub ends : End → ℕ → Program → List ℕ → Row
ends end turns p out = record { program = p; input = []; turns = turns; based = true; out = out; end = end }

-- with an input
abbrev pub reads : List ℕ → ℕ → Program → List ℕ → End → Row
reads input turns p out end = record { program = p; input = input; turns = turns; based = true; out = out; end = end }

-- without declarations
abbrev pub unbased : ℕ → Program → List ℕ → End → Row
unbased turns p out end = record { program = p; input = []; turns = turns; based = false; out = out; end = end }

-- each ends alike and writes nothing
abbrev ending : End → Program → Row
ending end p = ends end 9 p []

abbrev pub all_end : End → List Program → List Row
all_end end ps = map (ending end) ps

-- ---- rows of events

-- What a worked program tells, with so many turns and no input.
pub record EventRow : Type 0 where
  pub program : Program
  pub turns : ℕ
  pub events : List Event

abbrev pub tells : ℕ → Program → List Event → EventRow
tells turns p events = record { program = p; turns = turns; events = events }

-- the run of the program, with its declarations, ends after these events
pub record Tells (r : EventRow) : Type 0 where
  pub steps : ℕ
  pub last : State Core
  pub end : End
  pub ends : run (language r.program) (test_of r.program.modes true) steps (first r.program [] r.turns) ≡ Ends end last
  pub told : last.events ≡ r.events

abbrev pub AllTell : List EventRow → Type 0
AllTell [] = Unit {0}
AllTell (r ∷ rs) = Tells r × AllTell rs

-- ---- rows of dumps

-- What the dump of a worked program holds at its end, with the names of its bases.
pub record DumpRow : Type 0 where
  pub program : Program
  pub names : List (List ℕ)
  pub turns : ℕ
  pub text : List ℕ

abbrev pub dumps : ℕ → List (List ℕ) → Program → List ℕ → DumpRow
dumps turns names p text = record { program = p; names = names; turns = turns; text = text }

-- the run of the program, with its declarations, ends with this dump
pub record Dumps (r : DumpRow) : Type 0 where
  pub steps : ℕ
  pub last : State Core
  pub end : End
  pub ends : run (language r.program) (test_of r.program.modes true) steps (first r.program [] r.turns) ≡ Ends end last
  pub dump : layout r.names r.program.modes last ≡ r.text

abbrev pub AllDump : List DumpRow → Type 0
AllDump [] = Unit {0}
AllDump (r ∷ rs) = Dumps r × AllDump rs
