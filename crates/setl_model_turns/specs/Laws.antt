-- A bound on turns only cuts a run.
use Rattle.std.specs.Prelude.{◌≡◌, ◌≤◌, ℕ, Bool, List, ◌++◌}
use Rattle.setl_program.specs.Program.{Program}
use Rattle.setl_model_runs.specs.Events.{Event, End, Spent}
use Rattle.setl_model_runs.specs.Run.{State}
use Rattle.setl_model.specs.Core.{Core}
use Rattle.setl_model.specs.Laws.{IsFront}
use Rattle.setl_model.specs.Means.{Reaches, Means}

-- the core with so many turns left
abbrev pub with_turns : ℕ → Core → Core
with_turns n c = record c { shared = record c.shared { world = record c.shared.world { left = n } } }

-- the second state is the first with as many turns left, or more
abbrev pub HasMoreTurns : State Core → State Core → Type 0
HasMoreTurns a b = (n : ℕ) × (a.core.shared.world.left ≤ n) × (b ≡ record a { core = with_turns n a.core })

-- one list of events is the front of another
abbrev pub IsFrontOfEvents : List Event → List Event → Type 0
IsFrontOfEvents xs ys = (more : List Event) × (ys ≡ xs ++ more)

-- a run that ended, and not for want of turns, ends alike with more of them
abbrev pub MoreTurnsKeepTheEnd : Type 0
MoreTurnsKeepTheEnd = (p : Program) (input : List ℕ) (few many : ℕ) (based : Bool) (out : List ℕ) (end : End) →
    few ≤ many → (end ≡ Spent → ⊥) → (h : Means p input few based out end) → (g : Means p input many based out end) × HasMoreTurns h.last g.last

-- one whose turns were spent goes on with more of them from where it was
abbrev pub MoreTurnsGoOn : Type 0
MoreTurnsGoOn = (p : Program) (input : List ℕ) (few many : ℕ) (based : Bool) (out : List ℕ) →
    few ≤ many → (h : Means p input few based out Spent) → (s : State Core) × Reaches p input many based s × HasMoreTurns h.last s

-- with more turns nothing that was written or told is otherwise, and more may stand behind it
abbrev pub TurnsOnlyCut : Type 0
TurnsOnlyCut = (p : Program) (input : List ℕ) (few many : ℕ) (based : Bool) (out later : List ℕ) (end last : End) →
    few ≤ many → (h : Means p input few based out end) → (g : Means p input many based later last) →
    IsFront out later × IsFrontOfEvents h.last.events g.last.events
