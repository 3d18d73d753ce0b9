-- A walk over the states of the run of a code with the most turns.
use Rattle.std.specs.Prelude.{◌≡◌, ℕ, ◌-◌, ◌^◌, ◌≤◌, ◌<◌, List, [], ◌++◌, map, min, take, Option, Some, None, IfSome, if◌then◌else◌}
use Rattle.setl_model_runs.specs.Run.{State, Goes}
use Rattle.setl_model_turns.specs.Laws.{TurnsOnlyCut}
use Rattle.setl_program.specs.Formed.{Formed}
use Rattle.setl_program.specs.code.Plain.{plain_program}
use Rattle.setl_watch.specs.HitCounts.{hits}
use Rattle.setl_watch.specs.Notices.{noticed}
use Rattle.setl_watch.specs.Profiles.{profile}
use Rattle.setl_watch.specs.Watches.{counted_by, reported}
use Rattle.setl_code.specs.CodeCore.{CodeCore}
use Rattle.setl_code.specs.CodeOf.{code_of}
use Rattle.setl_code.specs.MayRun.{MayRun}
use Rattle.setl_code.specs.Plain.{plain_code}
use Rattle.setl_machine_control.specs.Declaring.{DeclarationTable, modes_of, AreOfMain, IsBare}
use Rattle.setl_debug_machine.specs.Screens.{PlainRun, IsScreen, after_all}
use Rattle.setl_debug_machine.specs.code.Machines.{code_run, EndsIn, StandsAfter, StepsTo}
use Rattle.setl_debug_machine.specs.declared.ending.Last.{Last}
use Rattle.setl_debug_machine.specs.declared.follower.Follower.{Follower}
use Rattle.setl_debug_machine.specs.declared.follower.Standing.{Standing}
use Rattle.setl_debug_machine.specs.declared.follower.Standing.TheVariants.{After, AtEnd}
use Rattle.setl_debug_machine.specs.declared.machine.Machine.{Machine}
use Rattle.setl_debug_machine.specs.declared.machine.Stepped.{Stepped}
use Rattle.setl_debug_machine.specs.declared.machine.Stepped.TheVariants.{Went, Ended}
use Rattle.setl_debug_machine.specs.declared.walk.Place.{Place}
use Rattle.setl_debug_machine.specs.declared.subject.Subject.{Subject}
use Rattle.setl_debug_machine.specs.declared.walk.Tally.{Tally}
use Rattle.setl_debug_machine.specs.declared.walk.Walk.{Walk}
use Rattle.setl_debug_target.specs.Screens.{Screen, Stand}

-- the greatest number of turns
abbrev pub most_turns : ℕ
most_turns = 2 ^ 63 - 1

-- the run of a subject
abbrev pub run_by : Subject → PlainRun
run_by s = record { program = plain_program s.program.now; input = s.input.items; based = s.based }

-- the code is that of the program, which is formed, and the table has those of its declarations that count
pub record IsReady (s : Subject) : Type 0 where
  pub may_run : MayRun s.code.now
  pub bare : IsBare (plain_code s.code.now)
  pub formed : Formed (plain_program s.program.now)
  pub code : plain_code s.code.now ≡ code_of (plain_program s.program.now)
  pub table : s.declarations.code ≡ s.code.now
  pub main : AreOfMain (modes_of s.declarations)
  pub counted : modes_of s.declarations ≡ (if s.based then (plain_program s.program.now).modes else [])

-- ---- what was counted

-- this was counted up to a state: its turns, the bytes written, the calls, and the stores at the line
pub record IsCounted (s : State CodeCore) (output : List ℕ) (t : Tally) : Type 0 where
  pub turns : t.turns ≡ most_turns - s.core.world.left
  pub written : take t.written output ≡ s.out
  pub calls : profile t.profile ≡ after_all (profile []) (map noticed s.events)
  pub stores : hits t.hits.line t.hits.stores ≡ after_all (hits t.line 0) (map noticed s.events)

-- nothing was counted, of the stores at this line
pub record NothingCounted (line : ℕ) (t : Tally) : Type 0 where
  pub turns : t.turns ≡ 0
  pub written : t.written ≡ 0
  pub calls : t.profile ≡ []
  pub stores : hits t.hits.line t.hits.stores ≡ hits line 0
  pub at_line : t.line ≡ line

-- ---- walks

-- It stands at a state of the run, up to which was counted, and its machine is a step ahead.
pub record IsWalk (d : DeclarationTable) (input : List ℕ) (w : Walk) : Type 0 where
  pub at : State CodeCore
  pub reached : code_run d input most_turns w.steps ≡ Goes at
  pub counted : IsCounted at w.machine.output w.tally
  pub next : StepsTo d at w.machine w.ahead

-- the step ahead goes on
abbrev pub GoesOn : Stepped → Type 0
GoesOn (Went events) = Unit {0}
GoesOn (Ended e) = ⊥

-- it ends the run
abbrev pub EndsAhead : Stepped → Type 0
EndsAhead (Went events) = ⊥
EndsAhead (Ended e) = Unit {0}

-- the step ahead, which leaves so many turns, goes beyond this number of turns, or it ends the run
abbrev pub GoesBeyond : (turns left : ℕ) → Stepped → Type 0
GoesBeyond turns left (Went events) = turns < most_turns - left
GoesBeyond turns left (Ended e) = Unit {0}

-- it stands at the last state with so many turns
pub record IsAtTurns (turns : ℕ) (w : Walk) : Type 0 where
  pub within : w.tally.turns ≤ turns
  pub last : GoesBeyond turns w.machine.control.turns w.ahead

-- what was written up to the state at which a walk stands
abbrev pub written_by : Walk → List ℕ
written_by w = take w.tally.written w.machine.output

-- how many stores were counted, up to 2^64 - 1
abbrev pub stores_by : Walk → ℕ
stores_by w = min (counted_by (hits w.tally.hits.line w.tally.hits.stores)) (2 ^ 64 - 1)

-- ---- followers

-- the run with the most turns goes on for so many steps
abbrev pub GoesSoFar : DeclarationTable → List ℕ → (steps : ℕ) → Type 0
GoesSoFar d input steps = (at : State CodeCore) × (code_run d input most_turns steps ≡ Goes at)

-- a machine stands so: at a state of the run with the most turns, or it has the slots of the last state of the run
-- with so many
abbrev pub StandsSo : DeclarationTable → List ℕ → Machine → Standing → Type 0
StandsSo d input m (After steps) = StandsAfter d input most_turns steps m
StandsSo d input m (AtEnd turns ending) = EndsIn d input turns ending m.store.core

abbrev pub IsFollower : DeclarationTable → List ℕ → Follower → Type 0
IsFollower d input f = StandsSo d input f.machine f.standing

-- at the state after so many steps, or before it
abbrev pub IsStandingBefore : (steps : ℕ) → Standing → Type 0
IsStandingBefore steps (After n) = n ≤ steps
IsStandingBefore steps (AtEnd turns ending) = ⊥

-- a follower that has the slots of the last state of the run with so many turns, which ends so
pub record IsLast (d : DeclarationTable) (input : List ℕ) (turns : ℕ) (l : Last) : Type 0 where
  pub follower : IsFollower d input l.follower
  pub ends : EndsIn d input turns l.ending l.follower.machine.store.core

-- ---- where a run stands

-- a part of a screen of the run after so many turns was added
abbrev pub AddsPart : PlainRun → ℕ → (Screen → List ℕ) → (before after : List ℕ) → Type 0
AddsPart r turns part before after = (s : Screen) × IsScreen r turns s × (after ≡ before ++ part s)

-- a walk tells this of a screen of the run after so many turns
pub record Sees (r : PlainRun) (turns : ℕ) (w : Walk) : Type 0 where
  pub screen : Screen
  pub is : IsScreen r turns screen
  pub written : written_by w ≡ screen.written
  pub calls : reported (profile w.tally.profile) ≡ screen.profile
  pub stores : stores_by w ≡ screen.hits w.tally.line

-- this is what is counted of a screen of the run
abbrev pub HasHits : PlainRun → Place → Type 0
HasHits r p = (s : Screen) × IsScreen r p.turns s × (p.hits ≡ s.hits p.line)

-- the walk, if there is one, stands there
abbrev pub StandsThere : PlainRun → Option Walk → Place → Type 0
StandsThere r None p = Unit {0}
StandsThere r (Some w) p = Sees r p.turns w

abbrev pub stand_of : Option Place → Option Stand
stand_of None = None
stand_of (Some p) = Some (record { turns = p.turns; line = p.line })

-- What is looked at is ready, its walk and its follower are over its run, and where the run stands so many stores were
-- counted; and a bound on turns only cuts a run.
pub record Stands (s : Subject) (walk : Option Walk) (follower : Option Follower) (place : Option Place) : Type 0 where
  pub ready : IsReady s
  pub cut : TurnsOnlyCut
  pub walks : IfSome walk (IsWalk s.declarations s.input.items)
  pub follows : IfSome follower (IsFollower s.declarations s.input.items)
  pub few : IfSome place (λ p. p.turns < 2 ^ 63)
  pub counted : IfSome place (HasHits (run_by s))
  pub there : IfSome place (StandsThere (run_by s) walk)
