-- Laws over what a program means.
use Rattle.std.specs.Prelude.{◌≡◌, ℕ, Bool, true, false, List, ◌++◌, Option}
use Rattle.setl_value.specs.Datum.{Datum}
use Rattle.setl_model_runs.specs.Variable.{Variable, Environment, value_in, with_value}
use Rattle.setl_program.specs.Program.{Program}
use Rattle.setl_model_runs.specs.Events.{Event, StopKind, Unfit, End, Stopped}
use Rattle.setl_model_runs.specs.Run.{State}
use Rattle.setl_model.specs.Core.{Core}
use Rattle.setl_model.specs.Step.{Step}
use Rattle.setl_model.specs.Means.{Reaches, Means, HasPrint}

-- a variable holds what was stored in it last, and a store changes no other variable
abbrev pub HoldsWhatWasStored : Type 0
HoldsWhatWasStored = (e : Environment) (x : Variable) (v : Option Datum) → value_in (with_value e x v) x ≡ v

abbrev pub StoresChangeOneVariable : Type 0
StoresChangeOneVariable = (e : Environment) (x y : Variable) (v : Option Datum) → (x ≡ y → ⊥) → value_in (with_value e x v) y ≡ value_in e y

-- a state has at most one next state
abbrev pub OneStep : Type 0
OneStep = (p : Program) (based : Bool) (a b c : State Core) → Step p based a b → Step p based a c → b ≡ c

-- a program has at most one output and one end
abbrev pub OneMeaning : Type 0
OneMeaning = (p : Program) (input : List ℕ) (turns : ℕ) (based : Bool) (o o' : List ℕ) (e e' : End) →
    Means p input turns based o e → Means p input turns based o' e' → (o ≡ o') × (e ≡ e')

-- the second state has the output and events of the first and perhaps more behind them
pub record Grows (C : Type 0) (a b : State C) : Type 0 where
  pub said : List ℕ
  pub told : List Event
  pub out : b.out ≡ a.out ++ said
  pub events : b.events ≡ a.events ++ told

-- a step takes back no output and no event
abbrev pub StepsGrow : Type 0
StepsGrow = (p : Program) (based : Bool) (a b : State Core) → Step p based a b → Grows Core a b

-- one list is the front of another
abbrev pub IsFront : List ℕ → List ℕ → Type 0
IsFront xs ys = (more : List ℕ) × (ys ≡ xs ++ more)

-- what a reached state has written is the front of the whole output
abbrev pub ReachedOutputIsFront : Type 0
ReachedOutputIsFront = (p : Program) (input : List ℕ) (turns : ℕ) (based : Bool) (s : State Core) (o : List ℕ) (e : End) →
    Reaches p input turns based s → Means p input turns based o e → IsFront s.out o

-- and so it is with the line of the `print` in hand behind it
abbrev pub PrintInHandIsFront : Type 0
PrintInHandIsFront = (p : Program) (input : List ℕ) (turns : ℕ) (based : Bool) (s : State Core) (line o : List ℕ) (e : End) →
    Reaches p input turns based s → HasPrint p s line → Means p input turns based o e → IsFront (s.out ++ line) o

-- a store didn't fit
abbrev pub StopIsUnfit : StopKind → Type 0
StopIsUnfit (Unfit x) = Unit {0}
StopIsUnfit k = ⊥

abbrev pub IsUnfit : End → Type 0
IsUnfit (Stopped k line) = StopIsUnfit k
IsUnfit e = ⊥

-- with declarations, a run writes the front of what it writes without
abbrev pub DeclarationsOnlyCut : Type 0
DeclarationsOnlyCut = (p : Program) (input : List ℕ) (turns : ℕ) (o o' : List ℕ) (e e' : End) →
    Means p input turns true o e → Means p input turns false o' e' → IsFront o o'

-- and where every store fits, declarations change nothing
abbrev pub DeclarationsChangeNothing : Type 0
DeclarationsChangeNothing = (p : Program) (input : List ℕ) (turns : ℕ) (o : List ℕ) (e : End) →
    (IsUnfit e → ⊥) → Means p input turns true o e → Means p input turns false o e
