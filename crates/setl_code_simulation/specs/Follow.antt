-- One machine follows another, step by step.
use Rattle.std.specs.Prelude.{◌≡◌, ℕ, List, [], ◌<◌, Option}
use Rattle.setl_value.specs.Datum.{Datum}
use Rattle.setl_model_runs.specs.Variable.{Variable}
use Rattle.setl_model_runs.specs.Events.{Event, End}
use Rattle.setl_model_runs.specs.Run.{Store, Move, Moves, Halts, State, Next, Goes, Ends, Machine}

abbrev pub quiet : {C : Type 0} → C → Move C
quiet c = Moves [] [] c 0 []

-- two moves that print, tell, store and end alike, to related states
pub data Related {K C : Type 0} (R : K → C → Type 0) : Move K → Move C → Type 0 where
  moves : {said : List ℕ} {told : List Event} {line : ℕ} {xs : List Store} {k : K} {c : C} → R k c → Related R (Moves said told k line xs) (Moves said told c line xs)
  halts : {e : End} → Related R (Halts e) (Halts e)

-- A move from a state of rank r is answered from a state, after some quiet steps that keep what they are to keep, by a
-- step, or by none where the rank falls. Where the quiet steps end, that is in hand which the move does.
pub data Answers {K C : Type 0} (R : K → C → Type 0) (rank : (k : K) (c : C) → R k c → ℕ) (n : Machine C) (Keeps : C → C → Type 0) (InHand : C → Type 0) : ℕ → Move K → C → Type 0 where
  by_step : {r : ℕ} {m : Move K} {c : C} → InHand c → Related R m (n.move c) → Answers R rank n Keeps InHand r m c
  after_step : {r r' : ℕ} {m : Move K} {c : C} → (c' : C) → n.move c ≡ quiet c' → Keeps c c' → Answers R rank n Keeps InHand r' m c' → Answers R rank n Keeps InHand r m c
  by_none : {r : ℕ} {k : K} {c : C} → InHand c → (h : R k c) → rank k c h < r → Answers R rank n Keeps InHand r (quiet k) c

-- each move from related states is answered
pub record Follows {K C : Type 0} (m : Machine K) (n : Machine C) (R : K → C → Type 0) (rank : (k : K) (c : C) → R k c → ℕ) (Keeps : C → C → Type 0) (InHand : K → C → Type 0) : Type 0 where
  pub answers : (k : K) (c : C) (h : R k c) → Answers R rank n Keeps (InHand k) (rank k c h) (m.move k) c
  pub writes : (x : Variable) (v : Option Datum) (k : K) (c : C) → R k c → R (m.write x v k) (n.write x v c)

-- What related states have alike, which is kept by quiet steps.
pub record Shows {K C : Type 0} (R : K → C → Type 0) (Keeps : C → C → Type 0) (Seen : K → C → Type 0) : Type 0 where
  pub seen : (k : K) (c : C) → R k c → Seen k c
  pub kept : (k : K) (c c' : C) → Seen k c → Keeps c c' → Seen k c'

-- two states whose cores are related so, with the same output and events
pub record Shares {K C : Type 0} (R : K → C → Type 0) (s : State K) (t : State C) : Type 0 where
  pub core : R s.core t.core
  pub out : s.out ≡ t.out
  pub events : s.events ≡ t.events

-- both go on to related states, or end alike at states that show the same
abbrev pub Same : {K C : Type 0} → (K → C → Type 0) → (K → C → Type 0) → Next K → Next C → Type 0
Same R Seen (Goes s) (Goes t) = Shares R s t
Same R Seen (Ends e s) (Ends f t) = (e ≡ f) × Shares Seen s t
Same R Seen (Goes s) (Ends f t) = ⊥
Same R Seen (Ends e s) (Goes t) = ⊥
