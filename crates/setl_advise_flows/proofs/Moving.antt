-- What keeps each value in its flow: stores, turns, outcomes, decisions.
use Rattle.std.proofs.Common.{◌≡◌, refl, sym, subst, ℕ, Bool, true, false, List, [], ◌∷◌, Option, Some, None}
use Rattle.std.specs.Prelude.{◌-◌}
use mathlib.Core.List.{reverse_aux}
use Rattle.setl_value.specs.Datum.{Datum, bool, int, text, atom, tuple, set}
use Rattle.setl_model_runs.specs.Variable.{Variable, Global, Own, Bound, is_variable, Environment, value_in, with_value}
use Rattle.setl_model_runs.specs.VariableLaws.{same_variable, value_stored, value_elsewhere}
use Rattle.setl_model_runs.specs.Events.{Stopped}
use Rattle.setl_model_runs.specs.Run.{Move, Halts}
use Rattle.setl_operators_table.specs.Outcome.{Fault, OmFault, KindFault, ZeroFault, RangeFault, WideFault, DeepFault, Outcome, Gives, Fails, Overspends, adding, then_with}
use Rattle.setl_program.specs.Program.{Program}
use Rattle.setl_model.specs.World.{stop_of, branch, with_left, go_with}
use Rattle.setl_model.specs.Moves.{holding, go, store_or_bind, with_outcome, deliver}
use Rattle.setl_model.specs.Core.{Hand, Result, Frame, Core, read_variable, write_variable, line_of}
use Rattle.setl_advise_flows.specs.Flow.{Flow, Tuple, join, Below}
use Rattle.setl_advise_flows.specs.Has.{HasAt, Covers}
use Rattle.setl_advise_flows.specs.Operators.{Shape, Plain, Constant, Written, flow_of, HasShape, HaveShapes, OutcomeShape}
use Rattle.setl_advise_flows.specs.Expressions.{Flows}
use Rattle.setl_advise_flows.specs.Invariant.{Passes, onto, EnvironmentIn, Waits, HandIn, CoreIn, MoveIn}
use Rattle.setl_advise_flows.proofs.Joining.{cap_covers, pair_is_tuple, joins, below_covers}

pub itself : (w : Shape) → Passes w w
itself w v h = h

-- ---- variables

pub stored_in : (s : Flows) (e : Environment) (x : Variable) (v : Option Datum) → EnvironmentIn s e → HasAt (s.of x) v → EnvironmentIn s (with_value e x v)
stored_in s e x v h w y = go (is_variable x y) refl
  where
    go : (t : Bool) → is_variable x y ≡ t → HasAt (s.of y) (value_in (with_value e x v) y)
    go true eq = subst (λ z. HasAt (s.of z) (value_in (with_value e x v) z)) (same_variable x y eq) (subst (λ u. HasAt (s.of x) u) (sym (value_stored e x v)) w)
    go false eq = subst (λ u. HasAt (s.of y) u) (sym (value_elsewhere e x y v eq)) (h y)

pub empty_in : (s : Flows) → EnvironmentIn s []
empty_in s x = tt

module _ (p : Program) (s : Flows) where
  pub read_in : (x : Variable) (c : Core) → CoreIn p s c → HasAt (s.of x) (read_variable x c.shared)
  read_in (Global name) c i = i.globals (Global name)
  read_in (Own body name) c i = i.own (Own body name)
  read_in (Bound former name) c i = i.own (Bound former name)

  -- another hand over other frames
  pub placed : (c : Core) → CoreIn p s c → (r : Flow) (hand : Hand) (work : List Frame) → HandIn p s r hand work → CoreIn p s (record c { hand = hand; work = work })
  placed c i r hand work h = record { globals = i.globals; own = i.own; result = r; hand = h; kept = i.kept }

  pub going : (c : Core) → CoreIn p s c → (r : Flow) (hand : Hand) (work : List Frame) → HandIn p s r hand work → MoveIn p s (go hand work c)
  going c i r hand work h = (placed c i r hand work h, tt)

  pub written : (c : Core) → CoreIn p s c → (x : Variable) (v : Option Datum) → HasAt (s.of x) v → CoreIn p s (record c { shared = write_variable x v c.shared })
  written c i (Global name) v h = record { globals = stored_in s c.shared.globals (Global name) v i.globals h; own = i.own; result = i.result; hand = i.hand; kept = i.kept }
  written c i (Own body name) v h = record { globals = i.globals; own = stored_in s c.shared.own (Own body name) v i.own h; result = i.result; hand = i.hand; kept = i.kept }
  written c i (Bound former name) v h = record { globals = i.globals; own = stored_in s c.shared.own (Bound former name) v i.own h; result = i.result; hand = i.hand; kept = i.kept }

  pub stores : (line : ℕ) (x : Variable) (v : Option Datum) (c : Core) → CoreIn p s c → (r : Flow) (hand : Hand) (work : List Frame) → HasAt (s.of x) v → HandIn p s r hand work → MoveIn p s (store_or_bind line x v hand work c)
  stores line (Bound former name) v c i r hand work w h = (placed (record c { shared = write_variable (Bound former name) v c.shared }) (written c i (Bound former name) v w) r hand work h, tt)
  stores line (Global name) v c i r hand work w h = (placed c i r hand work h, (w, tt))
  stores line (Own body name) v c i r hand work w h = (placed c i r hand work h, (w, tt))

  -- ---- turns and outcomes

  pub spent : (c : Core) → CoreIn p s c → (n : ℕ) → CoreIn p s (with_left holding n c)
  spent c i n = record { globals = i.globals; own = i.own; result = i.result; hand = i.hand; kept = i.kept }

  pub goes_with : (o : Option ℕ) (c : Core) (next : Core → Move Core) → ((n : ℕ) → MoveIn p s (next (with_left holding n c))) → MoveIn p s (go_with holding o c next)
  goes_with (Some n) c next h = h n
  goes_with None c next h = tt

  pub stops : (f : Fault) (line : ℕ) → MoveIn p s (Halts (Stopped (stop_of f) line))
  stops OmFault line = tt
  stops KindFault line = tt
  stops ZeroFault line = tt
  stops RangeFault line = tt
  stops WideFault line = tt
  stops DeepFault line = tt

  pub gives : (w : Shape) (o : Outcome) (line : ℕ) (c : Core) (next : Option Datum → Core → Move Core) → OutcomeShape w o →
      ((v : Option Datum) (n : ℕ) → HasShape w v → MoveIn p s (next v (with_left holding n c))) → MoveIn p s (with_outcome o line c next)
  gives w (Gives v n) line c next h k = k v (c.shared.world.left - n) h
  gives w (Fails f) line c next h k = stops f line
  gives w Overspends line c next h k = tt

  pub delivers : (w : Shape) (o : Outcome) (r : Flow) (work : List Frame) (c : Core) → CoreIn p s c → OutcomeShape w o → Waits p s r true w work → MoveIn p s (deliver o work c)
  delivers w o r work c i h k =
      gives w o (line_of work) c (λ v d. go (Result v) work d) h (λ v n x. going (with_left holding n c) (spent c i n) r (Result v) work (w, x, (true, k)))

  pub decides : (v : Option Datum) (line : ℕ) (holds fails : Move Core) → MoveIn p s holds → MoveIn p s fails → MoveIn p s (branch v line holds fails)
  decides (Some (bool true)) line holds fails y n = y
  decides (Some (bool false)) line holds fails y n = n
  decides None line holds fails y n = tt
  decides (Some (int z)) line holds fails y n = tt
  decides (Some (text z)) line holds fails y n = tt
  decides (Some (atom z)) line holds fails y n = tt
  decides (Some (tuple z)) line holds fails y n = tt
  decides (Some (set z)) line holds fails y n = tt

-- results turned round are of their shapes turned round
pub have_onto : (ws us : List Shape) (vs xs : List (Option Datum)) → HaveShapes ws vs → HaveShapes us xs → HaveShapes (onto ws us) (reverse_aux vs xs)
have_onto [] us [] xs h k = k
have_onto (w ∷ ws) us (v ∷ vs) xs h k = have_onto ws (w ∷ us) vs (v ∷ xs) h.1 (h.0, k)
have_onto [] us (v ∷ vs) xs h k = absurd h
have_onto (w ∷ ws) us [] xs h k = absurd h

-- what has a shape is in its flow
pub in_flow : (w : Shape) (v : Option Datum) → HasShape w v → HasAt (flow_of w) v
in_flow (Plain f) v h = h
in_flow (Constant f) None h = absurd h
in_flow (Constant f) (Some d) h = h
in_flow (Written f g) None h = absurd h
in_flow (Written f g) (Some d) h =
    cap_covers 3 (Tuple (join f g)) d (pair_is_tuple f g (join f g) (joins 3 f g).0 (joins 3 f g).1 d h)

pub at_by : (f g : Flow) → Covers f g → (v : Option Datum) → HasAt f v → HasAt g v
at_by f g c None h = tt
at_by f g c (Some d) h = c d h

pub below_at : (f g : Flow) → Below f g → (v : Option Datum) → HasAt f v → HasAt g v
below_at f g b v h = at_by f g (below_covers f g b) v h

pub below_shape : (w : Shape) (g : Flow) → Below (flow_of w) g → (v : Option Datum) → HasShape w v → HasAt g v
below_shape w g b v h = below_at (flow_of w) g b v (in_flow w v h)

-- ---- outcomes

pub adds : (w : Shape) (n : ℕ) (o : Outcome) → OutcomeShape w o → OutcomeShape w (adding n o)
adds w n (Gives v m) h = h
adds w n (Fails f) h = h
adds w n Overspends h = h

pub goes_then : (a b : Shape) (o : Outcome) (left : ℕ) (next : Option Datum → ℕ → Outcome) → OutcomeShape a o → ((v : Option Datum) (n : ℕ) → HasShape a v → OutcomeShape b (next v n)) → OutcomeShape b (then_with o left next)
goes_then a b (Gives v n) left next h k = adds b n (next v (left - n)) (k v (left - n) h)
goes_then a b (Fails f) left next h k = tt
goes_then a b Overspends left next h k = tt

pub outcome_by : (a b : Shape) → Passes a b → (o : Outcome) → OutcomeShape a o → OutcomeShape b o
outcome_by a b f (Gives v n) h = f v h
outcome_by a b f (Fails e) h = tt
outcome_by a b f Overspends h = tt
