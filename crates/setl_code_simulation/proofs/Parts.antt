-- Parts of steps that the code and the meaning make alike.
use Rattle.std.proofs.Common.{◌≡◌, ℕ, suc, ◌-◌, true, false, List, [], ◌∷◌, reverse, Option, Some, None, refl, ap, ◌∙◌, subst}
use mathlib.Core.List.{reverse_aux}
use Rattle.setl_value.specs.Datum.{Datum, bool}
use Rattle.setl_operators_table.specs.Outcome.{Outcome, Gives, Fails, Overspends}
use Rattle.setl_model_runs.specs.Variable.{Variable, Global, Own, Bound}
use Rattle.setl_model_runs.specs.Turns.{left_after}
use Rattle.setl_model_runs.specs.Run.{Move}
use Rattle.setl_program.specs.Program.{Procedure}
use Rattle.setl_model.specs.World.{World, branch}
use Rattle.setl_model.specs.World as world
use Rattle.setl_model.specs.Core.{Shared, Hand, Frame, Snapshot, Core, read_variable, write_variable}
use Rattle.setl_model.specs.Moves.{holding, store_or_bind}
use Rattle.setl_code.specs.Code.{Code}
use Rattle.setl_code.specs.CodeCore.{There, Cells, Operand, popped, Pops, pop_before, Copy, CodeCore, held, write}
use Rattle.setl_code.specs.CodeCore.{holding as code_holding}
use Rattle.setl_code.specs.Machine.{store_in}
use Rattle.setl_code_simulation.specs.Follow.{Related, moves, halts}
use Rattle.setl_code_simulation.proofs.Environments.{alike_written}
use Rattle.setl_code_simulation.specs.Matches.{Where, Holds, none, more, Copies, Placed, Matches}
use Rattle.setl_code_simulation.specs.States.{Alike}

abbrev pub code_core : Cells → Cells → World → Where → ℕ → List Operand → List Copy → CodeCore
code_core g o u p at xs ks =
    record { globals = g; now = record { body = p.body; at = at; own = o; operands = xs }; callers = p.callers; kept = ks; world = u }

abbrev pub core : Shared → Hand → List Frame → List Snapshot → Core
core s hand w ss = record { shared = s; hand = hand; work = w; kept = ss }

-- ---- operands

holds_popped : {n : ℕ} {os xs : List Operand} {vs : List (Option Datum)} → Holds n os vs xs → (acc : List (Option Datum)) → popped n acc os ≡ Pops (reverse_aux vs acc) xs
holds_popped none acc = refl
holds_popped (more {n = n} {v = v} {os = os} h later) acc =
    ap (λ x. pop_before x (λ u. popped n (u ∷ acc) os)) h ∙ holds_popped later (v ∷ acc)

pub all_popped : {n : ℕ} {os xs : List Operand} {vs : List (Option Datum)} → Holds n os vs xs → popped n [] os ≡ Pops (reverse vs) xs
all_popped h = holds_popped h []

-- ---- variables

pub held_read : (g o : Cells) (s : Shared) (p : Where) (at : ℕ) (xs : List Operand) (ks : List Copy) → Alike g s.globals → Alike o s.own → (x : Variable) → held x (code_core g o s.world p at xs ks) ≡ There (read_variable x s)
held_read g o s p at xs ks globals own (Global name) = globals (Global name)
held_read g o s p at xs ks globals own (Own body name) = own (Own body name)
held_read g o s p at xs ks globals own (Bound former name) = own (Bound former name)

-- values that are alike on both sides
pub record Same (c : Code) (ps : List Procedure) (g o : Cells) (s : Shared) (ks : List Copy) (ss : List Snapshot) : Type 0 where
  pub globals : Alike g s.globals
  pub own : Alike o s.own
  pub kept : Copies c ps ks ss

-- ---- outcomes, turns and tests

module _ (c : Code) (ps : List Procedure) where
  abbrev pub matched : {g o : Cells} {s : Shared} {p : Where} {at : ℕ} {xs : List Operand} {ks : List Copy} {hand : Hand} {w : List Frame} {ss : List Snapshot} → Same c ps g o s ks ss → Placed c ps p at xs hand w → Matches c ps (code_core g o s.world p at xs ks) (core s hand w ss)
  matched h place = record { world = refl; globals = h.globals; own = h.own; kept = h.kept; place = place }

  -- the same in another world
  abbrev pub matched_in : {g o : Cells} {s : Shared} {p : Where} {at : ℕ} {xs : List Operand} {ks : List Copy} {hand : Hand} {w : List Frame} {ss : List Snapshot} (u : World) → Same c ps g o s ks ss → Placed c ps p at xs hand w → Matches c ps (code_core g o u p at xs ks) (core (record s { world = u }) hand w ss)
  matched_in u h place = record { world = refl; globals = h.globals; own = h.own; kept = h.kept; place = place }

  pub outcomes : (x : Outcome) (line : ℕ) (k : CodeCore) (m : Core) (f : Option Datum → CodeCore → Move CodeCore) (h : Option Datum → Core → Move Core) → ((v : Option Datum) (n : ℕ) → Related (Matches c ps) (f v (world.with_left code_holding (k.world.left - n) k)) (h v (world.with_left holding (m.shared.world.left - n) m))) → Related (Matches c ps) (world.with_outcome code_holding x line k f) (world.with_outcome holding x line m h)
  outcomes (Gives v n) line k m f h same = same v n
  outcomes (Fails fault) line k m f h same = halts
  outcomes Overspends line k m f h same = halts

  with_turn : (t : Option ℕ) (k : CodeCore) (m : Core) (f : CodeCore → Move CodeCore) (h : Core → Move Core) → ((n : ℕ) → Related (Matches c ps) (f (world.with_left code_holding n k)) (h (world.with_left holding n m))) → Related (Matches c ps) (world.go_with code_holding t k f) (world.go_with holding t m h)
  with_turn (Some n) k m f h same = same n
  with_turn None k m f h same = halts

  pub turns : (k : CodeCore) (m : Core) → k.world ≡ m.shared.world → (f : CodeCore → Move CodeCore) (h : Core → Move Core) → ((n : ℕ) → Related (Matches c ps) (f (world.with_left code_holding n k)) (h (world.with_left holding n m))) → Related (Matches c ps) (world.turn code_holding k f) (world.turn holding m h)
  turns k m same f h each =
      subst (λ z. Related (Matches c ps) (world.turn code_holding k f) (world.go_with holding (left_after 1 z.left) m h)) same
      (with_turn (left_after 1 k.world.left) k m f h each)

  pub tests : (v : Option Datum) (line : ℕ) (a b : Move CodeCore) (x y : Move Core) → Related (Matches c ps) a x → Related (Matches c ps) b y → Related (Matches c ps) (branch v line a b) (branch v line x y)
  tests (Some (bool true)) line a b x y r s = r
  tests (Some (bool false)) line a b x y r s = s
  tests None line a b x y r s = halts
  tests (Some d) line a b x y r s = halts

  -- ---- stores

  -- a store on both sides keeps the relation
  pub writes : (x : Variable) (v : Option Datum) (k : CodeCore) (m : Core) → Matches c ps k m → Matches c ps (write x (There v) k) (record m { shared = write_variable x v m.shared })
  writes (Global name) v k m h =
      record { world = h.world; globals = alike_written k.globals m.shared.globals (Global name) v h.globals; own = h.own; kept = h.kept; place = h.place }
  writes (Own body name) v k m h =
      record { world = h.world; globals = h.globals; own = alike_written k.now.own m.shared.own (Own body name) v h.own; kept = h.kept; place = h.place }
  writes (Bound former name) v k m h =
      record { world = h.world; globals = h.globals; own = alike_written k.now.own m.shared.own (Bound former name) v h.own; kept = h.kept; place = h.place }

  -- a value is stored, or a former's name is bound
  pub stored : (x : Variable) (line : ℕ) (v : Option Datum) {g o : Cells} {s : Shared} {p : Where} (at : ℕ) (ys xs : List Operand) {ks : List Copy} {ss : List Snapshot} (h : Hand) (u : List Frame) {hand : Hand} {w : List Frame} → Same c ps g o s ks ss → Placed c ps p (suc at) xs hand w → Related (Matches c ps) (store_in x line v xs (code_core g o s.world p at ys ks)) (store_or_bind line x v hand w (core s h u ss))
  stored (Global name) line v at ys xs h u same place = moves (matched same place)
  stored (Own body name) line v at ys xs h u same place = moves (matched same place)
  stored (Bound former name) line v {o = o} {s = s} at ys xs h u same place =
      moves (record { world = refl; globals = same.globals; own = alike_written o s.own (Bound former name) v same.own; kept = same.kept; place = place })
