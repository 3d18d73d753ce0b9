-- A store and an update leave the same body at work.
use Rattle.std.proofs.Common.{◌≡◌, ◌∙◌, ℕ, true, false, List, [], ◌∷◌, length, Option, refl, sym, ap}
use Rattle.std.specs.Prelude.{Bool}
use Rattle.setl_value.specs.Datum.{Datum}
use Rattle.setl_operators_table.specs.Outcome.{Outcome}
use Rattle.setl_model_runs.specs.Events.{End}
use Rattle.setl_model_runs.specs.Run.{Store, State, Next, Goes, Ends, Move, Moves, Halts, if_fits, store_all, stored, settle}
use Rattle.setl_model_runs.specs.Variable.{Variable, Global, Own, Bound}
use Rattle.setl_model.specs.Core.{Selected}
use Rattle.setl_model.specs.Places.{Taken, TakesOut, IsEmpty, CannotTake, part_at_all, take_out}
use Rattle.setl_code.specs.Code.{Bracket, Alteration, Putting, Combining, TakingOut, Code, StoreIn, Alter}
use Rattle.setl_code.specs.CodeCore.{Held, There, Operand, Result, popped, CodeCore, held, write}
use Rattle.setl_code.specs.Machine.{store_in, store_whole, take_from, selected_by, alter, do_instr, machine}
use Rattle.setl_machine_control.specs.Declaring.{Modes, tested}
use Rattle.setl_machine_control.specs.Answers.{start, next_of, Quiet}
use Rattle.setl_machine_control.specs.declared.end.End.TheVariants.{Paused}
use Rattle.setl_machine.proofs.Cases.{by_top, by_popped, by_held, by_outcome}

-- the body of this number is at work then
abbrev StaysIn : ℕ → Move CodeCore → Type 0
StaysIn n (Moves said told to line xs) = to.now.body ≡ n
StaysIn n (Halts e) = Unit {0}

abbrev last_body : Next CodeCore → ℕ
last_body (Goes s) = s.core.now.body
last_body (Ends e s) = s.core.now.body

body_written : (x : Variable) (h : Held) (k : CodeCore) → (write x h k).now.body ≡ k.now.body
body_written (Global name) h k = refl
body_written (Own body name) h k = refl
body_written (Bound former name) h k = refl

fits_stay : (b : Bool) (x : Next CodeCore) (e : End) (s : State CodeCore) → last_body x ≡ s.core.now.body → last_body (if_fits b x e s) ≡ s.core.now.body
fits_stay true x e s h = h
fits_stay false x e s h = refl

stores_stay : (modes : Modes) (c : Code) (line : ℕ) (xs : List Store) (s : State CodeCore) → last_body (store_all (machine c) (tested modes) line xs s) ≡ s.core.now.body
stores_stay modes c line [] s = refl
stores_stay modes c line (x ∷ xs) s = fits_stay (tested modes x.0 x.1) _ _ s (stores_stay modes c line xs (stored (machine c) line x s) ∙ body_written x.0 (There x.1) s.core)

settled_stays : (modes : Modes) (c : Code) (k : CodeCore) (m : Move CodeCore) → StaysIn k.now.body m → last_body (settle (machine c) (tested modes) (start k) m) ≡ k.now.body
settled_stays modes c k (Moves said told to line xs) h = stores_stay modes c line xs (record { core = to; out = said; events = told }) ∙ h
settled_stays modes c k (Halts e) h = refl

-- ---- what they do

store_stays : (x : Variable) (line : ℕ) (v : Option Datum) (xs : List Operand) (k : CodeCore) → StaysIn k.now.body (store_in x line v xs k)
store_stays (Global name) line v xs k = refl
store_stays (Own body name) line v xs k = refl
store_stays (Bound former name) line v xs k = refl

module _ (k : CodeCore) where
  abbrev Stays : Move CodeCore → Type 0
  Stays m = StaysIn k.now.body m

  whole_stays : (o : Outcome) (line : ℕ) (x : Variable) (xs : List Operand) (n : ℕ) → Stays (store_whole o line x xs (record k { world = record k.world { left = n } }))
  whole_stays o line x xs n = by_outcome Stays (λ e. tt) o line (record k { world = record k.world { left = n } }) (λ v d. store_in x line v xs d) (λ v m. store_stays x line v xs _)

  taken_stays : (t : Taken) (line : ℕ) (x : Variable) (whole : Option Datum) (at : List Selected) (xs : List Operand) (n : ℕ) → Stays (take_from t line x whole at xs (record k { world = record k.world { left = n } }))
  taken_stays (TakesOut small v) line x whole at xs n = whole_stays _ line x (Result v ∷ xs) n
  taken_stays IsEmpty line x whole at xs n = refl
  taken_stays (CannotTake fault) line x whole at xs n = tt

  alter_stays : (a : Alteration) (line : ℕ) (x : Variable) (whole : Option Datum) (at : List Selected) (xs : List Operand) → Stays (alter a line x whole at xs k)
  alter_stays Putting line x whole at xs = by_top Stays (λ e. tt) xs _ (λ v rest. whole_stays _ line x rest k.world.left)
  alter_stays (Combining o) line x whole at xs = by_top Stays (λ e. tt) xs _ (λ v rest. whole_stays _ line x rest k.world.left)
  alter_stays (TakingOut t) line x whole at xs =
      by_outcome Stays (λ e. tt) (part_at_all at whole k.world.left) line k (λ part d. take_from (take_out t part) line x whole at xs d) (λ part n. taken_stays (take_out t part) line x whole at xs n)

went_on : (modes : Modes) (x : Next CodeCore) (to : CodeCore) (n : ℕ) → last_body x ≡ n → Quiet modes x to Paused → to.now.body ≡ n
went_on modes (Goes s) to n h q = sym (ap (λ (k : CodeCore). k.now.body) q.0) ∙ h
went_on modes (Ends e s) to n h q = absurd q.0

pub after_store : (modes : Modes) (c : Code) (line : ℕ) (x : Variable) (k to : CodeCore) → Quiet modes (next_of modes c line (StoreIn x) k) to Paused → to.now.body ≡ k.now.body
after_store modes c line x k to q =
    went_on modes (next_of modes c line (StoreIn x) k) to k.now.body (settled_stays modes c k (do_instr c line (StoreIn x) k) (by_top (StaysIn k.now.body) (λ e. tt) k.now.operands _ (λ v xs. store_stays x line v xs k))) q

pub after_alter : (modes : Modes) (c : Code) (line : ℕ) (a : Alteration) (x : Variable) (bs : List Bracket) (k to : CodeCore) → Quiet modes (next_of modes c line (Alter a x bs) k) to Paused → to.now.body ≡ k.now.body
after_alter modes c line a x bs k to q =
    went_on modes (next_of modes c line (Alter a x bs) k) to k.now.body
    (settled_stays modes c k (do_instr c line (Alter a x bs) k) (by_popped (StaysIn k.now.body) (λ e. tt) (popped (length bs) [] k.now.operands) _ (λ vs xs. by_held (StaysIn k.now.body) (λ e. tt) (held x k) _ (λ whole. alter_stays k a line x whole (selected_by bs vs) xs))))
    q
