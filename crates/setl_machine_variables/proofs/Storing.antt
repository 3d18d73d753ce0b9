-- What a store does.
use Rattle.std.proofs.Common.{◌≡◌, ◌∙◌, ℕ, suc, true, false, List, [], Option, Some, refl, sym, ap, subst}
use Rattle.setl_value.specs.Datum.{Datum}
use Rattle.setl_value.specs.code.DatumOf.{part}
use Rattle.setl_value.specs.declared.Value.{Value}
use Rattle.setl_model_runs.specs.Events as run
use Rattle.setl_model_runs.specs.Run.{State, Goes, if_fits, stored, settle}
use Rattle.setl_model_runs.specs.Variable.{Variable, Global, Own, Bound}
use Rattle.setl_code.specs.declared.code.Slot.{Slot}
use Rattle.setl_code.specs.Code.{Code, StoreIn}
use Rattle.setl_code.specs.Plain.{plain_code, plain_slot}
use Rattle.setl_code.specs.CodeCore.{Held, There, Operand, CodeCore, write}
use Rattle.setl_code.specs.Machine.{machine, at_step, store_in}
use Rattle.setl_store.specs.Standing.{Standing, over, at_place, variables}
use Rattle.setl_machine_control.specs.Control.{in_world}
use Rattle.setl_machine_control.specs.Declaring.{Modes, tested, declared_at, Tests}
use Rattle.setl_machine_control.specs.Answers.{start, IsLikely, Quiet}
use Rattle.setl_machine_control.specs.Working.{WorksBy, PopsTop}
use Rattle.setl_machine_control.specs.declared.end.End.TheVariants as end
use Rattle.setl_machine_control.specs.declared.end.StopKind.TheVariants as kind
use Rattle.setl_machine_control.specs.Laws.{top_taken, write_in_world}

pub at_written : (x : Variable) (h : Held) (k : CodeCore) → (write x h k).now.at ≡ k.now.at
at_written (Global name) h k = refl
at_written (Own body name) h k = refl
at_written (Bound former name) h k = refl

-- a value that is taken is stored
stored_if : (modes : Modes) (c : Code) (line : ℕ) (x : Variable) (v : Option Datum) (s : State CodeCore) (to : CodeCore) → tested modes x v ≡ true → s.out ≡ [] → to ≡ write x (There v) s.core →
    Quiet modes (if_fits (tested modes x v) (Goes (stored (machine c) line (x, v) s)) (run.Stopped (run.Unfit x) line) s) to end.Paused
stored_if modes c line x v s to t o e =
    subst (λ b. Quiet modes (if_fits b (Goes (stored (machine c) line (x, v) s)) (run.Stopped (run.Unfit x) line) s) to end.Paused) (sym t) (sym e, o)

-- one that isn't ends the run
refused_if : (modes : Modes) (c : Code) (line : ℕ) (x : Variable) (v : Option Datum) (place : ℕ) (s : State CodeCore) (to : CodeCore) → tested modes x v ≡ false → declared_at modes place ≡ x → s.out ≡ [] → IsLikely s.core to →
    Quiet modes (if_fits (tested modes x v) (Goes (stored (machine c) line (x, v) s)) (run.Stopped (run.Unfit x) line) s) to (end.Stopped (kind.Unfit place) line)
refused_if modes c line x v place s to t d o l =
    subst (λ b. Quiet modes (if_fits b (Goes (stored (machine c) line (x, v) s)) (run.Stopped (run.Unfit x) line) s) to (end.Stopped (kind.Unfit place) line)) (sym t)
    ((ap (λ y. run.Stopped (run.Unfit y) line) (sym d), l), o)

-- the state before the store
abbrev at_store : List Operand → CodeCore → State CodeCore
at_store xs d = start (at_step (suc d.now.at) xs d)

-- the new whole is stored, and so many turns are left
pub goes_stored : (modes : Modes) (c : Code) (line : ℕ) (x : Variable) (v : Option Datum) (xs : List Operand) (k d to : CodeCore) → tested modes x v ≡ true → to ≡ at_place (suc d.now.at) (write x (There v) (over xs d)) →
    Quiet modes (settle (machine c) (tested modes) (start k) (store_in x line v xs d)) to end.Paused
goes_stored modes c line (Global name) v xs k d to t e = stored_if modes c line (Global name) v (at_store xs d) to t refl e
goes_stored modes c line (Own body name) v xs k d to t e = stored_if modes c line (Own body name) v (at_store xs d) to t refl e
goes_stored modes c line (Bound former name) v xs k d to t e = (sym e, refl)

-- or it is refused
pub stops_unfit : (modes : Modes) (c : Code) (line : ℕ) (x : Variable) (v : Option Datum) (place : ℕ) (xs : List Operand) (k d to : CodeCore) → Tests modes x v (Some place) → IsLikely (at_step (suc d.now.at) xs d) to →
    Quiet modes (settle (machine c) (tested modes) (start k) (store_in x line v xs d)) to (end.Stopped (kind.Unfit place) line)
stops_unfit modes c line (Global name) v place xs k d to t l = refused_if modes c line (Global name) v place (at_store xs d) to t.0 t.1 refl l
stops_unfit modes c line (Own body name) v place xs k d to t l = refused_if modes c line (Own body name) v place (at_store xs d) to t.0 t.1 refl l
stops_unfit modes c line (Bound former name) v place xs k d to t l = absurd t.2

-- ---- the whole instruction

-- a value is stored where some operands are left
pub stored_is : (old mid put new : Standing) (slot : Slot) (v : Option Datum) (ys : List Operand) → mid ≡ record old { core = over ys old.core } → put ≡ record mid { core = write (plain_slot (variables mid.core) slot) (There v) mid.core } →
    new ≡ record put { core = at_place (suc put.core.now.at) put.core } → new ≡ record old { core = at_place (suc old.core.now.at) (write (plain_slot (variables old.core) slot) (There v) (over ys old.core)) }
stored_is old mid put new slot v ys m p n =
    let x = plain_slot (variables old.core) slot in
    let put_is : put ≡ record old { core = write x (There v) (over ys old.core) } =
    p ∙ ap (λ (s : Standing). record s { core = write (plain_slot (variables s.core) slot) (There v) s.core }) m in
    n ∙ ap (λ (s : Standing). record s { core = at_place (suc s.core.now.at) s.core }) put_is
    ∙ ap (λ at. record old { core = at_place (suc at) (write x (There v) (over ys old.core)) }) (at_written x (There v) (over ys old.core))

pub store_goes : (modes : Modes) (old mid put new : Standing) (line : ℕ) (slot : Slot) (v : Option Value) → PopsTop old (Some v) mid → tested modes (plain_slot (variables old.core) slot) (part v) ≡ true →
    put ≡ record mid { core = write (plain_slot (variables mid.core) slot) (There (part v)) mid.core } → new ≡ record put { core = at_place (suc put.core.now.at) put.core } → WorksBy modes old line (StoreIn (plain_slot (variables old.core) slot)) new end.Paused
store_goes modes old mid put new line slot v pops t p n =
    let x = plain_slot (variables old.core) slot in
    let ys = mid.core.now.operands in
    let c = plain_code old.code in
    let new_is = stored_is old mid put new slot (part v) ys pops.1 p n in (
      ap (λ s. s.code) new_is,
      λ w.
          let k = in_world w old.core in
          let there : in_world w new.core ≡ at_place (suc k.now.at) (write x (There (part v)) (over ys k)) =
          ap (λ (s : Standing). in_world w s.core) new_is ∙ ap (at_place (suc k.now.at)) (sym (write_in_world x (There (part v)) w (over ys old.core))) in
          subst (λ m. Quiet modes (settle (machine c) (tested modes) (start k) m) (in_world w new.core) end.Paused) (sym (top_taken old.core.now.operands ys (part v) (λ v xs. store_in x line v xs k) pops.0))
          (goes_stored modes c line x (part v) ys k k (in_world w new.core) t there),
    )

pub store_stops : (modes : Modes) (old mid new : Standing) (line place : ℕ) (slot : Slot) (v : Option Value) → PopsTop old (Some v) mid → Tests modes (plain_slot (variables old.core) slot) (part v) (Some place) →
    new ≡ record mid { core = at_place (suc mid.core.now.at) mid.core } → WorksBy modes old line (StoreIn (plain_slot (variables old.core) slot)) new (end.Stopped (kind.Unfit place) line)
store_stops modes old mid new line place slot v pops t n =
    let x = plain_slot (variables old.core) slot in
    let ys = mid.core.now.operands in
    let c = plain_code old.code in
    let new_is : new ≡ record old { core = at_place (suc old.core.now.at) (over ys old.core) } = n ∙ ap (λ (s : Standing). record s { core = at_place (suc s.core.now.at) s.core }) pops.1 in (
      ap (λ s. s.code) new_is,
      λ w.
          let k = in_world w old.core in
          let likely : IsLikely (at_step (suc k.now.at) ys k) (in_world w new.core) = subst (λ (s : Standing). IsLikely (at_step (suc k.now.at) ys k) (in_world w s.core)) (sym new_is) ([], refl) in
          subst (λ m. Quiet modes (settle (machine c) (tested modes) (start k) m) (in_world w new.core) (end.Stopped (kind.Unfit place) line)) (sym (top_taken old.core.now.operands ys (part v) (λ v xs. store_in x line v xs k) pops.0))
          (stops_unfit modes c line x (part v) place ys k k (in_world w new.core) t likely),
    )
