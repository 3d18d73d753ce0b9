-- What stores make of the bases.
use Rattle.std.proofs.Common.{◌≡◌, ◌∙◌, ℕ, suc, Bool, true, false, List, [], Option, Some, None, Ok, Err, refl, sym, ap, subst}
use Rattle.std.specs.Prelude.{cond, Result, IfOk}
use Rattle.setl_value.specs.Datum.{Datum}
use Rattle.setl_operators_table.specs.declared.OpFault.{OpFault}
use Rattle.setl_modes.specs.Modes.{Mode}
use Rattle.setl_model.specs.Entered.{Base}
use Rattle.setl_model.specs.Step.{declared_mode}
use Rattle.setl_model_runs.specs.Variable.{Variable, Global, Own, Bound}
use Rattle.setl_model_runs.specs.VariableLaws.{variable_itself}
use Rattle.setl_code.specs.CellLaws.{held_after}
use Rattle.setl_code.specs.CodeCore.{Held, There, Operand, CodeCore, held, held_in, write}
use Rattle.setl_code.specs.declared.code.Slot.{Slot}
use Rattle.setl_code.specs.Plain.{plain_slot}
use Rattle.setl_code_events.specs.Told.{value_held}
use Rattle.setl_store.specs.Gained.{with_places}
use Rattle.setl_store.specs.Standing.{Standing, over, at_place, variables}
use Rattle.setl_machine_control.specs.Control.{ControlState}
use Rattle.setl_machine_control.specs.Declaring.{Modes, mode_by, IsDeclared}
use Rattle.setl_machine_control.specs.Gaining.{gained_by, BasesAre}
use Rattle.setl_machine_control.specs.Settling.{EndsUpdate}
use Rattle.setl_machine_control.specs.declared.declaration.Declaration.{Declaration}
use Rattle.setl_machine_control.specs.declared.end.End.{End}
use Rattle.setl_machine_control.specs.declared.end.End.TheVariants as end
use Rattle.setl_machine_variables.specs.Gaining.{after_store, GainsIf}
use Rattle.setl_machine_variables.proofs.Altered.{InHand, same_variables, declared_in_hand}
use Rattle.setl_machine_variables.proofs.Parts.{mode_is}
use Rattle.setl_machine_variables.proofs.Taking.{no_pause}

-- what is written is held
held_written : (x : Variable) (h : Held) (k : CodeCore) → held x (write x h k) ≡ h
held_written (Global name) h k = held_after k.globals (Global name) h (Global name) ∙ ap (λ b. cond b h (held_in k.globals (Global name))) (variable_itself (Global name))
held_written (Own body name) h k = held_after k.now.own (Own body name) h (Own body name) ∙ ap (λ b. cond b h (held_in k.now.own (Own body name))) (variable_itself (Own body name))
held_written (Bound former name) h k = held_after k.now.own (Bound former name) h (Bound former name) ∙ ap (λ b. cond b h (held_in k.now.own (Bound former name))) (variable_itself (Bound former name))

held_at : (x : Variable) (n : ℕ) (k : CodeCore) → held x (at_place n k) ≡ held x k
held_at (Global name) n k = refl
held_at (Own body name) n k = refl
held_at (Bound former name) n k = refl

-- a store into a variable of this mode
pub stored_by : (modes : Modes) (x : Variable) (m : Option Mode) (old new : Standing) (v : Option Datum) (k : CodeCore) (n : ℕ) → declared_mode modes x ≡ m → new.core ≡ at_place n (write x (There v) k) → new.bases ≡ gained_by m v old.bases → new.bases ≡ after_store modes x old new
stored_by modes x m old new v k n declared core gain =
    let is : value_held (held x new.core) ≡ v = ap (λ c. value_held (held x c)) core ∙ ap value_held (held_at x n (write x (There v) k) ∙ held_written x (There v) k) in
    gain ∙ (λ i. gained_by (sym declared i) (sym is i) old.bases)

pub stored_gains : (modes : Modes) (x : Variable) (d : Option Declaration) (old new : Standing) (v : Option Datum) (k : CodeCore) (n : ℕ) → IsDeclared modes x d → new.core ≡ at_place n (write x (There v) k) → new.bases ≡ gained_by (mode_by d) v old.bases → new.bases ≡ after_store modes x old new
stored_gains modes x d old new v k n declared core gain = stored_by modes x (mode_by d) old new v k n (mode_is modes x d declared) core gain

-- the end of an update
update_gains : (modes : Modes) (x : Variable) (d : Option Declaration) (old gone new : Standing) (from to : ControlState) (line : ℕ) (r : Result ℕ OpFault) (v : Option Datum) (kept : Option (Option Datum)) (stored : Bool) (e : End) →
    IsDeclared modes x d → gone.bases ≡ old.bases → EndsUpdate modes r line x v kept gone from new to e → BasesAre (cond stored (gained_by (mode_by d) v gone.bases) gone.bases) gone.bases new.bases e → GainsIf stored modes x old new e
update_gains modes x d old gone new from to line (Ok left) v kept true end.Paused declared same u b =
    stored_gains modes x d old new v gone.core (suc gone.core.now.at) declared
    (ap (λ (s : Standing). s.core) u.2 ∙ ap (λ h. at_place (suc gone.core.now.at) (write x (There h) gone.core)) u.1.0) (b ∙ ap (gained_by (mode_by d) v) same)
update_gains modes x d old gone new from to line (Ok left) v kept false end.Paused declared same u b = b ∙ same
update_gains modes x d old gone new from to line (Err f) v kept stored end.Paused declared same u b = absurd (no_pause f line end.Paused u.0 refl)
update_gains modes x d old gone new from to line r v kept stored end.Done declared same u b = b ∙ same
update_gains modes x d old gone new from to line r v kept stored (end.Stopped why at) declared same u b = b ∙ same
update_gains modes x d old gone new from to line r v kept stored end.Spent declared same u b = b ∙ same
update_gains modes x d old gone new from to line r v kept stored end.ReadFault declared same u b = b ∙ same
update_gains modes x d old gone new from to line r v kept stored end.WriteFault declared same u b = b ∙ same
update_gains modes x d old gone new from to line r v kept stored end.NoMemory declared same u b = b ∙ same
update_gains modes x d old gone new from to line r v kept stored end.Stuck declared same u b = b ∙ same

-- of a variable whose value is in hand
pub hand_gains : (modes : Modes) (old : Standing) (slot : Slot) (xs : List Operand) (w v : Option Datum) (kept : Option (Option Datum)) (gone new : Standing) (from to : ControlState) (line : ℕ) (r : Result ℕ OpFault) (stored : Bool) (e : End) (d : Option Declaration) → InHand old slot xs w gone →
    IsDeclared modes (plain_slot (variables old.core) slot) d → EndsUpdate modes r line (plain_slot (variables gone.core) slot) v kept gone from new to e →
    BasesAre (cond stored (gained_by (mode_by d) v gone.bases) gone.bases) gone.bases new.bases e → GainsIf stored modes (plain_slot (variables old.core) slot) old new e
hand_gains modes old slot xs w v kept gone new from to line r stored e d h declared u b =
    subst (λ vs. GainsIf stored modes (plain_slot vs slot) old new e) (same_variables old slot xs w gone h)
    (update_gains modes (plain_slot (variables gone.core) slot) d old gone new from to line r v kept stored e (declared_in_hand modes old slot xs w gone d h declared) (ap (λ (s : Standing). s.bases) h.is) u b)

-- no base that isn't told gains anything
pub none_gain : (m : Option Mode) (v : Option Datum) (bs : List Base) → bs ≡ [] → gained_by m v bs ≡ bs
none_gain None v bs none = refl
none_gain (Some m) None bs none = refl
none_gain (Some m) (Some d) bs none = ap (with_places 0 m d) none ∙ sym none

-- ---- instructions

pub if_ok_both : {V E : Type 0} (r : Result V E) (P Q R : V → Type 0) → ((v : V) → P v → Q v → R v) → IfOk r P → IfOk r Q → IfOk r R
if_ok_both (Ok v) P Q R f p q = f v p q
if_ok_both (Err e) P Q R f p q = tt

-- a value is popped into a variable
pub put_gains : (modes : Modes) (old mid put new : Standing) (slot : Slot) (d : Option Declaration) (v : Option Datum) (ys : List Operand) → mid ≡ record old { core = over ys old.core } → IsDeclared modes (plain_slot (variables old.core) slot) d →
    put ≡ record mid { core = write (plain_slot (variables mid.core) slot) (There v) mid.core; bases = gained_by (mode_by d) v mid.bases } → new ≡ record put { core = at_place (suc put.core.now.at) put.core } →
    new.bases ≡ after_store modes (plain_slot (variables old.core) slot) old new
put_gains modes old mid put new slot d v ys m declared p n =
    let x = plain_slot (variables old.core) slot in
    let put_is : put ≡ record old { core = write x (There v) (over ys old.core); bases = gained_by (mode_by d) v old.bases } =
    p ∙ ap (λ (s : Standing). record s { core = write (plain_slot (variables s.core) slot) (There v) s.core; bases = gained_by (mode_by d) v s.bases }) m in
    let new_is = n ∙ ap (λ (s : Standing). record s { core = at_place (suc s.core.now.at) s.core }) put_is in
    stored_gains modes x d old new v (over ys old.core) (suc (write x (There v) (over ys old.core)).now.at) declared (ap (λ (s : Standing). s.core) new_is) (ap (λ (s : Standing). s.bases) new_is)

-- where nothing is entered all is as before, whether it is stored or not
pub nothing_entered : (stored : Bool) (to old new : List Base) (e : End) → to ≡ old → new ≡ old → e ≡ end.Paused → BasesAre (cond stored to old) old new e
nothing_entered true to old new e none same is = rw is (same ∙ sym none)
nothing_entered false to old new e none same is = rw is same

-- whether it is stored counts only where the code goes on
pub gains_told : (modes : Modes) (x : Variable) (old new : Standing) (b c : Bool) (e : End) → (e ≡ end.Paused → b ≡ c) → GainsIf b modes x old new e → GainsIf c modes x old new e
gains_told modes x old new b c end.Paused told g = subst (λ s. GainsIf s modes x old new end.Paused) (told refl) g
gains_told modes x old new b c end.Done told g = g
gains_told modes x old new b c (end.Stopped why line) told g = g
gains_told modes x old new b c end.Spent told g = g
gains_told modes x old new b c end.ReadFault told g = g
gains_told modes x old new b c end.WriteFault told g = g
gains_told modes x old new b c end.NoMemory told g = g
gains_told modes x old new b c end.Stuck told g = g
