-- How an update ends.
use Rattle.std.proofs.Common.{◌≡◌, ◌∙◌, ℕ, suc, ◌-◌, List, [], length, Option, Some, None, Ok, refl, sym, ap, subst}
use Rattle.setl_value.specs.Datum.{Datum}
use Rattle.setl_modes.specs.Modes.{Mode}
use Rattle.setl_model.specs.Entered.{Base}
use Rattle.setl_operators_table.specs.declared.OpFault.{OpFault}
use Rattle.setl_operators_table.specs.declared.OpFault.TheVariants as fault
use Rattle.setl_store.specs.Gained.{with_places}
use Rattle.setl_model_runs.specs.Variable.{Variable, Global, Own, Bound}
use Rattle.setl_code.specs.declared.code.Slot.{Slot}
use Rattle.setl_code.specs.MayRun.{HasSlot}
use Rattle.setl_code.specs.Plain.{plain_slot}
use Rattle.setl_code.specs.CodeCore.{Held, There, CodeCore, write}
use Rattle.setl_store.specs.Standing.{Standing, at_place, variables}
use Rattle.setl_machine_control.specs.Control.{ControlState}
use Rattle.setl_machine_control.specs.Declaring.{Modes, IsDeclared}
use Rattle.setl_machine_control.specs.Settling.{StoresWhole, EndsUpdate}
use Rattle.setl_machine_control.specs.declared.declaration.Declaration.{Declaration}
use Rattle.setl_machine_control.specs.declared.end.End.{End}
use Rattle.setl_machine_control.specs.declared.end.End.TheVariants.{Done, Stopped, Spent, Paused, ReadFault, WriteFault, NoMemory, Stuck}
use Rattle.setl_machine_control.specs.Gaining.{gained_by, BasesAre}
use Rattle.setl_machine_control.specs.Working.{EndsBy}

abbrev pub Has : Standing → Slot → Type 0
Has s x = HasSlot (length s.core.globals) (length s.core.now.own) x

placed : (x : Variable) (h : Held) (at : ℕ) (k : CodeCore) → write x h (at_place at k) ≡ at_place at (write x h k)
placed (Global name) h at k = refl
placed (Own body name) h at k = refl
placed (Bound former name) h at k = refl

-- the code goes on with the turns that are left, and the whole is stored
pub ends_stored : (modes : Modes) (old mid new : Standing) (from to : ControlState) (line left charged : ℕ) (slot : Slot) (v : Option Datum) (kept : Option (Option Datum)) (e : End) → mid ≡ record old { core = at_place (suc old.core.now.at) old.core } → to ≡ record from { turns = from.turns - charged } → charged ≡ from.turns - left →
    StoresWhole modes line (plain_slot (variables mid.core) slot) v kept mid new e → EndsUpdate modes (Ok left) line (plain_slot (variables old.core) slot) v kept old from new to e
ends_stored modes old mid new from to line left charged slot v kept e m t c s =
    let there : StoresWhole modes line (plain_slot (variables old.core) slot) v kept (record old { core = at_place (suc old.core.now.at) old.core }) new e = subst (λ (d : Standing). StoresWhole modes line (plain_slot (variables d.core) slot) v kept d new e) m s in (
      there.0,
      there.1,
      there.2 ∙ ap (λ k. record old { core = k }) (placed (plain_slot (variables old.core) slot) (There there.0) (suc old.core.now.at) old.core),
      t ∙ ap (λ n. record from { turns = from.turns - n }) c,
    )

pub declared_moved : (modes : Modes) (old mid : Standing) (x : Slot) (d : Option Declaration) → mid ≡ record old { core = at_place (suc old.core.now.at) old.core } → IsDeclared modes (plain_slot (variables old.core) x) d → IsDeclared modes (plain_slot (variables mid.core) x) d
declared_moved modes old mid x d m is = subst (λ (t : Standing). IsDeclared modes (plain_slot (variables t.core) x) d) (sym m) is

pub slot_moved : (old mid : Standing) (x : Slot) → mid ≡ record old { core = at_place (suc old.core.now.at) old.core } → Has old x → Has mid x
slot_moved old mid x m h = subst (λ (t : Standing). Has t x) (sym m) h

-- ---- the bases

-- where the code doesn't go on they are as before
pub as_before : (to old new : List Base) (e : End) → (e ≡ Paused → ⊥) → new ≡ old → BasesAre to old new e
as_before to old new Paused stays_not same = absurd (stays_not refl)
as_before to old new Done stays_not same = same
as_before to old new (Stopped why line) stays_not same = same
as_before to old new Spent stays_not same = same
as_before to old new ReadFault stays_not same = same
as_before to old new WriteFault stays_not same = same
as_before to old new NoMemory stays_not same = same
as_before to old new Stuck stays_not same = same

-- a fault of an operator doesn't go on
pub ends_by_fault : (f : OpFault) (line : ℕ) (to old new : List Base) (e : End) → EndsBy f line e → new ≡ old → BasesAre to old new e
ends_by_fault fault.Kind line to old new e h same = rw h same
ends_by_fault fault.Om line to old new e h same = rw h same
ends_by_fault fault.Wide line to old new e h same = rw h same
ends_by_fault fault.Zero line to old new e h same = rw h same
ends_by_fault fault.Range line to old new e h same = rw h same
ends_by_fault fault.Deep line to old new e h same = rw h same
ends_by_fault fault.Spent line to old new e h same = rw h same
ends_by_fault fault.NoMemory line to old new e h same = absurd h

-- where none is told none gains anything
pub none_gain : (m : Option Mode) (v : Option Datum) (bs : List Base) → bs ≡ [] → bs ≡ gained_by m v bs
none_gain None v bs none = refl
none_gain (Some m) None bs none = refl
none_gain (Some m) (Some d) bs none = none ∙ sym (ap (with_places 0 m d) none)
