use Rattle.std.proofs.Common.{◌≡◌, ◌∙◌, Some, None, [], ◌∷◌, map, length, ap}
use Rattle.setl_value.specs.code.DatumOf.{part}
use Rattle.setl_code.specs.declared.code.Bracket.TheVariants as bracket
use Rattle.setl_code.specs.CodeCore.{popped, Pops, Lacks}
use Rattle.setl_code.specs.Plain.{plain_alteration, plain_slot}
use Rattle.setl_store.specs.Standing.{variables}
use Rattle.setl_machine_updates.specs.Selectors.{selected}
use Rattle.setl_machine_control.specs.Declaring.{modes_of}
use Rattle.setl_machine_control.specs.Working.{PopsTop}
use Rattle.setl_machine_variables.proofs.Popping.{ArePopped, none_popped, one_popped, one_lacks, lacking_stuck, stuck_gains, did_popped, stored_popped, gained_popped}
use Rattle.setl_machine_variables.proofs.altering.alter.Goals as goal

-- ---- no selector

none : (c : goal.After-alter_at) → ArePopped c.args.brackets.now c.args.store.now c.args.store.now []
none c = none_popped c.args.brackets.now c.args.store.now c.in-0.is

pub returns-in-0-clause-did : goal.returns-in-0-clause-did
returns-in-0-clause-did c =
    let old = c.args.store.now in
    did_popped (modes_of c.args.declarations.now) old old c.alter_at.new.store c.args.control.now c.alter_at.new.control c.args.line (plain_alteration c.args.what) c.args.slot c.of_slot.result c.args.brackets.now [] c.alter_at.result (none c) c.of_slot.ensures c.requires.serves.fitting c.alter_at.ensures.did

pub returns-in-0-clause-stored : goal.returns-in-0-clause-stored
returns-in-0-clause-stored c =
    let old = c.args.store.now in
    stored_popped (modes_of c.args.declarations.now) old old c.args.control.now.turns (plain_alteration c.args.what) c.args.slot c.of_slot.result c.args.brackets.now [] c.alter_at.result (none c) c.of_slot.ensures c.alter_at.ensures.stored

pub returns-in-0-clause-gained : goal.returns-in-0-clause-gained
returns-in-0-clause-gained c =
    let old = c.args.store.now in
    gained_popped (modes_of c.args.declarations.now) old old c.alter_at.new.store c.args.slot c.of_slot.result c.args.brackets.now [] c.alter_at.result (none c) c.of_slot.ensures c.alter_at.ensures.gained

-- ---- one

one : (c : goal.After-array_drop-at) → ArePopped c.args.brackets.now c.args.store.now c.pop_top.new.store (selected c.selector.result ∷ [])
one c =
    let old = c.args.store.now in
    let mid = c.pop_top.new.store in
    let pops : PopsTop old (Some c.in-Some.value) mid = rw c.in-Some.is at c.in_ok-value-in-1.ensures in
    one_popped c.args.brackets.now old mid c.in-Some.value bracket.Round c.selector.result c.in-1.is pops c.selector.ensures

pub returns-in-Some-clause-did : goal.returns-in-Some-clause-did
returns-in-Some-clause-did c =
    did_popped (modes_of c.args.declarations.now) c.args.store.now c.pop_top.new.store c.alter_at-in-Some.new.store c.args.control.now c.alter_at-in-Some.new.control c.args.line (plain_alteration c.args.what) c.args.slot c.of_slot.result c.args.brackets.now (selected c.selector.result ∷ []) c.alter_at-in-Some.result
    (one c) c.of_slot.ensures c.requires.serves.fitting c.alter_at-in-Some.ensures.did

pub returns-in-Some-clause-stored : goal.returns-in-Some-clause-stored
returns-in-Some-clause-stored c =
    stored_popped (modes_of c.args.declarations.now) c.args.store.now c.pop_top.new.store c.args.control.now.turns (plain_alteration c.args.what) c.args.slot c.of_slot.result c.args.brackets.now (selected c.selector.result ∷ []) c.alter_at-in-Some.result (one c) c.of_slot.ensures c.alter_at-in-Some.ensures.stored

pub returns-in-Some-clause-gained : goal.returns-in-Some-clause-gained
returns-in-Some-clause-gained c =
    gained_popped (modes_of c.args.declarations.now) c.args.store.now c.pop_top.new.store c.alter_at-in-Some.new.store c.args.slot c.of_slot.result c.args.brackets.now (selected c.selector.result ∷ []) c.alter_at-in-Some.result (one c) c.of_slot.ensures c.alter_at-in-Some.ensures.gained

-- its operand is lacking
pub returns-in-None-clause-did : goal.returns-in-None-clause-did
returns-in-None-clause-did c =
    let old = c.args.store.now in
    let mid = c.pop_top.new.store in
    let pops : PopsTop old None mid = rw c.in-None.is at c.in_ok-value-in-1.ensures in
    lacking_stuck (modes_of c.args.declarations.now) old mid c.args.control.now c.args.line (plain_alteration c.args.what) (plain_slot (variables old.core) c.args.slot) c.args.brackets.now c.stuck.result.end (one_lacks c.args.brackets.now old.core.now.operands c.in-1.is pops.0) pops.1 c.stuck.ensures.end

pub returns-in-None-clause-gained : goal.returns-in-None-clause-gained
returns-in-None-clause-gained c =
    let old = c.args.store.now in
    let mid = c.pop_top.new.store in
    let pops : PopsTop old None mid = rw c.in-None.is at c.in_ok-value-in-1.ensures in
    stuck_gains (modes_of c.args.declarations.now) (plain_slot (variables old.core) c.args.slot) old mid c.stuck.result.stored c.stuck.result.end pops.1 c.stuck.ensures.end

-- ---- several

several : (c : goal.After-drop-at) → ArePopped c.args.brackets.now c.args.store.now c.pop_values.new.self (map selected c.as_slice.result.now)
several c =
    let off : popped (length c.args.brackets.now) [] c.args.store.now.core.now.operands ≡ Pops (map part c.in-Some-2.values.items) c.pop_values.new.self.core.now.operands = rw c.in-Some-2.is at c.in_ok-values-in_default.ensures.values in
    record { values = map part c.in-Some-2.values.items; off = off; rest = c.in_ok-values-in_default.ensures.rest; made = ap (map selected) c.as_slice.ensures.value ∙ c.in_ok-at-in-Some-2.ensures }

pub returns-in_ok-at-in-Some-2-clause-did : goal.returns-in_ok-at-in-Some-2-clause-did
returns-in_ok-at-in-Some-2-clause-did c =
    did_popped (modes_of c.args.declarations.now) c.args.store.now c.pop_values.new.self c.alter_at-in-Some-2.new.store c.args.control.now c.alter_at-in-Some-2.new.control c.args.line (plain_alteration c.args.what) c.args.slot c.of_slot.result c.args.brackets.now (map selected c.as_slice.result.now) c.alter_at-in-Some-2.result
    (several c) c.of_slot.ensures c.requires.serves.fitting c.alter_at-in-Some-2.ensures.did

pub returns-in_ok-at-in-Some-2-clause-stored : goal.returns-in_ok-at-in-Some-2-clause-stored
returns-in_ok-at-in-Some-2-clause-stored c =
    stored_popped (modes_of c.args.declarations.now) c.args.store.now c.pop_values.new.self c.args.control.now.turns (plain_alteration c.args.what) c.args.slot c.of_slot.result c.args.brackets.now (map selected c.as_slice.result.now) c.alter_at-in-Some-2.result (several c) c.of_slot.ensures c.alter_at-in-Some-2.ensures.stored

pub returns-in_ok-at-in-Some-2-clause-gained : goal.returns-in_ok-at-in-Some-2-clause-gained
returns-in_ok-at-in-Some-2-clause-gained c =
    gained_popped (modes_of c.args.declarations.now) c.args.store.now c.pop_values.new.self c.alter_at-in-Some-2.new.store c.args.slot c.of_slot.result c.args.brackets.now (map selected c.as_slice.result.now) c.alter_at-in-Some-2.result (several c) c.of_slot.ensures c.alter_at-in-Some-2.ensures.gained

-- an operand is lacking
pub returns-in-None-2-clause-did : goal.returns-in-None-2-clause-did
returns-in-None-2-clause-did c =
    let old = c.args.store.now in
    let mid = c.pop_values.new.self in
    let lacks : popped (length c.args.brackets.now) [] old.core.now.operands ≡ Lacks = rw c.in-None-2.is at c.in_ok-values-in_default.ensures.values in
    let same : mid ≡ old = rw c.in-None-2.is at c.in_ok-values-in_default.ensures.few in
    lacking_stuck (modes_of c.args.declarations.now) old mid c.args.control.now c.args.line (plain_alteration c.args.what) (plain_slot (variables old.core) c.args.slot) c.args.brackets.now c.stuck-in-None-2.result.end lacks same c.stuck-in-None-2.ensures.end

pub returns-in-None-2-clause-gained : goal.returns-in-None-2-clause-gained
returns-in-None-2-clause-gained c =
    let old = c.args.store.now in
    let mid = c.pop_values.new.self in
    let same : mid ≡ old = rw c.in-None-2.is at c.in_ok-values-in_default.ensures.few in
    stuck_gains (modes_of c.args.declarations.now) (plain_slot (variables old.core) c.args.slot) old mid c.stuck-in-None-2.result.stored c.stuck-in-None-2.result.end same c.stuck-in-None-2.ensures.end
